-- Isolation for the steps of checked-out sessions: other tenants' steps change nothing, and a tenant's own steps are equal in both runs.
use Rattle.std.proofs.Common.{◌≡◌, ℕ, ◌+◌, Bool, true, false, not, [], length, Option, Some, None, Result, Ok, Err, refl, sym, ap, ◌∙◌, subst, arith, ⊎_elim}
use Rattle.std.specs.Prelude.{◌==◌, ◌&&◌, nat_eq, nat_le}
use Rattle.std.specs.Option.{option_map_or, option_eq}
use Rattle.std.specs.List.{sum_by}
use Rattle.std.specs.FinMap.{contains_key, get, insert, len, remove}
use Rattle.std.proofs.lemmas.Bool.{and_parts, eqb-true, leb-true, not-false}
use Rattle.blob_digest.specs.declared.range.ByteRange.{ByteRange}
use Rattle.blob_digest.specs.declared.refusal.Refusal.{Refusal}
use Rattle.blob_digest.specs.declared.refusal.Refusal.TheVariants.{DigestInvalid, StoreFull}
use Rattle.blob_digest.proofs.KeyOrders.{number_cmp_total, exact_number, link_cmp_total, exact_link}
use Rattle.spec_lib.specs.Outcomes.{◌>>=◌, refuse}
use Rattle.spec_lib.specs.Texts.{Text}
use Rattle.spec_lib.proofs.Agreement.{agree_insert, agree_remove, unseen_insert, unseen_remove}
use Rattle.spec_lib.proofs.Maps.{got-insert, got-remove}
use Rattle.spec_lib.proofs.Outcomes.{not_refused}
use Rattle.store_model.specs.Catalog.{Catalog, Chunks, CheckedIn, CheckedOutWith, SessionNumber, Session, HandRecord, is_repo_of, received_length, tenant_of}
use Rattle.store_model.specs.Commands.{Outcome, OutcomeIn, after_cancel, chunk_length_check, finish, has_slot, is_digest_accepted, is_full_for, put_back, fits_stored, with_stored_blob, take, check_quota, check_share, is_named}
use Rattle.store_model.specs.HistoryIsolation.{with_slot}
use Rattle.store_model.specs.Noninterference.{uploaded_pair}
use Rattle.store_model.specs.Sessions.{Sessions, at_home, with_old_chunks, chunks_of, after_take_in, session_of_hand, hand_content, with_chunks}
use Rattle.store_model.proofs.Commands.Hands.{taken_found}
use Rattle.store_model.proofs.Noninterference.Consistency as consistency
use Rattle.store_model.proofs.Noninterference.LocalRespect.{Leaves, alike_itself, apart, of_tenant, past}
use Rattle.store_model.proofs.Noninterference.SameFor.{Alike, Consistent, check_same, session_found, share_check_same, visible, with_links, with_sessions}
use Rattle.store_model.proofs.Noninterference.StepConsistency.{Fits, Matches, agree_changed, fits_named, names_alone, quota_alike, same_check, with_tenant}

-- ---- the catalog after each step

-- the result of a check-in, by its session
abbrev home_with : Sessions → HandRecord → Session → OutcomeIn Sessions ℕ
home_with m h s = Ok (sum_by length (chunks_of h), with_chunks m h.key s (CheckedIn (chunks_of h)))

abbrev returned : Catalog → HandRecord → Result Session Refusal → Outcome ℕ
returned C h x = (x >>= home_with C.sessions h) >>= λ back. Ok (back.0, record C { sessions = back.1 })

module _ (P : Catalog → Type 0) (C : Catalog) where
  -- the session under a key, if there is one, has other chunks
  pub changed_leaves : P C → (k : SessionNumber) (f : Session → Chunks) → ((s : Session) → get C.sessions k ≡ Some s → P (record C { sessions = with_chunks C.sessions k s (f s) })) →
      P (record C { sessions = option_map_or (λ s. with_chunks C.sessions k s (f s)) (get C.sessions k) C.sessions })
  changed_leaves same k f new = at (get C.sessions k) refl
    where
      at : (o : Option Session) → get C.sessions k ≡ o → P (record C { sessions = option_map_or (λ s. with_chunks C.sessions k s (f s)) o C.sessions })
      at None found = same
      at (Some s) found = new s found

  pub take_leaves : (r : Text) (n : ℕ) (g : Option ByteRange) (len : ℕ) → ((t : ℕ) → tenant_of C.tenants r ≡ Some t → P (record C { sessions = after_take_in C.sessions (t, n) len })) → Leaves P (take C r n g len)
  take_leaves r n g len new = of_tenant P C r _ (λ t k. past P (chunk_length_check C t r n g len) _ (λ _ _. past P (check_quota C t len) _ (λ _ _. new t k)))

  module _ (h : HandRecord) where
    found : (s : Session) → session_of_hand (get C.sessions h.key) h ≡ Ok s → get C.sessions h.key ≡ Some s
    found s is = (taken_found (get C.sessions h.key) h s is).0

    pub put_back_leaves : ((s : Session) → get C.sessions h.key ≡ Some s → P (record C { sessions = with_chunks C.sessions h.key s (CheckedIn (chunks_of h)) })) → Leaves P (put_back C h)
    put_back_leaves new = at (session_of_hand (get C.sessions h.key) h) refl
      where
        at : (x : Result Session Refusal) → session_of_hand (get C.sessions h.key) h ≡ x → Leaves P (returned C h x)
        at (Ok s) is = new s (found s is)
        at (Err e) is = tt

    pub finish_leaves : (d : Text) →
        ((s : Session) → get C.sessions h.key ≡ Some s → is_digest_accepted C d (hand_content h) ≡ true → P (with_stored_blob C h.key.0 s.repo h.key.1 d (hand_content h))) → Leaves P (finish C h d)
    finish_leaves d new =
        past P (session_of_hand (get C.sessions h.key) h) _ (λ s is. past P (refuse (not (is_digest_accepted C d (hand_content h))) DigestInvalid) _ (λ u accepted. past P (check_share C h.key.0 d) _ (λ _ _. past P (has_slot C d) _ (λ _ _.
        new s (found s is) (not-false (is_digest_accepted C d (hand_content h)) (not_refused _ _ _ accepted))))))

    pub cancel_leaves : P C → ((s : Session) → get C.sessions h.key ≡ Some s → P (record C { sessions = with_chunks C.sessions h.key s (CheckedIn h.chunks) })) → P (after_cancel C h)
    cancel_leaves same new = at (session_of_hand (get C.sessions h.key) h) refl
      where
        at : (x : Result Session Refusal) → session_of_hand (get C.sessions h.key) h ≡ x → P (record C { sessions = with_old_chunks C.sessions h x })
        at (Ok s) is = new s (found s is)
        at (Err e) is = same

-- ---- each session is for a repository of its tenant

abbrev pub Owned : Catalog → Type 0
Owned C = (k : SessionNumber) (s : Session) → get C.sessions k ≡ Some s → tenant_of C.tenants s.repo ≡ Some k.0

module _ (C : Catalog) (owned : Owned C) where
  pub owned_session : (k : SessionNumber) (s : Session) → tenant_of C.tenants s.repo ≡ Some k.0 → Owned (record C { sessions = insert C.sessions k s })
  owned_session k s known q x h =
      ⊎_elim (λ e. subst (λ (y : Session). tenant_of C.tenants y.repo ≡ Some q.0) e.1 (known ∙ ap (λ (y : SessionNumber). Some y.0) (sym e.0))) (owned q x)
      (got-insert number_cmp_total exact_number C.sessions k s q x h)

  pub owned_chunks : (k : SessionNumber) (s : Session) (chunks : Chunks) → get C.sessions k ≡ Some s → Owned (record C { sessions = with_chunks C.sessions k s chunks })
  owned_chunks k s chunks found = owned_session k (record s { chunks = chunks }) (owned k s found)

  pub owned_without : (k : SessionNumber) → Owned (record C { sessions = remove C.sessions k })
  owned_without k q x h = owned q x (got-remove number_cmp_total exact_number C.sessions k q x h)

  pub owned_take : (r : Text) (n : ℕ) (g : Option ByteRange) (len : ℕ) → Leaves Owned (take C r n g len)
  owned_take r n g len = take_leaves Owned C r n g len (λ t _. changed_leaves Owned C owned (t, n) (λ s. CheckedOutWith (received_length s) len) (λ s found. owned_chunks (t, n) s (CheckedOutWith (received_length s) len) found))

  pub owned_put_back : (h : HandRecord) → Leaves Owned (put_back C h)
  owned_put_back h = put_back_leaves Owned C h (λ s found. owned_chunks h.key s (CheckedIn (chunks_of h)) found)

  pub owned_cancel : (h : HandRecord) → Owned (after_cancel C h)
  owned_cancel h = cancel_leaves Owned C h owned (λ s found. owned_chunks h.key s (CheckedIn h.chunks) found)

  pub owned_finish : (h : HandRecord) (d : Text) → Leaves Owned (finish C h d)
  owned_finish h d = finish_leaves Owned C h d (λ s _ _. owned_without h.key)

-- ---- another tenant sees nothing

module _ (u : ℕ) (C : Catalog) where
  abbrev Unseen : Catalog → Type 0
  Unseen X = Alike u X C

  unseen_chunks : (k : SessionNumber) → (k.0 == u) ≡ false → (s : Session) (chunks : Chunks) → Unseen (record C { sessions = with_chunks C.sessions k s chunks })
  unseen_chunks k other s chunks =
      with_sessions u (visible C) (visible C) (alike_itself u C) (with_chunks C.sessions k s chunks) C.sessions
      (unseen_insert number_cmp_total exact_number (λ n. n.0 == u) C.sessions k (record s { chunks = chunks }) other)

  pub unseen_take : (r : Text) (n : ℕ) (g : Option ByteRange) (len : ℕ) → is_repo_of C u r ≡ false → Leaves Unseen (take C r n g len)
  unseen_take r n g len other = take_leaves Unseen C r n g len (λ t k.
      changed_leaves Unseen C (alike_itself u C) (t, n) (λ s. CheckedOutWith (received_length s) len) (λ s _. unseen_chunks (t, n) (apart C u r other t k) s (CheckedOutWith (received_length s) len)))

  module _ (h : HandRecord) (other : (h.key.0 == u) ≡ false) where
    pub unseen_put_back : Leaves Unseen (put_back C h)
    unseen_put_back = put_back_leaves Unseen C h (λ s _. unseen_chunks h.key other s (CheckedIn (chunks_of h)))

    pub unseen_cancel : Unseen (after_cancel C h)
    unseen_cancel = cancel_leaves Unseen C h (alike_itself u C) (λ s _. unseen_chunks h.key other s (CheckedIn h.chunks))

    pub unseen_finish : Owned C → (d : Text) → Leaves Unseen (finish C h d)
    unseen_finish owned d = finish_leaves Unseen C h d (λ s found _.
        with_sessions u _ _ (with_links u (visible C) (visible C) (alike_itself u C) _ C.links
        (unseen_insert link_cmp_total exact_link (λ l. is_repo_of C u l.0) C.links (s.repo, d) tt (ap (λ o. option_eq nat_eq o (Some u)) (owned h.key s found) ∙ other)))
        _ C.sessions (unseen_remove number_cmp_total exact_number (λ n. n.0 == u) C.sessions h.key other))

-- ---- the catalog stays consistent

module _ (content : Text → Text) (C : Catalog) (consistent : Consistent content C) where
  consistent_chunks : (k : SessionNumber) (s : Session) (chunks : Chunks) → get C.sessions k ≡ Some s → Consistent content (record C { sessions = with_chunks C.sessions k s chunks })
  consistent_chunks k s chunks found = consistency.with_sessions content C consistent (with_chunks C.sessions k s chunks) (λ q x h.
      ⊎_elim (λ e. subst (λ (p : SessionNumber). consistency.IsPlaced C p x) (sym e.0) (subst (λ (y : Session). consistency.IsPlaced C k y) e.1 (consistency.placed content C consistent k s found))) (consistency.placed content C consistent q x)
      (got-insert number_cmp_total exact_number C.sessions k (record s { chunks = chunks }) q x h))

  pub consistent_take : (r : Text) (n : ℕ) (g : Option ByteRange) (len : ℕ) → Leaves (Consistent content) (take C r n g len)
  consistent_take r n g len = take_leaves (Consistent content) C r n g len (λ t _.
      changed_leaves (Consistent content) C consistent (t, n) (λ s. CheckedOutWith (received_length s) len) (λ s found. consistent_chunks (t, n) s (CheckedOutWith (received_length s) len) found))

  module _ (h : HandRecord) where
    pub consistent_put_back : Leaves (Consistent content) (put_back C h)
    consistent_put_back = put_back_leaves (Consistent content) C h (λ s found. consistent_chunks h.key s (CheckedIn (chunks_of h)) found)

    pub consistent_cancel : Consistent content (after_cancel C h)
    consistent_cancel = cancel_leaves (Consistent content) C h consistent (λ s found. consistent_chunks h.key s (CheckedIn h.chunks) found)

    pub consistent_finish : (d : Text) → Fits content (uploaded_pair C.contents d (Ok (hand_content h))) → Leaves (Consistent content) (finish C h d)
    consistent_finish d fits = finish_leaves (Consistent content) C h d (λ s found accepted.
        consistency.consistent_stored content C consistent s.repo h.key.0 h.key.1 d (hand_content h) (consistent.sessions h.key s found)
        (fits_named content C.contents d (hand_content h) fits (and_parts (is_named C.contents d (hand_content h)) (fits_stored C.contents (get C.residents d) (hand_content h)) accepted).0))

-- ---- a tenant's own steps, with other tenants present and in the isolated run

-- with one free slot, each blob has a slot
finds_slot : (C : Catalog) (d : Text) → has_slot (with_slot C) d ≡ Ok tt
finds_slot C d = by (not (contains_key C.residents d)) (nat_le (len C.residents + C.retired + 1) (len C.residents + C.retired)) refl
  where
    by : (new full : Bool) → nat_le (len C.residents + C.retired + 1) (len C.residents + C.retired) ≡ full → refuse (new && full) StoreFull ≡ Ok tt
    by false full is = refl
    by true false is = refl
    by true true is = absurd (let more = leb-true (len C.residents + C.retired + 1) (len C.residents + C.retired) is in omega arith)

module _ (content : Text → Text) (t : ℕ) (C D : Catalog) (alike : Alike t C D) (consistent_C : Consistent content C) (consistent_D : Consistent content D) where
  pub own_take : (r : Text) (n : ℕ) (g : Option ByteRange) (len : ℕ) → is_repo_of C t r ≡ true → Matches t (take C r n g len) (take D r n g len)
  own_take r n g len own = with_tenant content t C D alike consistent_C consistent_D r own _ _ (
      same_check t _ _ (check_same t C D alike r n g len) _ _ (λ after _.
      same_check t _ _ (quota_alike content t C D alike consistent_C consistent_D r own len) _ _ (λ _ _. (
        (λ i. record { repo = option_map_or (λ s. s.repo) (session_found t C D alike n i) []; key = (t, n); chunks = option_map_or (λ s. at_home s.chunks) (session_found t C D alike n i) []; reserved = len; last = None }),
        with_sessions t (visible C) (visible D) alike _ _
            (agree_changed (λ k. k.0 == t) C.sessions D.sessions (t, n) (λ s. record s { chunks = CheckedOutWith (received_length s) len }) alike.sessions (session_found t C D alike n)),
      ))))

  module _ (h : HandRecord) (own : (h.key.0 == t) ≡ true) where
    here : session_of_hand (get C.sessions h.key) h ≡ session_of_hand (get D.sessions h.key) h
    here = ap (λ o. session_of_hand o h) (alike.sessions h.key own)

    home_alike : (s : Session) (chunks : Chunks) → Alike t (record C { sessions = with_chunks C.sessions h.key s chunks }) (record D { sessions = with_chunks D.sessions h.key s chunks })
    home_alike s chunks = with_sessions t (visible C) (visible D) alike _ _ (agree_insert number_cmp_total exact_number (λ k. k.0 == t) C.sessions D.sessions h.key (record s { chunks = chunks }) alike.sessions)

    pub own_put_back : Matches t (put_back C h) (put_back D h)
    own_put_back = subst (λ y. Matches t (put_back C h) (returned D h y)) here (at (session_of_hand (get C.sessions h.key) h))
      where
        at : (x : Result Session Refusal) → Matches t (returned C h x) (returned D h x)
        at (Ok s) = (refl, home_alike s (CheckedIn (chunks_of h)))
        at (Err e) = refl

    pub own_cancel : Alike t (after_cancel C h) (after_cancel D h)
    own_cancel = subst (λ y. Alike t (after_cancel C h) (record D { sessions = with_old_chunks D.sessions h y })) here (at (session_of_hand (get C.sessions h.key) h))
      where
        at : (x : Result Session Refusal) → Alike t (record C { sessions = with_old_chunks C.sessions h x }) (record D { sessions = with_old_chunks D.sessions h x })
        at (Ok s) = home_alike s (CheckedIn h.chunks)
        at (Err e) = alike

    pub own_finish : (d : Text) → Fits content (uploaded_pair C.contents d (Ok (hand_content h))) → Matches t (finish C h d) (finish (with_slot D) h d)
    own_finish d fits = same_check t _ _ here _ _ (λ s _.
        same_check t (refuse (not (is_digest_accepted C d (hand_content h))) DigestInvalid) (refuse (not (is_digest_accepted D d (hand_content h))) DigestInvalid)
        (ap (λ x. refuse (not x) DigestInvalid) (names_alone content C d (hand_content h) consistent_C brings ∙ ap (λ r. is_named r d (hand_content h)) alike.contents ∙ sym (names_alone content D d (hand_content h) consistent_D (λ is. brings (ap (λ r. is_named r d (hand_content h)) alike.contents ∙ is))))) _ _ (λ _ _.
        same_check t (check_share C h.key.0 d) (check_share D h.key.0 d) (subst (λ k. check_share C k d ≡ check_share D k d) (sym (eqb-true h.key.0 t own)) (share_check_same t C D alike d)) _ _ (λ _ _.
        subst (λ y. Matches t (ending C s (has_slot C d)) (ending (with_slot D) s y)) (sym (finds_slot D d)) (full s (is_full_for C d)))))
      where
        brings : is_named C.contents d (hand_content h) ≡ true → content d ≡ hand_content h
        brings = fits_named content C.contents d (hand_content h) fits

        ending : Catalog → Session → Result (Unit {0}) Refusal → Outcome ℕ
        ending X s room = room >>= λ _. Ok (length (hand_content h), with_stored_blob X h.key.0 s.repo h.key.1 d (hand_content h))

        full : (s : Session) (x : Bool) → Matches t (ending C s (refuse x StoreFull)) (ending (with_slot D) s (Ok tt))
        full s true = refl
        full s false = (
          refl,
          with_sessions t _ _ (with_links t (visible C) (visible D) alike _ _ (agree_insert link_cmp_total exact_link (λ l. is_repo_of C t l.0) C.links D.links (s.repo, d) tt alike.links)) _ _
              (agree_remove number_cmp_total exact_number (λ k. k.0 == t) C.sessions D.sessions h.key alike.sessions),
        )
