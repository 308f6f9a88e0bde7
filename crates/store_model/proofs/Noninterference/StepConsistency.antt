-- A tenant's own command, from catalogs that are equivalent for it: the same reply, and again equivalent catalogs.
use Rattle.std.proofs.Common.{◌≡◌, ℕ, ◌+◌, Bool, true, false, not, List, [], ◌∷◌, length, set, get_or, Option, Some, None, is_some, Result, Ok, Err, refl, sym, ap, ◌∙◌, subst, arith}
use Prim.Native.Nat.{zero, suc}
use Rattle.std.specs.Prelude.{◌==◌, ◌&&◌, ◌||◌, ◌^◌, nat_lt, nat_le, if◌then◌else◌}
use Rattle.std.specs.Option.{option_map_or, ok_or}
use Rattle.std.specs.List.{AllByRecursion}
use Rattle.std.specs.Cmp.Lexicographic.{nat_list_cmp_total}
use Rattle.std.specs.FinMap.{FinMap, get, insert, contains_key}
use Rattle.std.proofs.lemmas.Bool.{false≢true}
use Rattle.std.proofs.lemmas.List.{length-set}
use Rattle.std.proofs.lemmas.Map.Lookups.{exact_bytes}
use Rattle.blob_digest.specs.declared.range.ByteRange.{ByteRange}
use Rattle.blob_digest.specs.declared.refusal.Refusal.{Refusal}
use Rattle.blob_digest.specs.declared.refusal.Refusal.TheVariants.{NameUnknown, DigestInvalid, SizeInvalid, BlobUnknown, ManifestInvalid, ManifestUnknown, ManifestBlobUnknown, Quota, StoreFull, LimitReached, RepoInUse}
use Rattle.blob_digest.specs.Digests.{sha256_text}
use Rattle.oci_manifest.specs.Manifests.{refs_of}
use Rattle.spec_lib.specs.Texts.{Text}
use Rattle.store_model.specs.Catalog.{SessionNumber, CheckedIn, Session, Resident, Catalog, session_number_cmp, tenant_of, is_repo_of, holds, next_number_of, received_length, ContentRules}
use Rattle.store_model.specs.Commands
use Rattle.spec_lib.specs.Outcomes.{◌>>=◌, refuse}
use Rattle.store_model.specs.Commands.{Outcome, tenant, session_in, not_busy, length_after, with_new_session, content_in, fits_stored, is_digest_accepted, is_full_for, with_stored_blob, check_all_links, has_source, with_link, with_manifest, with_leased, linked_blob, check_no_referrer, is_full_of_manifests, check_quota, check_repo, check_share, is_in_use, lacks_room_for, cannot_open, is_named}
use Rattle.store_model.specs.Sessions.{at_home, with_chunk}
use Rattle.store_model.specs.declared.mount.Mount.TheVariants as mounting
use Rattle.store_model.specs.Runs as runs
use Rattle.store_model.specs.Runs.{Command, Answer, map_outcome, reading_outcome, outcome, repo_of}
use Rattle.store_model.specs.Noninterference.{always_has_slot, isolated_outcome, close_content, uploaded_pair, uploads_of_command}
use Rattle.blob_digest.proofs.KeyOrders.{number_cmp_total, exact_number, link_cmp_total, exact_link}
use Rattle.spec_lib.proofs.Options.{option_eq_some}
use Rattle.spec_lib.proofs.Outcomes.{bound_ok}
use Rattle.spec_lib.proofs.Agreement.{AgreeOn, agree_insert, agree_remove}
use Rattle.store_model.proofs.Commands.Fits.{fits_same}
use Rattle.store_model.proofs.Noninterference.SameFor.{Alike, visible, with_repos, with_links, with_manifests, with_sessions, Consistent, of_same, holds_same, own_holds_same, tenant_holds_same, room_same, open_same, session_found, session_same, check_same, whole_same, quota_same, share_check_same, in_use_same, manifests_same, referrer_same, used_same, limits_same}

-- Two outcomes agree: equal results with equivalent catalogs, equal errors, or `StoreFull` with other tenants present.
abbrev pub Matches : {A : Type 0} → ℕ → Outcome A → Outcome A → Type 0
Matches t (Ok x) (Ok y) = (x.0 ≡ y.0) × Alike t x.1 y.1
Matches t (Ok x) (Err f) = ⊥
Matches t (Err e) (Ok y) = e ≡ StoreFull
Matches t (Err e) (Err f) = e ≡ f

-- the uploaded pairs of digests and contents are those of `content`
abbrev pub Fits : (Text → Text) → List (Text × Text) → Type 0
Fits content pairs = AllByRecursion (λ x. content x.0 ≡ x.1) pairs

-- ---- lines of an outcome

pub same_check : {A X : Type 0} (t : ℕ) (x y : Result X Refusal) → x ≡ y → (f g : X → Outcome A) → ((a : X) → x ≡ Ok a → Matches t (f a) (g a)) → Matches t (x >>= f) (y >>= g)
same_check t (Ok a) y e f g h = subst (λ y. Matches t (f a) (y >>= g)) e (h a refl)
same_check t (Err r) y e f g h = subst (λ y. Matches t (Err r) (y >>= g)) e refl

at_ok : {A X : Type 0} (t : ℕ) (a : X) (x y : Result X Refusal) → x ≡ Ok a → y ≡ Ok a → (f g : X → Outcome A) → Matches t (f a) (g a) → Matches t (x >>= f) (y >>= g)
at_ok t a x y p q f g h = subst (λ x. Matches t (x >>= f) (y >>= g)) (sym p) (subst (λ y. Matches t (f a) (y >>= g)) (sym q) h)

same_if : {A : Type 0} (t : ℕ) (b c : Bool) → b ≡ c → (x y x' y' : Outcome A) → (b ≡ true → Matches t x x') → (b ≡ false → Matches t y y') → Matches t (if b then x else y) (if c then x' else y')
same_if t true c e x y x' y' at_true at_false = subst (λ c. Matches t x (if c then x' else y')) e (at_true refl)
same_if t false c e x y x' y' at_true at_false = subst (λ c. Matches t y (if c then x' else y')) e (at_false refl)

pub answers_match : {A : Type 0} (t : ℕ) (f : A → Answer) (x y : Outcome A) → Matches t x y → Matches t (map_outcome f x) (map_outcome f y)
answers_match t f (Ok x) (Ok y) m = (ap f m.0, m.1)
answers_match t f (Ok x) (Err e) m = m
answers_match t f (Err e) (Ok y) m = m
answers_match t f (Err e) (Err d) m = m

reading_match : {A : Type 0} (t : ℕ) (f : A → Answer) (C D : Catalog) (x y : Result A Refusal) → x ≡ y → Alike t C D → Matches t (reading_outcome f C x) (reading_outcome f D y)
reading_match t f C D (Ok a) y e alike = subst (λ y. Matches t (Ok (f a, C)) (reading_outcome f D y)) e (refl, alike)
reading_match t f C D (Err r) y e alike = subst (λ y. Matches t (Err r) (reading_outcome f D y)) e refl

started_match : (t : ℕ) (x y : Outcome ℕ) → Matches t x y → Matches t (x >>= λ s. Ok (mounting.Session s.0, s.1)) (y >>= λ s. Ok (mounting.Session s.0, s.1))
started_match t (Ok x) (Ok y) m = (ap mounting.Session m.0, m.1)
started_match t (Ok x) (Err e) m = m
started_match t (Err e) (Ok y) m = m
started_match t (Err e) (Err d) m = m

-- ---- the tenant exists

pub is_tenant : (C : Catalog) (t : ℕ) (r : Text) → is_repo_of C t r ≡ true → tenant_of C.tenants r ≡ Some t
is_tenant C t r own = option_eq_some (tenant_of C.tenants r) t own

pub known : (C : Catalog) (t : ℕ) (r : Text) → is_repo_of C t r ≡ true → tenant C r ≡ Ok t
known C t r own = ap (λ o. ok_or o NameUnknown) (is_tenant C t r own)

-- ---- equivalence after one write

next_alike : (xs ys : List ℕ) (t v w : ℕ) → length xs ≡ length ys → v ≡ w → get_or (set xs t v) t 0 ≡ get_or (set ys t w) t 0
next_alike [] [] t v w e same = refl
next_alike [] (y ∷ ys) t v w e same = absurd (omega arith)
next_alike (x ∷ xs) [] t v w e same = absurd (omega arith)
next_alike (x ∷ xs) (y ∷ ys) zero v w e same = same
next_alike (x ∷ xs) (y ∷ ys) (suc t) v w e same = next_alike xs ys t v w (omega arith) same

abbrev pub longer : Text → Session → Session
longer b s = record s { chunks = CheckedIn (with_chunk (at_home s.chunks) b) }

-- the session under a key, if there is one, is changed
pub agree_changed : (p : SessionNumber → Bool) (m n : FinMap session_number_cmp Session) (k : SessionNumber) (f : Session → Session) → AgreeOn p m n → get m k ≡ get n k →
    AgreeOn p (option_map_or (λ s. insert m k (f s)) (get m k) m) (option_map_or (λ s. insert n k (f s)) (get n k) n)
agree_changed p m n k f agree found =
    subst (λ o. AgreeOn p (option_map_or (λ s. insert m k (f s)) (get m k) m) (option_map_or (λ s. insert n k (f s)) o n)) found (at (get m k))
  where
    at : (o : Option Session) → AgreeOn p (option_map_or (λ s. insert m k (f s)) o m) (option_map_or (λ s. insert n k (f s)) o n)
    at None = agree
    at (Some s) = agree_insert number_cmp_total exact_number p m n k (f s) agree

-- ---- the content of a close

whole_found : (f : Session → Result ℕ Refusal) (x : Result Session Refusal) (after : ℕ) (w : Text) → (x >>= f) ≡ Ok after → (x >>= λ _. Ok w) ≡ Ok w
whole_found f x after w h = let a = bound_ok x f after h in ap (λ x. x >>= λ _. Ok w) a.1

-- a content that is uploaded with its digest is that of `content`
pub fits_named : (content : Text → Text) (rules : ContentRules) (d w : Text) → Fits content (uploaded_pair rules d (Ok w)) → is_named rules d w ≡ true → content d ≡ w
fits_named content rules d w fits is = (subst (λ b. Fits content (if b then (d, w) ∷ [] else [])) is fits).0

-- the content of a close that passed its check is the one compared
pub fits_whole : (content : Text → Text) (C : Catalog) (t : ℕ) (r d last : Text) (n len after : ℕ) (g : Option ByteRange) → tenant C r ≡ Ok t → Commands.chunk_length_check C t r n g len ≡ Ok after →
    Fits content (uploaded_pair C.contents d (close_content C r n last)) → is_named C.contents d (content_in C.sessions (t, n) last) ≡ true → content d ≡ content_in C.sessions (t, n) last
fits_whole content C t r d last n len after g there checked fits is =
    let brings : close_content C r n last ≡ Ok (content_in C.sessions (t, n) last) =
    ap (λ x. x >>= λ t. Commands.session C t r n >>= λ _. Ok (content_in C.sessions (t, n) last)) there ∙ whole_found _ (Commands.session C t r n) after (content_in C.sessions (t, n) last) checked in
    fits_named content C.contents d (content_in C.sessions (t, n) last) (subst (λ x. Fits content (uploaded_pair C.contents d x)) brings fits) is

-- if the content fits, the blob stored under the digest is the same
pub names_alone : (content : Text → Text) (C : Catalog) (d w : Text) → Consistent content C → (is_named C.contents d w ≡ true → content d ≡ w) → is_digest_accepted C d w ≡ is_named C.contents d w
names_alone content C d w consistent fits = by (is_named C.contents d w) refl
  where
    kept : (o : Option Resident) → get C.residents d ≡ o → content d ≡ w → fits_stored C.contents o w ≡ true
    kept None found is = refl
    kept (Some x) found is = fits_same C.contents.on_disk x.bytes w (consistent.bytes d x found ∙ is)

    by : (b : Bool) → is_named C.contents d w ≡ b → (b && fits_stored C.contents (get C.residents d) w) ≡ b
    by false is = refl
    by true is = kept (get C.residents d) refl (fits is)

-- ---- the commands

module _ (content : Text → Text) (t : ℕ) (C D : Catalog) (alike : Alike t C D) (consistent_C : Consistent content C) (consistent_D : Consistent content D) (r : Text) (own : is_repo_of C t r ≡ true) where
  own_D : is_repo_of D t r ≡ true
  own_D = sym (of_same t C D alike r) ∙ own

  pub with_tenant : {A : Type 0} (f g : ℕ → Outcome A) → Matches t (f t) (g t) → Matches t (tenant C r >>= f) (tenant D r >>= g)
  with_tenant f g m = at_ok t t (tenant C r) (tenant D r) (known C t r own) (known D t r own_D) f g m

  pub quota_alike : (n : ℕ) → check_quota C t n ≡ check_quota D t n
  quota_alike n =
      let q = quota_same t C D alike in
      let u = used_same t C D alike content consistent_C consistent_D in
      λ i. refuse (nat_lt (q i) (u i + n)) (Quota (u i) (q i))

  new_alike : Alike t (with_new_session C t r) (with_new_session D t r)
  new_alike = record {
    tenants = alike.tenants;
    contents = alike.contents;
    numbers = length-set C.next t (next_number_of C t + 1) ∙ alike.numbers ∙ sym (length-set D.next t (next_number_of D t + 1));
    next = next_alike C.next D.next t (next_number_of C t + 1) (next_number_of D t + 1) alike.numbers (ap (λ n. n + 1) alike.next);
    repos = agree_insert nat_list_cmp_total exact_bytes (is_repo_of C t) C.repos D.repos r tt alike.repos;
    links = alike.links;
    manifests = alike.manifests;
    sessions = subst (λ n. AgreeOn (λ k. k.0 == t) (insert C.sessions (t, next_number_of C t) (record { repo = r; chunks = CheckedIn [] })) (insert D.sessions (t, n) (record { repo = r; chunks = CheckedIn [] }))) alike.next
        (agree_insert number_cmp_total exact_number (λ k. k.0 == t) C.sessions D.sessions (t, next_number_of C t) (record { repo = r; chunks = CheckedIn [] }) alike.sessions);
  }

  pub own_start : Matches t (Commands.start C r) (Commands.start D r)
  own_start = with_tenant _ _ (
      same_check t (refuse (lacks_room_for C t r) LimitReached) (refuse (lacks_room_for D t r) LimitReached) (ap (λ b. refuse b LimitReached) (room_same t C D alike r own)) _ _ (λ _ _.
      same_check t (refuse (cannot_open C t) LimitReached) (refuse (cannot_open D t) LimitReached)
      (λ i. refuse (nat_le (limits_same t C D alike i).sessions (open_same t C D alike i) || nat_le (2 ^ 32) (alike.next i)) LimitReached) _ _ (λ _ _.
      (alike.next, new_alike))))

  -- the values that are read of a tenant
  read_same : {A : Type 0} (f g : ℕ → Result A Refusal) → f t ≡ g t → (tenant C r >>= f) ≡ (tenant D r >>= g)
  read_same f g e = ap (λ x. x >>= f) (known C t r own) ∙ e ∙ sym (ap (λ x. x >>= g) (known D t r own_D))

  pub own_status : (n : ℕ) → Matches t (reading_outcome runs.Number C (Commands.status C r n)) (reading_outcome runs.Number D (Commands.status D r n))
  own_status n = reading_match t runs.Number C D _ _ (read_same _ _ (ap (λ x. x >>= λ s. Ok (received_length s)) (session_same t C D alike r n))) alike

  pub own_append : (n : ℕ) (g : Option ByteRange) (b : Text) → Matches t (Commands.append C r n g b) (Commands.append D r n g b)
  own_append n g b = with_tenant _ _ (
      same_check t _ _ (check_same t C D alike r n g (length b)) _ _ (λ after _.
      same_check t _ _ (quota_alike (length b)) _ _ (λ _ _. (
        refl,
        with_sessions t (visible C) (visible D) alike _ _ (agree_changed (λ k. k.0 == t) C.sessions D.sessions (t, n) (longer b) alike.sessions (session_found t C D alike n)),
      ))))

  pub own_abandon : (n : ℕ) → Matches t (Commands.abandon C r n) (Commands.abandon D r n)
  own_abandon n = with_tenant _ _ (same_check t _ _ (session_same t C D alike r n) _ _ (λ s _. same_check t (not_busy s.chunks) (not_busy s.chunks) refl _ _ (λ _ _. (
    refl,
    with_sessions t (visible C) (visible D) alike _ _ (agree_remove number_cmp_total exact_number (λ k. k.0 == t) C.sessions D.sessions (t, n) alike.sessions),
  ))))

  -- ---- links

  source_same : (d : Text) (from : Option Text) → has_source C t d from ≡ has_source D t d from
  source_same d None = tenant_holds_same t C D alike d
  source_same d (Some q) = own_holds_same t C D alike q d

  pub own_mount : (d : Text) (from : Option Text) → Matches t (Commands.mount C r d from) (Commands.mount D r d from)
  own_mount d from = with_tenant _ _ (
      same_if t (has_source C t d from) (has_source D t d from) (source_same d from) _ _ _ _
      (λ _. same_check t (refuse (lacks_room_for C t r) LimitReached) (refuse (lacks_room_for D t r) LimitReached) (ap (λ b. refuse b LimitReached) (room_same t C D alike r own)) _ _ (λ _ _. (
        refl,
        with_links t _ _ (with_repos t (visible C) (visible D) alike _ _ (agree_insert nat_list_cmp_total exact_bytes (is_repo_of C t) C.repos D.repos r tt alike.repos)) _ _ (agree_insert link_cmp_total exact_link (λ l. is_repo_of C t l.0) C.links D.links (r, d) tt alike.links),
      )))
      (λ _. started_match t _ _ own_start))

  linked_same : (d : Text) → Commands.check_link C r d ≡ Commands.check_link D r d
  linked_same d = ap (λ b. refuse (not b) BlobUnknown) (holds_same t C D alike r d own)

  pub own_delete : (d : Text) → Matches t (Commands.delete C r d) (Commands.delete D r d)
  own_delete d = with_tenant _ _ (
      same_check t _ _ (linked_same d) _ _ (λ _ _.
      same_check t (check_no_referrer (Commands.referrer C r d)) (check_no_referrer (Commands.referrer D r d)) (ap check_no_referrer (referrer_same t C D alike r d own)) _ _ (λ _ _. (
        refl,
        with_links t (visible C) (visible D) alike _ _ (agree_remove link_cmp_total exact_link (λ l. is_repo_of C t l.0) C.links D.links (r, d) alike.links),
      ))))

  -- ---- manifests

  all_linked_same : (ds : List Text) → check_all_links C r ds ≡ check_all_links D r ds
  all_linked_same [] = refl
  all_linked_same (d ∷ ds) = λ i. if holds_same t C D alike r d own i then all_linked_same ds i else Err (ManifestBlobUnknown d)

  found_same : (m : Text) → get C.manifests (r, m) ≡ get D.manifests (r, m)
  found_same m = alike.manifests (r, m) own

  pub own_put : (b : Text) → Matches t (Commands.put_manifest C r b) (Commands.put_manifest D r b)
  own_put b = with_tenant _ _ (
      same_check t (refuse (nat_lt 4194304 (length b)) SizeInvalid) (refuse (nat_lt 4194304 (length b)) SizeInvalid) refl _ _ (λ _ _.
      same_check t (ok_or (refs_of b) ManifestInvalid) (ok_or (refs_of b) ManifestInvalid) refl _ _ (λ refs _.
      same_check t (check_all_links C r refs) (check_all_links D r refs) (all_linked_same refs) _ _ (λ _ _.
      same_if t (contains_key C.manifests (r, sha256_text b)) (contains_key D.manifests (r, sha256_text b)) (ap is_some (found_same (sha256_text b))) _ _ _ _
      (λ _. (refl, alike))
      (λ _. same_check t (refuse (lacks_room_for C t r) LimitReached) (refuse (lacks_room_for D t r) LimitReached) (ap (λ b. refuse b LimitReached) (room_same t C D alike r own)) _ _ (λ _ _.
      same_check t (refuse (is_full_of_manifests C t r) LimitReached) (refuse (is_full_of_manifests D t r) LimitReached) (λ i. refuse (nat_le (limits_same t C D alike i).manifests (manifests_same t C D alike r own i)) LimitReached) _ _ (λ _ _. (
        refl,
        with_manifests t _ _ (with_repos t (visible C) (visible D) alike _ _ (agree_insert nat_list_cmp_total exact_bytes (is_repo_of C t) C.repos D.repos r tt alike.repos)) _ _ (agree_insert link_cmp_total exact_link (λ l. is_repo_of C t l.0) C.manifests D.manifests (r, sha256_text b) b alike.manifests),
      ))))))))

  pub own_get : (m : Text) → Matches t (reading_outcome runs.Bytes C (Commands.get_manifest C r m)) (reading_outcome runs.Bytes D (Commands.get_manifest D r m))
  own_get m = reading_match t runs.Bytes C D _ _ (read_same _ _ (ap (λ o. ok_or o ManifestUnknown) (found_same m))) alike

  pub own_delete_manifest : (m : Text) → Matches t (Commands.delete_manifest C r m) (Commands.delete_manifest D r m)
  own_delete_manifest m = with_tenant _ _ (same_check t _ _ (ap (λ o. ok_or o ManifestUnknown) (found_same m)) _ _ (λ b _. (
    refl,
    with_manifests t (visible C) (visible D) alike _ _ (agree_remove link_cmp_total exact_link (λ l. is_repo_of C t l.0) C.manifests D.manifests (r, m) alike.manifests),
  )))

  -- ---- repositories

  pub own_remove_repo : Matches t (Commands.remove_repo C r) (Commands.remove_repo D r)
  own_remove_repo = with_tenant _ _ (
      same_check t (check_repo C r) (check_repo D r) (ap (λ o. refuse (not (is_some o)) NameUnknown) (alike.repos r own)) _ _ (λ _ _.
      same_check t (refuse (is_in_use C r) RepoInUse) (refuse (is_in_use D r) RepoInUse) (ap (λ b. refuse b RepoInUse) (in_use_same t C D alike content consistent_C consistent_D r own)) _ _ (λ _ _. (
        refl,
        with_repos t (visible C) (visible D) alike _ _ (agree_remove nat_list_cmp_total exact_bytes (is_repo_of C t) C.repos D.repos r alike.repos),
      ))))

  -- ---- leases and closes

  pub own_lease : (d : Text) → Matches t (Commands.lease false C r d) (Commands.lease false D r d)
  own_lease d = with_tenant _ _ (by (holds C r d) (holds D r d) refl (sym (holds_same t C D alike r d own)))
    where
      lent : Text → Catalog → Resident → Outcome Text
      lent d X b = Ok (b.bytes, with_leased X d b)

      leased : (x y : Option Resident) → get C.residents d ≡ x → get D.residents d ≡ y → is_some x ≡ true → is_some y ≡ true → Matches t (ok_or x BlobUnknown >>= lent d C) (ok_or y BlobUnknown >>= lent d D)
      leased None y e f p q = absurd (false≢true p)
      leased (Some b) None e f p q = absurd (false≢true q)
      leased (Some b) (Some c) e f p q = (
        consistent_C.bytes d b e ∙ sym (consistent_D.bytes d c f),
        alike,
      )

      by : (b c : Bool) → holds C r d ≡ b → c ≡ b →
          Matches t ((refuse (not b) BlobUnknown >>= λ _. ok_or (get C.residents d) BlobUnknown) >>= lent d C) ((refuse (not c) BlobUnknown >>= λ _. ok_or (get D.residents d) BlobUnknown) >>= lent d D)
      by true true held same = leased (get C.residents d) (get D.residents d) refl refl (consistent_C.kept (r, d) held) (consistent_D.kept (r, d) (sym (holds_same t C D alike r d own) ∙ held))
      by true false held same = absurd (false≢true same)
      by false true held same = absurd (false≢true (sym same))
      by false false held same = refl

  pub own_close : (n : ℕ) (d : Text) (g : Option ByteRange) (b : Text) → Fits content (uploaded_pair C.contents d (close_content C r n b)) →
      Matches t (Commands.close C r n d g b) (Commands.close_by always_has_slot D r n d g b)
  own_close n d g b fits = with_tenant _ _ (
      same_check t _ _ (check_same t C D alike r n g (length b)) _ _ (λ after checked.
      same_check t _ _ (quota_alike (length b)) _ _ (λ _ _.
      let here = fits_whole content C t r d b n (length b) after g (known C t r own) checked fits in
      same_check t (refuse (not (is_digest_accepted C d (content_in C.sessions (t, n) b))) DigestInvalid) (refuse (not (is_digest_accepted D d (content_in D.sessions (t, n) b))) DigestInvalid)
      (ap (λ x. refuse (not x) DigestInvalid) (
      names_alone content C d (content_in C.sessions (t, n) b) consistent_C here
      ∙ (λ i. is_named (alike.contents i) d (whole_same t C D alike n b i))
      ∙ sym (names_alone content D d (content_in D.sessions (t, n) b) consistent_D (λ is. here ((λ i. is_named (alike.contents i) d (whole_same t C D alike n b i)) ∙ is) ∙ whole_same t C D alike n b)))) _ _ (λ _ _.
      same_check t (check_share C t d) (check_share D t d) (share_check_same t C D alike d) _ _ (λ _ _.
      full (is_full_for C d))))))
    where
      full : (x : Bool) → Matches t (refuse x StoreFull >>= λ _. Ok (length (content_in C.sessions (t, n) b), with_stored_blob C t r n d (content_in C.sessions (t, n) b)))
          (Ok (length (content_in D.sessions (t, n) b), with_stored_blob D t r n d (content_in D.sessions (t, n) b)))
      full true = refl
      full false = (
        ap length (whole_same t C D alike n b),
        with_sessions t _ _ (with_links t (visible C) (visible D) alike _ _ (agree_insert link_cmp_total exact_link (λ l. is_repo_of C t l.0) C.links D.links (r, d) tt alike.links)) _ _ (agree_remove number_cmp_total exact_number (λ k. k.0 == t) C.sessions D.sessions (t, n) alike.sessions),
      )

-- ---- any of them

pub own_command : (content : Text → Text) (t : ℕ) (C D : Catalog) → Alike t C D → Consistent content C → Consistent content D → (command : Command) → is_repo_of C t (repo_of command) ≡ true →
    Fits content (uploads_of_command C command) → Matches t (outcome false C command) (isolated_outcome D command)
own_command content t C D a c d (runs.Start r) own fits = answers_match t runs.Number _ _ (own_start content t C D a c d r own)
own_command content t C D a c d (runs.Status r n) own fits = own_status content t C D a c d r own n
own_command content t C D a c d (runs.Append r n g b) own fits = answers_match t runs.Number _ _ (own_append content t C D a c d r own n g b)
own_command content t C D a c d (runs.Close r n e g b) own fits = answers_match t runs.Number _ _ (own_close content t C D a c d r own n e g b fits)
own_command content t C D a c d (runs.Abandon r n) own fits = answers_match t runs.Number _ _ (own_abandon content t C D a c d r own n)
own_command content t C D a c d (runs.Mount r e from) own fits = answers_match t runs.Mounting _ _ (own_mount content t C D a c d r own e from)
own_command content t C D a c d (runs.Delete r e) own fits = answers_match t (λ _. runs.Done) _ _ (own_delete content t C D a c d r own e)
own_command content t C D a c d (runs.PutManifest r b) own fits = answers_match t runs.Bytes _ _ (own_put content t C D a c d r own b)
own_command content t C D a c d (runs.GetManifest r m) own fits = own_get content t C D a c d r own m
own_command content t C D a c d (runs.DeleteManifest r m) own fits = answers_match t (λ _. runs.Done) _ _ (own_delete_manifest content t C D a c d r own m)
own_command content t C D a c d (runs.RemoveRepo r) own fits = answers_match t (λ _. runs.Done) _ _ (own_remove_repo content t C D a c d r own)
own_command content t C D a c d (runs.Lease r e) own fits = answers_match t runs.Bytes _ _ (own_lease content t C D a c d r own e)
