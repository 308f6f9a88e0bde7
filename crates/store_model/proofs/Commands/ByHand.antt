-- An append or close equals a check-out, a fill of the hand, and a check-in or finish.
use Rattle.std.proofs.Common.{◌≡◌, ℕ, ◌+◌, Bool, true, false, cond, not, List, ◌++◌, length, Option, Some, None, Result, Ok, Err, refl, sym, ap, ◌∙◌, subst}
use Rattle.std.specs.Prelude.{◌==◌, nat_lt, ◌||◌}
use Rattle.std.specs.Ordering.{eq_by_cmp}
use Rattle.std.specs.List.{concat, sum_by}
use Rattle.std.specs.FinMap.{FinMap, get, insert, remove, get-insert, get-remove, same_map}
use Rattle.std.proofs.lemmas.Bool.{eq-eqb}
use Rattle.blob_digest.specs.declared.range.ByteRange.{ByteRange}
use Rattle.blob_digest.specs.declared.refusal.Refusal.{Refusal}
use Rattle.blob_digest.specs.declared.refusal.Refusal.TheVariants.{DigestInvalid, RangeInvalid, SizeInvalid}
use Rattle.blob_digest.specs.Outcomes.{Does, DoesExactly}
use Rattle.blob_digest.proofs.KeyOrders.{number_cmp_total, exact_number}
use Rattle.spec_lib.proofs.Rows.{insert_same}
use Rattle.store_model.specs.Sessions.{after_append_in, at_home, with_old_chunks, chunks_in, has_other_length, length_after, not_busy, repo_in, session_in, starts_elsewhere, after_take_in, session_of_hand, content_in, hand_content, with_chunk, with_chunks}
use Rattle.spec_lib.specs.Texts.{Text}
use Rattle.store_model.specs.Catalog.{SessionNumber, CheckedIn, CheckedOutWith, Session, HandRecord, Catalog, session_number_cmp, received_length}
use Rattle.spec_lib.specs.Outcomes.{◌>>=◌, refuse}
use Rattle.store_model.specs.Commands.{Outcome, append, check_share, chunk_length_check, close, finish, after_cancel, has_slot, is_digest_accepted, put_back, with_stored_blob, take, tenant, check_quota}
use Rattle.store_model.proofs.Commands.Hands.{received_length-with_chunk, took, Checked, TookIn}
use Rattle.spec_lib.proofs.Maps.{get-insert_at}
use Rattle.spec_lib.proofs.Outcomes.{bound_ok, ok_err}
use Rattle.store_model.proofs.Commands.Accepted.{left_by, session_found}

-- ---- maps

both : {A : Type 0} (b : Bool) (x y z : A) → cond b x (cond b y z) ≡ cond b x z
both true x y z = refl
both false x y z = refl

pub insert_twice : (m : FinMap session_number_cmp Session) (k : SessionNumber) (v w : Session) → insert (insert m k v) k w ≡ insert m k w
insert_twice m k v w = same_map number_cmp_total exact_number (insert (insert m k v) k w) (insert m k w) (λ q.
    get-insert number_cmp_total (insert m k v) k w q ∙ ap (cond (eq_by_cmp session_number_cmp q k) (Some w)) (get-insert number_cmp_total m k v q)
    ∙ both (eq_by_cmp session_number_cmp q k) (Some w) (Some v) (get m q) ∙ sym (get-insert number_cmp_total m k w q))

remove_inserted : (m : FinMap session_number_cmp Session) (k : SessionNumber) (v : Session) → remove (insert m k v) k ≡ remove m k
remove_inserted m k v = same_map number_cmp_total exact_number (remove (insert m k v) k) (remove m k) (λ q.
    get-remove number_cmp_total (insert m k v) k q ∙ ap (cond (eq_by_cmp session_number_cmp q k) None) (get-insert number_cmp_total m k v q)
    ∙ both (eq_by_cmp session_number_cmp q k) None (Some v) (get m q) ∙ sym (get-remove number_cmp_total m k q))

-- ---- refusals

-- a call that fails before its last step also fails with another last step
other_end : {A B D : Type 0} (x : Result A Refusal) (f : A → Result B Refusal) (g : A → Result D Refusal) (e : Refusal) → ((a : A) → f a ≡ Err e → g a ≡ Err e) → (x >>= f) ≡ Err e → (x >>= g) ≡ Err e
other_end (Ok a) f g e later h = later a h
other_end (Err d) f g e later h = let same : d ≡ e = cc in ap (λ (r : Refusal). Err r) same

never : {A B : Type 0} {x : A} {e : Refusal} → ◌≡◌ {A = Result A Refusal} (Ok x) (Err e) → (y : Result B Refusal) → y ≡ Err e
never h y = absurd cc

module _ (C : Catalog) (repo : Text) (number : ℕ) (range : Option ByteRange) (b : Text) (e : Refusal) (refused : take C repo number range (length b) ≡ Err e) where
  pub append_refused : append C repo number range b ≡ Err e
  append_refused =
      other_end (tenant C repo) _ _ e (λ t. other_end (chunk_length_check C t repo number range (length b)) _ _ e (λ n. other_end (check_quota C t (length b)) _ _ e (λ u h. never h _))) refused

  pub close_refused : (digest : Text) → close C repo number digest range b ≡ Err e
  close_refused digest =
      other_end (tenant C repo) _ _ e (λ t. other_end (chunk_length_check C t repo number range (length b)) _ _ e (λ n. other_end (check_quota C t (length b)) _ _ e (λ u h. never h _))) refused

-- ---- the hand of a successful check-out

length_is : (max_blob before n after : ℕ) (range : Option ByteRange) → length_after max_blob before range n ≡ Ok after → after ≡ before + n
length_is max_blob before n after range h =
    let a = bound_ok (refuse (has_other_length range n || nat_lt max_blob (before + n)) SizeInvalid) _ after h in
    let b = bound_ok (refuse (starts_elsewhere range before) (RangeInvalid before)) _ after a.2 in
    let same : ◌≡◌ {A = Result ℕ Refusal} (Ok (before + n)) (Ok after) = b.2 in
    cc same

checked_length : (C : Catalog) (t number : ℕ) (repo : Text) (range : Option ByteRange) (n after : ℕ) (p : Checked C t number repo n) → chunk_length_check C t repo number range n ≡ Ok after → after ≡ received_length p.s + n
checked_length C t number repo range n after p h =
    let a = bound_ok (session_in (get C.sessions (t, number)) repo) _ after h in
    let f = session_found (get C.sessions (t, number)) repo a.0 a.1 in
    let b = bound_ok (not_busy a.0.chunks) _ after a.2 in
    let same : a.0 ≡ p.s = let e : Some a.0 ≡ Some p.s = sym f.0 ∙ p.found in cc in
    length_is C.contents.max_blob (received_length a.0) n after range b.2 ∙ ap (λ (s : Session). received_length s + n) same

module _ (C C1 : Catalog) (repo : Text) (number len : ℕ) (range : Option ByteRange) (hand : HandRecord) (stepped : take C repo number range len ≡ Ok (hand, C1)) where
  abbrev by : TookIn C C1 repo number len range hand stepped
  by = took C C1 repo number len range hand stepped

  -- the hand has its session's repository and chunks, and nothing is filled in
  pub taken_hand : ◌≡◌ {A = HandRecord} (record { repo = by.checked.s.repo; key = (by.t, number); chunks = by.checked.chunks; reserved = len; last = None }) hand
  taken_hand = (λ i. record { repo = repo_is i; key = (by.t, number); chunks = chunks_is i; reserved = len; last = None }) ∙ by.is
    where
      repo_is : by.checked.s.repo ≡ repo_in C.sessions (by.t, number)
      repo_is = sym (rw by.checked.found refl)

      chunks_is : by.checked.chunks ≡ chunks_in C.sessions (by.t, number)
      chunks_is = sym (rw by.checked.found (ap at_home by.checked.home))

  -- the hand has the repository and the number that were asked for
  pub taken_names : (hand.repo ≡ repo) × (hand.key.1 ≡ number)
  taken_names = (ap (λ (x : HandRecord). x.repo) (sym taken_hand) ∙ by.checked.of_repo, ap (λ (x : HandRecord). x.key.1) (sym taken_hand))

  pub taken_leaves : record C { sessions = with_chunks C.sessions (by.t, number) by.checked.s (CheckedOutWith (received_length by.checked.s) len) } ≡ C1
  taken_leaves = (λ i. record C { sessions = sessions_is i }) ∙ by.left
    where
      sessions_is : with_chunks C.sessions (by.t, number) by.checked.s (CheckedOutWith (received_length by.checked.s) len) ≡ after_take_in C.sessions (by.t, number) len
      sessions_is = rw by.checked.found refl

  pub taken_received : received_length by.checked.s ≡ sum_by length by.checked.chunks
  taken_received = rw by.checked.home refl

module _ (C C1 : Catalog) (repo : Text) (number : ℕ) (range : Option ByteRange) (b : Text) (hand : HandRecord) (stepped : take C repo number range (length b) ≡ Ok (hand, C1)) where
  abbrev p : TookIn C C1 repo number (length b) range hand stepped
  p = took C C1 repo number (length b) range hand stepped

  abbrev key : SessionNumber
  key = (p.t, number)

  abbrev s : Session
  s = p.checked.s

  abbrev out : Session
  out = record s { chunks = CheckedOutWith (received_length s) (length b) }

  abbrev C2 : Catalog
  C2 = record C { sessions = with_chunks C.sessions key s (CheckedOutWith (received_length s) (length b)) }

  abbrev h : HandRecord
  h = record { repo = s.repo; key = key; chunks = p.checked.chunks; reserved = length b; last = None }

  hand_is : h ≡ hand
  hand_is = taken_hand C C1 repo number (length b) range hand stepped

  left : C2 ≡ C1
  left = taken_leaves C C1 repo number (length b) range hand stepped

  received_is : received_length s ≡ sum_by length p.checked.chunks
  received_is = taken_received C C1 repo number (length b) range hand stepped

  found : get C2.sessions key ≡ Some out
  found = get-insert_at number_cmp_total exact_number C.sessions key out

  -- the hand's session exists, with any chunk filled in
  here : (last : Option Text) → session_of_hand (get C2.sessions key) (record h { last = last }) ≡ Ok out
  here last =
      let one : (received_length s == sum_by length p.checked.chunks) ≡ true = eq-eqb (received_length s) (sum_by length p.checked.chunks) received_is in
      let two : (length b == length b) ≡ true = eq-eqb (length b) (length b) refl in
      rw found (rw (one, two) refl)

  -- once it is checked in, the session is as if it had never been checked out
  again : (chunks : List Text) → with_chunks C2.sessions key out (CheckedIn chunks) ≡ with_chunks C.sessions key s (CheckedIn chunks)
  again chunks = insert_twice C.sessions key out (record s { chunks = CheckedIn chunks })

  as_before : with_chunks C2.sessions key out (CheckedIn p.checked.chunks) ≡ C.sessions
  as_before = again p.checked.chunks ∙ insert_same session_number_cmp number_cmp_total exact_number C.sessions key (record s { chunks = CheckedIn p.checked.chunks }) (p.checked.found ∙ (λ i. Some (record s { chunks = p.checked.home i })))

  pub append_is : append C repo number range b ≡ Ok (p.after, record C { sessions = after_append_in C.sessions key b })
  append_is = rw (p.tenant_ok, p.check_ok, p.quota_ok) refl

  filled : put_back C2 (record h { last = Some b }) ≡ append C repo number range b
  filled =
      let len : sum_by length (with_chunk p.checked.chunks b) ≡ p.after = received_length-with_chunk p.checked.chunks b ∙ ap (λ n. n + length b) (sym received_is) ∙ sym (checked_length C p.t number repo range (length b) p.after p.checked p.check_ok) in
      let added : after_append_in C.sessions key b ≡ with_chunks C.sessions key s (CheckedIn (with_chunk p.checked.chunks b)) = rw p.checked.found (ap (λ cs. with_chunks C.sessions key s (CheckedIn (with_chunk cs b))) (ap at_home p.checked.home)) in
      rw (here (Some b)) (λ i. Ok (len i, record C { sessions = (again (with_chunk p.checked.chunks b) ∙ sym added) i })) ∙ sym append_is

  unfilled : put_back C2 h ≡ Ok (received_length s, C)
  unfilled = rw (here None) (λ i. Ok (sym received_is i, record C { sessions = as_before i }))

  refused_is : after_cancel C2 (record h { last = Some b }) ≡ C
  refused_is = (λ i. record C { sessions = (ap (with_old_chunks C2.sessions (record h { last = Some b })) (here (Some b)) ∙ as_before) i })

  whole : hand_content (record h { last = Some b }) ≡ content_in C.sessions key b
  whole = sym (rw p.checked.found (ap (λ cs. concat (at_home cs) ++ b) p.checked.home))

  closed : (digest : Text) → finish C2 (record h { last = Some b }) digest ≡ close C repo number digest range b
  closed digest =
      rw (here (Some b)) (rw (p.tenant_ok, p.check_ok, p.quota_ok)
      (λ i. refuse (not (is_digest_accepted C digest (whole i))) DigestInvalid >>= λ _. check_share C p.t digest >>= λ _. has_slot C digest >>= λ _. Ok (length (whole i), record (with_stored_blob C p.t (p.checked.of_repo i) number digest (whole i)) { sessions = remove_inserted C.sessions key out i })))

  -- ---- the same for the hand and the catalog after the check-out

  pub append_by_hand : put_back C1 (record hand { last = Some b }) ≡ append C repo number range b
  append_by_hand = (λ i. put_back (sym left i) (record (sym hand_is i) { last = Some b })) ∙ filled

  pub close_by_hand : (digest : Text) → finish C1 (record hand { last = Some b }) digest ≡ close C repo number digest range b
  close_by_hand digest = (λ i. finish (sym left i) (record (sym hand_is i) { last = Some b }) digest) ∙ closed digest

  pub back_by_hand : put_back C1 hand ≡ Ok (received_length s, C)
  back_by_hand = (λ i. put_back (sym left i) (sym hand_is i)) ∙ unfilled

  pub refused_by_hand : after_cancel C1 (record hand { last = Some b }) ≡ C
  refused_by_hand = (λ i. after_cancel (sym left i) (record (sym hand_is i) { last = Some b })) ∙ refused_is

  pub not_filled : (hand.last ≡ None) × (hand.reserved ≡ length b)
  not_filled = (ap (λ (x : HandRecord). x.last) (sym hand_is), ap (λ (x : HandRecord). x.reserved) (sym hand_is))

  -- ---- the effect of the calls together

  pub append_does : (r : Result ℕ Refusal) (D : Catalog) (h' : HandRecord) → h' ≡ record hand { last = Some b } → DoesExactly (λ (n : ℕ). n) r C1 D (put_back C1 h') → Does (λ (n : ℕ). n) r C D (append C repo number range b)
  append_does r D h' is = by r
    where
      same : put_back C1 h' ≡ append C repo number range b
      same = ap (put_back C1) is ∙ append_by_hand

      by : (x : Result ℕ Refusal) → DoesExactly (λ (n : ℕ). n) x C1 D (put_back C1 h') → Does (λ (n : ℕ). n) x C D (append C repo number range b)
      by (Ok n) done = sym same ∙ done
      by (Err e) done = ok_err (sym append_is ∙ sym same ∙ done.0)

  pub close_does : (r : Result ℕ Refusal) (D : Catalog) (h' : HandRecord) (digest : Text) → h' ≡ record hand { last = Some b } → Does (λ (n : ℕ). n) r (after_cancel C1 h') D (finish C1 h' digest) → Does (λ (n : ℕ). n) r C D (close C repo number digest range b)
  close_does r D h' digest is done =
      subst (λ (E : Catalog). Does (λ (n : ℕ). n) r E D (close C repo number digest range b)) (ap (after_cancel C1) is ∙ refused_by_hand)
      (subst (λ (o : Outcome ℕ). Does (λ (n : ℕ). n) r (after_cancel C1 h') D o) (ap (λ x. finish C1 x digest) is ∙ close_by_hand digest) done)

  pub undone : (r : Result ℕ Refusal) (D : Catalog) (h' : HandRecord) → h' ≡ hand → DoesExactly (λ (n : ℕ). n) r C1 D (put_back C1 h') → D ≡ C
  undone r D h' is = by r
    where
      same : put_back C1 h' ≡ Ok (received_length s, C)
      same = ap (put_back C1) is ∙ back_by_hand

      by : (x : Result ℕ Refusal) → DoesExactly (λ (n : ℕ). n) x C1 D (put_back C1 h') → D ≡ C
      by (Ok n) done = let p : ◌≡◌ {A = Result (ℕ × Catalog) Refusal} (Ok (n, D)) (Ok (received_length s, C)) = sym done ∙ same in left_by p
      by (Err e) done = ok_err (sym same ∙ done.0)
