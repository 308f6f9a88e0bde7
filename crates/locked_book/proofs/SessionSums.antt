-- The change that each command makes to the number of checked-out sessions, the reserve and the bytes in sessions. The setting is unchanged.
use Rattle.std.proofs.Common.{◌≡◌, ◌≢◌, ℕ, ◌+◌, not, [], List, length, Option, Some, None, Result, Ok, Err, is_ok, Bool, true, false, refl, sym, ap, ◌∙◌, subst, arith}
use Rattle.std.specs.Prelude.{IfSome, if◌then◌else◌, nat_lt}
use Rattle.std.specs.Option.{ok_or, option_map_or}
use Rattle.std.specs.List.{sum_by}
use Rattle.std.specs.FinMap.{FinMap, empty, entries, get, insert, remove}
use Rattle.blob_digest.specs.declared.range.ByteRange.{ByteRange}
use Rattle.blob_digest.specs.declared.refusal.Refusal.{Refusal}
use Rattle.blob_digest.specs.declared.refusal.Refusal.TheVariants.{DigestInvalid, LimitReached, ManifestInvalid, RepoInUse, SizeInvalid, StoreFull, UploadUnknown}
use Rattle.spec_lib.specs.Outcomes.{◌>>=◌, refuse}
use Rattle.blob_digest.specs.Digests.{sha256_text}
use Rattle.blob_digest.proofs.KeyOrders.{number_cmp_total, exact_number}
use Rattle.spec_lib.proofs.Sums.{sum_changed, sum_new, sum_split}
use Rattle.spec_lib.proofs.Rows.{entries-empty}
use Rattle.store_model.specs.Sessions.{are_checked_in, with_old_chunks, chunks_of, not_busy, put_back_outcome_in, reserved_of, after_take_in, session_of_hand, hand_content, with_chunks, HasNoOpenReserve}
use Rattle.oci_manifest.specs.Manifests.{refs_of, max_manifest}
use Rattle.spec_lib.specs.Texts.{Text}
use Rattle.store_model.specs.Catalog.{SessionNumber, Chunks, CheckedIn, CheckedOutWith, Session, HandRecord, Catalog, session_number_cmp, received_length, next_number_of}
use Rattle.store_model.specs.Invariant.{WellFormed}
use Rattle.store_model.specs.declared.mount.Mount.{Mount}
use Rattle.store_model.specs.Commands.{tenant, session, lacks_room_for, cannot_open, check_share, has_slot, is_full_for, is_digest_accepted, passes_share, start, mount, has_source, mounted_outcome, started_outcome, abandon, check_link, check_no_referrer, referrer, delete, manifest, delete_manifest, check_repo, is_in_use, remove_repo, put_manifest, check_all_links, has_manifest, add_manifest, is_full_of_manifests, lease, take, put_back, after_cancel, finish}
use Rattle.store_model.proofs.Invariant.Sessions.{fresh}
use Rattle.store_model.proofs.Commands.Hands.{home_chunks, received_length-with_chunk, taken_found, took, whole_long, IsProper}
use Rattle.store_model.proofs.Commands.Accepted.{answer_by, left_by, session_found}
use Rattle.spec_lib.proofs.Outcomes.{bound_ok, ok_pair}
use Rattle.locked_book.proofs.Answered.{lent}
use Rattle.store_model.specs.Hands.{checked_out_count_of, checked_out_count, reserved_bytes, received_in_sessions, filled_length}
use Rattle.locked_book.specs.Names.{setting_of}

-- the change of checked-out sessions, reserve and bytes from one catalog to another of the same setting
pub record Sums (C C' : Catalog) (out : ℕ) (held : ℕ) (brought : ℕ) (back : ℕ) (freed : ℕ) (left : ℕ) : Type 0 where
  pub hands : checked_out_count C' + back ≡ checked_out_count C + out
  pub reserve : reserved_bytes C' + freed ≡ reserved_bytes C + held
  pub bytes : received_in_sessions C' + left ≡ received_in_sessions C + brought
  pub setting : setting_of C' ≡ setting_of C

abbrev bytes_of : SessionNumber × Session → ℕ
bytes_of e = received_length e.1

abbrev reserve_of : SessionNumber × Session → ℕ
reserve_of e = reserved_of e.1.chunks

-- ---- one session changes

module _ (C : Catalog) (key : SessionNumber) (s : Session) (found : get C.sessions key ≡ Some s) where
  pub with_new : (w : Session) → Sums C (record C { sessions = insert C.sessions key w }) (checked_out_count_of (key, w)) (reserve_of (key, w)) (received_length w) (checked_out_count_of (key, s)) (reserve_of (key, s)) (received_length s)
  with_new w = record {
    hands = sum_changed number_cmp_total exact_number checked_out_count_of C.sessions key s w found;
    reserve = sum_changed number_cmp_total exact_number reserve_of C.sessions key s w found;
    bytes = sum_changed number_cmp_total exact_number bytes_of C.sessions key s w found;
    setting = refl;
  }

  pub without : Sums C (record C { sessions = remove C.sessions key }) 0 0 0 (checked_out_count_of (key, s)) (reserve_of (key, s)) (received_length s)
  without =
      let a = sum_split number_cmp_total exact_number checked_out_count_of C.sessions key s found in
      let b = sum_split number_cmp_total exact_number reserve_of C.sessions key s found in
      let d = sum_split number_cmp_total exact_number bytes_of C.sessions key s found in
      record { hands = omega arith; reserve = omega arith; bytes = omega arith; setting = refl }

pub no_sessions : (m : FinMap session_number_cmp Session) (f : SessionNumber × Session → ℕ) → m ≡ empty → 0 ≡ sum_by f (entries m)
no_sessions m f none = sym (ap (λ (n : FinMap session_number_cmp Session). sum_by f (entries n)) none ∙ ap (sum_by f) (entries-empty session_number_cmp Session))

-- ---- the commands

pub still_sums : (C C' : Catalog) → C'.sessions ≡ C.sessions → setting_of C' ≡ setting_of C → Sums C C' 0 0 0 0 0 0
still_sums C C' same made =
    let x = ap (λ m. sum_by checked_out_count_of (entries m)) same in
    let y = ap (λ m. sum_by reserve_of (entries m)) same in
    let z = ap (λ m. sum_by bytes_of (entries m)) same in
    record { hands = omega arith; reserve = omega arith; bytes = omega arith; setting = made }

pub put_manifest_sums : (C C' : Catalog) (repo bytes digest : Text) → put_manifest C repo bytes ≡ Ok (digest, C') → Sums C C' 0 0 0 0 0 0
put_manifest_sums C C' repo bytes digest stepped =
    let a = bound_ok (tenant C repo) _ (digest, C') stepped in
    let b = bound_ok (refuse (nat_lt max_manifest (length bytes)) SizeInvalid) _ (digest, C') a.2 in
    let d = bound_ok (ok_or (refs_of bytes) ManifestInvalid) _ (digest, C') b.2 in
    let e = bound_ok (check_all_links C repo d.0) _ (digest, C') d.2 in
    by a.0 (has_manifest C repo (sha256_text bytes)) e.2
  where
    by : (t : ℕ) (b : Bool) → (if b then Ok (sha256_text bytes, C) else add_manifest C t repo bytes) ≡ Ok (digest, C') → Sums C C' 0 0 0 0 0 0
    by t true h = still_sums C C' (ap (λ (D : Catalog). D.sessions) (sym (left_by h))) (ap setting_of (sym (left_by h)))
    by t false h =
        let x = bound_ok (refuse (lacks_room_for C t repo) LimitReached) _ (digest, C') h in
        let y = bound_ok (refuse (is_full_of_manifests C t repo) LimitReached) _ (digest, C') x.2 in
        still_sums C C' (ap (λ (D : Catalog). D.sessions) (sym (left_by y.2))) (ap setting_of (sym (left_by y.2)))

pub lease_sums : (C C' : Catalog) (crowded : Bool) (repo digest bytes : Text) → lease crowded C repo digest ≡ Ok (bytes, C') → Sums C C' 0 0 0 0 0 0
lease_sums C C' crowded repo digest bytes stepped =
    let l = lent C C' crowded repo digest bytes stepped in
    still_sums C C' (ap (λ (D : Catalog). D.sessions) (sym l.left)) (ap setting_of (sym l.left))

pub start_sums : (C C' : Catalog) (repo : Text) (n : ℕ) → WellFormed C → start C repo ≡ Ok (n, C') → Sums C C' 0 0 0 0 0 0
start_sums C C' repo n lawful stepped =
    let a = bound_ok (tenant C repo) _ (n, C') stepped in
    let b = bound_ok (refuse (lacks_room_for C a.0 repo) LimitReached) _ (n, C') a.2 in
    let d = bound_ok (refuse (cannot_open C a.0) LimitReached) _ (n, C') b.2 in
    let key : SessionNumber = (a.0, next_number_of C a.0) in
    let new : Session = record { repo = repo; chunks = CheckedIn [] } in
    let none = fresh C a.0 repo lawful in
    let x = sum_new number_cmp_total exact_number checked_out_count_of C.sessions key new none in
    let y = sum_new number_cmp_total exact_number reserve_of C.sessions key new none in
    let z = sum_new number_cmp_total exact_number bytes_of C.sessions key new none in
    subst (λ (D : Catalog). Sums C D 0 0 0 0 0 0) (left_by d.2) (record { hands = omega arith; reserve = omega arith; bytes = omega arith; setting = refl })

pub mount_sums : (C C' : Catalog) (repo digest : Text) (from : Option Text) (m : Mount) → WellFormed C → mount C repo digest from ≡ Ok (m, C') → Sums C C' 0 0 0 0 0 0
mount_sums C C' repo digest from m lawful stepped =
    let a = bound_ok (tenant C repo) _ (m, C') stepped in
    by a.0 (has_source C a.0 digest from) a.2
  where
    by : (t : ℕ) (b : Bool) → (if b then mounted_outcome C t repo digest else started_outcome C repo) ≡ Ok (m, C') → Sums C C' 0 0 0 0 0 0
    by t true h =
        let d = bound_ok (refuse (lacks_room_for C t repo) LimitReached) _ (m, C') h in
        subst (λ (D : Catalog). Sums C D 0 0 0 0 0 0) (left_by d.2) (record { hands = refl; reserve = refl; bytes = refl; setting = refl })
    by t false h =
        let d = bound_ok (start C repo) _ (m, C') h in
        subst (λ (D : Catalog). Sums C D 0 0 0 0 0 0) (left_by d.2) (start_sums C d.0.1 repo d.0.0 lawful d.1)

pub abandon_sums : (C C' : Catalog) (repo : Text) (number n : ℕ) → abandon C repo number ≡ Ok (n, C') → Sums C C' 0 0 0 0 0 n
abandon_sums C C' repo number n stepped =
    let a = bound_ok (tenant C repo) _ (n, C') stepped in
    let b = bound_ok (session C a.0 repo number) _ (n, C') a.2 in
    let d = bound_ok (not_busy b.0.chunks) _ (n, C') b.2 in
    let home = home_chunks b.0.chunks d.0 d.1 in
    let change = without C (a.0, number) b.0 (session_found _ repo b.0 b.1).0 in
    let hand : checked_out_count_of ((a.0, number), b.0) ≡ 0 = ap (λ (c : Chunks). if are_checked_in c then 0 else 1) home.1 in
    let reserve : reserved_of b.0.chunks ≡ 0 = ap reserved_of home.1 in
    let answer : received_length b.0 ≡ n = answer_by d.2 in
    let x = change.hands in
    let y = change.reserve in
    let z = change.bytes in
    subst (λ (D : Catalog). Sums C D 0 0 0 0 0 n) (left_by d.2) (record { hands = omega arith; reserve = omega arith; bytes = omega arith; setting = refl })

pub delete_sums : (C C' : Catalog) (repo digest : Text) (u : Unit {0}) → delete C repo digest ≡ Ok (u, C') → Sums C C' 0 0 0 0 0 0
delete_sums C C' repo digest u stepped =
    let a = bound_ok (tenant C repo) _ (u, C') stepped in
    let b = bound_ok (check_link C repo digest) _ (u, C') a.2 in
    let d = bound_ok (check_no_referrer (referrer C repo digest)) _ (u, C') b.2 in
    still_sums C C' (ap (λ (D : Catalog). D.sessions) (sym (left_by d.2))) (ap setting_of (sym (left_by d.2)))

pub delete_manifest_sums : (C C' : Catalog) (repo digest : Text) (u : Unit {0}) → delete_manifest C repo digest ≡ Ok (u, C') → Sums C C' 0 0 0 0 0 0
delete_manifest_sums C C' repo digest u stepped =
    let a = bound_ok (tenant C repo) _ (u, C') stepped in
    let b = bound_ok (manifest C repo digest) _ (u, C') a.2 in
    still_sums C C' (ap (λ (D : Catalog). D.sessions) (sym (left_by b.2))) (ap setting_of (sym (left_by b.2)))

pub remove_repo_sums : (C C' : Catalog) (repo : Text) (u : Unit {0}) → remove_repo C repo ≡ Ok (u, C') → Sums C C' 0 0 0 0 0 0
remove_repo_sums C C' repo u stepped =
    let a = bound_ok (tenant C repo) _ (u, C') stepped in
    let b = bound_ok (check_repo C repo) _ (u, C') a.2 in
    let d = bound_ok (refuse (is_in_use C repo) RepoInUse) _ (u, C') b.2 in
    still_sums C C' (ap (λ (D : Catalog). D.sessions) (sym (left_by d.2))) (ap setting_of (sym (left_by d.2)))

pub take_sums : (C C' : Catalog) (repo : Text) (number n : ℕ) (range : Option ByteRange) (hand : HandRecord) → take C repo number range n ≡ Ok (hand, C') → Sums C C' 1 n 0 0 0 0
take_sums C C' repo number n range hand stepped =
    let p = took C C' repo number n range hand stepped in
    let s = p.checked.s in
    let key : SessionNumber = (p.t, number) in
    let same : after_take_in C.sessions key n ≡ with_chunks C.sessions key s (CheckedOutWith (received_length s) n) = rw p.checked.found refl in
    let change = with_new C key s p.checked.found (record s { chunks = CheckedOutWith (received_length s) n }) in
    let home : checked_out_count_of (key, s) ≡ 0 = ap (λ (c : Chunks). if are_checked_in c then 0 else 1) p.checked.home in
    let reserve : reserved_of s.chunks ≡ 0 = ap reserved_of p.checked.home in
    let x = change.hands in
    let y = change.reserve in
    let z = change.bytes in
    subst (λ (D : Catalog). Sums C D 1 n 0 0 0 0) ((λ i. record C { sessions = sym same i }) ∙ p.left) (record { hands = omega arith; reserve = omega arith; bytes = omega arith; setting = refl })

-- ---- check-in

module _ (C : Catalog) (h : HandRecord) (s : Session) (here : session_of_hand (get C.sessions h.key) h ≡ Ok s) where
  f : (get C.sessions h.key ≡ Some s) × (s.chunks ≡ CheckedOutWith (sum_by length h.chunks) h.reserved)
  f = taken_found (get C.sessions h.key) h s here

  one_hand : checked_out_count_of (h.key, s) ≡ 1
  one_hand = ap (λ (c : Chunks). if are_checked_in c then 0 else 1) f.1

  its_reserve : reserved_of s.chunks ≡ h.reserved
  its_reserve = ap reserved_of f.1

  its_bytes : received_length s ≡ sum_by length h.chunks
  its_bytes = rw f.1 refl

  pub home_sums : (chunks : List Text) → Sums C (record C { sessions = with_chunks C.sessions h.key s (CheckedIn chunks) }) 0 0 (sum_by length chunks) 1 h.reserved (sum_by length h.chunks)
  home_sums chunks =
      let change = with_new C h.key s f.0 (record s { chunks = CheckedIn chunks }) in
      let a = one_hand in
      let b = its_reserve in
      let d = its_bytes in
      let x = change.hands in
      let y = change.reserve in
      let z = change.bytes in
      record { hands = omega arith; reserve = omega arith; bytes = omega arith; setting = refl }

  pub gone_sums : Sums C (record C { sessions = remove C.sessions h.key }) 0 0 0 1 h.reserved (sum_by length h.chunks)
  gone_sums =
      let change = without C h.key s f.0 in
      let a = one_hand in
      let b = its_reserve in
      let d = its_bytes in
      let x = change.hands in
      let y = change.reserve in
      let z = change.bytes in
      record { hands = omega arith; reserve = omega arith; bytes = omega arith; setting = refl }

  pub after_cancel_sums : Sums C (after_cancel C h) 0 0 0 1 h.reserved 0
  after_cancel_sums =
      let change = home_sums h.chunks in
      let z = change.bytes in
      subst (λ (D : Catalog). Sums C D 0 0 0 1 h.reserved 0) (λ i. record C { sessions = with_old_chunks C.sessions h (sym here i) }) (record { hands = change.hands; reserve = change.reserve; bytes = omega arith; setting = refl })

-- a failed finish of a checked-out session
pub refused_sums : (C D : Catalog) (h : HandRecord) → D ≡ after_cancel C h → is_ok (session_of_hand (get C.sessions h.key) h) ≡ true → Sums C D 0 0 0 1 h.reserved 0
refused_sums C D h left is = by (session_of_hand (get C.sessions h.key) h) refl is
  where
    by : (o : Result Session Refusal) → session_of_hand (get C.sessions h.key) h ≡ o → is_ok o ≡ true → Sums C D 0 0 0 1 h.reserved 0
    by (Ok s) here is = subst (λ (E : Catalog). Sums C E 0 0 0 1 h.reserved 0) (sym left) (after_cancel_sums C h s here)
    by (Err e) here is = absurd cc

-- all chunks of a checked-out session
pub chunks_long : (h : HandRecord) → sum_by length (chunks_of h) ≡ sum_by length h.chunks + filled_length h
chunks_long h = by h.last
  where
    by : (last : Option Text) → sum_by length (chunks_of (record h { last = last })) ≡ sum_by length h.chunks + filled_length (record h { last = last })
    by None = omega arith
    by (Some b) = received_length-with_chunk h.chunks b

pub filled_is : (h : HandRecord) → IfSome h.last (λ b. length b ≡ h.reserved) → h.last ≢ None → filled_length h ≡ h.reserved
filled_is h = by h.last
  where
    by : (last : Option Text) → IfSome last (λ b. length b ≡ h.reserved) → last ≢ None → filled_length (record h { last = last }) ≡ h.reserved
    by None fits some = absurd (some refl)
    by (Some b) fits some = fits

pub full_is : (h : HandRecord) → IfSome h.last (λ b. length b ≡ h.reserved) → HasNoOpenReserve h → filled_length h ≡ h.reserved
full_is h = by h.last
  where
    by : (last : Option Text) → IfSome last (λ b. length b ≡ h.reserved) → (last ≡ None → h.reserved ≡ 0) → filled_length (record h { last = last }) ≡ h.reserved
    by None fits full = sym (full refl)
    by (Some b) fits full = fits

pub unfilled_is : (h : HandRecord) → h.last ≡ None → filled_length h ≡ 0
unfilled_is h none = ap (λ (o : Option Text). option_map_or length o 0) none

pub put_back_sums : (C C' : Catalog) (h : HandRecord) (n : ℕ) → put_back C h ≡ Ok (n, C') → Sums C C' 0 0 (filled_length h) 1 h.reserved 0
put_back_sums C C' h n stepped =
    let a = bound_ok (put_back_outcome_in C.sessions h) _ (n, C') stepped in
    let b = bound_ok (session_of_hand (get C.sessions h.key) h) _ a.0 a.1 in
    let same : with_chunks C.sessions h.key b.0 (CheckedIn (chunks_of h)) ≡ a.0.1 = (ok_pair b.2).1 in
    let change = home_sums C h b.0 b.1 (chunks_of h) in
    let all = chunks_long h in
    let z = change.bytes in
    subst (λ (D : Catalog). Sums C D 0 0 (filled_length h) 1 h.reserved 0) ((λ i. record C { sessions = same i }) ∙ left_by a.2) (record { hands = change.hands; reserve = change.reserve; bytes = omega arith; setting = refl })

-- the bytes closed are those that the session had received and those of the last chunk
pub record Finished (C C' : Catalog) (h : HandRecord) (n : ℕ) : Type 0 where
  pub sums : Sums C C' 0 0 0 1 h.reserved (sum_by length h.chunks)
  pub size : n ≡ sum_by length h.chunks + h.reserved

pub finish_sums : (C C' : Catalog) (h : HandRecord) (digest : Text) (n : ℕ) → IsProper h → HasNoOpenReserve h → finish C h digest ≡ Ok (n, C') → Finished C C' h n
finish_sums C C' h digest n proper full stepped =
    let a = bound_ok (session_of_hand (get C.sessions h.key) h) _ (n, C') stepped in
    let b = bound_ok (refuse (not (is_digest_accepted C digest (hand_content h))) DigestInvalid) _ (n, C') a.2 in
    let share = bound_ok (check_share C h.key.0 digest) _ (n, C') b.2 in
    let d = bound_ok (has_slot C digest) _ (n, C') share.2 in
    let change = gone_sums C h a.0 a.1 in
    record {
      sums = subst (λ (D : Catalog). Sums C D 0 0 0 1 h.reserved (sum_by length h.chunks)) (left_by d.2) (record { hands = change.hands; reserve = change.reserve; bytes = change.bytes; setting = refl });
      size = sym (answer_by d.2) ∙ whole_long h proper full;
    }

-- a hand that matches no checked-out session changes nothing
pub unknown_stays : (C D : Catalog) (h : HandRecord) (digest : Text) → D ≡ after_cancel C h → finish C h digest ≡ Err UploadUnknown → D ≡ C
unknown_stays C D h digest left refused = by (session_of_hand (get C.sessions h.key) h) refl
  where
    not_unknown : {A : Type 0} (a b c : Bool) (x : A) → ◌≡◌ {A = Result A Refusal} (◌>>=◌ {B = A} (refuse a DigestInvalid) (λ _. ◌>>=◌ {B = A} (refuse b LimitReached) (λ _. ◌>>=◌ {B = A} (refuse c StoreFull) (λ _. Ok x)))) (Err UploadUnknown) → ⊥
    not_unknown true b c x e = absurd cc
    not_unknown false true c x e = absurd cc
    not_unknown false false true x e = absurd cc
    not_unknown false false false x e = absurd cc

    by : (o : Result Session Refusal) → session_of_hand (get C.sessions h.key) h ≡ o → D ≡ C
    by (Err e) here = left ∙ (λ i. record C { sessions = with_old_chunks C.sessions h (here i) })
    by (Ok s) here = absurd (not_unknown (not (is_digest_accepted C digest (hand_content h))) (passes_share C h.key.0 digest) (is_full_for C digest) _ (rw here at refused))
