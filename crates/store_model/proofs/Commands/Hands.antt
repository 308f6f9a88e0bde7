-- A check-out, a check-in and a cancel keep a catalog sound.
use Rattle.std.proofs.Common.{◌≡◌, ◌≢◌, ℕ, ◌+◌, ◌≤◌, Bool, true, false, List, [], ◌∷◌, length, Option, Some, None, is_some, Ok, Err, refl, sym, ap, ◌∙◌, subst, arith, length-append}
use Rattle.std.specs.Prelude.{◌==◌, IfSome, if◌then◌else◌}
use Rattle.std.specs.List.{AllByRecursion, concat, sum_by}
use Rattle.std.specs.FinMap.{get}
use Rattle.std.proofs.lemmas.Bool.{and_parts, eqb-true, false≢true, ltb-false}
use Rattle.std.proofs.lemmas.List.Sums.{sum_by_push}
use Rattle.blob_digest.specs.declared.range.ByteRange.{ByteRange}
use Rattle.blob_digest.specs.declared.refusal.Refusal.TheVariants.{NameUnknown, UploadUnknown}
use Rattle.store_model.specs.Sessions.{are_of_hand, chunks_of, hand_in, not_busy, put_back_outcome_in, session_in, after_take_in, session_of_hand, hand_content, with_chunk, with_chunks, HasNoOpenReserve}
use Rattle.spec_lib.specs.Texts.{Text}
use Rattle.store_model.specs.Catalog.{Chunks, CheckedIn, CheckedOutWith, Session, HandRecord, Catalog, charged_length, quota_of, received_length, tenant_of, used_bytes}
use Rattle.store_model.specs.Commands.{chunk_length_check, put_back, take, tenant, check_quota}
use Rattle.store_model.specs.Invariant.{Sound}
use Rattle.store_model.proofs.Invariant.Chunks.{Sound-chunks}
use Rattle.store_model.proofs.Commands.Accepted.{answer_by, left_by, length-concat, length_fits, session_found}
use Rattle.spec_lib.proofs.Outcomes.{bound_ok, not_refused, some_of_ok, ok_pair}

-- a chunk's check succeeded: the session is of this repository, checked in, and has room for the bytes
pub record Checked (C : Catalog) (t number : ℕ) (repo : Text) (n : ℕ) : Type 0 where
  pub s : Session
  pub found : get C.sessions (t, number) ≡ Some s
  pub of_repo : s.repo ≡ repo
  pub chunks : List Text
  pub home : s.chunks ≡ CheckedIn chunks
  pub fits : received_length s + n ≤ C.contents.max_blob

pub home_chunks : (c : Chunks) (u : Unit {0}) → not_busy c ≡ Ok u → (chunks : List Text) × (c ≡ CheckedIn chunks)
home_chunks (CheckedIn chunks) u h = (chunks, refl)
home_chunks (CheckedOutWith n m) u h = absurd cc

pub checked_home : (C : Catalog) (t number : ℕ) (repo : Text) (range : Option ByteRange) (n after : ℕ) → chunk_length_check C t repo number range n ≡ Ok after → Checked C t number repo n
checked_home C t number repo range n after h =
    let a = bound_ok (session_in (get C.sessions (t, number)) repo) _ after h in
    let f = session_found (get C.sessions (t, number)) repo a.0 a.1 in
    let b = bound_ok (not_busy a.0.chunks) _ after a.2 in
    let home = home_chunks a.0.chunks b.0 b.1 in
    record { s = a.0; found = f.0; of_repo = f.1; chunks = home.0; home = home.1; fits = length_fits C.contents.max_blob (received_length a.0) n after range b.2 }

-- a checked-in session counts the bytes that it has received
pub home_charged : (s : Session) (chunks : List Text) → s.chunks ≡ CheckedIn chunks → charged_length s ≡ received_length s
home_charged s chunks home = rw home (omega arith)

module _ (C C' : Catalog) (repo : Text) (number n : ℕ) (range : Option ByteRange) (hand : HandRecord) (stepped : take C repo number range n ≡ Ok (hand, C')) where
  pub record TookIn : Type 0 where
    pub t : ℕ
    pub after : ℕ
    pub tenant_ok : tenant C repo ≡ Ok t
    pub check_ok : chunk_length_check C t repo number range n ≡ Ok after
    pub quota_ok : check_quota C t n ≡ Ok tt
    pub known : tenant_of C.tenants repo ≡ Some t
    pub checked : Checked C t number repo n
    pub within : used_bytes C t + n ≤ quota_of C t
    pub is : hand_in C.sessions (t, number) n ≡ hand
    pub left : record C { sessions = after_take_in C.sessions (t, number) n } ≡ C'

  pub took : TookIn
  took =
      let a = bound_ok (tenant C repo) _ (hand, C') stepped in
      let b = bound_ok (chunk_length_check C a.0 repo number range n) _ (hand, C') a.2 in
      let c = bound_ok (check_quota C a.0 n) _ (hand, C') b.2 in
      record {
        t = a.0;
        after = b.0;
        tenant_ok = a.1;
        check_ok = b.1;
        quota_ok = c.1;
        known = some_of_ok (tenant_of C.tenants repo) NameUnknown a.0 a.1;
        checked = checked_home C a.0 number repo range n b.0 b.1;
        within = ltb-false (quota_of C a.0) (used_bytes C a.0 + n) (not_refused _ _ _ c.1);
        is = answer_by c.2;
        left = left_by c.2;
      }

  pub Sound-after_take : Sound C → Sound C'
  Sound-after_take sound =
      let p = took in
      let s = p.checked.s in
      let same : after_take_in C.sessions (p.t, number) n ≡ with_chunks C.sessions (p.t, number) s (CheckedOutWith (received_length s) n) = rw p.checked.found refl in
      let before = home_charged s p.checked.chunks p.checked.home in
      let within = p.within in
      subst (λ (D : Catalog). Sound D) ((λ i. record C { sessions = sym same i }) ∙ p.left)
      (Sound-chunks C (p.t, number) s (CheckedOutWith (received_length s) n) p.checked.found tt p.checked.fits (λ _. omega (arith, before, within)) sound)

-- ---- check-ins

-- facts about the hand of a checked-out session
pub taken_found : (o : Option Session) (h : HandRecord) (s : Session) → session_of_hand o h ≡ Ok s → (o ≡ Some s) × (s.chunks ≡ CheckedOutWith (sum_by length h.chunks) h.reserved)
taken_found None h s e = absurd cc
taken_found (Some x) h s e = by (are_of_hand h x.chunks) refl e
  where
    checked_out_count : (c : Chunks) → are_of_hand h c ≡ true → c ≡ CheckedOutWith (sum_by length h.chunks) h.reserved
    checked_out_count (CheckedIn chunks) is = absurd (false≢true is)
    checked_out_count (CheckedOutWith n m) is =
        let both = and_parts (n == sum_by length h.chunks) (m == h.reserved) is in
        λ i. CheckedOutWith (eqb-true n (sum_by length h.chunks) both.0 i) (eqb-true m h.reserved both.1 i)

    by : (b : Bool) → are_of_hand h x.chunks ≡ b → (if b then Ok x else Err UploadUnknown) ≡ Ok s → (Some x ≡ Some s) × (s.chunks ≡ CheckedOutWith (sum_by length h.chunks) h.reserved)
    by true is e = let same : x ≡ s = cc in (ap (λ (y : Session). Some y) same, ap (λ (y : Session). y.chunks) (sym same) ∙ checked_out_count x.chunks is)
    by false is e = absurd cc

-- the invariant of hands: no chunk is empty, and the last has the reserved length
pub record IsProper (h : HandRecord) : Type 0 where
  pub pieces : AllByRecursion (λ c. c ≢ []) h.chunks
  pub last : IfSome h.last (λ b. length b ≡ h.reserved)

nonempty_last : (chunks : List Text) (b : Text) → AllByRecursion (λ c. c ≢ []) chunks → AllByRecursion (λ c. c ≢ []) (with_chunk chunks b)
nonempty_last chunks [] all = all
nonempty_last [] (x ∷ b) all = ((λ e. absurd cc), tt)
nonempty_last (c ∷ chunks) (x ∷ b) all = (all.0, nonempty_last chunks (x ∷ b) all.1)

pub received_length-with_chunk : (chunks : List Text) (b : Text) → sum_by length (with_chunk chunks b) ≡ sum_by length chunks + length b
received_length-with_chunk chunks [] = omega arith
received_length-with_chunk chunks (x ∷ b) = sum_by_push length chunks (x ∷ b)

-- a hand's chunks count at most the bytes received and reserved, and exactly these once it is filled
pub all_chunks : (h : HandRecord) → IsProper h → AllByRecursion (λ c. c ≢ []) (chunks_of h)
all_chunks h proper = by h.last
  where
    by : (last : Option Text) → AllByRecursion (λ c. c ≢ []) (chunks_of (record h { last = last }))
    by None = proper.pieces
    by (Some b) = nonempty_last h.chunks b proper.pieces

-- the bytes reserved and not filled in
abbrev pub spare : HandRecord → ℕ
spare h = elim h.last [ None ↦ h.reserved | Some b ↦ 0 ]

pub spare_filled : (h : HandRecord) → is_some h.last ≡ true → spare h ≡ 0
spare_filled h = by h.last
  where
    by : (last : Option Text) → is_some last ≡ true → spare (record h { last = last }) ≡ 0
    by None filled = absurd (false≢true filled)
    by (Some b) filled = refl

pub spare_unfilled : (h : HandRecord) → is_some h.last ≡ false → spare h ≡ h.reserved
spare_unfilled h = by h.last
  where
    by : (last : Option Text) → is_some last ≡ false → spare (record h { last = last }) ≡ h.reserved
    by None filled = refl
    by (Some b) filled = absurd (false≢true (sym filled))

pub spare_is : (h : HandRecord) → IsProper h → sum_by length (chunks_of h) + spare h ≡ sum_by length h.chunks + h.reserved
spare_is h proper = by h.last proper.last
  where
    by : (last : Option Text) → IfSome last (λ b. length b ≡ h.reserved) → sum_by length (chunks_of (record h { last = last })) + spare (record h { last = last }) ≡ sum_by length h.chunks + h.reserved
    by None fits = refl
    by (Some b) fits = let sum = received_length-with_chunk h.chunks b in omega (arith, fits)

-- all bytes of a hand that is full are as many as were received and reserved
pub whole_long : (h : HandRecord) → IsProper h → HasNoOpenReserve h → length (hand_content h) ≡ sum_by length h.chunks + h.reserved
whole_long h proper full = by h.last proper.last full
  where
    by : (last : Option Text) → IfSome last (λ b. length b ≡ h.reserved) → (last ≡ None → h.reserved ≡ 0) → length (hand_content (record h { last = last })) ≡ sum_by length h.chunks + h.reserved
    by None fits empty = length-append (concat h.chunks) [] ∙ (let sum = length-concat h.chunks in let none = empty refl in omega (arith, sum, none))
    by (Some b) fits empty = length-append (concat h.chunks) b ∙ (let sum = length-concat h.chunks in omega (arith, sum, fits))

module _ (C : Catalog) (h : HandRecord) (proper : IsProper h) (s : Session) (here : session_of_hand (get C.sessions h.key) h ≡ Ok s) where
  f : (get C.sessions h.key ≡ Some s) × (s.chunks ≡ CheckedOutWith (sum_by length h.chunks) h.reserved)
  f = taken_found (get C.sessions h.key) h s here

  checked_out_count : charged_length s ≡ sum_by length h.chunks + h.reserved
  checked_out_count = rw f.1 refl

  -- all chunks, or only the old ones, are checked in
  pub Sound-home : (chunks : List Text) → AllByRecursion (λ c. c ≢ []) chunks → sum_by length chunks ≤ sum_by length h.chunks + h.reserved → Sound C → Sound (record C { sessions = with_chunks C.sessions h.key s (CheckedIn chunks) })
  Sound-home chunks nonempty less sound =
      let was = checked_out_count in
      let small = (sound.lawful.sessions h.key s f.0).small in
      let counts : charged_length (record s { chunks = CheckedIn chunks }) ≡ sum_by length chunks = omega arith in
      Sound-chunks C h.key s (CheckedIn chunks) f.0 nonempty (omega (arith, was, small, less, counts)) (λ there. let keeps = sound.quotas h.key.0 there in omega (arith, was, less, counts, keeps)) sound

pub Sound-after_put_back : (C C' : Catalog) (h : HandRecord) (n : ℕ) → IsProper h → put_back C h ≡ Ok (n, C') → Sound C → Sound C'
Sound-after_put_back C C' h n proper stepped sound =
    let a = bound_ok (put_back_outcome_in C.sessions h) _ (n, C') stepped in
    let b = bound_ok (session_of_hand (get C.sessions h.key) h) _ a.0 a.1 in
    let same : with_chunks C.sessions h.key b.0 (CheckedIn (chunks_of h)) ≡ a.0.1 = (ok_pair b.2).1 in
    let sum = spare_is h proper in
    subst (λ (D : Catalog). Sound D) ((λ i. record C { sessions = same i }) ∙ left_by a.2)
    (Sound-home C h proper b.0 b.1 (chunks_of h) (all_chunks h proper) (omega arith) sound)
