-- Heads of later frames, by what was searched.
use Rattle.std.proofs.Common.{◌≡◌, ◌<◌, ◌≤◌, ◌+◌, ◌^◌, ◌-◌, ℕ, true, false, List, [], ◌++◌, ◌∙◌, ap, refl, sym, subst, arith, length, length-take-le, take, drop, take_at, drop_at, take-append-drop, append_assoc, append-nil, Option, Some, None, inl, inr}
use Rattle.std.proofs.lemmas.Bool.{cases_lt}
use Rattle.std.proofs.lemmas.List.{length-append, length-drop, take-append-le, take-take}
use Rattle.std.proofs.lemmas.Nat.{from_le_bytes-to_le_bytes_8}
use Rattle.std.specs.Int.{w64, from_le_bytes, to_le_bytes}
use Rattle.std.specs.Io.KnownBytes.{Consumes, IsAtEnd}
use Rattle.std.proofs.KnownBytes.{Consumes-nil, Consumes-trans}
use Rattle.std.specs.Option.{is_some}
use Rattle.std.specs.List.{copy_within}
use lib.Seq.{take-add, take-paste}
use Rattle.log_frames.specs.Frames.{head_bytes, head_fields}
use Rattle.log_frames.specs.Heads.{HasNoHead, IsHeadOf}
use Rattle.log_frames.specs.Reads.{HasRoomFor}
use Rattle.log_frames.specs.Scans.{Finds, FindsAtFront, FindsIn, HasNoLaterHead, IsFrontHead, IsLaterHead}
use Rattle.log_frames.specs.Sums.{tagged}
use Rattle.log_frames.specs.declared.head.FrameHead.{FrameHead}
use Rattle.log_frames.proofs.Apart.{apart, fits_of, head_len, heads_apart}

-- what is no longer than the front begins it
pub cut_front : (xs rest front back : List ℕ) → length xs ≤ length front → xs ++ rest ≡ front ++ back → (xs ≡ take (length xs) front) × (rest ≡ drop (length xs) front ++ back)
cut_front xs rest front back le e =
    let split : front ++ back ≡ take (length xs) front ++ (drop (length xs) front ++ back) = ap (λ t. t ++ back) (sym (take-append-drop (length xs) front)) ∙ append_assoc (take (length xs) front) (drop (length xs) front) back in
    apart xs (take (length xs) front) rest (drop (length xs) front ++ back) (sym (length-take-le (length xs) front le)) (e ∙ split)

-- ---- at the front

place_first : (id : ℕ) (h : FrameHead) → take 8 (head_bytes id h) ≡ to_le_bytes w64 h.place
unfolding tagged head_fields
place_first id h = refl

-- another place
pub other_number : (id limit place number : ℕ) (bytes rest : List ℕ) → number < 2 ^ 64 → bytes ≡ to_le_bytes w64 number ++ rest → (number ≡ place → ⊥) → FindsAtFront id limit place bytes None
other_number id limit place number bytes rest low is other = λ h w.
    let first : take 8 bytes ≡ to_le_bytes w64 number = ap (take 8) is ∙ take_at (to_le_bytes w64 number) rest 8 refl in
    let place_is : take 8 bytes ≡ to_le_bytes w64 h.place = ap (take 8) w.whole ∙ take-append-le 8 (head_bytes id h) w.rest (omega (arith, head_len id h)) ∙ place_first id h in
    let same : number ≡ h.place = sym (from_le_bytes-to_le_bytes_8 number low) ∙ ap (from_le_bytes w64) (sym first ∙ place_is) ∙ from_le_bytes-to_le_bytes_8 h.place (fits_of h w.head).place in
    other (same ∙ w.here)

front_is : (id : ℕ) (h : FrameHead) (bytes rest : List ℕ) → bytes ≡ head_bytes id h ++ rest → take 32 bytes ≡ head_bytes id h
front_is id h bytes rest is = ap (take 32) is ∙ take_at (head_bytes id h) rest 32 (head_len id h)

-- no head
pub none_there : (id limit place : ℕ) (bytes front : List ℕ) → front ≡ take 32 bytes → HasNoHead id front → FindsAtFront id limit place bytes None
none_there id limit place bytes front is none = λ h w. none h w.head (is ∙ front_is id h bytes w.rest w.whole)

-- an earlier head
pub earlier : (id limit place : ℕ) (bytes front : List ℕ) (k : FrameHead) → front ≡ take 32 bytes → IsHeadOf id front k → k.synced ≤ limit → FindsAtFront id limit place bytes None
earlier id limit place bytes front k is head low = λ h w.
    let same : head_bytes id k ++ [] ≡ head_bytes id h ++ [] = ap (λ t. t ++ []) (sym head.whole ∙ is ∙ front_is id h bytes w.rest w.whole) in
    let heads = heads_apart id k h [] [] head.head w.head same in
    omega (arith, low, w.later, ap (λ (x : FrameHead). x.synced) heads.0)

-- a later head
pub at_front : (id limit place number : ℕ) (bytes rest front : List ℕ) (k : FrameHead) → number < 2 ^ 64 → bytes ≡ to_le_bytes w64 number ++ rest → number ≡ place → front ≡ take 32 bytes → IsHeadOf id front k → limit < k.synced → IsFrontHead id limit place bytes k
at_front id limit place number bytes rest front k low is same front_eq head later =
    let split : bytes ≡ head_bytes id k ++ drop 32 bytes = sym (take-append-drop 32 bytes) ∙ ap (λ t. t ++ drop 32 bytes) (sym front_eq ∙ head.whole) in
    let first : take 8 bytes ≡ to_le_bytes w64 number = ap (take 8) is ∙ take_at (to_le_bytes w64 number) rest 8 refl in
    let place_is : take 8 bytes ≡ to_le_bytes w64 k.place = ap (take 8) split ∙ take-append-le 8 (head_bytes id k) (drop 32 bytes) (omega (arith, head_len id k)) ∙ place_first id k in
    let equal : k.place ≡ number = sym (from_le_bytes-to_le_bytes_8 k.place (fits_of k head.head).place) ∙ ap (from_le_bytes w64) (sym place_is ∙ first) ∙ from_le_bytes-to_le_bytes_8 number low in
    record { rest = drop 32 bytes; head = head.head; whole = split; here = equal ∙ same; later = later }

-- ---- within bytes

-- each later head stands behind what was passed
abbrev pub StandsBehind : ℕ → ℕ → ℕ → List ℕ → ℕ → Type 0
StandsBehind id limit place bytes n = (h : FrameHead) (w : IsLaterHead id limit place bytes h) → n ≤ length w.front

-- a head at the front of the rest
pub found_in : (id limit place at : ℕ) (bytes passed rest : List ℕ) (found : Option FrameHead) → bytes ≡ passed ++ rest → at ≡ place + length passed → FindsAtFront id limit at rest found → is_some found ≡ true → Finds id limit place bytes found
found_in id limit place at bytes passed rest None is here finds some = absurd cc
found_in id limit place at bytes passed rest (Some h) is here finds some =
    record { front = passed; rest = finds.rest; head = finds.head; whole = is ∙ ap (λ t. passed ++ t) finds.whole; here = finds.here ∙ here; later = finds.later }

-- one byte more was passed
pub one_passed : (id limit place at : ℕ) (bytes passed rest : List ℕ) (found : Option FrameHead) → bytes ≡ passed ++ rest → at ≡ place + length passed → FindsAtFront id limit at rest found → is_some found ≡ false → StandsBehind id limit place bytes (length passed) → StandsBehind id limit place bytes (length passed + 1)
one_passed id limit place at bytes passed rest (Some h) is here finds none before = absurd cc
one_passed id limit place at bytes passed rest None is here finds none before = λ h w.
    elim (cases_lt (length passed) (length w.front)) [
      | inl less ↦ omega (arith, less)
      | inr most ↦
          let len : length passed ≡ length w.front = omega (arith, most, before h w) in
          let both = apart passed w.front rest (head_bytes id h ++ w.rest) len (sym is ∙ w.whole) in
          absurd (finds h (record { rest = w.rest; head = w.head; whole = both.1; here = w.here ∙ omega (arith, here, len); later = w.later }))
    ]

-- fewer bytes than a head are left
pub none_in : (id limit place : ℕ) (bytes passed rest : List ℕ) → bytes ≡ passed ++ rest → length rest < 32 → StandsBehind id limit place bytes (length passed) → HasNoLaterHead id limit place bytes
none_in id limit place bytes passed rest is short before = λ h w.
    omega (arith, before h w, short, ap length is, length-append passed rest, ap length w.whole, length-append w.front (head_bytes id h ++ w.rest), length-append (head_bytes id h) w.rest, head_len id h)

-- ---- within a log that is read piece by piece

regroup : (p f h r m : List ℕ) → (p ++ (f ++ (h ++ r))) ++ m ≡ (p ++ f) ++ (h ++ (r ++ m))
regroup p f h r m = simp append_assoc

-- a head in the window
pub found_in_window : (id place at : ℕ) (passed window more : List ℕ) (h : FrameHead) → at ≡ place + length passed → IsLaterHead id place at window h → IsLaterHead id place place ((passed ++ window) ++ more) h
found_in_window id place at passed window more h here w =
    record {
      front = passed ++ w.front;
      rest = w.rest ++ more;
      head = w.head;
      whole = ap (λ t. (passed ++ t) ++ more) w.whole ∙ regroup passed w.front (head_bytes id h) w.rest more;
      here = omega (arith, w.here, here, length-append passed w.front);
      later = w.later;
    }

-- whatever follows the window, each later head stands behind what was passed
abbrev pub StandsBehindWindow : ℕ → ℕ → List ℕ → List ℕ → Type 0
StandsBehindWindow id place passed window = (more : List ℕ) → StandsBehind id place place ((passed ++ window) ++ more) (length passed)

pub at_first : (id place : ℕ) (window : List ℕ) → StandsBehindWindow id place [] window
at_first id place window = λ more h w. omega arith

-- a head within the window
within : (id place at : ℕ) (passed window more : List ℕ) (h : FrameHead) (w : IsLaterHead id place place ((passed ++ window) ++ more) h) → at ≡ place + length passed → length passed ≤ length w.front → length w.front + 32 ≤ length passed + length window → IsLaterHead id place at window h
within id place at passed window more h w here low high =
    let behind = cut_front passed (window ++ more) w.front (head_bytes id h ++ w.rest) low (sym (append_assoc passed window more) ∙ w.whole) in
    let front : List ℕ = drop (length passed) w.front in
    let len : length (front ++ head_bytes id h) ≤ length window = omega (arith, high, length-append front (head_bytes id h), head_len id h, length-drop (length passed) w.front) in
    let ahead = cut_front (front ++ head_bytes id h) w.rest window more len (append_assoc front (head_bytes id h) w.rest ∙ sym behind.1) in
    let n = length (front ++ head_bytes id h) in
    record {
      front = front;
      rest = drop n window;
      head = w.head;
      whole = sym (take-append-drop n window) ∙ ap (λ t. t ++ drop n window) (sym ahead.0) ∙ append_assoc front (head_bytes id h) (drop n window);
      here = omega (arith, w.here, here, low, length-drop (length passed) w.front);
      later = w.later;
    }

-- the window moves on
pub moved : (id place at : ℕ) (passed first kept new : List ℕ) → at ≡ place + length passed → (0 < length first → length kept ≡ 31) → HasNoLaterHead id place at (first ++ kept) → StandsBehindWindow id place passed (first ++ kept) → StandsBehindWindow id place (passed ++ first) (kept ++ new)
moved id place at passed first kept new here full none before = λ more h w.
    let all : ((passed ++ first) ++ (kept ++ new)) ++ more ≡ (passed ++ (first ++ kept)) ++ (new ++ more) = simp append_assoc in
    let v : IsLaterHead id place place ((passed ++ (first ++ kept)) ++ (new ++ more)) h = record { front = w.front; rest = w.rest; head = w.head; whole = sym all ∙ w.whole; here = w.here; later = w.later } in
    let low : length passed ≤ length w.front = before (new ++ more) h v in
    elim (cases_lt (length w.front) (length (passed ++ first))) [
      | inl less ↦
          let some : 0 < length first = omega (arith, less, low, length-append passed first) in
          absurd (none h (within id place at passed (first ++ kept) (new ++ more) h v here low (omega (arith, less, length-append passed first, length-append first kept, full some))))
      | inr most ↦ most
    ]

-- nothing is left behind the window
pub none_left : (id place : ℕ) (passed window : List ℕ) → length window < 32 → StandsBehindWindow id place passed window → HasNoLaterHead id place place (passed ++ window)
none_left id place passed window short before = λ h w.
    let v : IsLaterHead id place place ((passed ++ window) ++ []) h = record { front = w.front; rest = w.rest; head = w.head; whole = append-nil (passed ++ window) ∙ w.whole; here = w.here; later = w.later } in
    omega (arith, before [] h v, short, length-append passed window, ap length w.whole, length-append w.front (head_bytes id h ++ w.rest), length-append (head_bytes id h) w.rest, head_len id h)

-- ---- with an input

pub found_there : (id place at : ℕ) (start gone passed window : List ℕ) (a b : Option (List ℕ)) (found : Option FrameHead) → Consumes a b gone → start ++ gone ≡ passed ++ window → at ≡ place + length passed → Finds id place at window found → is_some found ≡ true → FindsIn id place start a found
found_there id place at start gone passed window None b found read is here finds some = tt
found_there id place at start gone passed window (Some xs) None found read is here finds some = absurd read
found_there id place at start gone passed window (Some xs) (Some ys) None read is here finds some = absurd cc
found_there id place at start gone passed window (Some xs) (Some ys) (Some h) read is here finds some =
    let all : (passed ++ window) ++ ys ≡ start ++ xs = ap (λ t. t ++ ys) (sym is) ∙ append_assoc start gone ys ∙ ap (λ t. start ++ t) (sym read) in
    subst (λ (t : List ℕ). IsLaterHead id place place t h) all (found_in_window id place at passed window ys h here finds)

pub none_found : (id place : ℕ) (start gone passed window : List ℕ) (a b : Option (List ℕ)) → Consumes a b gone → IsAtEnd b → start ++ gone ≡ passed ++ window → length window < 32 → StandsBehindWindow id place passed window → FindsIn id place start a None
none_found id place start gone passed window None b read end is short before = tt
none_found id place start gone passed window (Some xs) None read end is short before = absurd read
none_found id place start gone passed window (Some xs) (Some ys) read end is short before =
    let all : start ++ xs ≡ passed ++ window = ap (λ t. start ++ t) (read ∙ ap (λ t. gone ++ t) end ∙ append-nil gone) ∙ is in
    subst (HasNoLaterHead id place place) (sym all) (none_left id place passed window short before)

pub room_on : (count n : ℕ) (start gone passed window : List ℕ) (a b : Option (List ℕ)) (old mid new : ℕ) → Consumes a b gone → start ++ gone ≡ passed ++ window → length start ≡ count → n ≤ length window → HasRoomFor count a old mid → HasRoomFor n b mid new → HasRoomFor count a old new
room_on count n start gone passed window None b old mid new read is len least before now = tt
room_on count n start gone passed window (Some xs) None old mid new read is len least before now = absurd read
room_on count n start gone passed window (Some xs) (Some ys) old mid new read is len least before now =
    omega (arith, before, now, least, len, ap length read, length-append gone ys, ap length is, length-append start gone, length-append passed window)

pub none_of : (id limit place : ℕ) (bytes : List ℕ) (found : Option FrameHead) → is_some found ≡ false → Finds id limit place bytes found → HasNoLaterHead id limit place bytes
none_of id limit place bytes None none finds = finds
none_of id limit place bytes (Some h) none finds = absurd cc

-- ---- the window of a search

pub record Window (id : ℕ) (place : ℕ) (at : ℕ) (start gone passed window : List ℕ) (a b : Option (List ℕ)) : Type 0 where
  pub read : Consumes a b gone
  pub same : start ++ gone ≡ passed ++ window
  pub here : at ≡ place + length passed
  pub behind : StandsBehindWindow id place passed window

pub first_window : (id place : ℕ) (start : List ℕ) (a : Option (List ℕ)) → Window id place place start [] [] start a a
first_window id place start a = record { read = Consumes-nil a; same = append-nil start; here = omega arith; behind = at_first id place start }

-- the bytes that are kept
kept_is : (filled kept : ℕ) (b : List ℕ) → kept ≤ filled → filled ≤ length b → take kept (copy_within b (filled - kept) filled 0) ≡ drop (filled - kept) (take filled b)
kept_is filled kept b le held =
    let n = filled - kept in
    let count : filled - n ≡ kept = omega (arith, le) in
    let all : n + kept ≡ filled = omega (arith, le) in
    let none : filled - n ≡ 0 + (filled - n) = omega arith in
    let pasted : take (filled - n) (copy_within b n filled 0) ≡ take (filled - n) (drop n b) = ap (λ k. take k (copy_within b n filled 0)) none ∙ take-paste b 0 (drop n b) (filled - n) (omega arith) (omega (arith, held, length-drop n b)) in
    let whole : take filled b ≡ take n b ++ take kept (drop n b) = ap (λ k. take k b) (sym all) ∙ take-add n kept b in
    ap (λ k. take k (copy_within b n filled 0)) (sym count) ∙ pasted ∙ ap (λ k. take k (drop n b)) count ∙ sym (ap (drop n) whole ∙ drop_at (take n b) (take kept (drop n b)) n (length-take-le n b (omega (arith, held, le))))

next_window : (filled kept filled2 : ℕ) (b c d : List ℕ) → kept ≤ filled → filled ≤ length b → c ≡ copy_within b (filled - kept) filled 0 → take kept d ≡ take kept c → kept ≤ filled2 → take filled2 d ≡ drop (filled - kept) (take filled b) ++ drop kept (take filled2 d)
next_window filled kept filled2 b c d le held copied same more =
    let front : take kept (take filled2 d) ≡ drop (filled - kept) (take filled b) = take-take kept filled2 d more ∙ same ∙ ap (take kept) copied ∙ kept_is filled kept b le held in
    sym (take-append-drop kept (take filled2 d)) ∙ ap (λ t. t ++ drop kept (take filled2 d)) front

pub moved_window : (id place at filled kept filled2 : ℕ) (start gone passed b c d : List ℕ) (x y z : Option (List ℕ)) → Window id place at start gone passed (take filled b) x y → kept ≤ filled → (kept < filled → kept ≡ 31) → filled ≤ length b → c ≡ copy_within b (filled - kept) filled 0 → take kept d ≡ take kept c → kept ≤ filled2
    → HasNoLaterHead id place at (take filled b) → Consumes y z (drop kept (take filled2 d)) → Window id place (at + (filled - kept)) start (gone ++ drop kept (take filled2 d)) (passed ++ take (filled - kept) (take filled b)) (take filled2 d) x z
moved_window id place at filled kept filled2 start gone passed b c d x y z w le full held copied same more none read =
    let n = filled - kept in
    let window : List ℕ = take filled b in
    let first : List ℕ = take n window in
    let rest : List ℕ = drop n window in
    let new : List ℕ = drop kept (take filled2 d) in
    let split : first ++ rest ≡ window = take-append-drop n window in
    let next : take filled2 d ≡ rest ++ new = next_window filled kept filled2 b c d le held copied same more in
    let len : length window ≡ filled = length-take-le filled b held in
    let first_len : length first ≡ n = length-take-le n window (omega (arith, len)) in
    let rest_len : length rest ≡ kept = omega (arith, length-drop n window, len, le) in
    let regrouped : (passed ++ (first ++ rest)) ++ new ≡ (passed ++ first) ++ (rest ++ new) = simp append_assoc in
    let on = moved id place at passed first rest new w.here (λ some. omega (arith, some, first_len, rest_len, full)) (subst (HasNoLaterHead id place at) (sym split) none) (subst (StandsBehindWindow id place passed) (sym split) w.behind) in
    record {
      read = Consumes-trans x y z gone new w.read read;
      same = sym (append_assoc start gone new) ∙ ap (λ t. t ++ new) (w.same ∙ ap (λ t. passed ++ t) (sym split)) ∙ regrouped ∙ ap (λ t. (passed ++ first) ++ t) (sym next);
      here = omega (arith, w.here, first_len, length-append passed first);
      behind = subst (StandsBehindWindow id place (passed ++ first)) (sym next) on;
    }

pub room_first : (count : ℕ) (a : Option (List ℕ)) (n : ℕ) → HasRoomFor count a n n
room_first count None n = tt
room_first count (Some xs) n = omega arith
