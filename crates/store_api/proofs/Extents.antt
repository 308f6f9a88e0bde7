-- What a reader gets for an extent.
use Rattle.std.proofs.Common.{◌≡◌, ◌≤◌, ◌<◌, ◌+◌, ◌-◌, ◌∙◌, ◌⊎◌, ◌∷◌, [], ℕ, Bool, List, true, false, ap, arith, drop, inl, inr, length, refl, sym, take}
use Rattle.std.proofs.lemmas.Bool.{cases_lt}
use Rattle.std.proofs.lemmas.List.{append-nil, drop_all, length-drop, take_all}
use Rattle.content_files.specs.Parts.{IsPart}
use Rattle.content_files.proofs.Parts.{as_long}
use Rattle.spec_lib.specs.Texts.{Text}
use Rattle.store_api.specs.LeaseViews.{Extent, IsPieceRead, bytes_between, stored_bytes}

-- a reader gets the bytes that are in memory
pub read_in_memory : (on_disk : Bool) (x : Extent) (piece : Text) → piece ≡ stored_bytes x → IsPieceRead on_disk x piece
read_in_memory false x piece is = is
read_in_memory true x piece is = (
  x.content,
  record {
    pieces = x.content ∷ [];
    givens = x.content ∷ [];
    whole = sym (append-nil x.content);
    same = sym (append-nil x.content);
    each = (refl, tt);
  },
  is,
)

-- a content has no bytes behind its end
pub read_behind : (on_disk : Bool) (x : Extent) (piece : Text) → length x.content ≤ x.start → piece ≡ [] → IsPieceRead on_disk x piece
read_behind on_disk x piece behind none =
    let nothing : stored_bytes x ≡ [] = ap (take (x.end - x.start + 1)) (drop_all x.start x.content behind) ∙ take_all (x.end - x.start + 1) [] (omega arith) in
    read_in_memory on_disk x piece (none ∙ sym nothing)

ends_by : (bytes : Text) (start end last : ℕ) → start ≤ end → (end < length bytes → last ≡ end + 1) → (length bytes ≤ end → last ≡ length bytes) → (end < length bytes) ⊎ (length bytes ≤ end) →
    take (last - start) (drop start bytes) ≡ bytes_between bytes start end
ends_by bytes start end last ordered short long (inl within) =
    let count : last - start ≡ end - start + 1 = omega (arith, ordered, short within) in
    ap (λ n. take n (drop start bytes)) count
ends_by bytes start end last ordered short long (inr behind) =
    take_all (last - start) (drop start bytes) (omega (arith, long behind, length-drop start bytes))
    ∙ sym (take_all (end - start + 1) (drop start bytes) (omega (arith, ordered, behind, length-drop start bytes)))

-- the bytes up to the first place behind the extent, or to the end
ends : (bytes : Text) (start end last : ℕ) → start ≤ end → (end < length bytes → last ≡ end + 1) → (length bytes ≤ end → last ≡ length bytes) → take (last - start) (drop start bytes) ≡ bytes_between bytes start end
ends bytes start end last ordered short long = ends_by bytes start end last ordered short long (cases_lt end (length bytes))

-- a reader gets the part of the content that was read up to there
pub read_part : (on_disk : Bool) (x : Extent) (last : ℕ) (piece : Text) → x.start ≤ x.end → (x.end < length x.content → last ≡ x.end + 1) → (length x.content ≤ x.end → last ≡ length x.content) →
    IsPart on_disk x.content x.start last piece → IsPieceRead on_disk x piece
read_part false x last piece ordered short long part = part ∙ ends x.content x.start x.end last ordered short long
read_part true x last piece ordered short long part =
    let read = part.1 in
    let size : length x.content ≡ length part.0 = ap length read.whole ∙ as_long read.pieces read.givens read.each ∙ ap length (sym read.same) in
    (part.0, read, part.2 ∙ ends part.0 x.start x.end last ordered (λ within. short (omega (arith, within, size))) (λ behind. long (omega (arith, behind, size)) ∙ size))
