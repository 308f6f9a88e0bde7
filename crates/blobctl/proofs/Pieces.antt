-- Lemmas on a text that lies in pieces.
use Rattle.std.proofs.Common.{◌≡◌, ◌≤◌, ◌++◌, ◌∷◌, [], ◌∙◌, ℕ, zero, suc, List, Vec, length, drop, get_or, set, ap, sym, arith, append_assoc, append-nil, length-append}
use Rattle.std.proofs.lemmas.List.{drop-append-le}
use Rattle.std.specs.declared.alloc.Global.{Global}
use Rattle.blobctl.specs.Pieces.{bytes_in, IsPlaceInPieces}

-- one more piece
pub bytes_in-append : (pieces : List (Vec ℕ Global)) (piece : Vec ℕ Global) → bytes_in (pieces ++ piece ∷ []) ≡ bytes_in pieces ++ piece.items
bytes_in-append [] piece = append-nil piece.items
bytes_in-append (first ∷ rest) piece = ap (λ x. first.items ++ x) (bytes_in-append rest piece) ∙ sym (append_assoc first.items (bytes_in rest) piece.items)

-- more bytes in the last piece
pub bytes_in-set : (pieces : List (Vec ℕ Global)) (k : ℕ) (old new : Vec ℕ Global) (more : List ℕ) → suc k ≡ length pieces → old ≡ get_or pieces k old → new.items ≡ old.items ++ more
    → bytes_in (set pieces k new) ≡ bytes_in pieces ++ more
bytes_in-set [] k old new more last here grown = absurd (omega (arith, last))
bytes_in-set (first ∷ []) zero old new more last here grown =
    append-nil new.items ∙ grown ∙ ap (λ x. x.items ++ more) here ∙ ap (λ x. x ++ more) (sym (append-nil first.items))
bytes_in-set (first ∷ next ∷ rest) zero old new more last here grown = absurd (omega (arith, last))
bytes_in-set (first ∷ rest) (suc k) old new more last here grown =
    ap (λ x. first.items ++ x) (bytes_in-set rest k old new more (omega (arith, last)) here grown) ∙ sym (append_assoc first.items (bytes_in rest) more)

-- the place is within the text
pub within : (place : ℕ) (pieces : List (Vec ℕ Global)) → IsPlaceInPieces place pieces → place ≤ length (bytes_in pieces)
within place [] h = omega (arith, h)
within place (first ∷ rest) h = omega (arith, h.0, length-append first.items (bytes_in rest))

-- added bytes are left to read after the others
pub left-more : (place : ℕ) (old new : List (Vec ℕ Global)) (more : List ℕ) → IsPlaceInPieces place old → bytes_in new ≡ bytes_in old ++ more
    → drop place (bytes_in new) ≡ drop place (bytes_in old) ++ more
left-more place old new more h grown = ap (drop place) grown ∙ drop-append-le place (bytes_in old) more (within place old h)
