-- The lengths of notes.
use Rattle.std.proofs.Common.{◌≡◌, ◌≤◌, ◌<◌, ◌-◌, ◌+◌, ◌*◌, ◌^◌, ℕ, List, [], ◌∷◌, ◌++◌, ap, arith, length, length-append, refl, subst, sym}
use Rattle.std.specs.Prelude.{drop, take}
use Rattle.std.specs.List.{flat_map}
use Rattle.std.proofs.lemmas.List.{length-drop}
use Prim.Native.Nat.{zero, suc}
use Rattle.content_files.specs.Chunks.{chunk_notes, cut_in, note_bytes}

cut-none : (n : ℕ) → cut_in n [] ≡ []
cut-none zero = refl
cut-none (suc n) = refl

-- one piece more, of 1 MiB at most
more : (n whole : ℕ) (piece rest : List ℕ) → 0 < whole → length rest ≡ whole - 1048576 → 65536 * length (flat_map note_bytes (cut_in n rest)) ≤ length rest + 1048575 → 65536 * length (note_bytes piece ++ flat_map note_bytes (cut_in n rest)) ≤ whole + 1048575
more n whole piece [] some left again = omega (arith, some, ap (λ (l : List (List ℕ)). length (flat_map note_bytes l)) (cut-none n), length-append (note_bytes piece) (flat_map note_bytes (cut_in n [])))
more n whole piece (x ∷ rest) some left again = omega (arith, left, again, length-append (note_bytes piece) (flat_map note_bytes (cut_in n (x ∷ rest))))

shorter : (len n : ℕ) (rest : List ℕ) → length rest ≡ len - 1048576 → len ≤ suc n → length rest ≤ n
shorter len n rest left within = omega (arith, left, within)

-- the notes of pieces are short next to them
notes_within : (n : ℕ) (bytes : List ℕ) → length bytes ≤ n → 65536 * length (flat_map note_bytes (cut_in n bytes)) ≤ length bytes + 1048575
notes_within zero bytes within = omega arith
notes_within (suc n) [] within = omega arith
notes_within (suc n) (b ∷ bytes) within =
    let left = length-drop 1048576 (b ∷ bytes) in
    more n (suc (length bytes)) (take 1048576 (b ∷ bytes)) (drop 1048576 (b ∷ bytes)) (omega arith) left (notes_within n (drop 1048576 (b ∷ bytes)) (shorter (suc (length bytes)) n (drop 1048576 (b ∷ bytes)) left within))

pub notes_length : (bytes : List ℕ) → 65536 * length (chunk_notes bytes) ≤ length bytes + 1048575
notes_length bytes = notes_within (length bytes) bytes (omega arith)

-- the notes of a chunk that fits into a body fit into one
pub notes_small : (bytes : List ℕ) → length bytes ≤ 2 ^ 40 → length (chunk_notes bytes) ≤ 2 ^ 40
notes_small bytes small = omega (arith, small, notes_length bytes)

pub notes_short : (bytes notes : List ℕ) → notes ≡ chunk_notes bytes → length bytes ≤ 2 ^ 40 → length notes ≤ 2 ^ 40
notes_short bytes notes are small = subst (λ (n : List ℕ). length n ≤ 2 ^ 40) (sym are) (notes_small bytes small)
