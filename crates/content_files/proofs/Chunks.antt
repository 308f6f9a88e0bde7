-- The pieces of a chunk, one after another, and their notes.
use Rattle.std.proofs.Common.{◌≡◌, ◌≤◌, ◌<◌, ◌-◌, ◌%◌, ◌^◌, ◌∙◌, ℕ, List, [], ◌∷◌, ◌++◌, ap, arith, length, refl, sym}
use Rattle.std.specs.Prelude.{Err, Ok, OnOk, Result, drop, take}
use Rattle.std.specs.Int.{w64, to_le_bytes}
use Rattle.std.specs.List.{flat_map}
use Rattle.std.proofs.lemmas.List.{append_assoc, append-nil, length-drop}
use Prim.Native.Nat.{zero, suc}
use Rattle.content_files.specs.Chunks.{chunk_notes, cut_in, note_bytes}
use Rattle.content_files.specs.Notes.{PieceNote, note_of, piece_sum}
use Rattle.content_files.specs.Shown.{note_shown}
use Rattle.content_files.specs.declared.note.Note.{Note}

-- no bytes have no pieces
cut-none : (n : ℕ) → cut_in n [] ≡ []
cut-none zero = refl
cut-none (suc n) = refl

pub take_most : (n : ℕ) (xs : List ℕ) → length xs ≤ n → take n xs ≡ xs
take_most zero [] small = refl
take_most zero (x ∷ xs) small = absurd (omega (arith, small))
take_most (suc n) [] small = refl
take_most (suc n) (x ∷ xs) small = ap (λ l. x ∷ l) (take_most n xs (omega (arith, small)))

drop_most : (n : ℕ) (xs : List ℕ) → length xs ≤ n → drop n xs ≡ []
drop_most zero [] small = refl
drop_most zero (x ∷ xs) small = absurd (omega (arith, small))
drop_most (suc n) [] small = refl
drop_most (suc n) (x ∷ xs) small = drop_most n xs (omega (arith, small))

-- the last piece
pub cut-last : (n : ℕ) (rest : List ℕ) → 0 < length rest → length rest ≤ 1048576 → length rest ≤ n → cut_in n rest ≡ rest ∷ []
cut-last zero [] some short within = absurd (omega (arith, some))
cut-last zero (b ∷ rest) some short within = absurd (omega (arith, within))
cut-last (suc n) [] some short within = absurd (omega (arith, some))
cut-last (suc n) (b ∷ rest) some short within =
    (λ i. take_most 1048576 (b ∷ rest) short i ∷ cut_in n (drop_most 1048576 (b ∷ rest) short i)) ∙ ap (λ l. (b ∷ rest) ∷ l) (cut-none n)

-- These notes, and those of the rest's pieces, are the first notes and those of all bytes' pieces.
pub record IsNoting (start all notes rest : List ℕ) : Type 0 where
  pub most : ℕ
  pub within : length rest ≤ most
  pub some : 0 < length rest
  pub whole : notes ++ flat_map note_bytes (cut_in most rest) ≡ start ++ chunk_notes all

-- the same after one piece more
pub noted_one : (start all notes rest first second new : List ℕ) → 1048576 < length rest →
    first ≡ take 1048576 rest → second ≡ drop 1048576 rest → new ≡ notes ++ note_bytes first →
    IsNoting start all notes rest → IsNoting start all new second
noted_one start all notes [] first second new long front back is noting = absurd (omega (arith, long))
noted_one start all notes (b ∷ rest) first second new long front back is noting = by noting.most noting.within noting.whole
  where
    by : (most : ℕ) → length (b ∷ rest) ≤ most → notes ++ flat_map note_bytes (cut_in most (b ∷ rest)) ≡ start ++ chunk_notes all → IsNoting start all new second
    by zero within whole = absurd (omega (arith, within))
    by (suc n) within whole =
        let size : length second ≡ length (b ∷ rest) - 1048576 = ap length back ∙ length-drop 1048576 (b ∷ rest) in
        record {
          most = n;
          within = omega (arith, size, within, long);
          some = omega (arith, size, long);
          whole = (λ i. is i ++ flat_map note_bytes (cut_in n (back i)))
              ∙ ap (λ p. (notes ++ note_bytes p) ++ flat_map note_bytes (cut_in n (drop 1048576 (b ∷ rest)))) front
              ∙ append_assoc notes (note_bytes (take 1048576 (b ∷ rest))) (flat_map note_bytes (cut_in n (drop 1048576 (b ∷ rest)))) ∙ whole;
        }

-- the same after the last one
pub noted_last : (start all notes rest new : List ℕ) → length rest ≤ 1048576 → new ≡ notes ++ note_bytes rest → IsNoting start all notes rest → new ≡ start ++ chunk_notes all
noted_last start all notes rest new short is noting =
    is ∙ ap (λ l. notes ++ l) (sym (append-nil (note_bytes rest))) ∙ ap (λ l. notes ++ flat_map note_bytes l) (sym (cut-last noting.most rest noting.some short noting.within)) ∙ noting.whole

-- what holds if a call succeeds, by what its success gives
pub on_ok : {A E P Q : Type 0} (r : Result A E) → (P → Q) → OnOk r P → OnOk r Q
on_ok (Ok x) gives h = gives h
on_ok (Err e) gives h = h

-- nothing was added yet
pub noted_none : (start all : List ℕ) → 0 < length all → IsNoting start all start all
noted_none start all some = record { most = length all; within = omega arith; some = some; whole = refl }

-- the bytes of a note that was made of a piece
pub note_written : (note : Note) (piece : List ℕ) → note.sum < 2 ^ 64 → note_shown note ≡ note_of piece → to_le_bytes w64 note.len ++ to_le_bytes w64 note.sum ≡ note_bytes piece
note_written note piece small is =
    let sum : note.sum ≡ piece_sum piece % 2 ^ 64 = small_mod note.sum small ∙ ap (λ (x : PieceNote). x.sum % 2 ^ 64) is in
    (λ i. to_le_bytes w64 (is i).len ++ to_le_bytes w64 (sum i))
  where
    small_mod : (n : ℕ) → n < 2 ^ 64 → n ≡ n % 2 ^ 64
    small_mod n fits = omega (arith, fits)
