-- The parts of a content that are read from a file, piece by piece.
use Rattle.std.specs.Prelude.{◌≡◌, ◌≤◌, ◌+◌, ◌++◌, ℕ, ◌-◌, Bool, true, false, List, [], ◌∷◌, drop, length, take}
use Rattle.content_files.specs.Notes.{PieceNote, Resembles, joined, note_of}

-- each of these bytes was read in place of the piece at its place
abbrev pub AreReadOf : List (List ℕ) → List (List ℕ) → Type 0
AreReadOf [] [] = Unit {0}
AreReadOf (piece ∷ pieces) (given ∷ givens) = Resembles piece given × AreReadOf pieces givens
AreReadOf pieces givens = ⊥

-- These bytes were read in place of the content, piece by piece: each piece has the length and the sum of the bytes that were read for it.
pub record IsReadAs (content given : List ℕ) : Type 0 where
  pub pieces : List (List ℕ)
  pub givens : List (List ℕ)
  pub whole : content ≡ joined pieces
  pub same : given ≡ joined givens
  pub each : AreReadOf pieces givens

-- the bytes from `start` to before `end`
abbrev pub between : List ℕ → ℕ → ℕ → List ℕ
between bytes start end = take (end - start) (drop start bytes)

-- The bytes of the content from `start` to before `end`. If contents may lie in files, those that were read in their place.
abbrev pub IsPart : Bool → List ℕ → ℕ → ℕ → List ℕ → Type 0
IsPart false content start end part = part ≡ between content start end
IsPart true content start end part = (given : List ℕ) × IsReadAs content given × (part ≡ between given start end)

-- the first `count` pieces have this length together
abbrev pub IsCountIn : List (List ℕ) → ℕ → ℕ → Type 0
IsCountIn pieces len count = (count ≤ length pieces) × (len ≡ length (joined (take count pieces)))

-- some pieces were read: of these bytes, those from `start` to before `end` are the part
pub record IsReadBetween (pieces : List (List ℕ)) (start end : ℕ) (part : List ℕ) : Type 0 where
  pub front : List (List ℕ)
  pub read : List (List ℕ)
  pub back : List (List ℕ)
  pub givens : List (List ℕ)
  pub whole : pieces ≡ front ++ (read ++ back)
  pub each : AreReadOf read givens
  pub from : length (joined front) ≤ start
  pub to : end ≤ length (joined front) + length (joined givens)
  pub part_is : part ≡ take (end - start) (drop (start - length (joined front)) (joined givens))

-- the pieces that a content of this length has were read: of their bytes, those from `start` to before `end` are the part
pub record IsReadWithin (pieces : List (List ℕ)) (len start end : ℕ) (part : List ℕ) : Type 0 where
  pub count : ℕ
  pub counted : IsCountIn pieces len count
  pub read : IsReadBetween (take count pieces) start end part

-- the bytes of a piece with this note that was read are added
pub record IsAddedRead (note : PieceNote) (old new : List ℕ) : Type 0 where
  pub bytes : List ℕ
  pub noted : note_of bytes ≡ note
  pub added : new ≡ old ++ bytes
