-- What is noted of the pieces of a content: their lengths and their sums. A content is a list of numbers. A number below 256 is a byte. Every other
-- number stands for a byte that was not read since the start.
use Rattle.std.specs.Prelude.{◌≡◌, ℕ, ◌+◌, ◌-◌, nat_lt, Bool, List, [], ◌∷◌, length, replicate, if◌then◌else◌}
use Rattle.std.specs.List.{flat_map, list_all}
use Rattle.log_frames.specs.Sums.{basis, sum_words}

-- the length of a piece and its sum
pub record PieceNote : Type 0 where
  pub len : ℕ
  pub sum : ℕ

-- a piece of n bytes with this sum that was not read
abbrev pub unread : ℕ → ℕ → List ℕ
unread n sum = replicate n (256 + sum)

-- the sum of a piece: that of its bytes, or, if it was not read, the one that is noted of it
abbrev pub piece_sum : List ℕ → ℕ
piece_sum [] = basis
piece_sum (b ∷ bytes) = if nat_lt b 256 then sum_words basis (b ∷ bytes) else b - 256

-- what is noted of a piece
abbrev pub note_of : List ℕ → PieceNote
note_of piece = record { len = length piece; sum = piece_sum piece }

-- every number is a byte: the content was read, or accepted from a client, since the start
abbrev pub is_read : List ℕ → Bool
is_read content = list_all (λ b. nat_lt b 256) content

-- the pieces, one after another
abbrev pub joined : List (List ℕ) → List ℕ
joined pieces = flat_map (λ p. p) pieces

-- bytes that were read in place of a piece have its length and its sum
abbrev pub Resembles : List ℕ → List ℕ → Type 0
Resembles piece bytes = note_of bytes ≡ note_of piece
