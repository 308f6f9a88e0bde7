-- The pieces that a chunk is cut into, and their notes: as bytes, and as the content that a process knows that has not read them.
use Rattle.std.specs.Prelude.{ℕ, ◌%◌, ◌^◌, ◌++◌, nat_lt, Bool, false, List, [], ◌∷◌, Option, Some, None, drop, length, take}
use Prim.Native.Nat.{zero, suc}
use Rattle.std.specs.Int.{w64, from_le_bytes, to_le_bytes}
use Rattle.std.specs.List.{flat_map}
use Rattle.content_files.specs.Notes.{piece_sum, unread}
use Rattle.content_files.specs.declared.home.Home.{Home}

-- the most bytes of a piece that is written
abbrev pub max_piece : ℕ
max_piece = 1048576

-- at most this many pieces of some bytes, of which each but the last has `max_piece` bytes
abbrev pub cut_in : ℕ → List ℕ → List (List ℕ)
cut_in zero bytes = []
cut_in (suc n) [] = []
cut_in (suc n) (b ∷ bytes) = take max_piece (b ∷ bytes) ∷ cut_in n (drop max_piece (b ∷ bytes))

-- the pieces of a chunk
abbrev pub pieces_in : List ℕ → List (List ℕ)
pieces_in bytes = cut_in (length bytes) bytes

-- the note of a piece as bytes: its length and its sum
abbrev pub note_bytes : List ℕ → List ℕ
note_bytes piece = to_le_bytes w64 (length piece) ++ to_le_bytes w64 (piece_sum piece % 2 ^ 64)

-- the notes of a chunk's pieces
abbrev pub chunk_notes : List ℕ → List ℕ
chunk_notes bytes = flat_map note_bytes (pieces_in bytes)

-- a piece as a process knows it that has not read it
abbrev pub noted_piece : List ℕ → List ℕ
noted_piece piece = unread (length piece) (piece_sum piece % 2 ^ 64)

-- a chunk as a process knows it that has not read it
abbrev pub noted : List ℕ → List ℕ
noted bytes = flat_map noted_piece (pieces_in bytes)

-- the piece that the bytes of a note describe
abbrev pub read_note : List ℕ → List ℕ
read_note bytes = unread (from_le_bytes w64 (take 8 bytes)) (from_le_bytes w64 (drop 8 bytes))

-- the pieces that at most this many notes describe
abbrev pub read_in : ℕ → List ℕ → List ℕ
read_in zero bytes = []
read_in (suc n) [] = []
read_in (suc n) (b ∷ bytes) = read_note (take 16 (b ∷ bytes)) ++ read_in n (drop 16 (b ∷ bytes))

-- the chunk that notes describe
abbrev pub read_notes : List ℕ → List ℕ
read_notes bytes = read_in (length bytes) bytes

-- whether a content of this length lies in its file; without one, it is in memory
abbrev pub is_in_file : Option Home → ℕ → Bool
is_in_file None len = false
is_in_file (Some home) len = nat_lt home.longest len
