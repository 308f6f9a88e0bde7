-- The header of a log.
use Rattle.std.specs.Prelude.{◌≡◌, ◌≢◌, ◌<◌, ◌^◌, ℕ, List, [], ◌∷◌, ◌++◌, Option, IfSome, codes, length, take}
use Rattle.std.specs.Int.{w64, to_le_bytes}
use Rattle.std.specs.Io.KnownBytes.{Consumes}
use Rattle.log_frames.specs.Frames.{Frame, frames_bytes}
use Rattle.log_frames.specs.Sums.{basis, sum_words, tagged}
use Rattle.log_frames.specs.declared.cursor.Cursor.{Cursor}
use Rattle.log_frames.specs.declared.header.Opening.{Opening}
use Rattle.log_frames.specs.declared.header.Opening.TheVariants as opening

-- the first eight bytes: "bloblog" and a zero
abbrev pub magic : List ℕ
magic = codes "bloblog" ++ (0 ∷ [])

-- the first 24 bytes: the version, 1, and the id follow the magic
unfoldable pub header_front : ℕ → List ℕ
header_front id = magic ++ to_le_bytes w64 1 ++ to_le_bytes w64 id

-- the sum of a header
abbrev pub header_sum : ℕ → ℕ
header_sum id = sum_words basis (header_front id)

-- the 32 bytes of a header
abbrev pub header_bytes : ℕ → List ℕ
header_bytes id = tagged (header_sum id) (header_front id)

-- the cursor after the header
abbrev pub start_of : ℕ → Cursor
start_of id = record { place = 32; sum = header_sum id }

-- the bytes of a log with this id and these frames
abbrev pub log_bytes : ℕ → List Frame → List ℕ
log_bytes id frames = header_bytes id ++ frames_bytes id (start_of id) frames

-- the first eight bytes are not the magic
abbrev pub HasNoMagic : List ℕ → Type 0
HasNoMagic bytes = take 8 bytes ≢ magic

-- the bytes begin with the magic and a version
abbrev pub HasVersion : ℕ → List ℕ → Type 0
HasVersion version bytes = (rest : List ℕ) × (bytes ≡ magic ++ to_le_bytes w64 version ++ rest)

-- the bytes begin with no header
abbrev pub HasNoHeader : List ℕ → Type 0
HasNoHeader bytes = (id : ℕ) (rest : List ℕ) → id < 2 ^ 64 → bytes ≡ header_bytes id ++ rest → ⊥

-- what 32 bytes are
abbrev pub IsOpening : List ℕ → Opening → Type 0
IsOpening bytes (opening.Log id start) = (id < 2 ^ 64) × (start ≡ start_of id) × (bytes ≡ header_bytes id)
IsOpening bytes opening.TooShort = ⊥
IsOpening bytes opening.NotALog = HasNoMagic bytes
IsOpening bytes (opening.OtherVersion version) = (version ≢ 1) × HasVersion version bytes
IsOpening bytes opening.WrongSum = HasVersion 1 bytes × HasNoHeader bytes

-- what an input begins with
abbrev pub OpensAs : Option (List ℕ) → Option (List ℕ) → Opening → Type 0
OpensAs old new (opening.Log id start) = (id < 2 ^ 64) × (start ≡ start_of id) × Consumes old new (header_bytes id)
OpensAs old new opening.TooShort = IfSome old (λ bytes. length bytes < 32)
OpensAs old new opening.NotALog = IfSome old HasNoMagic
OpensAs old new (opening.OtherVersion version) = IfSome old (λ bytes. (version ≢ 1) × HasVersion version bytes)
OpensAs old new opening.WrongSum = IfSome old (λ bytes. HasVersion 1 bytes × HasNoHeader bytes)
