-- The sessions that a tenant's rows show, the checked-out session that a hand shows, and the invariants of both.
use Rattle.std.specs.Prelude.{◌≡◌, ℕ, ◌+◌, ◌<◌, ◌≤◌, ◌^◌, ◌==◌, ◌&&◌, ◌++◌, Bool, true, false, List, [], ◌∷◌, Option, Some, None, is_some, vec_capacity, drop, filter, length, map, sum, sum_by, take, nat_lt, if◌then◌else◌}
use Rattle.std.specs.Option.{option_map}
use Rattle.std.specs.Borrow.{Bor}
use Rattle.std.specs.List.{AllByRecursion}
use Rattle.std.specs.declared.cmp.Ordering.TheVariants.{Equal}
use Rattle.std.specs.FinMap as fmap
use Rattle.std.specs.Ordering.{nat_cmp}
use Rattle.blob_digest.specs.Digests.{algorithm_of, hash_text}
use Rattle.blob_digest.specs.Hashing.{HashesUpload}
use Rattle.blob_digest.specs.Digests.{is_digest_of}
use Rattle.content_files.specs.Notes.{is_read}
use Rattle.blob_digest.specs.Keys.{SessionNumber}
use Rattle.blob_digest.specs.declared.algorithm.Algorithm.{Algorithm}
use Rattle.blob_digest.specs.declared.upload_hashes.UploadHashes.{UploadHashes}
use Rattle.spec_lib.specs.Texts.{Text, same_text}
use Rattle.store_model.specs.Sessions.{Chunks, Session, HandRecord, charged_length, hand_content}
use Rattle.store_model.specs.Sessions as shown
use Rattle.upload_table.specs.Tenants.{SessionsByNumber}
use Rattle.upload_table.specs.Uploaded.{cut_chunks, HashesIfAny}
use Rattle.upload_table.specs.declared.sealing.Unsealed.{Unsealed}
use Rattle.upload_table.specs.declared.sealing.Unsealed.TheVariants.{Differs}
use Rattle.upload_table.specs.declared.hashed.ContentHash.{ContentHash}
use Rattle.upload_table.specs.declared.hashed.ContentHash.TheVariants.{All, One, Missing}
use Rattle.upload_table.specs.declared.upload.SessionContent.{SessionContent}
use Rattle.upload_table.specs.declared.upload.SessionContent.TheVariants.{Home, InHand}
use Rattle.upload_table.specs.declared.upload.ChunkBuffer.{ChunkBuffer}
use Rattle.upload_table.specs.declared.upload.Upload.{Upload}

-- the bytes of a buffer, cut into its chunks
abbrev pub cut_buffer : ChunkBuffer → List Text
cut_buffer p = cut_chunks p.lens.items p.bytes

-- the chunks of a checked-in session with this buffer
abbrev pub home_chunks : ChunkBuffer → Chunks
home_chunks p = shown.CheckedIn (cut_buffer p)

-- the session of a repository, checked in with this buffer
abbrev pub home_session : Text → ChunkBuffer → Session
home_session repo p = record { repo = repo; chunks = home_chunks p }

-- the chunks of a session that is checked out with this buffer, with n bytes reserved
abbrev pub out_chunks : ChunkBuffer → ℕ → Chunks
out_chunks p n = shown.CheckedOutWith (length p.bytes) n

-- the chunks that a row shows
abbrev pub chunks_shown : SessionContent → Chunks
chunks_shown (Home p) = shown.CheckedIn (cut_chunks p.value.lens.items p.value.bytes)
chunks_shown (InHand received reserved) = shown.CheckedOutWith received reserved

-- the session that a row shows
abbrev pub session_of : Upload → Session
session_of u = record { repo = u.repo; chunks = chunks_shown u.content }

-- the session of a row that was found with its place
abbrev pub found_session : ℕ × Bor Upload → Session
found_session r = session_of r.1.now

-- the row has this number
abbrev pub HasNumber : ℕ → Upload → Type 0
HasNumber number u = nat_cmp u.number number ≡ Equal

-- the session, if there is one, is charged for at least the bytes of the buffer
abbrev pub FitsCharge : Option Session → ChunkBuffer → Type 0
FitsCharge o p = (s : Session) → o ≡ Some s → length p.bytes ≤ charged_length s

-- a row, under its number
abbrev pub entry_of : Upload → ℕ × Session
entry_of u = (u.number, session_of u)

-- the next number and the sessions that a tenant's rows show
abbrev pub sessions_shown : ℕ → List Upload → SessionsByNumber
sessions_shown next rows = record { next = next; sessions = fmap.from_entries (map entry_of rows) }

-- the lengths are positive and add up to the bytes, the hashes, if there are any, are those of the bytes, and no filled chunk is pending
pub record IsConsistentBuffer (p : ChunkBuffer) : Type 0 where
  pub lengths : sum p.lens.items ≡ length p.bytes
  pub positive : AllByRecursion (λ n. 0 < n) p.lens.items
  pub hash : HashesIfAny p.hashes p.bytes
  pub none : p.whole ≡ None

-- the chunks of a checked-in row are whole
abbrev pub HasConsistentBuffer : SessionContent → Type 0
HasConsistentBuffer (Home p) = IsConsistentBuffer p.value
HasConsistentBuffer (InHand received reserved) = Unit {0}

-- the number of bytes that a row has received
abbrev pub content_received : SessionContent → ℕ
content_received (Home p) = length p.value.bytes
content_received (InHand received reserved) = received

-- the number of bytes that a row counts in its tenant's usage
abbrev pub content_charge : SessionContent → ℕ
content_charge (Home p) = length p.value.bytes
content_charge (InHand received reserved) = received + reserved

-- the row is checked in
abbrev pub is_at_home : SessionContent → Bool
is_at_home (Home p) = true
is_at_home (InHand received reserved) = false

-- the row with its chunks checked out, and n bytes reserved
abbrev pub checked_out_row : Upload → ℕ → Upload
checked_out_row u n = record u { content = InHand (content_received u.content) n }

-- the row is checked out with these lengths
abbrev pub is_out_with : ℕ → ℕ → SessionContent → Bool
is_out_with received reserved (Home p) = false
is_out_with received reserved (InHand n m) = n == received && m == reserved

-- the rows are in the order of their numbers, below the next one; their chunks are whole; and their usage is stored
pub record IsSound (next charged : ℕ) (rows : List Upload) : Type 0 where
  pub order : fmap.is_sorted nat_cmp (map entry_of rows) ≡ true
  pub below : AllByRecursion (λ u. u.number < next) rows
  pub whole : AllByRecursion (λ u. HasConsistentBuffer u.content) rows
  pub counted : charged ≡ sum_by (λ u. content_charge u.content) rows

-- the number of a row, and the number of bytes received
abbrev pub row_listed : Upload → ℕ × ℕ
row_listed u = (u.number, content_received u.content)

-- the rows of a repository, in their order
abbrev pub rows_listed : Text → List Upload → List (ℕ × ℕ)
rows_listed repo rows = map row_listed (filter (λ u. same_text u.repo repo) rows)

-- ---- hands

-- a hand of a repository's session with these chunks and n bytes reserved, not filled
abbrev pub empty_hand : Text → SessionNumber → ℕ → ChunkBuffer → HandRecord
empty_hand repo key n p = record { repo = repo; key = key; chunks = cut_buffer p; reserved = n; last = None }

-- the checked-out session that a hand shows
abbrev pub hand_shown : Text → ℕ → ℕ → ℕ → ℕ → ChunkBuffer → Option ContentHash → HandRecord
hand_shown repo tenant number received reserved p whole = record { repo = repo; key = (tenant, number); chunks = cut_chunks p.lens.items p.bytes; reserved = reserved; last = option_map (λ _. drop received p.bytes) whole }

-- a hand is not sealed because of another digest only if its bytes were read and lack the digest
abbrev pub IsUnsealedFor : Unsealed → HandRecord → Text → Type 0
IsUnsealedFor why h digest = why ≡ Differs → (is_digest_of digest (hand_content h) ≡ false) × (is_read (hand_content h) ≡ true)

-- the hashes are those of these bytes, or the digest is theirs by the algorithm that it names, or there is no hash
abbrev pub IsHashOf : ContentHash → List ℕ → Type 0
IsHashOf (All hashes) bytes = HashesUpload hashes bytes
IsHashOf (One digest) bytes = digest ≡ hash_text (algorithm_of digest) bytes
IsHashOf Missing bytes = Unit {0}

-- whatever bytes this hash is of, this is their digest by an algorithm
abbrev pub IsDigestOfAll : ContentHash → Algorithm → List ℕ → Type 0
IsDigestOfAll hashed algorithm digest = (bytes : List ℕ) → IsHashOf hashed bytes → digest ≡ hash_text algorithm bytes

-- the buffer has the hash of all of its bytes, which may be missing
abbrev pub HasHashOfAll : ChunkBuffer → Type 0
HasHashOfAll p = (w : ContentHash) × (p.whole ≡ Some w) × IsHashOf w p.bytes

-- this hash turns the hashes of the bytes before a chunk into those of the bytes with the chunk
abbrev pub ExtendsHashes : ContentHash → Option UploadHashes → Option UploadHashes → List ℕ → Type 0
ExtendsHashes hashed old new chunk = (before : List ℕ) → HashesIfAny old before → IsHashOf hashed (before ++ chunk) → HashesIfAny new (before ++ chunk)

-- whatever bytes the hashes before a chunk are of, this is the hash of those bytes with the chunk
abbrev pub IsHashWith : ContentHash → Option UploadHashes → List ℕ → Type 0
IsHashWith hashed front chunk = (before : List ℕ) → HashesIfAny front before → IsHashOf hashed (before ++ chunk)

-- whatever bytes this hash is of, the hashes, if there are any, are of the same bytes
abbrev pub GivesHashes : ContentHash → Option UploadHashes → Type 0
GivesHashes hashed front = (bytes : List ℕ) → IsHashOf hashed bytes → HashesIfAny front bytes

-- the bytes and the hash of all of them are unchanged
abbrev pub KeepsBytes : ChunkBuffer → ChunkBuffer → Type 0
KeepsBytes old new = (new.bytes ≡ old.bytes) × (new.whole ≡ old.whole)

-- the bytes and the lengths are unchanged, and the hash of all bytes is removed
abbrev pub LosesHash : ChunkBuffer → ChunkBuffer → Type 0
LosesHash old new = (new.bytes ≡ old.bytes) × (new.lens ≡ old.lens) × (new.whole ≡ None)

-- if a chunk is filled, it has the reserved length, there is room for its length, and the hash is that of all bytes
abbrev pub IsFilled : ℕ → ℕ → ChunkBuffer → ℕ → Option ContentHash → Type 0
IsFilled received reserved p room None = length p.bytes ≡ received
IsFilled received reserved p room (Some whole) = (length p.bytes ≡ received + reserved) × (length p.lens.items < room) × IsHashOf whole p.bytes

-- `IsFilled` holds with the room that the buffer's lengths have
abbrev pub IsFilledBuffer : ℕ → ℕ → ChunkBuffer → Type 0
IsFilledBuffer received reserved p = IsFilled received reserved p (vec_capacity p.lens) p.whole

-- the buffer is that of a hand with these lengths
pub record IsHand (received reserved : ℕ) (p : ChunkBuffer) (room : ℕ) (whole : Option ContentHash) : Type 0 where
  pub lengths : sum p.lens.items ≡ received
  pub positive : AllByRecursion (λ n. 0 < n) p.lens.items
  pub hash : HashesIfAny p.hashes (take received p.bytes)
  pub fits : received + reserved < 2 ^ 64
  pub filled : IsFilled received reserved p room whole

-- the lengths with one more, unless it is 0
abbrev pub with_length : List ℕ → ℕ → List ℕ
with_length lens n = if nat_lt 0 n then lens ++ n ∷ [] else lens

-- the lengths, with that of the last chunk if it was filled in and has bytes
abbrev pub all_lengths : ChunkBuffer → ℕ → List ℕ
all_lengths p n = if is_some p.whole then with_length p.lens.items n else p.lens.items
