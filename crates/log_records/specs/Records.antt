-- A record, byte by byte.
use Rattle.std.specs.Prelude.{◌≡◌, ◌<◌, ◌≤◌, ◌+◌, ◌^◌, ◌++◌, ℕ, List, false, length, take, drop}
use Rattle.std.specs.Int.{w16, w32, w64, to_le_bytes}
use Rattle.std.specs.List.{flat_map}
use Rattle.log_records.specs.Changes.{Change, Parts, change_view, max_body, parts, parts_of}
use Rattle.log_records.specs.Kinds.{kind_number, uses_body, uses_digest, uses_name, uses_number}
use Rattle.log_records.specs.declared.change.Change.{Change as BorrowedChange}
use Rattle.log_records.specs.declared.head.Head.{Head}
use Rattle.log_records.specs.declared.kind.Kind.{Kind}

-- the 24 bytes of a head
unfoldable pub head_bytes : Head → List ℕ
head_bytes h = to_le_bytes w32 h.kind ++ to_le_bytes w16 h.name_len ++ to_le_bytes w16 h.digest_len ++ to_le_bytes w64 h.number ++ to_le_bytes w64 h.body_len

-- the number of bytes after the head: a name, a digest's text and a body
abbrev pub payload_len : Head → ℕ
payload_len h = h.name_len + h.digest_len + h.body_len

-- a head whose numbers fit into its fields
pub record IsHead (h : Head) : Type 0 where
  pub kind : h.kind < 2 ^ 32
  pub name_len : h.name_len < 2 ^ 16
  pub digest_len : h.digest_len < 2 ^ 16
  pub number : h.number < 2 ^ 64
  pub body_len : h.body_len < 2 ^ 64

-- a head in which the fields that the kind does not use are empty or 0
pub record IsPlain (k : Kind) (h : Head) : Type 0 where
  pub name : uses_name k ≡ false → h.name_len ≡ 0
  pub digest : uses_digest k ≡ false → h.digest_len ≡ 0
  pub number : uses_number k ≡ false → h.number ≡ 0
  pub body : uses_body k ≡ false → h.body_len ≡ 0
  pub short : h.body_len ≤ max_body

-- the head of parts, and the bytes after it
abbrev pub head_of : Parts → Head
head_of p = record { kind = kind_number p.kind; name_len = length p.name; digest_len = length p.digest; number = p.number; body_len = length p.body }

abbrev pub payload_of : Parts → List ℕ
payload_of p = p.name ++ p.digest ++ p.body

-- the parts of a record with this kind, head and payload
abbrev pub parts_in : Kind → Head → List ℕ → Parts
parts_in k h payload = parts k (take h.name_len payload) (take h.digest_len (drop h.name_len payload)) h.number (drop (h.name_len + h.digest_len) payload)

-- the head of a change's record
abbrev pub head_for : Change → Head
head_for c = head_of (parts_of c)

-- the record of a change: a head, a name, a digest's text and a body
abbrev pub record_bytes : Change → List ℕ
record_bytes c = head_bytes (head_for c) ++ payload_of (parts_of c)

-- the record of a borrowed change, and its length
abbrev pub record_for : BorrowedChange → List ℕ
record_for c = record_bytes (change_view c)

abbrev pub record_length : BorrowedChange → ℕ
record_length c = length (record_for c)

-- the records of changes, one after another
abbrev pub records_bytes : List Change → List ℕ
records_bytes changes = flat_map record_bytes changes
