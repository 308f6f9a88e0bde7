-- What bytes begin with: a record, or the reason why not.
use Rattle.std.specs.Prelude.{◌≡◌, ◌⊎◌, ◌<◌, ◌++◌, ℕ, List, [], Option, Some, None, Result, Ok, Err, length}
use Rattle.std.specs.Borrow.{Bor}
use Rattle.log_records.specs.Changes.{Change, IsChange, change_view}
use Rattle.log_records.specs.Kinds.{IsUnknown}
use Rattle.log_records.specs.Records.{IsHead, head_bytes, head_for, record_bytes}
use Rattle.log_records.specs.declared.change.Change.{Change as BorrowedChange}
use Rattle.log_records.specs.declared.decode.RecordError.{RecordError}
use Rattle.log_records.specs.declared.decode.RecordError.TheVariants as error
use Rattle.log_records.specs.declared.head.Head.{Head}

-- what bytes begin with
pub data Next : Type 0 where
  -- nothing: there are no bytes
  End : Next
  -- the record of this change, followed by these bytes
  Record : Change → List ℕ → Next
  -- a head of a kind that this version does not know
  UnknownKind : ℕ → Next
  -- a head of no change
  Malformed : Next
  -- less than a record
  CutOff : Next

-- a known head of no change begins the bytes
pub record IsMalformed (bytes : List ℕ) : Type 0 where
  pub head : Head
  pub rest : List ℕ
  pub fits : IsHead head
  pub starts : bytes ≡ head_bytes head ++ rest
  pub known : IsUnknown head.kind → ⊥
  pub none : (c : Change) → IsChange c → head_for c ≡ head → ⊥

-- a head of an unknown kind begins the bytes
pub record IsOfUnknownKind (kind : ℕ) (bytes : List ℕ) : Type 0 where
  pub head : Head
  pub rest : List ℕ
  pub fits : IsHead head
  pub starts : bytes ≡ head_bytes head ++ rest
  pub kind_is : head.kind ≡ kind
  pub unknown : IsUnknown kind

-- the bytes are a proper beginning of a change's record
pub record IsPartOfRecord (bytes : List ℕ) : Type 0 where
  pub change : Change
  pub missing : List ℕ
  pub fits : IsChange change
  pub some_missing : 0 < length missing
  pub whole : bytes ++ missing ≡ record_bytes change

-- there are some bytes: less than a head, or less than a record
pub record IsCutOff (bytes : List ℕ) : Type 0 where
  pub some : 0 < length bytes
  pub part : (length bytes < 24) ⊎ IsPartOfRecord bytes

-- the bytes begin with this
abbrev pub IsNext : List ℕ → Next → Type 0
IsNext bytes End = bytes ≡ []
IsNext bytes (Record c rest) = IsChange c × (bytes ≡ record_bytes c ++ rest)
IsNext bytes (UnknownKind kind) = IsOfUnknownKind kind bytes
IsNext bytes Malformed = IsMalformed bytes
IsNext bytes CutOff = IsCutOff bytes

-- the result of reading, without places in memory
abbrev pub next_view : Result (Option (BorrowedChange × Bor (List ℕ))) RecordError → Next
next_view (Ok None) = End
next_view (Ok (Some (change, rest))) = Record (change_view change) rest.now
next_view (Err (error.UnknownKind kind)) = UnknownKind kind
next_view (Err error.Malformed) = Malformed
next_view (Err error.CutOff) = CutOff

-- an error of reading, without places in memory
abbrev pub error_view : RecordError → Next
error_view (error.UnknownKind kind) = UnknownKind kind
error_view error.Malformed = Malformed
error_view error.CutOff = CutOff

-- the bytes are the head of a change's record, which has n bytes
pub record AnnouncesRecord (bytes : List ℕ) (n : ℕ) : Type 0 where
  pub change : Change
  pub fits : IsChange change
  pub head : bytes ≡ head_bytes (head_for change)
  pub length_is : n ≡ length (record_bytes change)
