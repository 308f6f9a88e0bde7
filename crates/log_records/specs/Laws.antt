-- How records are read, alone and in lists that may be cut off.
use Rattle.std.specs.Prelude.{◌≡◌, ◌⊎◌, ◌≤◌, ℕ, List, [], ◌++◌, length, take}
use Rattle.std.specs.List.{AllByRecursion}
use Rattle.log_records.specs.Changes.{Change, IsChange}
use Rattle.log_records.specs.Decoding.{IsCutOff, IsNext, Next, Record}
use Rattle.log_records.specs.Records.{record_bytes, records_bytes}

-- no record is another, or a proper beginning of another
abbrev pub RecordsAreApart : Type 0
RecordsAreApart = (a b : Change) (x y : List ℕ) → IsChange a → IsChange b → record_bytes a ++ x ≡ record_bytes b ++ y → (a ≡ b) × (x ≡ y)

-- whatever is read at the front of a record's bytes is the record's change, and the bytes after it are left
abbrev pub RecordsAreReadBack : Type 0
RecordsAreReadBack = (c : Change) (rest : List ℕ) (n : Next) → IsChange c → IsNext (record_bytes c ++ rest) n → n ≡ Record c rest

-- bytes begin with one thing only
abbrev pub BytesHaveOneNext : Type 0
BytesHaveOneNext = (bytes : List ℕ) (a b : Next) → IsNext bytes a → IsNext bytes b → a ≡ b

-- no record begins the bytes
abbrev pub HasNoRecord : List ℕ → Type 0
HasNoRecord bytes = (c : Change) (rest : List ℕ) → IsChange c → bytes ≡ record_bytes c ++ rest → ⊥

-- the bytes are the records of these changes, and a rest that no record begins
pub record AreChangesIn (bytes : List ℕ) (changes : List Change) (rest : List ℕ) : Type 0 where
  pub fit : AllByRecursion IsChange changes
  pub whole : bytes ≡ records_bytes changes ++ rest
  pub longest : HasNoRecord rest

-- bytes are read in one way
abbrev pub ChangesAreReadInOneWay : Type 0
ChangesAreReadInOneWay =
    (bytes : List ℕ) (changes others : List Change) (rest left : List ℕ) →
    AreChangesIn bytes changes rest → AreChangesIn bytes others left → (changes ≡ others) × (rest ≡ left)

-- the records of changes are read as these changes, with nothing left
abbrev pub ListsAreReadBack : Type 0
ListsAreReadBack = (changes : List Change) → AllByRecursion IsChange changes → AreChangesIn (records_bytes changes) changes []

-- the first n bytes of the records of changes are read as the first changes: at least all whose records are complete
pub record KeepsFirstChanges (changes : List Change) (n : ℕ) : Type 0 where
  pub count : ℕ
  pub rest : List ℕ
  pub at_most : count ≤ length changes
  pub read : AreChangesIn (take n (records_bytes changes)) (take count changes) rest
  pub complete : (k : ℕ) → k ≤ length changes → length (records_bytes (take k changes)) ≤ n → k ≤ count
  pub left : (rest ≡ []) ⊎ IsCutOff rest

abbrev pub CutsKeepFirstChanges : Type 0
CutsKeepFirstChanges = (changes : List Change) (n : ℕ) → AllByRecursion IsChange changes → KeepsFirstChanges changes n
