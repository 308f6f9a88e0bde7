-- What a file keeps of a disk's content.
use Rattle.std.specs.Prelude.{ℕ, List}
use mathlib.Core.List.{IsPrefix}

-- a crash may leave these bytes of a file: they have all that are synced, and are a prefix of those that were written
pub record IsLeft (written synced left : List ℕ) : Type 0 where
  pub kept : IsPrefix synced left
  pub made : IsPrefix left written

-- the content has all that is synced, and is a prefix of what was written
pub record IsPreserved (written synced content : List ℕ) : Type 0 where
  pub kept : IsPrefix synced content
  pub made : IsPrefix content written

-- some bytes are such a content
abbrev pub HasContent : (List ℕ → Type 0) → Type 0
HasContent reads = (content : List ℕ) × reads content

-- each such content is preserved
abbrev pub PreservesContents : (List ℕ → Type 0) → List ℕ → List ℕ → Type 0
PreservesContents reads written synced = (content : List ℕ) → reads content → IsPreserved written synced content
