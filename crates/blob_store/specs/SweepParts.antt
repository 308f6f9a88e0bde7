-- A sweep in parts, between which others may make steps.
use Rattle.std.specs.Prelude.{◌≡◌, ◌+◌, ◌≤◌, ℕ, List, ◌++◌, map}
use Rattle.ghost_log.specs.Entries.{IsPrefix}
use Rattle.locked_book.specs.Found.{AreParts, swept_in_all}
use Rattle.locked_book.specs.History.{DeskView}
use Rattle.locked_book.specs.Names.{StoreNames}
use Rattle.store_model.specs.Histories.{SweepPartCall}
use Rattle.store_model.specs.declared.swept.Swept.{Swept}

-- the counts with those of one more part
abbrev pub with_part : Swept → Swept → Swept
with_part swept part = record {
  condemned = swept.condemned + part.condemned;
  freed = swept.freed + part.freed;
  held = swept.held + part.held;
  retired = swept.retired + part.retired;
}

-- The desk made the steps of parts that follow each other from the first slot up to a place, and these are the sums of their counts.
pub record MakesParts (names : StoreNames) (to : ℕ) (swept : Swept) (old new : DeskView) : Type 0 where
  pub parts : List Swept
  pub are : AreParts names 0 to parts
  pub sums : swept ≡ swept_in_all parts
  pub own : new.trace.own ≡ old.trace.own ++ map SweepPartCall parts
  pub amounts : new.amounts ≡ old.amounts
  pub number : new.trace.number ≡ old.trace.number
  pub durable : new.trace.durable ≡ old.trace.durable
  pub seen : IsPrefix old.trace.seen new.trace.seen

-- the desk made the steps of parts that go over all slots
abbrev pub MakesAllParts : StoreNames → Swept → DeskView → DeskView → Type 0
MakesAllParts names swept old new = MakesParts names names.slots swept old new
