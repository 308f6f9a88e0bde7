-- Free slots.
use Rattle.std.specs.Prelude.{Bool, true, false}
use Rattle.slot_table.specs.declared.phase.Phase.TheVariants as phase
use Rattle.store_book.specs.BookState.{SlotView}

-- whether a slot is free: neither used nor retired
abbrev pub is_free : SlotView → Bool
is_free s = elim s.phase [ phase.Free ↦ true | phase.Live ↦ false | phase.Condemned ↦ false | phase.Retired ↦ false ]
