use Rattle.std.proofs.Common.{◌≡◌, drop}
use Rattle.pin_core.specs.World.{hold_named}
use Rattle.pin_core.proofs.pins.find.Given as goal

abbrev pub invariant-loop-entry : goal.invariant-loop-entry
invariant-loop-entry l = hold_named l.name l.pins ≡ hold_named l.name (drop l.entry-index l.pins)
