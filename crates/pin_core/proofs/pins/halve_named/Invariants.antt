use Rattle.std.proofs.Common.{◌≡◌, ◌++◌, take, drop, map}
use Rattle.pin_core.specs.Events.{half_if_named}
use Rattle.pin_core.proofs.pins.halve_named.Given as goal

abbrev pub invariant-loop-entry : goal.invariant-loop-entry
invariant-loop-entry l = l.entry-items ≡ map (half_if_named l.name) (take l.entry-index l.initial.entry-items) ++ drop l.entry-index l.initial.entry-items
