use Rattle.std.proofs.Common.{◌≡◌, ◌≤◌, ◌*◌, take, map}
use Rattle.pin_core.specs.World.{weight_on}
use Rattle.pin_core.proofs.pins.sum_on.Given as goal

abbrev pub invariant-loop-entry : goal.invariant-loop-entry
invariant-loop-entry l = (l.sum ≡ weight_on l.slot (map (λ e. e.hold) (take l.entry-index l.pins))) × (l.sum ≤ l.entry-index * 4294967295)
