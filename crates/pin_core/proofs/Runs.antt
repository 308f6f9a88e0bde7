-- A list of events, event by event.
use Rattle.std.proofs.Common.{◌≡◌, ℕ, List, drop}
use Rattle.pin_core.specs.declared.event.Event.{Event}
use Rattle.pin_core.specs.World.{PinWorld}
use Rattle.pin_core.specs.Events.{CanAll, after_all}

-- the events from the place i on lead from q to the same world as all events from p
pub record Going (p : PinWorld) (es : List Event) (q : PinWorld) (i : ℕ) : Type 0 where
  pub forth : CanAll p es → CanAll q (drop i es)
  pub back : CanAll q (drop i es) → CanAll p es
  pub ends : after_all q (drop i es) ≡ after_all p es
