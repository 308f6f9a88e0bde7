-- The contents of the links so far have the same notes.
use Rattle.std.specs.Prelude.{map}
use Rattle.std.specs.List.{AllByRecursion}
use Rattle.std.specs.Map.Iter.{deref}
use Rattle.log_state.specs.LoggedStates.{HaveSameContent, state_in}
use Rattle.log_state.proofs.state.LogState.has_same_contents.Given as goal

abbrev pub invariant-loop-key : goal.invariant-loop-key
invariant-loop-key l = AllByRecursion (λ k. HaveSameContent (state_in l.self) (state_in l.other) k.1) (map deref l.yielded)
