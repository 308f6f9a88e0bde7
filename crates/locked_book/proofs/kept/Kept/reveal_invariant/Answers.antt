use Rattle.std.proofs.Common.{subst}
use Rattle.locked_book.specs.Counting.{IsBalanced, StoreContent}
use Rattle.locked_book.specs.Found.{IsBookOf, IsContentOf}
use Rattle.locked_book.specs.History.{state_of, steps_of}
use Rattle.locked_book.proofs.kept.Kept.reveal_invariant.Goals as goal

pub returns-clause-found : goal.returns-clause-found
returns-clause-found g c = subst (λ (k : StoreContent). IsBookOf g.S.Naming.names k.book) c.self.view_is (record {
  reached = (steps_of c.self.inside.history, c.self.inside.counters.totals, c.self.invariant.1);
  sound = c.reveal_invariant.ensures;
  seen = c.self.invariant.0.6;
  made = c.self.invariant.0.7;
})

pub returns-clause-balanced : goal.returns-clause-balanced
returns-clause-balanced g c = subst IsBalanced c.self.view_is c.self.invariant.0.4

pub returns-clause-content : goal.returns-clause-content
returns-clause-content g c = subst (IsContentOf g.S.Naming.names) c.self.view_is (record {
  steps = steps_of c.self.inside.history;
  leads = c.self.invariant.1;
  returned = (c.reveal_durable_state.ensures (state_of (record { book = c.self.inside.book; counts = c.self.inside.counters })) c.self.invariant.1).returned;
  formed = (c.reveal_durable_state.ensures (state_of (record { book = c.self.inside.book; counts = c.self.inside.counters })) c.self.invariant.1).formed;
  book = record {
    reached = (steps_of c.self.inside.history, c.self.inside.counters.totals, c.self.invariant.1);
    sound = c.reveal_invariant.ensures;
    seen = c.self.invariant.0.6;
    made = c.self.invariant.0.7;
  };
  balanced = c.self.invariant.0.4;
})
