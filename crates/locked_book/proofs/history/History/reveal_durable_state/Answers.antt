use Rattle.locked_book.proofs.Restoring.{restorable}
use Rattle.locked_book.proofs.history.History.reveal_durable_state.Goals as goal

pub returns : goal.returns
returns g c = λ s leads.
    let facts = c.reveal_invariant.ensures in
    restorable g.S.Naming.names c.args.self.now s facts.opening leads facts.returned facts.formed
