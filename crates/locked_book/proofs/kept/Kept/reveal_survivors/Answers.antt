use Rattle.std.proofs.Common.{refl}
use Rattle.locked_book.specs.History.{state_of}
use Rattle.locked_book.proofs.SeenHistories.{leads_seen, sees_store_history, survives_seen}
use Rattle.locked_book.proofs.kept.Kept.reveal_survivors.Goals as goal

pub reveal_restored-requires : goal.reveal_restored-requires
reveal_restored-requires g c = (state_of (record { book = c.self.inside.book; counts = c.self.inside.counters }), c.self.invariant.1)

pub returns-clause-sees : goal.returns-clause-sees
returns-clause-sees g c = sees_store_history g.S.Naming.names c.reveal_restored.ensures.sees c.desk.view_is c.reveal_survivors.ensures.same.2 c.reveal_restored.ensures.restores

pub returns-clause-leads : goal.returns-clause-leads
returns-clause-leads g c = leads_seen g.S.Naming.names c.reveal_restored.ensures.sees (state_of (record { book = c.self.inside.book; counts = c.self.inside.counters })) c.reveal_survivors.ensures.same.2 c.self.invariant.1

pub returns-clause-survives : goal.returns-clause-survives
returns-clause-survives g c =
    let crash = c.reveal_survivors.ensures in
    survives_seen g.S.Naming.names c.reveal_restored.ensures.sees c.reveal_restored.ensures.same crash.same.2 crash.known crash.durable crash.in_order
