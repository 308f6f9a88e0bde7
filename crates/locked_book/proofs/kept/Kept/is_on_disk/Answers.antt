use Rattle.std.proofs.Common.{refl}
use Rattle.locked_book.specs.History.{state_of}
use Rattle.locked_book.proofs.SeenHistories.{leads_seen, sees_store_history, whole_seen}
use Rattle.locked_book.proofs.kept.Kept.is_on_disk.Goals as goal

pub reveal_restored-requires : goal.reveal_restored-requires
reveal_restored-requires g c = (state_of (record { book = c.self.inside.book; counts = c.self.inside.counters }), c.self.invariant.1)

pub returns-clause-sees : goal.returns-clause-sees
returns-clause-sees g c = sees_store_history g.S.Naming.names c.reveal_restored.ensures.sees c.desk.view_is refl c.reveal_restored.ensures.restores

pub returns-clause-leads : goal.returns-clause-leads
returns-clause-leads g c = leads_seen g.S.Naming.names c.reveal_restored.ensures.sees (state_of (record { book = c.self.inside.book; counts = c.self.inside.counters })) refl c.self.invariant.1

pub returns-clause-whole : goal.returns-clause-whole
returns-clause-whole g c done = whole_seen g.S.Naming.names c.reveal_restored.ensures.sees c.args.device.now c.reveal_restored.ensures.same (c.is_on_disk.ensures.whole done)
