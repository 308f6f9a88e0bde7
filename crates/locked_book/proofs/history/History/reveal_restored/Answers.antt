use Rattle.locked_book.proofs.SeenHistories.{restores_seen}
use Rattle.locked_book.proofs.history.History.reveal_restored.Goals as goal

pub returns-clause-restores : goal.returns-clause-restores
returns-clause-restores g c = restores_seen g.S.Naming.names c.catch_up.ensures.sees c.requires c.reveal_durable_state.ensures
