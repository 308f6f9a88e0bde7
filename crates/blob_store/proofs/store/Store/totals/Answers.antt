use Rattle.blob_store.proofs.store.Store.totals.Goals as goal

pub returns-clause-found : goal.returns-clause-found
returns-clause-found g c = (
  c.deref.result.now,
  c.totals.ensures.found,
  record {
    commands = c.totals.ensures.amounts.0;
    received = c.totals.ensures.amounts.1;
    in_sessions = c.totals.ensures.in_sessions;
    closed = c.totals.ensures.amounts.2;
    abandoned = c.totals.ensures.amounts.3;
    desks = c.totals.ensures.desks;
  },
)
