use Rattle.blob_store.proofs.store.Store.sweep.Goals as goal

pub returns : goal.returns
returns g c = (c.deref_mut.result.now, c.sweep.new.self, c.sweep.ensures.sweeps)
