-- The options that a run can have.
use Rattle.std.specs.Prelude.{◌≡◌, ◌<◌, ◌≤◌, ℕ, false}
use Rattle.store_book.specs.Openings.{HasNames, IsSized, IsWithinLimits, tenants_shown}
use Rattle.blobctl.specs.declared.options.Options.{Options}

-- a run can have this number of workers
pub record IsWorkerCount (workers : ℕ) : Type 0 where
  pub some : 0 < workers
  pub few : workers ≤ 64

-- the numbers are within their limits, a store can have the tenants, and contents lie in memory
pub record IsWithinOptionLimits (options : Options) : Type 0 where
  pub sized : IsSized options.store.slots options.store.max_blob
  pub names : HasNames (tenants_shown options.store.tenants.items)
  pub limits : IsWithinLimits (tenants_shown options.store.tenants.items)
  pub kept_in_memory : options.store.on_disk ≡ false
  pub first : options.store.first_generation ≡ 0
  pub workers : IsWorkerCount options.workers
