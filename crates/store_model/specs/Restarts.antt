-- The theorems about histories for a restarted store, whose first catalog is any sound one with no session checked out.
use Rattle.std.specs.Prelude.{◌≡◌, ℕ, List, ◌++◌, map}
use Rattle.std.specs.List.{AllByRecursion}
use Rattle.std.specs.FinMap as fmap
use Rattle.spec_lib.specs.Texts.{Text}
use Rattle.store_model.specs.Catalog.{Catalog, Tenant}
use Rattle.store_model.specs.Durable.{Agrees, DurableState}
use Rattle.store_model.specs.Histories.{LeadsTo, State, Step, initial_state}
use Rattle.store_model.specs.HistoryIsolation.{AreOwnReplies, catalog_after_requests, isolated_steps, requests_of, steps_of, uploads_of_history}
use Rattle.store_model.specs.Invariant.{Sound}
use Rattle.store_model.specs.Noninterference.{AreTenantsAlike, NoCollision, tenant_view}
use Rattle.store_model.specs.Runs.{Event, HasShortName, IsRun}
use Rattle.store_model.specs.WholeCommands.{AreContentionFree, AreWholeCommands}

-- ---- whole commands

-- A history of a restarted store that is free of contention and ends with no session checked out is a run of whole commands.
abbrev pub RestartedHistoriesAreRuns : Type 0
RestartedHistoriesAreRuns = (D : DurableState) (C : Catalog) (steps : List Step) (s : State) (events : List Event) →
    Agrees fmap.empty D C → Sound C → (run : LeadsTo C steps s) → AreContentionFree (initial_state C) steps s run →
    AreWholeCommands fmap.empty steps events → AllByRecursion HasShortName events → IsRun C events s.catalog

-- ---- isolation

-- the digests and bytes of the stored blobs
abbrev pub stored_contents : Catalog → List (Text × Text)
stored_contents C = map {B = Text × Text} (λ e. (e.0, e.1.bytes)) (fmap.entries C.residents)

-- The steps lead from the catalog C to a state, and no two stored or uploaded contents differ and have the same digest.
pub record IsCollisionFreeFrom (C : Catalog) (steps : List Step) (s : State) : Type 0 where
  pub run : LeadsTo C steps s
  pub no_collision : NoCollision (stored_contents C ++ uploads_of_history (initial_state C) steps s run)

-- the catalog with the tenants `others`
abbrev pub with_others : Catalog → List Tenant → Catalog
with_others C others = record C { tenants = others }

-- a tenant's steps and its view at the end are those of its isolated history from the catalog C with the tenants `others`
pub record IsIsolatedFrom (C : Catalog) (others : List Tenant) (t : ℕ) (steps : List Step) (s : State) : Type 0 where
  pub replies : isolated_steps (with_others C others) (requests_of (steps_of C.tenants t steps)) ≡ steps_of C.tenants t steps
  pub tenant_view : tenant_view s.catalog t ≡ tenant_view (catalog_after_requests (with_others C others) (requests_of (steps_of C.tenants t steps))) t

-- If no reply to a tenant is one that others may cause, its replies and its view at the end are those of its isolated history, whatever settings the others have in it.
abbrev pub TenantsAreIsolatedFrom : Type 0
TenantsAreIsolatedFrom = (C : Catalog) (others : List Tenant) (t : ℕ) (steps : List Step) (s : State) → AreTenantsAlike t C.tenants others → Sound C → (fair : IsCollisionFreeFrom C steps s) →
    AreOwnReplies C.tenants t (initial_state C) steps s fair.run → IsIsolatedFrom C others t steps s
