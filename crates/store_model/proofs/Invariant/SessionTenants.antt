-- The tenant of a session is one of the store's, and its repository's.
use Rattle.std.proofs.Common.{◌≡◌, ◌<◌, length, Some}
use Rattle.std.specs.FinMap.{get}
use Rattle.store_model.specs.Catalog.{SessionNumber, Session, Catalog, tenant_of}
use Rattle.store_model.specs.Invariant.{WellFormed}
use Rattle.store_model.proofs.Commands.Accepted.{tenant_there}
use Rattle.spec_lib.proofs.Options.{option_eq_some}

module _ (C : Catalog) (lawful : WellFormed C) (key : SessionNumber) (s : Session) (found : get C.sessions key ≡ Some s) where
  pub session_owner : tenant_of C.tenants s.repo ≡ Some key.0
  session_owner = option_eq_some (tenant_of C.tenants s.repo) key.0 (lawful.sessions key s found).tenant

  pub session_tenant : key.0 < length C.tenants
  session_tenant = tenant_there C.tenants s.repo key.0 session_owner
