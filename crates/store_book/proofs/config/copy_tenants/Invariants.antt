use Rattle.std.proofs.Common.{◌≡◌, take}
use Rattle.link_table.specs.Tenancy.{tenants_shown}
use Rattle.store_book.proofs.config.copy_tenants.Given as goal

abbrev pub invariant-loop-tenant : goal.invariant-loop-tenant
invariant-loop-tenant l = tenants_shown l.copies.items ≡ tenants_shown (take l.tenant-index l.tenants)
