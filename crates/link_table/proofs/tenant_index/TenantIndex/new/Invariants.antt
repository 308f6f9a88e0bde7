use Rattle.std.proofs.Common.{take}
use Rattle.link_table.specs.TenantIndex.{IsIndexOf}
use Rattle.link_table.proofs.tenant_index.TenantIndex.new.Given as goal

-- the index has the numbers of the tenants so far
abbrev pub invariant-loop-number : goal.invariant-loop-number
invariant-loop-number l = IsIndexOf (take l.number l.tenants) l.index
