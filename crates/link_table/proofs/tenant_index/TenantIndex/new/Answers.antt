use Rattle.std.proofs.Common.{◌<◌, length, arith, subst}
use Rattle.link_table.specs.TenantIndex.{AddsNumber}
use Rattle.link_table.proofs.TenantIndexes.{IsIndexOf-next}
use Rattle.link_table.proofs.tenant_index.TenantIndex.new.Goals as goal

pub loop-number-preserved : goal.loop-number-preserved
loop-number-preserved c =
    let there : c.loop-number.number < length c.args.tenants.now = omega (arith, c.loop-number-test.true) in
    let added = subst (λ name. AddsNumber c.loop-number.index c.add.new.self name c.loop-number.number) c.in_ok-clone.ensures.cases c.in_ok-add.ensures.ok in
    IsIndexOf-next c.args.tenants.now c.loop-number.number c.index-tenants-number.result c.loop-number.index c.add.new.self c.requires.apart there c.index-tenants-number.is c.loop-number.invariant added
