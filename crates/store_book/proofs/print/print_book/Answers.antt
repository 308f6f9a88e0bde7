use Rattle.std.proofs.Common.{◌<◌, ◌≤◌, ◌++◌, List, ℕ, length, arith, subst}
use Rattle.std.specs.Io.KnownBytes.{Appends}
use Rattle.std.specs.List.{flat_map, enumerate_from}
use Rattle.store_book.specs.Internal.Lines.{tenant_in, tenant_rows}
use Rattle.store_model.specs.BookText.{book_line, end_line}
use Rattle.spec_lib.proofs.Writing.{Appends-after, Appends-then}
use Rattle.store_book.proofs.Refine.Tenants.{all_numbered, numbered}
use Rattle.store_book.proofs.print.print_book.Goals as goal

pub loop-tenant-preserved : goal.loop-tenant-preserved
loop-tenant-preserved g c =
    let count = c.tenants-tenant-end.ensures.count in
    let there : c.loop-tenant.tenant < length c.args.links.now.tenants = omega arith in
    Appends-after (tenant_rows c.args.links.now c.args.uploads.now c.args.slots.now) _ _ _ book_line (enumerate_from 0 c.args.links.now.tenants) c.loop-tenant.tenant (c.loop-tenant.tenant, tenant_in c.args.links.now.tenants c.loop-tenant.tenant)
    c.loop-tenant.invariant c.in_ok-print_tenant.ensures (numbered c.args.links.now.tenants c.loop-tenant.tenant there)

pub returns : goal.returns
returns g c =
    let count = c.tenants-tenant-end.ensures.count in
    let over : length c.args.links.now.tenants ≤ c.loop-tenant.tenant = omega arith in
    let all = all_numbered (tenant_rows c.args.links.now c.args.uploads.now c.args.slots.now) c.args.links.now.tenants c.loop-tenant.tenant over in
    Appends-then c.write_all-2.result _ _ _ (book_line ++ flat_map (tenant_rows c.args.links.now c.args.uploads.now c.args.slots.now) (enumerate_from 0 c.args.links.now.tenants)) end_line
    (subst (λ (t : List ℕ). Appends (g.W.Write.contents c.args.writer.now) (g.W.Write.contents c.loop-tenant.writer) (book_line ++ t)) all c.loop-tenant.invariant) c.write_all-2.ensures.bytes
