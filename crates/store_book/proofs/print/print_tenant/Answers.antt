use Rattle.std.proofs.Common.{List, ℕ, subst, ◌∙◌}
use Rattle.std.specs.Io.KnownBytes.{Appends}
use Rattle.store_model.specs.BookText.{tenant_line}
use Rattle.spec_lib.proofs.Writing.{Appends-then}
use Rattle.store_book.proofs.Refine.Tenants.{name_is, quota_is}
use Rattle.store_book.proofs.print.print_tenant.Goals as goal

pub returns : goal.returns
returns g c =
    let name = name_is c.args.tables.now.links.now.tenants c.args.tenant c.tenant_name-name.result.now c.tenant_name-name.ensures in
    let quota = c.quota-quota.ensures ∙ quota_is c.args.tables.now.links.now.tenants c.args.tenant in
    Appends-then c.print_repos.result _ _ _ _ _
    (subst (λ (t : List ℕ). Appends (g.W.Write.contents c.args.writer.now) (g.W.Write.contents c.print_use.new.writer) t)
    (λ i. tenant_line (name i) (c.used-used.ensures i) (quota i) (c.next-next.ensures i)) c.in_ok-print_use.ensures) c.print_repos.ensures
