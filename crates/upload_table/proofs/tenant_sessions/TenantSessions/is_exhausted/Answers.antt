use Rattle.std.proofs.Common.{ap, sym, ◌∙◌}
use Rattle.std.proofs.lemmas.Bool.{le-leb}
use Rattle.upload_table.specs.Tenants.{is_exhausted}
use Rattle.upload_table.proofs.TenantRows.{spent_few, spent_many}
use Rattle.upload_table.proofs.tenant_sessions.TenantSessions.is_exhausted.Goals as goal

pub returns-then-as_slice-limit : goal.returns-then-as_slice-limit
returns-then-as_slice-limit c =
    le-leb c.args.limit _ c.if-as_slice-limit.true ∙ sym (spent_many c.self.inside.next c.self.inside.charged c.self.inside.rows.items c.self.invariant c.args.limit (rw c.as_slice.ensures.value at c.if-as_slice-limit.true)) ∙ ap (is_exhausted c.args.limit) c.self.view_is

pub returns-else-as_slice-limit : goal.returns-else-as_slice-limit
returns-else-as_slice-limit c =
    sym (spent_few c.self.inside.next c.self.inside.charged c.self.inside.rows.items c.self.invariant c.args.limit (rw c.as_slice.ensures.value at c.if-as_slice-limit.false)) ∙ ap (is_exhausted c.args.limit) c.self.view_is
