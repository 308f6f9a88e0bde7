use Rattle.std.proofs.Common.{ap, sym, ◌∙◌}
use Rattle.std.specs.FinMap.{get}
use Rattle.upload_table.specs.Tenants.{SessionsByNumber}
use Rattle.upload_table.proofs.TenantRows.{absent, found}
use Rattle.upload_table.proofs.tenant_sessions.TenantSessions.row.Goals as goal

pub returns-in-Ok-clause-shown : goal.returns-in-Ok-clause-shown
returns-in-Ok-clause-shown c =
    sym (found c.self.inside.next c.self.inside.charged c.self.inside.rows.items c.self.invariant c.args.number c.in-Ok.i c.index.result.now (rw c.as_slice.ensures.value at c.in-Ok.ensures.within) (rw c.as_slice.ensures.value at c.in-Ok.ensures.place) c.index.ensures)
    ∙ ap (λ (s : SessionsByNumber). get s.sessions c.args.number) c.self.view_is

pub returns-in-Err-clause-shown : goal.returns-in-Err-clause-shown
returns-in-Err-clause-shown c =
    sym (absent c.self.inside.next c.self.inside.charged c.self.inside.rows.items c.self.invariant c.args.number c.in-Err.field-0 (rw c.as_slice.ensures.value at c.in-Err.ensures.place))
    ∙ ap (λ (s : SessionsByNumber). get s.sessions c.args.number) c.self.view_is
