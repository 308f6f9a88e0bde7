use Rattle.std.proofs.Common.{ap, sym, ◌∙◌, map}
use Rattle.std.specs.FinMap.{entries}
use Rattle.upload_table.specs.Rows.{entry_of}
use Rattle.upload_table.specs.Tenants.{SessionsByNumber}
use Rattle.upload_table.proofs.TenantRows.{entries-rows}
use Rattle.upload_table.proofs.tenant_sessions.TenantSessions.rows.Goals as goal

pub returns-clause-shown : goal.returns-clause-shown
returns-clause-shown c =
    ap (map entry_of) c.as_slice.ensures.value ∙ sym (entries-rows c.self.inside.next c.self.inside.charged c.self.inside.rows.items c.self.invariant)
    ∙ ap (λ (s : SessionsByNumber). entries s.sessions) c.self.view_is
