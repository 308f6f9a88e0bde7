use Rattle.std.proofs.Common.{ap, ◌∙◌}
use Rattle.upload_table.specs.Tenants.{charged_in}
use Rattle.upload_table.proofs.TenantRows.{charged_kept}
use Rattle.upload_table.proofs.tenant_sessions.TenantSessions.charged.Goals as goal

pub returns : goal.returns
returns c = charged_kept c.self.inside.next c.self.inside.charged c.self.inside.rows.items c.self.invariant ∙ ap charged_in c.self.view_is
