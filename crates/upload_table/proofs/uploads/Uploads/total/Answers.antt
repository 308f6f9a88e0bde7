use Rattle.std.proofs.Common.{ap, sym, ◌∙◌}
use Rattle.store_model.specs.Sessions.{session_charges}
use Rattle.upload_table.specs.Uploaded.{Uploaded}
use Rattle.upload_table.proofs.AllTenants.{charged_there, tenant_at, within_next}
use Rattle.upload_table.proofs.uploads.Uploads.total.Goals as goal

pub returns : goal.returns
returns c =
    let tenants = c.self.inside.tenants.items in
    let at = tenant_at tenants c.args.tenant c.index.result.now (within_next tenants c.args.self.now c.args.tenant c.self.view_is c.requires.there) c.index.ensures in
    c.charged.ensures ∙ sym (charged_there tenants c.args.tenant c.index.result.now at) ∙ ap (λ (u : Uploaded). session_charges u.sessions c.args.tenant) c.self.view_is
