use Rattle.std.proofs.Common.{ap, sym, ◌∙◌}
use Rattle.std.specs.FinMap.{get}
use Rattle.upload_table.specs.Uploaded.{Uploaded}
use Rattle.upload_table.proofs.AllTenants.{get_nowhere, get_there, tenant_at}
use Rattle.upload_table.proofs.uploads.Uploads.row.Goals as goal

pub returns-then-tenant-as_slice-clause-shown : goal.returns-then-tenant-as_slice-clause-shown
returns-then-tenant-as_slice-clause-shown c =
    let tenants = c.self.inside.tenants.items in
    let at = tenant_at tenants c.args.tenant c.index.result.now (rw c.as_slice.ensures.value at c.if-tenant-as_slice.true) c.index.ensures in
    c.row.ensures.shown ∙ sym (get_there tenants c.args.tenant c.index.result.now at c.args.number) ∙ ap (λ (u : Uploaded). get u.sessions (c.args.tenant, c.args.number)) c.self.view_is

pub returns-else-tenant-as_slice-clause-shown : goal.returns-else-tenant-as_slice-clause-shown
returns-else-tenant-as_slice-clause-shown c =
    sym (get_nowhere c.self.inside.tenants.items c.args.tenant c.args.number (rw c.as_slice.ensures.value at c.if-tenant-as_slice.false))
    ∙ ap (λ (u : Uploaded). get u.sessions (c.args.tenant, c.args.number)) c.self.view_is
