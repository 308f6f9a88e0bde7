use Rattle.std.proofs.Common.{ap, ◌∙◌, map}
use Rattle.store_model.specs.Sessions.{number_and_length, sessions_of}
use Rattle.upload_table.specs.Uploaded.{Uploaded}
use Rattle.upload_table.proofs.AllTenants.{tenant_at}
use Rattle.upload_table.proofs.TableCalls.{listed_nowhere, listed_there}
use Rattle.upload_table.proofs.uploads.Uploads.sessions.Goals as goal

pub returns-then-tenant-as_slice : goal.returns-then-tenant-as_slice
returns-then-tenant-as_slice c =
    let tenants = c.self.inside.tenants.items in
    let at = tenant_at tenants c.args.tenant c.index.result.now (rw c.as_slice.ensures.value at c.if-tenant-as_slice.true) c.index.ensures in
    listed_there tenants c.args.tenant c.index.result.now c.args.repo.now c.rows.result.now at c.rows.ensures.shown c.rows.ensures.whole
    ∙ ap (λ (u : Uploaded). map number_and_length (sessions_of u.sessions c.args.tenant c.args.repo.now)) c.self.view_is

pub returns-else-tenant-as_slice : goal.returns-else-tenant-as_slice
returns-else-tenant-as_slice c =
    listed_nowhere c.self.inside.tenants.items c.args.tenant c.args.repo.now (rw c.as_slice.ensures.value at c.if-tenant-as_slice.false)
    ∙ ap (λ (u : Uploaded). map number_and_length (sessions_of u.sessions c.args.tenant c.args.repo.now)) c.self.view_is
