use Rattle.std.proofs.Common.{subst, set}
use Rattle.blob_digest.specs.Outcomes.{Does}
use Rattle.upload_table.specs.Tenants.{tenants_shown}
use Rattle.upload_table.specs.Uploaded.{Uploaded, start_upload}
use Rattle.upload_table.proofs.AllTenants.{start_does, tenant_at, within_next}
use Rattle.upload_table.proofs.uploads.Uploads.start.Goals as goal

pub returns : goal.returns
returns c =
    let tenants = c.self.inside.tenants.items in
    let s = c.index_mut.result.now in
    let at = tenant_at tenants c.args.tenant s (within_next tenants c.args.self.now c.args.tenant c.self.view_is c.requires.there) c.index_mut.ensures.value in
    subst (λ (v : Uploaded). Does (λ n. n) c.start.result v (tenants_shown (set tenants c.args.tenant c.start.new.self)) (start_upload c.args.limit v c.args.tenant c.args.repo.now)) c.self.view_is
    (start_does tenants c.args.tenant s at c.args.limit c.args.repo.now c.start.new.self c.start.result c.start.ensures)
