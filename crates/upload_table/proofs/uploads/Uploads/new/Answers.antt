use Rattle.std.proofs.Common.{ap, ◌∙◌}
use Rattle.upload_table.specs.Tenants.{tenants_shown}
use Rattle.upload_table.proofs.AllTenants.{initial_is}
use Rattle.upload_table.proofs.uploads.Uploads.new.Goals as goal

pub returns-clause-value : goal.returns-clause-value
returns-clause-value c = ap tenants_shown c.in_ok-tenants.ensures.ok ∙ initial_is c.args.tenants c.args.first_number
