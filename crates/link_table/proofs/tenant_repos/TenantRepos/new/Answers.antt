use Rattle.std.specs.Map.{keys_of}
use Rattle.spec_lib.specs.Sets as set
use Rattle.link_table.proofs.Groups.{ungrouped-new}
use Rattle.link_table.proofs.tenant_repos.TenantRepos.new.Goals as goal

pub returns : goal.returns
returns c = λ j. record { repos = set.from_list (keys_of (c.new.ensures.empty j)); links = ungrouped-new c.new.result c.new.ensures.empty j }
