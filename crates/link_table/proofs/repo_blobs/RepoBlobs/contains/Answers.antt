use Rattle.std.proofs.Common.{ap, ◌∙◌, is_some}
use Rattle.std.specs.FinMap.{contains_key}
use Rattle.spec_lib.proofs.Trees.{get_is}
use Rattle.link_table.specs.Rows.{Sizes}
use Rattle.link_table.proofs.repo_blobs.RepoBlobs.contains.Goals as goal

pub returns : goal.returns
returns c = c.contains_key.ensures ∙ ap is_some (get_is c.self.inside.sizes c.args.digest.now) ∙ ap (λ (m : Sizes). contains_key m c.args.digest.now) c.self.view_is
