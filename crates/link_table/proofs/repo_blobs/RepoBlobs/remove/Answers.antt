use Rattle.std.proofs.Common.{ap, ◌∙◌}
use Rattle.std.specs.Cmp.Lexicographic.{nat_list_cmp_total}
use Rattle.std.specs.FinMap.{get, remove}
use Rattle.std.proofs.lemmas.Map.Lookups.{exact_bytes}
use Rattle.spec_lib.proofs.Trees.{get_is, tree_remove}
use Rattle.link_table.specs.Rows.{Sizes}
use Rattle.link_table.proofs.repo_blobs.RepoBlobs.remove.Goals as goal

pub returns-clause-value : goal.returns-clause-value
returns-clause-value c = c.remove.ensures.value ∙ get_is c.self.inside.sizes c.args.digest.now ∙ ap (λ (m : Sizes). get m c.args.digest.now) c.self.view_is

pub returns-clause-gone : goal.returns-clause-gone
returns-clause-gone c =
    tree_remove nat_list_cmp_total exact_bytes c.self.inside.sizes c.remove.new.self c.args.digest.now c.remove.ensures.updates.0
    ∙ ap (λ (m : Sizes). remove m c.args.digest.now) c.self.view_is
