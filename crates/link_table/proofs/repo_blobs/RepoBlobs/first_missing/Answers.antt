use Rattle.std.proofs.Common.{ap, ◌∙◌, is_some, not}
use Rattle.std.specs.FinMap.{contains_key}
use Rattle.std.specs.List.{find}
use Rattle.spec_lib.proofs.Trees.{get_is}
use Rattle.link_table.specs.Rows.{Sizes}
use Rattle.link_table.proofs.repo_blobs.RepoBlobs.first_missing.Goals as goal

pub returns : goal.returns
returns c =
    c.first_missing.ensures ∙ (λ i. find (λ d. not (is_some (get_is c.self.inside.sizes d i))) c.args.digests.now)
    ∙ ap (λ (m : Sizes). find (λ d. not (contains_key m d)) c.args.digests.now) c.self.view_is
