use Rattle.std.proofs.Common.{ap, sym, ◌∙◌}
use Rattle.std.specs.Cmp.Lexicographic.{nat_list_cmp_total}
use Rattle.std.specs.FinMap.{entries}
use Rattle.std.proofs.lemmas.Map.Lookups.{exact_bytes}
use Rattle.spec_lib.specs.Texts.{text_cmp}
use Rattle.spec_lib.proofs.Sorted.{entries-sorted}
use Rattle.link_table.specs.Rows.{Sizes}
use Rattle.link_table.proofs.TenantRepoRows.{sorted_tree}
use Rattle.link_table.proofs.repo_blobs.RepoBlobs.iter.Goals as goal

pub returns : goal.returns
returns c =
    let es = c.self.inside.sizes.entries in
    c.iter.ensures.rest ∙ sym (entries-sorted text_cmp nat_list_cmp_total exact_bytes es (sorted_tree es c.iter.ensures.ordered))
    ∙ ap (λ (m : Sizes). entries m) c.self.view_is
