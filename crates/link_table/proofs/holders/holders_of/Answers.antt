use Rattle.std.proofs.Common.{rules, ◌≡◌, ap, ◌∙◌}
use Rattle.std.specs.Prelude.{unwrap_or}
use Rattle.std.specs.BTreeMap as tree
use Rattle.spec_lib.specs.Texts.{text_cmp}
use Rattle.spec_lib.proofs.Trees.{get_is}
use Rattle.link_table.specs.Holders.{count_in}
use Rattle.link_table.proofs.holders.holders_of.Goals as goal

pub returns : goal.returns
returns c =
    let found : c.unwrap_or.result ≡ unwrap_or (tree.get text_cmp c.holders.inside.counts c.args.digest.now) 0 = search rules in
    found ∙ ap (λ o. unwrap_or o 0) (get_is c.holders.inside.counts c.args.digest.now) ∙ ap (λ m. count_in m c.args.digest.now) c.holders.view_is
