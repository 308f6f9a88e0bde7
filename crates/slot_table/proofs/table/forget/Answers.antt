use Rattle.std.proofs.Common.{None, Some, cond, ap, ◌∙◌, sym}
use Rattle.std.specs.BTreeMap as tree
use Rattle.spec_lib.specs.Texts.{text_cmp}
use Rattle.slot_table.proofs.Indexing.{has_digest-shown}
use Rattle.slot_table.proofs.table.forget.Goals as goal

pub returns-in-Some : goal.returns-in-Some
returns-in-Some c = λ d.
    let test = ap (λ t. tree.is_at (text_cmp t) d) c.digest.ensures.value ∙ sym (has_digest-shown c.args.row.now c.deref.result.now (ap Some c.deref.ensures ∙ c.in-Some.ensures) d) in
    c.remove.ensures.updates.0 d ∙ ap (λ b. cond b None (tree.get text_cmp c.args.index.now d)) test
