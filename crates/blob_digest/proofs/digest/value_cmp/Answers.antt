use Rattle.std.proofs.Common.{Equal, Greater, Less, ◌∙◌, arith, sym}
use Rattle.std.proofs.lemmas.List.{take_rest}
use Rattle.std.specs.Ordering.{nat_cmp}
use Rattle.std.specs.Cmp.Lexicographic.{slice_cmp}
use Rattle.spec_lib.proofs.Sorted.{nat_cmp-equal, nat_cmp-greater, nat_cmp-less}
use Rattle.blob_digest.proofs.WordOrder.{words_cmp}
use Rattle.blob_digest.proofs.digest.value_cmp.Goals as goal

pub returns-then-x-y : goal.returns-then-x-y
returns-then-x-y c =
    let by_words = words_cmp 8 _ _ _ _ c.requires.0 c.requires.1 (λ i. (c.type_inv.first i).fits) (λ i. (c.type_inv.second i).fits) c.first_word-x.ensures c.first_word-y.ensures in
    sym (by_words Less (nat_cmp-less _ _ c.if-x-y.true))

pub returns-then-y-x : goal.returns-then-y-x
returns-then-y-x c =
    let by_words = words_cmp 8 _ _ _ _ c.requires.0 c.requires.1 (λ i. (c.type_inv.first i).fits) (λ i. (c.type_inv.second i).fits) c.first_word-x.ensures c.first_word-y.ensures in
    sym (by_words Greater (nat_cmp-greater _ _ c.if-y-x.true))

pub returns-else-y-x : goal.returns-else-y-x
returns-else-y-x c =
    let by_words = words_cmp 8 _ _ _ _ c.requires.0 c.requires.1 (λ i. (c.type_inv.first i).fits) (λ i. (c.type_inv.second i).fits) c.first_word-x.ensures c.first_word-y.ensures in
    c.cmp.ensures ∙ (λ i. slice_cmp nat_cmp (take_rest c.args.first.now 8 i) (take_rest c.args.second.now 8 i))
    ∙ sym (by_words Equal (nat_cmp-equal c.first_word-x.result c.first_word-y.result (omega arith)))
