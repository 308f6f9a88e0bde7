use Rattle.std.proofs.Common.{◌≡◌, ◌+◌, ◌-◌, ◌^◌, ◌<◌, sym, ap, ◌∙◌, arith}
use Rattle.std.specs.Int.{bit_at}
use Rattle.std.proofs.lemmas.Nat.Bits.{bit_at-zero}
use Rattle.slot_table.proofs.SlotSets.{bit_at-rest, in_word}
use Rattle.slot_table.proofs.slot_set.bit_from.Goals as goal

pub returns-then-rest-eq0-clause-none : goal.returns-then-rest-eq0-clause-none
returns-then-rest-eq0-clause-none c = λ e i le.
    let n = c.args.word in
    let k = c.args.from in
    ap (bit_at n) (omega arith) ∙ sym (bit_at-rest n k (i - k)) ∙ ap (λ m. bit_at m (i - k)) c.if-rest-eq0.true ∙ bit_at-zero (i - k)

pub returns-else-rest-eq0-clause-some : goal.returns-else-rest-eq0-clause-some
returns-else-rest-eq0-clause-some c =
    let n = c.args.word in
    let k = c.args.from in
    let fits : n < 2 ^ 64 = omega arith in
    let low = c.lowest_bit.ensures in
    let t = c.lowest_bit.result in
    let at : bit_at n (k + t) ≡ 1 = sym (bit_at-rest n k t) ∙ low.there in (
      omega arith,
      in_word n (k + t) fits at,
      at,
      λ i le lt. ap (bit_at n) (omega arith) ∙ sym (bit_at-rest n k (i - k)) ∙ low.below (i - k) (omega arith),
    )
