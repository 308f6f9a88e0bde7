use Rattle.std.proofs.Common.{◌≡◌, ◌/◌, ◌%◌, ◌<◌, ◌*◌, ◌==◌, length, w64, ap, ◌∙◌, arith}
use Rattle.std.specs.Prelude.{slice_index}
use Rattle.std.specs.Int.{bit_at}
use Rattle.std.proofs.lemmas.Grind.{get_or_default_zero}
use Rattle.std.proofs.lemmas.Nat.Bits.{bit_at_set_same, bit_at_set_other, bit_at_clear_same, bit_at_clear_other}
use Rattle.slot_table.proofs.SlotSets.{contains_slot-set}
use Rattle.slot_table.proofs.slot_set.SlotSet.set.Goals as goal

pub returns-then-is_in-clause-each : goal.returns-then-is_in-clause-each
returns-then-is_in-clause-each c =
    let words = c.self.inside.words.items in
    let k = c.args.slot in
    let word = c.index_mut.result.now in
    let bit : k % 64 < 64 = omega arith in
    let within : k < 64 * length words = rw c.self.view_is c.requires in
    let lt : k / 64 < length words = omega arith in
    let read : word ≡ slice_index words (k / 64) = c.index_mut.ensures.value ∙ get_or_default_zero words (k / 64) word lt in
    rw (← c.self.view_is, c.if-is_in.true) (contains_slot-set words k _ _ lt (ap (λ n. n == 1) (bit_at_set_same w64 word (k % 64) bit)) (λ i below ne. bit_at_set_other w64 word (k % 64) bit i ne ∙ ap (λ n. bit_at n i) read))

pub returns-else-is_in-clause-each : goal.returns-else-is_in-clause-each
returns-else-is_in-clause-each c =
    let words = c.self.inside.words.items in
    let k = c.args.slot in
    let word = c.index_mut-else-is_in.result.now in
    let bit : k % 64 < 64 = omega arith in
    let within : k < 64 * length words = rw c.self.view_is c.requires in
    let lt : k / 64 < length words = omega arith in
    let read : word ≡ slice_index words (k / 64) = c.index_mut-else-is_in.ensures.value ∙ get_or_default_zero words (k / 64) word lt in
    rw (← c.self.view_is, c.if-is_in.false) (contains_slot-set words k _ _ lt (ap (λ n. n == 1) (bit_at_clear_same w64 word (k % 64) bit)) (λ i below ne. bit_at_clear_other w64 word (k % 64) bit i below ne ∙ ap (λ n. bit_at n i) read))
