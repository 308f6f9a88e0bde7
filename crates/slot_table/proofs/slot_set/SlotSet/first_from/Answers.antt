use Rattle.std.proofs.Common.{◌≡◌, ◌/◌, ◌<◌, length, refl, sym, ap, ◌∙◌, arith}
use Rattle.std.specs.Prelude.{slice_index}
use Rattle.std.specs.Int.{bit_at}
use Rattle.std.proofs.lemmas.Grind.{get_or_default_zero}
use Rattle.slot_table.proofs.SlotSets.{next_later}
use Rattle.slot_table.proofs.slot_set.SlotSet.first_from.Goals as goal

pub lowest_bit-requires : goal.lowest_bit-requires
lowest_bit-requires c =
    let words = c.self.inside.words.items in
    let found = rw c.as_slice.ensures.value at c.in_ok-place.ensures.some in
    λ e. found.2 (sym (c.index-2.ensures ∙ get_or_default_zero words c.in_ok-place.place c.index-2.result.now found.1) ∙ e)

pub returns-clause-some : goal.returns-clause-some
returns-clause-some c =
    let words = c.self.inside.words.items in
    let slot = c.args.slot in
    let here = c.index.result.now in
    let further = c.in_ok-place.place in
    let word = c.index-2.result.now in
    let len = c.if-place-len.false in
    let place : slot / 64 < length words = omega arith in
    let none = rw (c.index.ensures ∙ get_or_default_zero words (slot / 64) here place) at c.in_default.ensures.none refl in
    let found = rw c.as_slice.ensures.value at c.in_ok-place.ensures.some in
    let read : word ≡ slice_index words further = c.index-2.ensures ∙ get_or_default_zero words further word found.1 in
    let low = c.lowest_bit.ensures in
    let bit = c.lowest_bit.result in
    let n = next_later words slot (slot / 64) further bit refl found.0 low.within none found.3 (ap (λ m. bit_at m bit) (sym read) ∙ low.there) (λ j lt. ap (λ m. bit_at m j) (sym read) ∙ low.below j lt) in
    rw (← c.self.view_is) (n.from, n.there, n.before)
