use Rattle.std.proofs.Common.{◌≡◌, ◌<◌, ◌++◌, length, map, take, drop, set, get_or, sym, ◌∙◌, ap, add-one, arith, List, vec_len}
use Rattle.std.proofs.Math.Seq.{take-append_seam}
use Rattle.pin_core.specs.declared.world.PinEntry.{PinEntry}
use Rattle.pin_core.specs.Events.{half_if_named}
use Rattle.pin_core.proofs.Changes.{map_more, map_whole}
use Rattle.pin_core.proofs.pins.halve_named.Goals as goal

pub loop-entry-preserved : goal.loop-entry-preserved
loop-entry-preserved c =
    let xs : List PinEntry = c.deref_mut-entry-items.result.now in
    let f = half_if_named c.args.name in
    let read = c.entry-item.is ∙ ap (λ (es : List PinEntry). get_or es c.loop-entry.entry-index c.entry-item.result) c.loop-entry.invariant in
    let lt : c.loop-entry.entry-index < length xs = omega arith in
    rw add-one (ap (set c.loop-entry.entry-items c.loop-entry.entry-index) (c.half_if_named.ensures ∙ ap f (sym c.entry-item.is))
    ∙ ap (λ (es : List PinEntry). set es c.loop-entry.entry-index (f c.entry-item.result)) c.loop-entry.invariant
    ∙ map_more f xs c.loop-entry.entry-index c.entry-item.result lt read)

pub returns : goal.returns
returns c =
    let len : vec_len c.args.pins.now ≡ length c.loop-entry.entry-items = sym c.deref_mut-entry-items.ensures.len ∙ sym c.loop-entry.auto.entry-items in
    ap (λ n. take n (c.loop-entry.entry-items ++ drop (length c.loop-entry.entry-items) c.args.pins.now.items)) len
    ∙ take-append_seam c.loop-entry.entry-items (drop (length c.loop-entry.entry-items) c.args.pins.now.items)
    ∙ c.loop-entry.invariant
    ∙ map_whole (half_if_named c.args.name) c.deref_mut-entry-items.result.now c.loop-entry.entry-index c.loop-entry-test.false
    ∙ ap (map (half_if_named c.args.name)) c.deref_mut-entry-items.ensures.value
