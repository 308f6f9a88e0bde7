use Rattle.std.proofs.Common.{◌≡◌, ◌+◌, ◌<◌, ◌≤◌, ◌^◌, ℕ, Option, Some, None, ap, arith, refl, subst, sym}
use Rattle.store_book.specs.SweepParts.{end_of}
use Rattle.blob_store.specs.SweepParts.{MakesParts, with_part}
use Rattle.blob_store.proofs.SweepParts.{makes_more, no_parts}
use Rattle.blob_store.proofs.store.Store.sweep_in_parts.Invariants.{place}
use Rattle.blob_store.proofs.store.Store.sweep_in_parts.Goals as goal

pub parts-init : goal.parts-init
parts-init g c = (no_parts g.S.Naming.names c.args.desk.now, omega arith, omega arith, omega arith)

pub parts-preserved : goal.parts-preserved
parts-preserved g c =
    let names = g.S.Naming.names in
    let was = c.parts.invariant in
    let part = c.sweep_part-part.result in
    let bounded = c.sweep_part-part.ensures.bounded in
    let here : place names.slots c.parts.from ≡ c.in-Some.slot = ap (place names.slots) c.in-Some.is in
    let made = subst (λ k. MakesParts names k c.parts.swept c.args.desk.now c.parts.desk) here was.0 in
    let more = makes_more names c.in-Some.slot (end_of names.slots part) c.parts.swept part.swept c.args.desk.now c.parts.desk c.sweep_part-part.new.desk c.deref_mut.result.now c.sweep_part-part.new.self made c.sweep_part-part.ensures.part c.sweep_part-part.ensures.makes in
    let visited = was.1 in
    let condemned = was.2 in
    let onwards = bounded.onwards in
    let live = bounded.condemned in
    rw c.add_part.ensures (more, omega arith, omega arith, bounded.within)
