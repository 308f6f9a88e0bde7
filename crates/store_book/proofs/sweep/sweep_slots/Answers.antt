use Rattle.std.proofs.Common.{◌≡◌, ◌+◌, ◌-◌, ◌≤◌, ℕ, Option, Some, None, ap, arith, length, refl, sym, subst, ◌∙◌}
use Rattle.slot_table.specs.Slots.{orphan_from, phase_at}
use Rattle.store_book.specs.Pinned.{Pinned}
use Rattle.store_book.specs.SweepParts.{visited_count}
use Rattle.store_book.specs.Internal.SweptSlots.{counts_with}
use Rattle.store_book.proofs.Slots.Swept.{became_of, ends, more, next_ended, next_given, o, one_more, orphan_condemned, orphan_next, orphan_place, stops}
use Rattle.store_book.proofs.sweep.sweep_slots.Goals as goal

pub condemn-was_live-requires-clause-orphan : goal.condemn-was_live-requires-clause-orphan
condemn-was_live-requires-clause-orphan c =
    orphan_next c.orphans.slots.slots c.orphans.next c.in-Some.slot (next_given c.orphans.left (orphan_from c.orphans.slots.slots c.orphans.next) c.in-Some.slot (sym c.in-Some.ensures)).1

pub reclaim-became-requires-clause-condemned : goal.reclaim-became-requires-clause-condemned
reclaim-became-requires-clause-condemned c =
    ap (λ (p : Pinned). phase_at p.slots c.in-Some.slot) c.condemn-was_live.ensures.after
    ∙ orphan_condemned c.orphans.slots.slots c.orphans.next c.in-Some.slot (next_given c.orphans.left (orphan_from c.orphans.slots.slots c.orphans.next) c.in-Some.slot (sym c.in-Some.ensures)).1

pub orphans-preserved : goal.orphans-preserved
orphans-preserved c =
    let given = next_given c.orphans.left (orphan_from c.orphans.slots.slots c.orphans.next) c.in-Some.slot (sym c.in-Some.ensures) in
    let next = given.1 in
    let part = c.orphans.invariant.0 in
    let counted = counts_with c.condemn-was_live.result c.reclaim-became.result c.orphans.swept in
    let first = o c.args.from c.args.slots.now c.orphans.slots c.reclaim-became.new.self c.orphans.next c.in-Some.slot c.orphans.swept c.count.new.swept c.condemn-was_live.result part next in
    let becomes = became_of c.in-Some.slot c.orphans.slots c.condemn-was_live.new.self c.reclaim-became.new.self first.2.found c.orphans.swept c.condemn-was_live.result c.reclaim-became.result
    (orphan_place c.orphans.slots.slots c.orphans.next c.in-Some.slot next) first.2.passes c.condemn-was_live.ensures.after c.reclaim-became.ensures.answer c.reclaim-became.ensures.unlent in
    let one = one_more c.args.from c.args.slots.now c.orphans.slots c.reclaim-became.new.self c.orphans.next c.in-Some.slot c.orphans.swept counted c.condemn-was_live.result part next c.condemn-was_live.ensures.live becomes in
    let some = given.0 in
    let before = c.orphans.invariant.1 in
    rw c.count.ensures (more c.args.from c.args.slots.now c.orphans.slots c.reclaim-became.new.self c.orphans.next c.in-Some.slot c.orphans.swept counted c.condemn-was_live.result part next c.condemn-was_live.ensures.live becomes, omega arith)

pub returns-then-left-gt0-clause-sweeps : goal.returns-then-left-gt0-clause-sweeps
returns-then-left-gt0-clause-sweeps c =
    let none = next_ended c.orphans.left (orphan_from c.orphans.slots.slots c.orphans.next) c.if-left-gt0.true (sym c.in_default.ensures) in
    stops c.args.from c.args.slots.now c.orphans.slots (length c.args.slots.now.slots) c.orphans.swept (ends c.args.from c.args.slots.now c.orphans.slots c.orphans.next c.orphans.swept c.orphans.invariant.0 none)

pub returns-else-left-gt0-clause-sweeps : goal.returns-else-left-gt0-clause-sweeps
returns-else-left-gt0-clause-sweeps c = stops c.args.from c.args.slots.now c.orphans.slots c.orphans.next c.orphans.swept c.orphans.invariant.0
