use Rattle.std.proofs.Common.{◌≢◌, true, rules, sym, ap, ◌∙◌}
use Rattle.slot_table.specs.declared.phase.Phase.TheVariants as phase
use Rattle.slot_table.specs.Slots.{mark, on_stored_blob, phase_at}
use Rattle.store_book.specs.Pinned.{Pinned, is_orphan_at}
use Rattle.store_book.proofs.Slots.Pinned.{IsPinned-marked, one_each-kept}
use Rattle.store_book.proofs.Slots.Reclaimed.{condemned-same, orphan_held, orphan_slot}
use Rattle.store_book.proofs.pinned_slots.PinnedSlots.condemn.Goals as goal

pub invariant_of-self : goal.invariant_of-self
invariant_of-self c =
    let s = orphan_slot c.self.inside.slots c.args.slot (ap (λ (p : Pinned). is_orphan_at p.slots c.args.slot) c.self.view_is ∙ c.requires.orphan) in
    let h = orphan_held s.0.content s.2 in
    rw (c.condemn.ensures, c.condemn-then-is_live.ensures) (IsPinned-marked true c.self.inside.slots c.self.inside.keeper.rows c.self.inside.keeper.bounds c.self.invariant.0 c.args.slot s.0 h.0 s.1 h.1, one_each-kept c.self.inside.slots c.self.inside.keeper.looks c.args.slot (on_stored_blob (mark true)) c.self.invariant.1)

pub returns-else-is_live-clause-after : goal.returns-else-is_live-clause-after
returns-else-is_live-clause-after c =
    let is : phase_at c.self.inside.slots c.args.slot ≢ phase.Live = search rules in
    rw (← c.self.view_is) (λ i. record { table = c.self.inside.keeper.table; slots = sym (condemned-same c.self.inside.slots c.args.slot is) i; bounds = c.self.inside.keeper.bounds; looks = c.self.inside.keeper.looks })
