use Rattle.std.proofs.Common.{◌≡◌, List, ◌∙◌, ap, sym, subst}
use Rattle.slot_table.specs.declared.phase.Phase.TheVariants as phase
use Rattle.slot_table.specs.Slots.{Slot, with_slot, on_stored_blob, link_up}
use Rattle.store_book.specs.Internal.Storing.{bytes_at, with_revived_slot, IsStored}
use Rattle.store_book.specs.Pinned.{Pinned, slot_views_of, with_looks}
use Rattle.store_book.proofs.Layers.KeepCalls.{size_there, again_new, again_old}
use Rattle.store_book.proofs.Slots.Pinned.{slot_views-with_slot, link_up-slot_view, with_revived_slot-same}
use Rattle.store_book.proofs.keep.link_slot.Goals as goal
use Rattle.store_book.proofs.keep.link_slot.Goals.{then-is_new, else-is_new}

pub link-requires-clause-size : goal.link-requires-clause-size
link-requires-clause-size c = rw (c.held_len-size.ensures, c.table.ensures) (size_there c.args.slots.now.slots c.args.slot c.args.digest.now c.requires.there c.args.links.now c.args.tenant c.args.repo.now c.requires.can)

pub returns-clause-ok : goal.returns-clause-ok
returns-clause-ok c on_disk =
    let awake : with_revived_slot c.args.slots.now.slots c.args.slot ≡ c.args.slots.now.slots = with_revived_slot-same c.args.slots.now.slots c.args.slot (λ e. let f : phase.Live ≡ phase.Condemned = sym c.requires.live ∙ e in cc) in
    elim c.if-is_new.branch [
      | then-is_new w ↦
          again_new c.args.slots.now.slots c.args.slot c.args.digest.now c.requires.there on_disk c.args.links.now c.link.new.self c.if-is_new.slots.slots c.args.repo.now (rw (c.held_len-size.ensures, c.table.ensures, w.if-is_new.true) at c.in_ok-is_new.ensures)
          (ap (λ (p : Pinned). p.slots) (w.slots-is ∙ w.link_up.ensures) ∙ ap (λ xs. with_slot xs c.args.slot (on_stored_blob link_up)) (sym awake))
      | else-is_new w ↦
          let kept = again_old c.args.slots.now.slots c.args.slot c.args.digest.now c.requires.there on_disk c.args.links.now c.link.new.self c.args.repo.now (rw (c.held_len-size.ensures, c.table.ensures, w.if-is_new.false) at c.in_ok-is_new.ensures) in
          subst (λ (x : List Slot). IsStored on_disk c.args.links.now c.args.slots.now.slots c.args.repo.now (c.args.digest.now, bytes_at c.args.slots.now.slots c.args.slot) c.link.new.self x) (awake ∙ ap (λ (p : Pinned). p.slots) (sym w.slots-is)) kept
    ]

pub returns-clause-seen : goal.returns-clause-seen
returns-clause-seen c = elim c.if-is_new.branch [
  | then-is_new w ↦
      let is = w.slots-is ∙ w.link_up.ensures in
      (ap (λ (p : Pinned). p.table) is, ap slot_views_of is ∙ ap (with_looks c.args.slots.now.looks) (slot_views-with_slot c.args.slots.now.slots c.args.slot (on_stored_blob link_up) c.args.slots.now.bounds link_up-slot_view))
  | else-is_new w ↦ (ap (λ (p : Pinned). p.table) w.slots-is, ap slot_views_of w.slots-is)
]
