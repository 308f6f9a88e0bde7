use Rattle.std.proofs.Common.{◌∙◌, ap, refl, sym}
use Rattle.slot_table.specs.Slots.{on_stored_blob, link_up}
use Rattle.spec_lib.proofs.Options.{nothing}
use Rattle.store_book.specs.Internal.Storing.{past_share}
use Rattle.store_book.specs.Pinned.{Pinned}
use Rattle.store_book.proofs.Slots.Pinned.{KeepsGenerations-placed, KeepsGenerations-with_changed_slot}
use Rattle.store_book.proofs.Layers.KeepCalls.{unlink-link, kept_anew}
use Rattle.store_book.proofs.keep.store_new.Goals as goal

pub returns-then-passes_share-clause-refused : goal.returns-then-passes_share-clause-refused
returns-then-passes_share-clause-refused c = λ _.
    past_share (λ k h at stored. nothing c.requires.absent at) (rw c.digest-digest.ensures.value at (sym c.passes_share.ensures ∙ c.if-passes_share.true)) refl

pub returns-in-Ok-clause-share : goal.returns-in-Ok-clause-share
returns-in-Ok-clause-share c = rw c.digest-digest.ensures.value at (sym c.passes_share.ensures ∙ c.if-passes_share.false)

pub returns-in-Ok-clause-ok : goal.returns-in-Ok-clause-ok
returns-in-Ok-clause-ok c =
    kept_anew c.args.on_disk c.args.links.now c.link.new.self c.args.slots.now.slots c.place.new.self.slots c.link_up.new.self.slots c.args.repo.now c.args.blob c.in-Ok.slot c.in_default.field-0 c.requires.absent c.in-Ok.ensures.free
    (rw (c.digest-digest.ensures.value, c.len-size.ensures) at c.in_default.ensures) (ap (λ (p : Pinned). p.slots) c.in-Ok.ensures.ok) (ap (λ (p : Pinned). p.slots) c.link_up.ensures)

pub returns-in-Ok-clause-quiet : goal.returns-in-Ok-clause-quiet
returns-in-Ok-clause-quiet c =
    KeepsGenerations-with_changed_slot c.args.slots.now c.place.new.self c.link_up.new.self c.in-Ok.slot (on_stored_blob link_up) (λ s. refl) (KeepsGenerations-placed c.args.slots.now c.place.new.self c.in-Ok.slot c.args.blob c.in-Ok.ensures.ok) c.link_up.ensures

pub returns-in-Err-place-clause-err : goal.returns-in-Err-place-clause-err
returns-in-Err-place-clause-err c = (
  c.unlink.ensures.gone ∙ unlink-link c.args.links.now c.link.new.self c.args.repo.now c.digest-digest.result c.len-size.result c.in_default.field-0 c.in_default.ensures (rw c.digest-digest.ensures.value (c.requires.can.held c.args.blob.0 c.requires.absent c.args.repo.now)),
  c.in-Err-place.ensures.err,
)
