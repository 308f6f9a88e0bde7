use Rattle.std.proofs.Common.{◌≡◌, ◌≢◌, ℕ, List, Some, length, rules, false, true, refl, sym, ap, ◌∙◌}
use Rattle.std.specs.FinMap.{get}
use Rattle.spec_lib.specs.Texts.{Text}
use Rattle.slot_table.specs.Slots.{Slot, with_slot, on_stored_blob, link_up, mark, phase_at, with_content}
use Rattle.store_model.specs.Commands.{fits_content}
use Rattle.store_book.specs.Internal.Storing.{bytes_at, past_share, with_renewed_slot}
use Rattle.store_book.specs.Pinned.{Pinned, KeepsGenerations}
use Rattle.store_book.proofs.Layers.KeepCalls.{differs_by_test, no_other_content, again_size, renewed_live, renewed_room, kept_new, kept_old, link_undone}
use Rattle.store_book.proofs.Slots.Pinned.{KeepsGenerations-same, KeepsGenerations-with_changed_slot}
use Rattle.store_book.proofs.Slots.Writes.{with_slot-both}
use Rattle.store_book.proofs.keep.store_existing.Goals as goal
use Rattle.store_book.proofs.keep.store_existing.Goals.{then-is_new, else-is_new, then-is_new-2, else-is_new-2}

pub returns-then-not-is_fitting-clause-refused : goal.returns-then-not-is_fitting-clause-refused
returns-then-not-is_fitting-clause-refused c = λ _.
    let told : c.in-Some.is_fitting ≡ false = search rules in
    differs_by_test c.args.slots.now.slots c.args.slot c.args.blob c.requires.there c.args.on_disk c.args.links.now c.args.tenant (rw (← c.table.ensures) (sym c.in-Some.ensures ∙ told))

pub returns-then-passes_share-clause-refused : goal.returns-then-passes_share-clause-refused
returns-then-passes_share-clause-refused c = λ _.
    let told : c.in-Some.is_fitting ≡ true = search rules in
    let fits : fits_content c.args.on_disk (bytes_at c.args.slots.now.slots c.args.slot) c.args.blob.1 ≡ true = rw (← c.table.ensures) (sym c.in-Some.ensures ∙ told) in
    past_share (no_other_content c.args.slots.now.slots c.args.slot c.args.blob c.requires.there c.args.on_disk fits) (rw c.digest-key.ensures.value at (sym c.passes_share.ensures ∙ c.if-passes_share.true)) refl

pub link-requires-clause-size : goal.link-requires-clause-size
link-requires-clause-size c =
    let told : c.in-Some.is_fitting ≡ true = search rules in
    let fits : fits_content c.args.on_disk (bytes_at c.args.slots.now.slots c.args.slot) c.args.blob.1 ≡ true = rw (← c.table.ensures) (sym c.in-Some.ensures ∙ told) in
    rw (c.digest-key.ensures.value, c.len-size.ensures) (again_size c.args.on_disk c.args.slots.now.slots c.args.slot c.args.blob c.requires.there fits c.args.links.now c.args.tenant c.args.repo.now c.requires.can)

pub returns-in-Err-replace-clause-err : goal.returns-in-Err-replace-clause-err
returns-in-Err-replace-clause-err c =
    let told : c.in-Some.is_fitting ≡ true = search rules in
    let fits : fits_content c.args.on_disk (bytes_at c.args.slots.now.slots c.args.slot) c.args.blob.1 ≡ true = rw (← c.table.ensures) (sym c.in-Some.ensures ∙ told) in
    let sizes : (r : Text) (m : ℕ) → get c.args.links.now.links (r, c.digest-key.result) ≡ Some m → m ≡ c.len-size.result =
    rw (c.digest-key.ensures.value, c.len-size.ensures) (again_size c.args.on_disk c.args.slots.now.slots c.args.slot c.args.blob c.requires.there fits c.args.links.now c.args.tenant c.args.repo.now c.requires.can) in
    let undone = link_undone c.args.links.now c.link.new.self c.args.repo.now c.digest-key.result c.len-size.result in (
      elim c.if-is_new.branch [
        | then-is_new w ↦ w.links-is ∙ w.unlink.ensures.gone ∙ undone true (rw w.if-is_new.true at c.in-Ok.ensures) (sizes c.args.repo.now)
        | else-is_new w ↦ w.links-is ∙ undone false (rw w.if-is_new.false at c.in-Ok.ensures) (sizes c.args.repo.now)
      ],
      c.in-Err-replace.ensures.err,
    )

pub link_up-requires-clause-live : goal.link_up-requires-clause-live
link_up-requires-clause-live c =
    let told : c.in-Some.is_fitting ≡ true = search rules in
    let fits : fits_content c.args.on_disk (bytes_at c.args.slots.now.slots c.args.slot) c.args.blob.1 ≡ true = rw (← c.table.ensures) (sym c.in-Some.ensures ∙ told) in
    let renewed : c.revive.new.self.slots ≡ with_renewed_slot c.args.slots.now.slots c.args.slot c.args.blob.1 =
    ap (λ (p : Pinned). p.slots) c.revive.ensures ∙ ap (λ (p : Pinned). with_slot p.slots c.args.slot (on_stored_blob (mark false))) c.in_default-replace.ensures.ok ∙ with_slot-both c.args.slots.now.slots c.args.slot (with_content c.args.blob.1) (mark false) in
    ap (λ (xs : List Slot). phase_at xs c.args.slot) renewed ∙ renewed_live c.args.on_disk c.args.slots.now.slots c.args.slot c.args.blob c.requires.there fits

pub link_up-requires-clause-room : goal.link_up-requires-clause-room
link_up-requires-clause-room c =
    let told : c.in-Some.is_fitting ≡ true = search rules in
    let fits : fits_content c.args.on_disk (bytes_at c.args.slots.now.slots c.args.slot) c.args.blob.1 ≡ true = rw (← c.table.ensures) (sym c.in-Some.ensures ∙ told) in
    let renewed : c.revive.new.self.slots ≡ with_renewed_slot c.args.slots.now.slots c.args.slot c.args.blob.1 =
    ap (λ (p : Pinned). p.slots) c.revive.ensures ∙ ap (λ (p : Pinned). with_slot p.slots c.args.slot (on_stored_blob (mark false))) c.in_default-replace.ensures.ok ∙ with_slot-both c.args.slots.now.slots c.args.slot (with_content c.args.blob.1) (mark false) in
    rw renewed (renewed_room c.args.on_disk c.args.slots.now.slots c.args.slot c.args.blob c.requires.there fits c.args.links.now c.args.tenant c.args.repo.now c.requires.can)

pub returns-clause-share : goal.returns-clause-share
returns-clause-share c = rw c.digest-key.ensures.value at (sym c.passes_share.ensures ∙ c.if-passes_share.false)

pub returns-clause-ok : goal.returns-clause-ok
returns-clause-ok c =
    let told : c.in-Some.is_fitting ≡ true = search rules in
    let fits : fits_content c.args.on_disk (bytes_at c.args.slots.now.slots c.args.slot) c.args.blob.1 ≡ true = rw (← c.table.ensures) (sym c.in-Some.ensures ∙ told) in
    let renewed : c.revive.new.self.slots ≡ with_renewed_slot c.args.slots.now.slots c.args.slot c.args.blob.1 =
    ap (λ (p : Pinned). p.slots) c.revive.ensures ∙ ap (λ (p : Pinned). with_slot p.slots c.args.slot (on_stored_blob (mark false))) c.in_default-replace.ensures.ok ∙ with_slot-both c.args.slots.now.slots c.args.slot (with_content c.args.blob.1) (mark false) in
    elim c.if-is_new-2.branch [
      | then-is_new-2 w ↦
          kept_new c.args.on_disk c.args.slots.now.slots c.args.slot c.args.blob c.requires.there fits c.args.links.now c.link.new.self c.if-is_new-2.slots.slots c.args.repo.now (rw (c.digest-key.ensures.value, c.len-size.ensures, w.if-is_new-2.true) at c.in-Ok.ensures)
          (ap (λ (p : Pinned). p.slots) (w.slots-is ∙ w.link_up.ensures) ∙ ap (λ (xs : List Slot). with_slot xs c.args.slot (on_stored_blob link_up)) renewed)
      | else-is_new-2 w ↦
          kept_old c.args.on_disk c.args.slots.now.slots c.args.slot c.args.blob c.requires.there fits c.args.links.now c.link.new.self c.if-is_new-2.slots.slots c.args.repo.now (rw (c.digest-key.ensures.value, c.len-size.ensures, w.if-is_new-2.false) at c.in-Ok.ensures)
          (ap (λ (p : Pinned). p.slots) w.slots-is ∙ renewed)
    ]

pub returns-clause-quiet : goal.returns-clause-quiet
returns-clause-quiet c =
    let put : KeepsGenerations c.args.slots.now c.replace.new.self = KeepsGenerations-with_changed_slot c.args.slots.now c.args.slots.now c.replace.new.self c.args.slot (on_stored_blob (with_content c.args.blob.1)) (λ s. refl) (KeepsGenerations-same c.args.slots.now) c.in_default-replace.ensures.ok in
    let awake : KeepsGenerations c.args.slots.now c.revive.new.self = KeepsGenerations-with_changed_slot c.args.slots.now c.replace.new.self c.revive.new.self c.args.slot (on_stored_blob (mark false)) (λ s. refl) put c.revive.ensures in
    elim c.if-is_new-2.branch [
      | then-is_new-2 w ↦ KeepsGenerations-with_changed_slot c.args.slots.now c.revive.new.self c.if-is_new-2.slots c.args.slot (on_stored_blob link_up) (λ s. refl) awake (w.slots-is ∙ w.link_up.ensures)
      | else-is_new-2 w ↦ rw w.slots-is awake
    ]
