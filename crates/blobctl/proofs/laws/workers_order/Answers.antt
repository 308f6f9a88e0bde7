use Rattle.std.proofs.Common.{◌≡◌, ◌∙◌, ap, subst, sym}
use Rattle.locked_book.specs.Names.{Setting, setting_of}
use Rattle.store_model.specs.Catalog.{Catalog, opening, in_memory}
use Rattle.store_model.specs.Invariant.{AreWithinLimits, FitSlots, Sound}
use Rattle.store_model.proofs.Commands.Opening.{Sound-opening}
use Rattle.blob_store.specs.RowOrders.{HasOrder}
use Rattle.blob_store.specs.Workers.{IsInterleaved}
use Rattle.blobctl.proofs.laws.workers_order.Goals as goal

-- the catalog that a sound one was opened with is sound
sound_opening : (first last : Catalog) → setting_of last ≡ setting_of first → Sound last → Sound (opening first.tenants first.slots first.contents)
sound_opening first last same sound =
    let limits : AreWithinLimits first.tenants first.contents.max_blob = subst (λ (s : Setting). AreWithinLimits s.tenants s.contents.max_blob) same sound.lawful.limits in
    let slots : FitSlots first.slots last.residents last.retired = subst (λ (s : Setting). FitSlots s.slots last.residents last.retired) same sound.slots in
    Sound-opening first.tenants first.slots first.contents limits.tenants.0 limits.tenants.1 limits.names_apart limits.max_blob limits.quotas limits.limits slots.some slots.few

pub returns : goal.returns
returns c = record {
  orders = λ workers tenants slots max_blob rows text one some few calm. (
      let C : Catalog = opening one.first.tenants slots (in_memory max_blob) in
      let sound : Sound C = sound_opening C one.last (one.same ∙ ap setting_of one.opened.empty) one.sound in
      let run : IsInterleaved C workers rows one.answers one.last = subst (λ (X : Catalog). IsInterleaved X workers rows one.answers one.last) one.opened.empty one.run in
      subst (λ (X : Catalog). HasOrder X workers rows one.answers one.last) (sym one.opened.empty)
      (c.orders_of_rows.ensures.orders one.first.tenants slots (in_memory max_blob) workers rows one.answers one.last sound some one.one_each few calm run));
}
