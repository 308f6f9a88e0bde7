use Rattle.std.proofs.Common.{◌≡◌, ◌<◌, ◌++◌, ◌∷◌, ap, sym, subst, ◌∙◌, []}
use Rattle.ghost_log.specs.Entries.{IsPrefix, entry}
use Rattle.durable_log.specs.Encoding.{encode}
use Rattle.durable_log.specs.Views.{last_of}
use Rattle.durable_log.specs.Invariants.{IsBacklog, IsDevice, last_mark}
use Rattle.durable_log.proofs.Devices.{device_marks}
use Rattle.durable_log.proofs.Marks.{last_mark_known, last_of-snoc, marked_by_device}
use Rattle.durable_log.proofs.device.LogDevice.publish_synced.Goals as goal

pub invariant_of-self : goal.invariant_of-self
invariant_of-self g c =
    let f = g.N.Naming.bytes in
    let base = g.N.Naming.names.base in
    let inv = c.self.invariant in
    let d = c.self.inside in
    let caught = c.catch_up.ensures.writer in
    let made = c.mark_last.ensures.writer in
    let written = g.D.Disk.written d.disk in
    let durable = g.D.Disk.synced d.disk in
    let same : last_of [] c.catch_up.new.writer.own ≡ last_of [] d.taker.own = ap (λ w. last_of [] w.own) caught in
    let last : last_of [] c.mark_last.new.marker.own ≡ last_of [] d.taker.own = ap (λ w. last_of [] w.own) made ∙ (last_of-snoc [] (last_of [] c.catch_up.new.writer.own) d.marker.own ∙ same) in
    let safe = subst (λ v. IsPrefix (base ++ encode f v.taken) v.durable) (sym c.self.view_is) c.requires in
    let after = device_marks f base (last_of [] d.taker.own) (last_of [] d.marker.own) (last_of [] c.mark_last.new.marker.own) d.given d.buffer.bytes written durable d.failed last safe inv.4 in (
      ap (λ w. w.name) caught ∙ inv.0,
      ap (λ w. w.number) caught ∙ inv.1,
      ap (λ w. w.name) made ∙ inv.2,
      ap (λ w. w.number) made ∙ inv.3,
      subst (λ k. IsDevice f base k (last_of [] c.mark_last.new.marker.own) d.given d.buffer.bytes written durable d.failed) (sym same) after,
    )

pub invariant_of-backlog : goal.invariant_of-backlog
invariant_of-backlog g c =
    let f = g.N.Naming.bytes in
    let inv = c.backlog.invariant in
    let d = c.self.inside in
    let b = c.backlog.inside in
    let stays = c.catch_up.ensures.log in
    let log = c.mark_last.ensures.log in
    let marks = b.durable_marks.entries in
    let taken = last_of [] d.taker.own in
    let h = last_of [] c.catch_up.new.writer.own in
    let same : h ≡ taken = ap (λ w. last_of [] w.own) c.catch_up.ensures.writer in
    let took = last_mark_known b.taken_marks.entries d.taker.number d.taker.own c.self.invariant.1 c.catch_up.ensures.agrees.own in
    let kept = last_mark_known marks d.marker.number d.marker.own c.self.invariant.3 c.mark_last.ensures.agrees.own in
    let grown = ap (λ l. l.entries) log ∙ (ap (λ n. marks ++ entry n h ∷ []) c.self.invariant.3 ∙ ap (λ k. marks ++ entry 0 k ∷ []) same) in
    let within : IsPrefix taken b.history.entries = subst (λ k. IsPrefix k b.history.entries) took inv.4.of in
    let more : IsPrefix (last_mark marks) taken = subst (λ k. IsPrefix k taken) (sym kept) c.self.invariant.4.marked_of in (
      inv.0,
      ap (λ l. l.name) log ∙ inv.1,
      ap (λ l. l.name) stays ∙ inv.2,
      subst (λ l. 0 < l.writers) (sym log) inv.3,
      subst (λ l. IsBacklog f b.history.entries (last_mark l.entries) b.pending) (sym stays) inv.4,
      marked_by_device f b.history.entries b.synced d.given marks c.mark_last.new.marks.entries taken grown within more c.self.invariant.4.length_of inv.5,
    )
