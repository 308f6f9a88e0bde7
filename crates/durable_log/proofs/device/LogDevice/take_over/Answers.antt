use Rattle.std.proofs.Common.{◌≡◌, ap, sym, subst, ◌∙◌, []}
use Rattle.durable_log.specs.Views.{last_of}
use Rattle.durable_log.specs.Invariants.{IsBacklog, last_mark}
use Rattle.durable_log.proofs.Devices.{device_takes}
use Rattle.durable_log.proofs.Encodings.{taken_backlog}
use Rattle.durable_log.proofs.Marks.{last_mark_added, last_mark_known, last_of-snoc}
use Rattle.durable_log.proofs.device.LogDevice.take_over.Goals as goal

pub invariant_of-self : goal.invariant_of-self
invariant_of-self g c =
    let f = g.N.Naming.bytes in
    let inv = c.self.invariant in
    let d = c.self.inside in
    let b = c.backlog.inside in
    let made = c.mark_all.ensures.writer in
    let same = last_mark_known b.taken_marks.entries d.taker.number d.taker.own inv.1 c.mark_all.ensures.agrees.own in
    let all : last_of [] c.mark_all.new.marker.own ≡ b.history.entries = ap (λ w. last_of [] w.own) made ∙ last_of-snoc [] b.history.entries d.taker.own in (
      ap (λ w. w.name) made ∙ inv.0,
      ap (λ w. w.number) made ∙ inv.1,
      inv.2,
      inv.3,
      device_takes f g.N.Naming.names.base (last_of [] d.taker.own) (last_of [] c.mark_all.new.marker.own) (last_of [] d.marker.own) b.history.entries d.given c.in-Some.position b.pending d.buffer.bytes c.move_into.new.buffer.bytes (g.D.Disk.written d.disk) (g.D.Disk.synced d.disk) d.failed
          all c.in-Some.ensures.some.0 c.in-Some.ensures.some.1 (ap (λ v. v.buffer) c.self.view_is ∙ c.requires.1) c.move_into.ensures.bytes.1 (subst (λ k. IsBacklog f b.history.entries k b.pending) same c.backlog.invariant.4) inv.4,
    )

pub invariant_of-backlog : goal.invariant_of-backlog
invariant_of-backlog g c =
    let f = g.N.Naming.bytes in
    let inv = c.backlog.invariant in
    let b = c.backlog.inside in
    let log = c.mark_all.ensures.log in
    let all = last_mark_added b.taken_marks.entries c.mark_all.new.marks.entries c.self.inside.taker.number b.history.entries c.self.invariant.1 (ap (λ l. l.entries) log) in (
      inv.0,
      inv.1,
      ap (λ l. l.name) log ∙ inv.2,
      inv.3,
      taken_backlog f b.history.entries (last_mark c.mark_all.new.marks.entries) c.move_into.new.self all c.move_into.ensures.bytes.0 (inv.4.length_of c.in-Some.ensures.some.0 ∙ sym c.move_into.ensures.same.1),
      inv.5,
    )

pub returns-clause-taken : goal.returns-clause-taken
returns-clause-taken g c = λ _.
    let b = c.backlog.inside in
    let h = b.history.entries in
    let whole = ap (λ v. v.history) c.backlog.view_is in
    let all : last_of [] c.mark_all.new.marker.own ≡ h = ap (λ w. last_of [] w.own) c.mark_all.ensures.writer ∙ last_of-snoc [] h c.self.inside.taker.own in
    let marked = last_mark_added b.taken_marks.entries c.mark_all.new.marks.entries c.self.inside.taker.number h c.self.invariant.1 (ap (λ l. l.entries) c.mark_all.ensures.log) in (
      all ∙ whole,
      c.move_into.ensures.bytes.1 ∙ ap (λ v. v.pending.segments.bytes) c.backlog.view_is,
      marked ∙ whole,
      c.move_into.ensures.bytes.0,
    )
