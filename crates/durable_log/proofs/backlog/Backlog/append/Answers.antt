use Rattle.std.proofs.Common.{◌≡◌, ap, sym, subst, ◌∙◌, true}
use Rattle.durable_log.specs.Views.{Records}
use Rattle.durable_log.specs.Invariants.{last_mark}
use Rattle.durable_log.proofs.Encodings.{backlog_after, position_after}
use Rattle.durable_log.proofs.Marks.{marked_later}
use Rattle.durable_log.proofs.backlog.Backlog.append.Goals as goal

pub add-requires-clause-position : goal.add-requires-clause-position
add-requires-clause-position g c =
    let f = g.N.Naming.bytes in
    let b = c.self.inside in
    let recorded : c.append.new.self.recording ≡ true → Records b.pending (f g.D.Event.event) c.append.new.self = λ on. subst (λ w. Records b.pending w c.append.new.self) (c.requires.bytes (ap (λ v. v.pending.recording) (sym c.self.view_is) ∙ (c.append.ensures.recorded on).recording)) (c.append.ensures.recorded on) in
    position_after f b.history.entries (last_mark b.taken_marks.entries) b.pending c.append.new.self c.args.writer.now.number g.D.Event.event c.position-position.result recorded c.self.invariant.4 c.position-position.ensures.some

pub invariant_of-self : goal.invariant_of-self
invariant_of-self g c =
    let f = g.N.Naming.bytes in
    let b = c.self.inside in
    let inv = c.self.invariant in
    let log = c.add.ensures.history in
    let at = ap (λ l. l.entries) log in
    let recorded : c.append.new.self.recording ≡ true → Records b.pending (f g.D.Event.event) c.append.new.self = λ on. subst (λ w. Records b.pending w c.append.new.self) (c.requires.bytes (ap (λ v. v.pending.recording) (sym c.self.view_is) ∙ (c.append.ensures.recorded on).recording)) (c.append.ensures.recorded on) in (
      ap (λ l. l.name) log ∙ inv.0,
      inv.1,
      inv.2,
      inv.3,
      backlog_after f b.history.entries c.add.new.history.entries (last_mark b.taken_marks.entries) b.pending c.append.new.self c.args.writer.now.number g.D.Event.event at recorded inv.4,
      marked_later f b.history.entries c.add.new.history.entries b.synced b.durable_marks.entries (_, sym at) inv.5,
    )
