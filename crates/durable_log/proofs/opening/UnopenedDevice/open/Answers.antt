use Rattle.std.proofs.Common.{◌≡◌, ◌<◌, ◌++◌, ◌∷◌, ap, sym, subst, ◌∙◌, [], refl, length}
use Rattle.ghost_log.specs.Entries.{entry}
use Rattle.durable_log.specs.Encoding.{encode}
use Rattle.durable_log.specs.Invariants.{last_mark}
use Rattle.durable_log.proofs.Prefixes.{prefix_self}
use Rattle.durable_log.proofs.Encodings.{taken_backlog}
use Rattle.durable_log.proofs.Marks.{last_mark_added, marked_by_device}
use Rattle.durable_log.proofs.opening.UnopenedDevice.open.Goals as goal

pub invariant_of-backlog : goal.invariant_of-backlog
invariant_of-backlog g c =
    let f = g.N.Naming.bytes in
    let inv = c.backlog.invariant in
    let b = c.backlog.inside in
    let h = b.history.entries in
    let marks = b.durable_marks.entries in
    let log = c.mark_all.ensures.log in
    let taken = c.mark_all-2.ensures.log in
    let long : length (encode f h) ≡ c.args.position = ap (λ v. length (encode f v.history)) c.backlog.view_is ∙ c.requires.position in
    let all = last_mark_added b.taken_marks.entries c.mark_all-2.new.marks.entries c.self.inside.taker.number h c.self.invariant.4 (ap (λ l. l.entries) taken) in
    let grown = ap (λ l. l.entries) log ∙ ap (λ n. marks ++ entry n h ∷ []) c.self.invariant.1 in (
      inv.0,
      ap (λ l. l.name) log ∙ inv.1,
      ap (λ l. l.name) taken ∙ inv.2,
      subst (λ l. 0 < l.writers) (sym log) inv.3,
      taken_backlog f h (last_mark c.mark_all-2.new.marks.entries) c.start.new.self all c.start.ensures.bytes (long ∙ sym c.start.ensures.position),
      marked_by_device f h b.synced c.args.position marks c.mark_all.new.marks.entries h grown (prefix_self h) inv.5.of long inv.5,
    )

pub returns-clause-durable : goal.returns-clause-durable
returns-clause-durable g c =
    let b = c.backlog.inside in
    let all = last_mark_added b.taken_marks.entries c.mark_all-2.new.marks.entries c.self.inside.taker.number b.history.entries c.self.invariant.4 (ap (λ l. l.entries) c.mark_all-2.ensures.log) in
    (all ∙ ap (λ v. v.history) c.backlog.view_is, refl)
