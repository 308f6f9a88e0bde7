use Rattle.std.proofs.Common.{ap, ◌∙◌, arith}
use Rattle.durable_log.specs.Invariants.{last_mark}
use Rattle.durable_log.proofs.Encodings.{closed_backlog, none_taken}
use Rattle.durable_log.proofs.Marks.{new_marked}
use Rattle.durable_log.proofs.backlog.Backlog.new.Goals as goal

pub invariant_of-backlog : goal.invariant_of-backlog
invariant_of-backlog g c =
    let f = g.N.Naming.bytes in
    let durable = c.writer-marker.ensures.log in
    let taken = c.writer-taker.ensures.log in
    let history = c.args.history.entries in (
      c.requires.history,
      ap (λ l. l.name) durable ∙ c.requires.durable.0,
      ap (λ l. l.name) taken ∙ c.requires.taken.0,
      omega (arith, ap (λ l. l.writers) durable),
      closed_backlog f history (last_mark c.writer-taker.new.self.entries) c.new.result (none_taken history c.writer-taker.new.self.entries (ap (λ l. l.entries) taken ∙ c.requires.taken.1)) c.new.ensures,
      new_marked f history c.writer-marker.new.self.entries (ap (λ l. l.entries) durable ∙ c.requires.durable.1),
    )
