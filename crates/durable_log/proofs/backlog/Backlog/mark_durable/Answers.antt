use Rattle.std.proofs.Common.{true, false, ◌≡◌, ◌≤◌, ◌<◌, ap, sym, subst, ◌∙◌, length, arith, [], IfSome}
use Rattle.durable_log.specs.Encoding.{encode}
use Rattle.durable_log.specs.Views.{Trace, last_of}
use Rattle.durable_log.specs.Invariants.{IsBacklog, IsMarked, last_mark}
use Rattle.durable_log.proofs.Encodings.{position_now}
use Rattle.durable_log.proofs.Marks.{last_of-snoc, marked_by_writer}
use Rattle.durable_log.proofs.Writers.{commits, committed}
use Rattle.durable_log.proofs.backlog.Backlog.mark_durable.Goals as goal

pub invariant_of-self : goal.invariant_of-self
invariant_of-self g c =
    let f = g.N.Naming.bytes in
    let inv = c.self.invariant in
    let b = c.self.inside in
    let w = c.writer.inside in
    let stays = ap (λ l. l.entries) c.catch_up.ensures.log in
    let log = c.mark_seen.ensures.log in
    let short : length (encode f w.writer.seen) ≤ b.synced = omega (arith, c.requires, ap (λ t. length (encode f t.seen)) c.writer.view_is, ap (λ v. v.synced) c.self.view_is) in
    let marked = marked_by_writer f b.history.entries b.synced b.durable_marks.entries c.mark_seen.new.marks.entries w.marker.number w.writer.seen (ap (λ l. l.entries) log) c.writer.invariant.2 c.catch_up.ensures.agrees.seen short inv.5 in (
      ap (λ l. l.name) c.catch_up.ensures.log ∙ inv.0,
      ap (λ l. l.name) log ∙ inv.1,
      inv.2,
      subst (λ l. 0 < l.writers) (sym log) inv.3,
      subst (λ es. IsBacklog f es (last_mark b.taken_marks.entries) b.pending) (sym stays) inv.4,
      subst (λ es. IsMarked f es b.synced c.mark_seen.new.marks.entries) (sym stays) marked,
    )

pub invariant_of-writer : goal.invariant_of-writer
invariant_of-writer g c =
    let f = g.N.Naming.bytes in
    let b = c.self.inside in
    let w = c.writer.inside in
    let caught = c.catch_up.ensures.writer in
    let marked = c.mark_seen.ensures.writer in
    let now : Trace _ = record { number = c.catch_up.new.writer.number; seen = c.catch_up.new.writer.seen; own = c.catch_up.new.writer.own; durable = last_of [] c.mark_seen.new.marker.own } in
    let durable : now.durable ≡ c.args.writer.now.seen = ap (λ m. last_of [] m.own) marked ∙ (last_of-snoc [] w.writer.seen w.marker.own ∙ ap (λ t. t.seen) c.writer.view_is) in
    let number : now.number ≡ c.args.writer.now.number = ap (λ m. m.number) caught ∙ ap (λ t. t.number) c.writer.view_is in
    let own : now.own ≡ c.args.writer.now.own = ap (λ m. m.own) caught ∙ ap (λ t. t.own) c.writer.view_is in (
      ap (λ m. m.name) caught ∙ c.writer.invariant.0,
      ap (λ m. m.name) marked ∙ c.writer.invariant.1,
      subst (λ m. 0 < m.number) (sym marked) c.writer.invariant.2,
      subst (λ es. IfSome c.position-writer-inside.result (λ n. n ≡ length (encode f es))) (ap (λ m. m.seen) (sym caught)) (position_now f b.history.entries (last_mark b.taken_marks.entries) b.pending c.position-writer-inside.result c.self.invariant.4 c.position-writer-inside.ensures.some),
      λ _. committed g.N.Naming.promises now (commits c.args.writer.now now durable number own c.reveal_invariant.ensures).own,
      λ (on : false ≡ true). cc,
    )

pub returns-clause-durable : goal.returns-clause-durable
returns-clause-durable g c =
    let w = c.writer.inside in
    let caught = c.catch_up.ensures.writer in
    let marked = c.mark_seen.ensures.writer in
    let now : Trace _ = record { number = c.catch_up.new.writer.number; seen = c.catch_up.new.writer.seen; own = c.catch_up.new.writer.own; durable = last_of [] c.mark_seen.new.marker.own } in
    let durable : now.durable ≡ c.args.writer.now.seen = ap (λ m. last_of [] m.own) marked ∙ (last_of-snoc [] w.writer.seen w.marker.own ∙ ap (λ t. t.seen) c.writer.view_is) in
    let number : now.number ≡ c.args.writer.now.number = ap (λ m. m.number) caught ∙ ap (λ t. t.number) c.writer.view_is in
    let own : now.own ≡ c.args.writer.now.own = ap (λ m. m.own) caught ∙ ap (λ t. t.own) c.writer.view_is in
    let done = commits c.args.writer.now now durable number own c.reveal_invariant.ensures in
    (done, committed g.N.Naming.promises now done.own)
