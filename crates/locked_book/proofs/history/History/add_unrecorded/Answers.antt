use Rattle.std.proofs.Common.{◌≡◌, IfSome, subst, sym}
use Rattle.ghost_log.specs.Entries.{events_by}
use Rattle.store_model.specs.Histories.{IsLegal}
use Rattle.locked_book.specs.Calls.{step_of}
use Rattle.locked_book.specs.History.{Adds, LogLeadsTo, steps_of}
use Rattle.locked_book.specs.Returns.{AreReturned, AreWellFormed, MayReturn}
use Rattle.locked_book.proofs.Additions.{adds, leaves_on, legal_after, own_steps, trace_of}
use Rattle.locked_book.proofs.Logging.{unrecorded}
use Rattle.locked_book.proofs.Returns.{formed_after, returned_after}
use Rattle.locked_book.proofs.history.History.add_unrecorded.Goals as goal

pub invariant_of-writer : goal.invariant_of-writer
invariant_of-writer g c =
    let opening = g.S.Naming.names.opening in
    let names = g.S.Naming.names.log.history in
    let backlog = c.self.inside.backlog in
    let writer = c.writer.inside.writer in
    let step = step_of c.args.call in
    let way = c.requires.allows in
    let run = subst (λ es. LogLeadsTo opening es way.0) (sym c.self.view_is) way.2 in
    subst (λ w. (events_by w.number w.seen ≡ w.own) × IsLegal opening (steps_of w.seen) × IfSome c.writer.inside.number (λ n. n ≡ w.number)) (sym c.append.ensures.writer) (
      own_steps opening names backlog writer step way.0 way.1 c.append.ensures.agrees run way.3,
      legal_after opening names backlog writer step way.0 way.1 c.append.ensures.agrees run way.3,
      c.writer.invariant.2,
    )

pub invariant_of-self : goal.invariant_of-self
invariant_of-self g c =
    let names = g.S.Naming.names.log.history in
    let backlog = c.self.inside.backlog in
    let writer = c.writer.inside.writer in
    let step = step_of c.args.call in (
      subst (λ n. IfSome c.self.inside.writers (λ m. m ≡ n)) (sym c.append.ensures.history.1) c.self.invariant.0,
      subst AreReturned (sym c.append.ensures.history.0)
          (returned_after names backlog writer step c.append.ensures.agrees c.self.invariant.1 (subst (λ t. MayReturn t.own step) (sym c.writer.view_is) c.requires.returns)),
      c.self.invariant.2,
      subst AreWellFormed (sym c.append.ensures.history.0) (formed_after backlog.history writer.number step c.self.invariant.3 c.reveal_form.ensures),
      c.self.invariant.4,
    )

pub returns-clause-adds : goal.returns-clause-adds
returns-clause-adds g c =
    let opening = g.S.Naming.names.opening in
    let way = c.requires.allows in
    let run = subst (λ es. LogLeadsTo opening es way.0) (sym c.self.view_is) way.2 in
    subst (λ w. Adds opening c.args.writer.now (step_of c.args.call) (trace_of w)) (sym c.append.ensures.writer)
    (adds opening g.S.Naming.names.log.history c.self.inside.backlog c.writer.inside.writer (step_of c.args.call) way.0 way.1 c.append.ensures.agrees run way.3 c.args.writer.now c.writer.view_is)

pub returns-clause-leads : goal.returns-clause-leads
returns-clause-leads g c = λ s s' run last.
    let opening = g.S.Naming.names.opening in
    subst (λ es. LogLeadsTo opening es s') (sym c.append.ensures.history.0)
    (leaves_on opening c.self.inside.backlog.history c.writer.inside.writer.number (step_of c.args.call) s s' (subst (λ es. LogLeadsTo opening es s) (sym c.self.view_is) run) last)

pub append-requires-clause-bytes : goal.append-requires-clause-bytes
append-requires-clause-bytes g c = λ recording. sym (unrecorded g.S.Naming.names.policy g.S.Naming.names.longest c.args.call c.requires.unrecorded).0

pub append-requires-clause-promised : goal.append-requires-clause-promised
append-requires-clause-promised g c = sym (unrecorded g.S.Naming.names.policy g.S.Naming.names.longest c.args.call c.requires.unrecorded).1
