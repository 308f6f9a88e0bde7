use Rattle.std.proofs.Common.{◌≡◌, IfSome, subst, sym}
use Rattle.ghost_log.specs.Entries.{events_by}
use Rattle.store_model.specs.Histories.{IsLegal}
use Rattle.locked_book.specs.History.{SeesAll, steps_of}
use Rattle.locked_book.proofs.Additions.{trace_of}
use Rattle.locked_book.proofs.Views.{sees_all}
use Rattle.locked_book.proofs.history.History.catch_up.Goals as goal

pub invariant_of-writer : goal.invariant_of-writer
invariant_of-writer g c =
    let opening = g.S.Naming.names.opening in
    let number = c.writer.inside.number in
    subst (λ w. (events_by w.number w.seen ≡ w.own) × IsLegal opening (steps_of w.seen) × IfSome number (λ n. n ≡ w.number)) (sym c.catch_up.ensures.writer) (
      c.catch_up.ensures.agrees.own,
      subst (λ es. IsLegal opening (steps_of es)) (sym c.self.view_is) c.requires,
      c.writer.invariant.2,
    )

pub returns-clause-sees : goal.returns-clause-sees
returns-clause-sees g c =
    subst (λ w. SeesAll c.args.self.now c.args.writer.now (trace_of w)) (sym c.catch_up.ensures.writer)
    (sees_all g.S.Naming.names.log.history c.self.inside.backlog c.writer.inside.writer c.args.self.now c.args.writer.now c.catch_up.ensures.agrees c.self.view_is c.writer.view_is)
