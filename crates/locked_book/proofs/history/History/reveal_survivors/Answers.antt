use Rattle.std.proofs.Common.{◌≡◌, IfSome, subst, sym}
use Rattle.ghost_log.specs.Entries.{events_by}
use Rattle.store_model.specs.Histories.{IsLegal}
use Rattle.locked_book.specs.History.{steps_of}
use Rattle.locked_book.proofs.history.History.reveal_survivors.Goals as goal

pub invariant_of-writer : goal.invariant_of-writer
invariant_of-writer g c =
    let opening = g.S.Naming.names.opening in
    let number = c.writer.inside.number in
    subst (λ w. (events_by w.number w.seen ≡ w.own) × IsLegal opening (steps_of w.seen) × IfSome number (λ n. n ≡ w.number)) (sym c.reveal_survivors.ensures.same.2) c.writer.invariant
