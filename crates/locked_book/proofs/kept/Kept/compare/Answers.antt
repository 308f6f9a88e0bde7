use Rattle.std.proofs.Common.{ap, sym, subst}
use Rattle.locked_book.specs.History.{DeskView, LogLeadsTo, SeesAll, state_of}
use Rattle.locked_book.proofs.Views.{in_one_history, one_begins}
use Rattle.locked_book.proofs.kept.Kept.compare.Goals as goal

pub catch_up-requires : goal.catch_up-requires
catch_up-requires g c = (state_of (record { book = c.self.inside.book; counts = c.self.inside.counters }), c.self.invariant.1)

pub catch_up-requires-2 : goal.catch_up-requires-2
catch_up-requires-2 g c = (state_of (record { book = c.self.inside.book; counts = c.self.inside.counters }), subst (λ h. LogLeadsTo g.S.Naming.names.opening h (state_of (record { book = c.self.inside.book; counts = c.self.inside.counters }))) (sym c.catch_up.ensures.same) c.self.invariant.1)

pub returns-clause-one_history : goal.returns-clause-one_history
returns-clause-one_history g c =
    let other = subst (λ h. SeesAll h c.other.inside.writer c.catch_up-2.new.writer) c.catch_up.ensures.same c.catch_up-2.ensures.sees in
    in_one_history g.S.Naming.names.opening c.self.inside.history c.one.inside.writer c.args.one.now.trace c.catch_up.new.writer c.other.inside.writer c.args.other.now.trace c.catch_up-2.new.writer
    (state_of (record { book = c.self.inside.book; counts = c.self.inside.counters }), c.self.invariant.1) (ap (λ (d : DeskView). d.trace) c.one.view_is) (ap (λ (d : DeskView). d.trace) c.other.view_is) c.catch_up.ensures.sees other

pub returns-clause-begins : goal.returns-clause-begins
returns-clause-begins g c =
    let other = subst (λ h. SeesAll h c.other.inside.writer c.catch_up-2.new.writer) c.catch_up.ensures.same c.catch_up-2.ensures.sees in
    one_begins c.self.inside.history c.one.inside.writer c.args.one.now.trace c.catch_up.new.writer c.other.inside.writer c.args.other.now.trace c.catch_up-2.new.writer
    (ap (λ (d : DeskView). d.trace) c.one.view_is) (ap (λ (d : DeskView). d.trace) c.other.view_is) c.catch_up.ensures.sees other
