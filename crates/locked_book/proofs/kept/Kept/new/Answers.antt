use Rattle.std.proofs.Common.{◌∙◌, ap, arith, subst, sym}
use Rattle.store_model.specs.Catalog.{Catalog}
use Rattle.store_model.specs.Hands.{checked_out_count_of}
use Rattle.store_model.specs.Invariant.{Sound}
use Rattle.store_model.specs.Sessions.{received_length, reserved_of}
use Rattle.locked_book.specs.History.{LogLeadsTo, state_of}
use Rattle.locked_book.specs.Names.{new_catalog}
use Rattle.locked_book.specs.Totals.{Counts}
use Rattle.locked_book.proofs.SessionSums.{no_sessions}
use Rattle.locked_book.proofs.kept.Kept.new.Goals as goal

pub new-requires-clause-opening : goal.new-requires-clause-opening
new-requires-clause-opening g c = record {
  new = sym c.requires.opening ∙ c.requires.book ∙ ap new_catalog c.requires.named.2;
  sound = subst Sound c.requires.opening c.reveal_invariant.ensures;
}

pub invariant_of-result : goal.invariant_of-result
invariant_of-result g c =
    let none = ap (λ (C : Catalog). C.sessions) c.requires.book in
    let bytes = no_sessions c.args.book.catalog.sessions (λ e. received_length e.1) none in
    let commands = ap (λ (k : Counts). k.totals.commands) c.requires.counters in
    let received = ap (λ (k : Counts). k.totals.received) c.requires.counters in
    let closed = ap (λ (k : Counts). k.totals.closed) c.requires.counters in
    let abandoned = ap (λ (k : Counts). k.totals.abandoned) c.requires.counters in (
      (
        no_sessions c.args.book.catalog.sessions checked_out_count_of none,
        no_sessions c.args.book.catalog.sessions (λ e. reserved_of e.1.chunks) none,
        omega arith,
        omega arith,
        omega arith,
        c.requires.named.0,
        c.requires.named.1,
        c.requires.named.2,
      ),
      subst (λ h. LogLeadsTo g.S.Naming.names.opening h (state_of (record { book = c.args.book; counts = c.args.counters }))) (sym c.new.ensures)
          (λ i. record { catalog = c.requires.opening i; totals = (c.requires.counters i).totals }),
    )
