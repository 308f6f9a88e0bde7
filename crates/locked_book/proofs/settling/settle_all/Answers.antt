use Rattle.std.proofs.Common.{◌≡◌, ◌++◌, ◌∷◌, ◌∙◌, [], ap, arith, length, subst}
use Rattle.std.proofs.lemmas.Bool.{and_parts}
use Rattle.std.proofs.lemmas.List.{append_assoc}
use Rattle.ghost_log.specs.Entries.{events_by}
use Rattle.store_model.specs.Amounts.{add_amounts, sum_of}
use Rattle.locked_book.specs.History.{DeskView, amounts_of}
use Rattle.locked_book.proofs.Sums.{desk_pushed, taken_in}
use Rattle.locked_book.proofs.Wholes.{has_more}
use Rattle.locked_book.proofs.settling.settle_all.Goals as goal

pub loop-desk-preserved : goal.loop-desk-preserved
loop-desk-preserved g c =
    let was = c.loop-desk.invariant in
    let left = c.pop.new.self in
    let desk = c.in-Some.desk in
    let all = c.args.desks in
    let order = c.args.history.now in
    let count = c.in-Some.ensures.len in
    let settled = c.settle.ensures.settled ∙ ap (λ (d : DeskView). add_amounts c.loop-desk.counters.settled d.amounts) c.desk.view_is in
    let sums = ap (λ ds. sum_of (amounts_of ds)) c.in-Some.ensures.items ∙ desk_pushed left.items desk in
    let split : all.items ≡ left.items ++ desk ∷ was.split.0 = was.split.1 ∙ ap (λ ds. ds ++ was.split.0) c.in-Some.ensures.items ∙ append_assoc left.items (desk ∷ []) was.split.0 in
    let place : c.len.result ≡ length left.items = omega (arith, c.len.ensures, left.ok.0) in
    record {
      totals = c.settle.ensures.totals ∙ was.totals;
      history = c.take_back-whole.ensures.same ∙ was.history;
      writers = was.writers;
      desks = omega (arith, c.settle.ensures.desks, was.desks, count);
      settled = taken_in _ _ _ _ _ _ settled sums was.settled;
      split = (desk ∷ was.split.0, split);
      some = λ both. was.some (and_parts c.loop-desk.whole c.take_back-whole.result both).0;
      each = λ both below n above.
          let parts = and_parts c.loop-desk.whole c.take_back-whole.result both in
          let mine = c.take_back-whole.ensures.own parts.1 ∙ ap (λ (d : DeskView). d.trace.own) c.desk.view_is in
          let own = subst (λ h. events_by c.len.result h ≡ desk.trace.own) was.history mine in
          has_more order all.items left.items was.split.0 desk split
          (subst (λ k. events_by k order ≡ desk.trace.own) place own)
          (λ k past. subst (λ h. events_by k h ≡ []) was.history (c.take_back-whole.ensures.others parts.1 k (omega (arith, past, was.writers, all.ok.0))))
          (λ within k from. was.each parts.0 (omega (arith, within, count, left.ok.0, all.ok.0)) k (omega (arith, from, count, left.ok.0)))
          n (omega (arith, above, left.ok.0));
    }
