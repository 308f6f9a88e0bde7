use Rattle.std.proofs.Common.{◌≡◌, ◌+◌, ◌++◌, ◌∷◌, ◌∙◌, [], ap, arith, length, map, subst, sym}
use Rattle.std.proofs.lemmas.Bool.{and_parts}
use Rattle.std.proofs.lemmas.List.{length-map, map-append}
use Rattle.blob_store.specs.Jobs.{IsWorkerResultAt}
use Rattle.blob_store.specs.Workers.{AllAt, EachHasReplies, HasPlayed}
use Rattle.blob_store.proofs.Places.{at_first, at_last}
use Rattle.blob_store.proofs.Settlings.{played_more}
use Rattle.store_api.specs.Answers.{answers_of}
use Rattle.blob_store.proofs.playing.collect.Goals as goal

pub loop-outcome-preserved : goal.loop-outcome-preserved
loop-outcome-preserved g c =
    let was = c.loop-outcome.invariant in
    let n = c.args.workers in
    let lines = g.L.RowList.lines c.args.rows.now in
    let each = subst (AllAt (IsWorkerResultAt g.S.Naming.names.opening n lines)) c.in-Some.ensures.items was.each in
    let count = c.in-Some.ensures.len in
    let shown = map (λ q. answers_of q.items) c.loop-outcome.queues.items in
    let place : length shown + length c.pop.new.self.items + 1 ≡ n = omega (arith, length-map c.loop-outcome.queues.items (λ q. answers_of q.items), was.queues, count, c.loop-outcome.queues.ok.0, c.pop.new.self.ok.0) in
    record {
      each = at_first (IsWorkerResultAt g.S.Naming.names.opening n lines) c.pop.new.self.items c.in-Some.outcome each;
      desks = omega (arith, was.desks, count, c.push_reserved.ensures.len);
      queues = omega (arith, was.queues, count, c.push_reserved-in-Some.ensures.len);
      desk_room = omega (arith, was.desk_room, c.push_reserved.ensures.capacity);
      queue_room = omega (arith, was.queue_room, c.push_reserved-in-Some.ensures.capacity);
      played = λ both.
          let parts = and_parts c.loop-outcome.completed c.in-Some.outcome.completed both in
          let mine = at_last (IsWorkerResultAt g.S.Naming.names.opening n lines) c.pop.new.self.items c.in-Some.outcome each (length shown) place parts.1 in
          let desk = subst (λ d. HasPlayed g.S.Naming.names.opening n (length shown) lines d (answers_of c.in-Some.outcome.replies.items)) (sym c.into_desk.ensures) mine in
          let more = played_more g.S.Naming.names.opening n lines c.loop-outcome.desks.items shown c.into_desk.result (answers_of c.in-Some.outcome.replies.items) (was.played parts.0) desk in
          let desks = subst (λ ds. EachHasReplies g.S.Naming.names.opening n lines ds (shown ++ answers_of c.in-Some.outcome.replies.items ∷ [])) (sym c.push_reserved.ensures.items) more in
          let queue = ap (λ xs. shown ++ answers_of xs ∷ []) (sym c.from.ensures.0) in
          subst (EachHasReplies g.S.Naming.names.opening n lines c.push_reserved.new.self.items) (queue ∙ sym (ap (map (λ q. answers_of q.items)) c.push_reserved-in-Some.ensures.items ∙ map-append (λ q. answers_of q.items) c.loop-outcome.queues.items (c.from.result ∷ []))) desks;
    }
