use Rattle.std.proofs.Common.{◌≡◌, ◌∙◌, arith, false, rules, subst, sym}
use Rattle.blob_store.specs.Workers.{AllAt}
use Rattle.blob_store.proofs.Places.{at_pushed}
use Rattle.blob_store.proofs.workers.add_unplayed.Goals as goal

pub loop-job-init : goal.loop-job-init
loop-job-init g c = record {
  none = λ k d lt. absurd (omega (arith, lt, c.requires.room.0, c.args.outcomes.ok.0));
  all = search rules;
  room = search rules;
  capacity = search rules;
}

pub loop-job-preserved : goal.loop-job-preserved
loop-job-preserved g c =
    let was = c.loop-job.invariant in
    let count = c.in-Some.ensures.len in
    record {
      none = subst (AllAt (λ _ o. o.completed ≡ false)) (sym c.push_reserved.ensures.items) (at_pushed (λ _ o. o.completed ≡ false) c.loop-job.outcomes.items c.incomplete.result was.none c.incomplete.ensures);
      all = omega (arith, was.all, count, c.push_reserved.ensures.len);
      room = omega (arith, was.room, c.push_reserved.ensures.capacity);
      capacity = c.push_reserved.ensures.capacity ∙ was.capacity;
    }
