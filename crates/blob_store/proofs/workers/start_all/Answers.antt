use Rattle.std.proofs.Common.{◌≡◌, ◌+◌, ◌∙◌, ap, arith, length, rules, subst, sym, vec_len}
use Rattle.blob_store.specs.Jobs.{IsWorkerResultAt, IsThreadOfWorkerAt, IsReady, IsReadyAt}
use Rattle.blob_store.specs.Workers.{AllAt}
use denote.Param.Send.{sendable}
use Rattle.std.proofs.Crossing.{crosses}
use Rattle.blob_store.proofs.Places.{at_first, at_last, at_pushed}
use Rattle.blob_store.proofs.Sending.{job_send, result_send, shared_sync}
use Rattle.blob_store.proofs.workers.start_all.Goals as goal

pub loop-job-init : goal.loop-job-init
loop-job-init g c = record {
  jobs = c.requires.ready;
  children = λ k d lt. absurd (omega (arith, lt, c.requires.children.0, c.args.started.children.ok.0));
  all = search rules;
  room = search rules;
  outcomes = search rules;
}

pub loop-job-preserved : goal.loop-job-preserved
loop-job-preserved g c =
    let was = c.loop-job.invariant in
    let n = vec_len c.args.jobs + 1 in
    let rows = c.args.shared.now.rows.now in
    let jobs = subst (AllAt (IsReadyAt n (g.L.RowList.lines rows))) c.in-Some.ensures.items was.jobs in
    let mine = at_last (IsReadyAt n (g.L.RowList.lines rows)) c.pop.new.self.items c.in-Some.job jobs in
    let promised = c.in-Ok.ensures.ok in
    let count = c.in-Some.ensures.len in
    let number : c.in-Some.job.worker.number ≡ length c.loop-job.children.items + 1 = omega (arith, mine.turn, was.all, count, c.pop.new.self.ok.0, c.loop-job.children.ok.0) in
    record {
      jobs = at_first (IsReadyAt n (g.L.RowList.lines rows)) c.pop.new.self.items c.in-Some.job jobs;
      children = subst (AllAt (IsThreadOfWorkerAt n rows)) (sym c.push_reserved.ensures.items)
          (at_pushed (IsThreadOfWorkerAt n rows) c.loop-job.children.items c.in-Ok.child was.children
          (record { of_rows = ap (λ p. p.rows.now) promised; among = ap (λ p. p.worker.workers) promised ∙ mine.among; turn = ap (λ p. p.worker.number) promised ∙ number }));
      all = omega (arith, was.all, count, c.push_reserved.ensures.len);
      room = omega (arith, was.room, c.push_reserved.ensures.capacity);
      outcomes = was.outcomes;
    }

pub spawn_with-requires-clause-runs : goal.spawn_with-requires-clause-runs
spawn_with-requires-clause-runs g c κs within =
    let n = vec_len c.args.jobs + 1 in
    let lines = g.L.RowList.lines c.args.shared.now.rows.now in
    let jobs = subst (AllAt (IsReadyAt n lines)) c.in-Some.ensures.items c.loop-job.invariant.jobs in
    (at_last (IsReadyAt n lines) c.pop.new.self.items c.in-Some.job jobs).ready

pub spawn_with-requires-send-F : goal.spawn_with-requires-send-F
spawn_with-requires-send-F g c κs within = search (job_send, shared_sync, sendable, crosses) depth 60 fits 20000

pub spawn_with-requires-send-T : goal.spawn_with-requires-send-T
spawn_with-requires-send-T g c κs within = search (result_send, sendable) depth 20 fits 20000

pub there-desk-requires : goal.there-desk-requires
there-desk-requires g c κs within =
    let n = vec_len c.args.jobs + 1 in
    let lines = g.L.RowList.lines c.args.shared.now.rows.now in
    let jobs = subst (AllAt (IsReadyAt n lines)) c.in-Some.ensures.items c.loop-job.invariant.jobs in
    let ready : IsReady lines c.in-Some.job = (at_last (IsReadyAt n lines) c.pop.new.self.items c.in-Some.job jobs).ready in
    let same = c.in-Err.ensures.err in
    search rules

pub returns-in-Err : goal.returns-in-Err
returns-in-Err g c =
    let was = c.loop-job.invariant in
    let C = g.S.Naming.names.opening in
    let n = vec_len c.args.jobs + 1 in
    let lines = g.L.RowList.lines c.args.shared.now.rows.now in
    let others = c.add_unplayed-outcomes in
    let pushed = c.push_reserved-in-Err in
    record {
      all = omega (arith, was.all, c.in-Some.ensures.len, others.ensures.len, pushed.ensures.len);
      children = was.children;
      outcomes = subst (AllAt (IsWorkerResultAt C n lines)) (sym pushed.ensures.items)
          (at_pushed (IsWorkerResultAt C n lines) others.result.items c.incomplete.result
          (λ k d lt w at done. absurd (cc (others.ensures.none k d lt, done)))
          (λ w at done. absurd (cc (c.incomplete.ensures, done))));
      room = omega (arith, was.outcomes.1, others.ensures.capacity, pushed.ensures.capacity);
    }
