use Rattle.std.proofs.Common.{◌≡◌, ◌+◌, arith, subst, sym, vec_len}
use Rattle.blob_store.specs.Jobs.{AreStarted, HasPlayedIfComplete, IsReadyAt}
use Rattle.blob_store.specs.Workers.{AllAt}
use Rattle.blob_store.proofs.Places.{at_first, at_last}
use Rattle.blob_store.proofs.workers.play_in.Goals as goal

pub start_all-started-requires-clause-ready : goal.start_all-started-requires-clause-ready
start_all-started-requires-clause-ready g c κs within =
    let left = c.pop.new.self in
    let lines = g.L.RowList.lines c.args.shared.now.rows.now in
    let jobs = subst (AllAt (IsReadyAt (vec_len c.args.jobs) lines)) c.in-Some.ensures.items c.requires.ready in
    subst (λ n. AllAt (IsReadyAt n lines) left.items) (sym c.in-Some.ensures.len) (at_first (IsReadyAt (vec_len c.args.jobs) lines) left.items c.in-Some.own jobs)

pub work-first-requires : goal.work-first-requires
work-first-requires g c =
    let lines = g.L.RowList.lines c.args.shared.now.rows.now in
    let jobs = subst (AllAt (IsReadyAt (vec_len c.args.jobs) lines)) c.in-Some.ensures.items c.requires.ready in
    (at_last (IsReadyAt (vec_len c.args.jobs) lines) c.pop.new.self.items c.in-Some.own jobs).ready

pub join_all-requires : goal.join_all-requires
join_all-requires g c =
    let C = g.S.Naming.names.opening in
    let n = c.len-workers.result in
    let left = c.pop.new.self in
    let own = c.in-Some.own in
    let done = c.work-first.result in
    let rows = c.args.shared.now.rows.now in
    let lines = g.L.RowList.lines rows in
    let jobs = subst (AllAt (IsReadyAt (vec_len c.args.jobs) lines)) c.in-Some.ensures.items c.requires.ready in
    let mine = at_last (IsReadyAt (vec_len c.args.jobs) lines) left.items own jobs in
    let count : vec_len left + 1 ≡ n = omega (arith, c.in-Some.ensures.len, c.len-workers.ensures) in
    let among : own.worker.workers ≡ n = omega (arith, mine.among, c.len-workers.ensures) in
    let first : own.worker.number ≡ 0 = omega (arith, mine.turn, c.in-Some.ensures.len, left.ok.0) in
    record {
      started = subst (λ m. AreStarted C g.L.RowList.lines m rows c.start_all-started.result) count c.start_all-started.ensures;
      first = subst (λ k. HasPlayedIfComplete C n k lines done) first (subst (λ k. HasPlayedIfComplete C k own.worker.number lines done) among c.work-first.ensures);
    }
