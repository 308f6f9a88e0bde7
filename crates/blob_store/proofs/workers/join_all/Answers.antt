use Rattle.std.proofs.Common.{◌≡◌, ◌+◌, arith, length, rules, subst, sym, vec_len}
use Rattle.blob_store.specs.Jobs.{HasPlayedIfComplete, IsWorkerResultAt, IsThreadOfWorkerAt}
use Rattle.blob_store.specs.Workers.{AllAt}
use Rattle.blob_store.proofs.Places.{at_first, at_last, at_pushed}
use Rattle.blob_store.proofs.workers.join_all.Goals as goal

pub loop-child-preserved : goal.loop-child-preserved
loop-child-preserved g c =
    let was = c.loop-child.invariant in
    let C = g.S.Naming.names.opening in
    let n = c.args.workers in
    let rows = c.args.rows.now in
    let lines = g.L.RowList.lines rows in
    let left = c.pop.new.self in
    let worker = c.in-Some.child.promise.worker in
    let done = c.join.result in
    let children = subst (AllAt (IsThreadOfWorkerAt n rows)) c.in-Some.ensures.items was.children in
    let here = at_last (IsThreadOfWorkerAt n rows) left.items c.in-Some.child children in
    let of_rows = subst (λ r. HasPlayedIfComplete C worker.workers worker.number (g.L.RowList.lines r) done) here.of_rows c.join.ensures in
    let of_all = subst (λ k. HasPlayedIfComplete C k worker.number lines done) here.among of_rows in
    let of_one = subst (λ k. HasPlayedIfComplete C n k lines done) here.turn of_all in
    let count = c.in-Some.ensures.len in
    let more = c.push_reserved.ensures.len in
    record {
      all = omega (arith, was.all, count, more);
      children = at_first (IsThreadOfWorkerAt n rows) left.items c.in-Some.child children;
      outcomes = subst (AllAt (IsWorkerResultAt C n lines)) (sym c.push_reserved.ensures.items)
          (at_pushed (IsWorkerResultAt C n lines) c.loop-child.outcomes.items done was.outcomes
          (λ w at. let number : length left.items + 1 ≡ w = omega (arith, at, was.all, count, left.ok.0, c.loop-child.outcomes.ok.0) in subst (λ k. HasPlayedIfComplete C n k lines done) number of_one));
      room = omega (arith, was.room, c.push_reserved.ensures.capacity);
    }

pub returns : goal.returns
returns g c =
    let was = c.loop-child.invariant in
    let C = g.S.Naming.names.opening in
    let n = c.args.workers in
    let lines = g.L.RowList.lines c.args.rows.now in
    let first = c.args.first in
    let none : vec_len c.loop-child.children ≡ 0 = search rules in
    let more = c.push_reserved-2.ensures.len in
    record {
      len = omega (arith, was.all, none, more);
      each = subst (AllAt (IsWorkerResultAt C n lines)) (sym c.push_reserved-2.ensures.items)
          (at_pushed (IsWorkerResultAt C n lines) c.loop-child.outcomes.items first was.outcomes
          (λ w at. let zero : 0 ≡ w = omega (arith, at, was.all, none, c.loop-child.outcomes.ok.0) in subst (λ k. HasPlayedIfComplete C n k lines first) zero c.requires.first));
    }
