use Rattle.std.proofs.Common.{◌≡◌, ◌∙◌, ap, arith, length, refl, subst, sym, vec_capacity}
use Rattle.locked_book.specs.History.{AreFreshDesks}
use Rattle.blob_store.specs.Jobs.{IsReadyAt, IsRoomOfWorker}
use Rattle.blob_store.specs.StoreBackends.{work_of}
use Rattle.blob_store.specs.Workers.{AllAt}
use Rattle.blob_store.proofs.Settlings.{fresh_work}
use Rattle.blob_store.proofs.Places.{at_first, at_last, at_pushed}
use Rattle.locked_book.proofs.Sums.{fresh_left}
use Rattle.script_player.specs.Shares.{own_rows}
use Rattle.blob_store.proofs.playing.jobs_of.Goals as goal

pub loop-desk-preserved : goal.loop-desk-preserved
loop-desk-preserved g c =
    let was = c.loop-desk.invariant in
    let n = c.len-workers.result in
    let lines = g.L.RowList.lines c.args.rows.now in
    let replies = c.in-Some-pop.replies in
    let left = fresh_left c.pop.new.self.items c.in-Some.desk (subst AreFreshDesks c.in-Some.ensures.items was.fresh) in
    let lists = subst (AllAt (IsRoomOfWorker n lines)) c.in-Some-pop.ensures.items was.lists in
    let mine = at_last (IsRoomOfWorker n lines) c.pop-in-Some.new.self.items replies lists in
    let desk_count = c.in-Some.ensures.len in
    let list_count = c.in-Some-pop.ensures.len in
    let number : length c.pop-in-Some.new.self.items ≡ c.len-number.result = omega (arith, was.both, desk_count, list_count, c.len-number.ensures, c.pop-in-Some.new.self.ok.0) in
    let exact = subst (λ k. vec_capacity replies ≡ length (own_rows n k lines)) number mine.1 in
    record {
      jobs = subst (AllAt (IsReadyAt n lines)) (sym c.push_reserved.ensures.items) (at_pushed (IsReadyAt n lines) c.loop-desk.jobs.items _ was.jobs
          (record {
            among = refl;
            turn = omega (arith, was.all, desk_count, c.len-number.ensures, c.loop-desk.jobs.ok.0);
            ready = record { fresh = ap work_of c.into_droppable.ensures ∙ fresh_work c.in-Some.desk left.0; empty = mine.0; fits = omega (arith, exact) };
          }));
      lists = at_first (IsRoomOfWorker n lines) c.pop-in-Some.new.self.items replies lists;
      fresh = left.1;
      workers = was.workers;
      both = omega (arith, was.both, desk_count, list_count);
      all = omega (arith, was.all, desk_count, c.push_reserved.ensures.len);
      room = omega (arith, was.room, c.push_reserved.ensures.capacity);
      desks = c.in-Some.ensures.capacity ∙ was.desks;
    }
