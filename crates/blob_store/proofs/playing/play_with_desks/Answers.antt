use Rattle.std.proofs.Common.{◌≡◌, ◌<◌, ◌∙◌, ap, arith, length, map, subst, sym, vec_len}
use Rattle.std.proofs.lemmas.List.{length-map}
use Rattle.blob_store.specs.Jobs.{AreWorkerResults}
use Rattle.blob_store.specs.Workers.{HavePlayed}
use Rattle.blob_store.proofs.Settlings.{whole_lists}
use Rattle.store_api.specs.Answers.{answers_of}
use Rattle.script_player.specs.Shares.{answers_by_row}
use Rattle.script_player.proofs.Orders.{all_by_row}
use Rattle.blob_store.proofs.playing.play_with_desks.Goals as goal

pub collect-completed-requires-clause-each : goal.collect-completed-requires-clause-each
collect-completed-requires-clause-each g c =
    let jobs : vec_len c.jobs_of-jobs.result ≡ c.len-workers.result = c.jobs_of-jobs.ensures.len ∙ sym c.len-workers.ensures in
    subst (λ m. AreWorkerResults g.S.Naming.names.opening m (g.L.RowList.lines c.args.rows.now) c.play_all-outcomes.result) jobs c.play_all-outcomes.ensures

pub returns-then-completed : goal.returns-then-completed
returns-then-completed g c =
    let n = c.len-workers.result in
    let queues = c.collect-completed.new.queues in
    let desks = c.collect-completed.new.desks in
    let lines = g.L.RowList.lines c.args.rows.now in
    let size : length queues.items ≡ n = omega (arith, queues.ok.0, c.collect-completed.ensures.len.1) in
    let desk_size : length desks.items ≡ n = omega (arith, desks.ok.0, c.collect-completed.ensures.len.0) in
    let shown = map (λ q. answers_of q.items) queues.items in
    let are = c.collect-completed.ensures.played c.if-completed.true in
    let lists : length shown ≡ n = length-map queues.items (λ q. answers_of q.items) ∙ size in
    let some : 0 < n = omega (arith, c.requires.fresh.0, c.len-workers.ensures) in
    let together = all_by_row n lines shown lists some (λ w lt. whole_lists g.S.Naming.names.opening n lines desks.items shown are w (omega (arith, lt, lists))) in
    let have : HavePlayed g.S.Naming.names.opening n lines desks.items (answers_by_row n lines shown) = record {
      size = desk_size;
      lists = shown;
      played = are;
      together = together;
    } in
    let answers : answers_by_row n lines shown ≡ c.new.result = ap (λ m. answers_by_row m lines shown) (sym size) ∙ sym c.new.ensures in
    subst (HavePlayed g.S.Naming.names.opening (vec_len c.args.desks.now) lines desks.items) answers
    (subst (λ m. HavePlayed g.S.Naming.names.opening m lines desks.items (answers_by_row n lines shown)) c.len-workers.ensures have)
