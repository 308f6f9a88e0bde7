use Rattle.std.proofs.Common.{◌∙◌, ap, sym, subst}
use Rattle.blob_store.specs.StoreBackends.{DeskActs, WorkActs, work_of}
use Rattle.blob_store.specs.Workers.{zero_work}
use Rattle.locked_book.specs.History.{IsPart}
use Rattle.store_api.specs.Answers.{answers_of}
use Rattle.script_player.specs.Leases.{no_leases}
use Rattle.script_player.specs.Plays.{Plays}
use Rattle.script_player.specs.Shares.{own_rows}
use Rattle.script_player.proofs.PlayedRows.{plays_through}
use Rattle.blob_store.proofs.workers.work.Goals as goal

pub returns-in-Ok : goal.returns-in-Ok
returns-in-Ok g c = λ _.
    let lines = own_rows c.args.job.worker.workers c.args.job.worker.number (g.L.RowList.lines c.args.shared.now.rows.now) in
    let answers = answers_of c.in-Ok.replies.items in
    let played = c.in-Ok.ensures.played in
    let new = c.run_rows-played.new.backend in
    let shown = plays_through (λ backend. work_of backend.desk) (λ old request answer new. DeskActs g.S.Naming.names old.desk request answer new.desk) WorkActs (λ old request answer new acts. acts.work) (_, no_leases) (new, played.0) lines answers played.1 in
    let begun = subst (λ d. Plays WorkActs (d, no_leases) lines answers (work_of new.desk, played.0)) (ap work_of c.into_desk.ensures ∙ c.requires.fresh) shown in
    record {
      played = (played.0, subst (λ d. Plays WorkActs (zero_work, no_leases) lines answers (d, played.0)) (ap work_of (sym c.into_droppable.ensures)) begun);
      part = subst (λ d. IsPart g.S.Naming.names.opening d.trace) (sym c.into_droppable.ensures) c.reveal_invariant.ensures;
    }
