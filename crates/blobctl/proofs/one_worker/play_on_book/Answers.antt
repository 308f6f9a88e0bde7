use Rattle.store_api.specs.Answers.{answers_of}
use Rattle.script_player.specs.Leases.{no_leases}
use Rattle.blobctl.specs.Played.{BookActs}
use Rattle.script_player.proofs.PlayedRows.{plays_through}
use Rattle.blobctl.proofs.one_worker.play_on_book.Goals as goal

pub returns-clause-played : goal.returns-clause-played
returns-clause-played g c =
    let played = c.in_ok-replies.ensures.played in
    (played.0, plays_through (λ pinned. pinned.book) (λ old request answer new. BookActs old.book request answer new.book) BookActs (λ old request answer new acts. acts) (_, no_leases) (c.run_script.new.backend, played.0) c.args.rows (answers_of c.in_ok-replies.replies.items) played.1)
