use Rattle.std.proofs.Common.{inr, subst}
use Rattle.std.proofs.lemmas.Result.{MatchResult-weaker}
use Rattle.locked_book.specs.History.{state_of}
use Rattle.blob_store.specs.Workers.{HavePlayed}
use Rattle.blob_store.proofs.Interleavings.{interleaved}
use Rattle.blob_store.proofs.playing.play_exclusively.Goals as goal

pub returns-clause-replies : goal.returns-clause-replies
returns-clause-replies g c =
    MatchResult-weaker c.end_of_play.result c.end_of_play.ensures (λ p h.
    let have = rw h.1 at c.play_with_desks-played.ensures in
    have.together.one_each) (λ e h. tt)

pub returns-clause-together : goal.returns-clause-together
returns-clause-together g c =
    let lines = g.L.RowList.lines c.args.rows.now in
    let desks = c.play_with_desks-played.new.desks.items in
    MatchResult-weaker c.end_of_play.result c.end_of_play.ensures (λ p h.
    let answers = p.replies in
    let played = rw h.1 at c.play_with_desks-played.ensures in
    let have = subst (λ m. HavePlayed g.S.Naming.names.opening m lines desks answers) c.in_ok-desks.ensures.made.0 played in
    rw h.2 (interleaved g.S.Naming.names.opening c.args.workers lines desks answers (state_of c.conclude-is_exclusive.new.self) have (c.conclude-is_exclusive.ensures.whole h.0))) (λ e h. tt)

pub returns-clause-refused : goal.returns-clause-refused
returns-clause-refused g c = MatchResult-weaker c.end_of_play.result c.end_of_play.ensures (λ p h. tt) (λ e h. inr h)
