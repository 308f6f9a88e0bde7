use Rattle.std.proofs.Common.{◌∙◌, subst, sym, vec_len}
use Rattle.blob_store.specs.Workers.{HavePlayed}
use Rattle.blob_store.proofs.Settlings.{are_settled, each_played}
use Rattle.store_api.specs.Answers.{answers_of}
use Rattle.blob_store.proofs.playing.play.Goals as goal

pub returns-in-Some-clause-each : goal.returns-in-Some-clause-each
returns-in-Some-clause-each g c =
    let lines = g.L.RowList.lines c.args.rows in
    let desks = c.play_with_desks-played.new.desks.items in
    let answers = answers_of c.into_list.result.items in
    let have = subst (λ m. HavePlayed g.S.Naming.names.opening m lines desks answers) c.in_ok-desks.ensures.made.0 (subst (HavePlayed g.S.Naming.names.opening (vec_len c.in_ok-desks.desks) lines desks) (sym c.into_list.ensures.all) c.in-Some.ensures) in
    each_played g.S.Naming.names.opening c.args.workers lines desks have.lists answers (sym have.played.as_many ∙ have.size) have.played have.together

pub returns-in-Some-clause-settled : goal.returns-in-Some-clause-settled
returns-in-Some-clause-settled g c =
    let lines = g.L.RowList.lines c.args.rows in
    let desks = c.play_with_desks-played.new.desks.items in
    let answers = answers_of c.into_list.result.items in
    let have = subst (λ m. HavePlayed g.S.Naming.names.opening m lines desks answers) c.in_ok-desks.ensures.made.0 (subst (HavePlayed g.S.Naming.names.opening (vec_len c.in_ok-desks.desks) lines desks) (sym c.into_list.ensures.all) c.in-Some.ensures) in
    are_settled g.S.Naming.names.opening c.args.workers lines desks have.lists answers c.settle-settled.result have.size c.requires.0 have.played have.together c.settle-settled.ensures
