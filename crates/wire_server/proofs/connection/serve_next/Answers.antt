use Rattle.std.proofs.Common.{[], arith, refl}
use Rattle.std.proofs.lemmas.Option.{same_Some}
use Rattle.std.proofs.KnownBytes.{Appends-nil}
use Rattle.wire_server.specs.declared.ending.Ending.TheVariants.{NotDurable, WriteFailed}
use Rattle.wire_server.proofs.Commits.{plays_committed}
use Rattle.wire_server.proofs.Serving.{not_lost_at_once, served_at_once, served_unreplied}
use Rattle.wire_server.proofs.connection.serve_next.Goals as goal

pub returns-in-Err-clause-ended : goal.returns-in-Err-clause-ended
returns-in-Err-clause-ended g c =
    let same = c.in-Err.ensures.same in
    rw (same.0, same.1) (served_at_once g.F.ContentStore.on_disk g.B.Backend.acts g.B.Queries.finds g.L.LeaseStore.does _ _ _ _ c.in-Err.ensures.ended)

pub returns-in-Err-clause-lost : goal.returns-in-Err-clause-lost
returns-in-Err-clause-lost g c = λ is. absurd (not_lost_at_once _ _ c.in-Err.ensures.ended (same_Some _ _ is))

pub returns-then-not-commit-clause-ended : goal.returns-then-not-commit-clause-ended
returns-then-not-commit-clause-ended g c =
    let played = plays_committed g.F.ContentStore.on_disk g.B.Backend.acts g.B.Queries.finds g.L.LeaseStore.does g.I.Read.remaining g.G.ReplyGuard.durable _ _ _ _ _ c.args.input.now c.execute_next.new.input c.in-Ok.outcome c.requires c.commit.ensures.acts c.commit.ensures.same c.in-Ok.ensures.played in
    served_unreplied g.F.ContentStore.on_disk g.B.Backend.acts g.B.Queries.finds g.L.LeaseStore.does g.I.Read.remaining _ _ c.args.input.now c.execute_next.new.input _ _ c.in-Ok.outcome NotDurable played (λ reply. ([], reply, refl, Appends-nil _)) (omega arith)

pub returns-in-Ok-send-clause-served : goal.returns-in-Ok-send-clause-served
returns-in-Ok-send-clause-served g c = λ _.
    let played = plays_committed g.F.ContentStore.on_disk g.B.Backend.acts g.B.Queries.finds g.L.LeaseStore.does g.I.Read.remaining g.G.ReplyGuard.durable _ _ _ _ _ c.args.input.now c.execute_next.new.input c.in-Ok.outcome c.requires c.commit.ensures.acts c.commit.ensures.same c.in-Ok.ensures.played in
    let sent = c.in-Ok-send.ensures in
    (played.0, sent.0, (_, played.1, sent.1), played.2, sent.2)

pub returns-clause-ended : goal.returns-clause-ended
returns-clause-ended g c =
    let played = plays_committed g.F.ContentStore.on_disk g.B.Backend.acts g.B.Queries.finds g.L.LeaseStore.does g.I.Read.remaining g.G.ReplyGuard.durable _ _ _ _ _ c.args.input.now c.execute_next.new.input c.in-Ok.outcome c.requires c.commit.ensures.acts c.commit.ensures.same c.in-Ok.ensures.played in
    served_unreplied g.F.ContentStore.on_disk g.B.Backend.acts g.B.Queries.finds g.L.LeaseStore.does g.I.Read.remaining _ _ c.args.input.now c.execute_next.new.input _ _ c.in-Ok.outcome WriteFailed played (λ _. tt) (omega arith)
