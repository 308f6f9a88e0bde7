use Rattle.std.proofs.Common.{◌∷◌, ◌∙◌, ◌++◌, [], refl}
use Rattle.std.proofs.lemmas.Option.{none-some}
use Rattle.std.proofs.KnownBytes.{Appends-nil, Consumes-nil}
use Rattle.wire_server.proofs.Serving.{ends_by_read_later, serves_push, then_served}
use Rattle.wire_server.proofs.connection.serve_requests.Goals as goal

pub loop-init : goal.loop-init
loop-init g c = ([], [], refl, Consumes-nil _, Appends-nil _, refl, c.requires)

pub returns-in-Some-serve_next-clause-served : goal.returns-in-Some-serve_next-clause-served
returns-in-Some-serve_next-clause-served g c =
    let so_far = c.loop.invariant in
    then_served g.F.ContentStore.on_disk g.B.Backend.acts g.B.Queries.finds g.L.LeaseStore.does _ _ _ _ _ _ _ _ so_far.0 so_far.1 _ so_far.2 so_far.3 so_far.4 c.in-Some-serve_next.ensures.ended

pub returns-in-Some-serve_next-clause-failed : goal.returns-in-Some-serve_next-clause-failed
returns-in-Some-serve_next-clause-failed g c = ends_by_read_later _ _ _ _ c.loop.invariant.5 c.in-Some-serve_next.ensures.failed

pub loop-preserved : goal.loop-preserved
loop-preserved g c =
    let so_far = c.loop.invariant in
    let next = c.in_default.ensures.served refl in
    let all = serves_push g.F.ContentStore.on_disk g.B.Backend.acts g.B.Queries.finds g.L.LeaseStore.does _ _ _ _ _ _ _ _ _ so_far.0 so_far.1 next.0 next.1 so_far.2 so_far.3 so_far.4 next.2 next.3 next.4 in
    (so_far.0 ++ next.0 ∷ [], so_far.1 ++ next.1 ∷ [], all.0, all.1, all.2, c.in_default.ensures.failed ∙ so_far.5, c.in_default.ensures.durable (none-some _))
