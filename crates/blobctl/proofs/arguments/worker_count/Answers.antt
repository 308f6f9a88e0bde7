use Rattle.std.proofs.Common.{Some, None, codes, refl, ◌∙◌, arith}
use Rattle.std.specs.Str.Parse.{ParsesUnsigned, ExplainsUnsignedError, HasUnsignedDigitsIfOk}
use Rattle.clap.specs.Matches.{found_of}
use Rattle.clap.specs.Walk.{rows_of}
use Rattle.clap.proofs.WalkLemmas.{one_text-rows}
use Rattle.blobctl.specs.Arguments.{HasNumber}
use Rattle.blobctl.proofs.CommandLines.{number_read, number_same}
use Rattle.blobctl.proofs.arguments.worker_count.Goals.{else-workers-ge1-via-then-workers-ge1+else-workers-le-MAX_WORKERS, else-workers-ge1-via-else-workers-ge1}
use Rattle.blobctl.proofs.arguments.worker_count.Goals as goal

pub returns-in_err-workers : goal.returns-in_err-workers
returns-in_err-workers c =
    let f = found_of c.args.matches.now in
    let none = number_read _ (λ bs r. ParsesUnsigned 32 10 bs r × ExplainsUnsignedError 10 bs r × HasUnsignedDigitsIfOk bs r) 32 (rows_of f) (codes "workers") None (λ u x g. g.0) (λ _. refl) (λ t is. c.in_err-workers.ensures.value t (one_text-rows f (codes "workers") ∙ is)) in
    rw c.from_residual.ensures (λ workers have. let few = have.enough.few in none workers (omega arith) have.workers_given)

pub returns-then-workers-le-MAX_WORKERS : goal.returns-then-workers-le-MAX_WORKERS
returns-then-workers-le-MAX_WORKERS c =
    let f = found_of c.args.matches.now in
    record {
      workers_given = number_read _ (λ bs r. ParsesUnsigned 32 10 bs r × ExplainsUnsignedError 10 bs r × HasUnsignedDigitsIfOk bs r) 32 (rows_of f) (codes "workers") (Some c.in_ok-workers.field-0) (λ u x g. g.0) (λ is. c.in_ok-workers.ensures.none (one_text-rows f (codes "workers") ∙ is)) (λ t is. c.in_ok-workers.ensures.value t (one_text-rows f (codes "workers") ∙ is));
      enough = record { some = omega (arith, c.if-workers-ge1.true); few = omega (arith, c.if-workers-le-MAX_WORKERS.true) };
    }

pub returns-else-workers-ge1 : goal.returns-else-workers-ge1
returns-else-workers-ge1 c workers have =
    let f = found_of c.args.matches.now in
    let found : HasNumber (rows_of f) (codes "workers") c.in_ok-workers.field-0 = number_read _ (λ bs r. ParsesUnsigned 32 10 bs r × ExplainsUnsignedError 10 bs r × HasUnsignedDigitsIfOk bs r) 32 (rows_of f) (codes "workers") (Some c.in_ok-workers.field-0) (λ u x g. g.0) (λ is. c.in_ok-workers.ensures.none (one_text-rows f (codes "workers") ∙ is)) (λ t is. c.in_ok-workers.ensures.value t (one_text-rows f (codes "workers") ∙ is)) in
    let same = number_same (rows_of f) (codes "workers") c.in_ok-workers.field-0 workers found have.workers_given in
    let some = have.enough.some in
    let few = have.enough.few in
    elim c.else-workers-ge1.branch [
      | else-workers-ge1-via-then-workers-ge1+else-workers-le-MAX_WORKERS w ↦ absurd (omega (arith, w.if-workers-le-MAX_WORKERS.false))
      | else-workers-ge1-via-else-workers-ge1 w ↦ absurd (omega (arith, w.if-workers-ge1.false))
    ]
