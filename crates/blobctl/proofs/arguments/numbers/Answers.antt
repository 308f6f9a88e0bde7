use Rattle.std.proofs.Common.{Some, None, codes, refl, ◌∙◌, arith}
use Rattle.std.specs.Str.Parse.{ParsesUnsigned, ExplainsUnsignedError, HasUnsignedDigitsIfOk}
use Rattle.clap.specs.Matches.{found_of}
use Rattle.clap.specs.Walk.{rows_of}
use Rattle.clap.proofs.WalkLemmas.{one_text-rows}
use Rattle.blobctl.specs.Arguments.{HasNumber}
use Rattle.blobctl.proofs.CommandLines.{number_read, number_same}
use Rattle.blobctl.proofs.arguments.numbers.Goals.{else-slots-ge1-via-then-slots-ge1+then-slots-le-GREATEST_SLOTS+else-max_blob-le-MAX_BLOB, else-slots-ge1-via-then-slots-ge1+else-slots-le-GREATEST_SLOTS, else-slots-ge1-via-else-slots-ge1}
use Rattle.blobctl.proofs.arguments.numbers.Goals as goal

pub returns-in_err-slots : goal.returns-in_err-slots
returns-in_err-slots c =
    let f = found_of c.args.matches.now in
    let none = number_read _ (λ bs r. ParsesUnsigned 32 10 bs r × ExplainsUnsignedError 10 bs r × HasUnsignedDigitsIfOk bs r) 32 (rows_of f) (codes "slots") None (λ u x g. g.0) (λ _. refl) (λ t is. c.in_err-slots.ensures.value t (one_text-rows f (codes "slots") ∙ is)) in
    rw c.from_residual.ensures (λ slots max_blob have. let few = have.sized.few in none slots (omega arith) have.slots_given)

pub returns-in_err-max_blob : goal.returns-in_err-max_blob
returns-in_err-max_blob c =
    let f = found_of c.args.matches.now in
    let none = number_read _ (λ bs r. ParsesUnsigned 64 10 bs r × ExplainsUnsignedError 10 bs r × HasUnsignedDigitsIfOk bs r) 64 (rows_of f) (codes "max-blob") None (λ u x g. g.0) (λ _. refl) (λ t is. c.in_err-max_blob.ensures.value t (one_text-rows f (codes "max-blob") ∙ is)) in
    rw c.from_residual-in_err-max_blob.ensures (λ slots max_blob have. let few = have.sized.blobs in none max_blob (omega arith) have.max_blob_given)

pub returns-then-max_blob-le-MAX_BLOB : goal.returns-then-max_blob-le-MAX_BLOB
returns-then-max_blob-le-MAX_BLOB c =
    let f = found_of c.args.matches.now in
    record {
      slots_given = number_read _ (λ bs r. ParsesUnsigned 32 10 bs r × ExplainsUnsignedError 10 bs r × HasUnsignedDigitsIfOk bs r) 32 (rows_of f) (codes "slots") (Some c.in_ok-slots.slots) (λ u x g. g.0) (λ is. c.in_ok-slots.ensures.none (one_text-rows f (codes "slots") ∙ is)) (λ t is. c.in_ok-slots.ensures.value t (one_text-rows f (codes "slots") ∙ is));
      max_blob_given = number_read _ (λ bs r. ParsesUnsigned 64 10 bs r × ExplainsUnsignedError 10 bs r × HasUnsignedDigitsIfOk bs r) 64 (rows_of f) (codes "max-blob") (Some c.in_ok-max_blob.max_blob) (λ u x g. g.0) (λ is. c.in_ok-max_blob.ensures.none (one_text-rows f (codes "max-blob") ∙ is)) (λ t is. c.in_ok-max_blob.ensures.value t (one_text-rows f (codes "max-blob") ∙ is));
      sized = record { some = omega (arith, c.if-slots-ge1.true); few = omega (arith, c.if-slots-le-GREATEST_SLOTS.true); blobs = omega (arith, c.if-max_blob-le-MAX_BLOB.true) };
    }

pub returns-else-slots-ge1 : goal.returns-else-slots-ge1
returns-else-slots-ge1 c slots max_blob have =
    let f = found_of c.args.matches.now in
    let s : HasNumber (rows_of f) (codes "slots") c.in_ok-slots.slots = number_read _ (λ bs r. ParsesUnsigned 32 10 bs r × ExplainsUnsignedError 10 bs r × HasUnsignedDigitsIfOk bs r) 32 (rows_of f) (codes "slots") (Some c.in_ok-slots.slots) (λ u x g. g.0) (λ is. c.in_ok-slots.ensures.none (one_text-rows f (codes "slots") ∙ is)) (λ t is. c.in_ok-slots.ensures.value t (one_text-rows f (codes "slots") ∙ is)) in
    let b : HasNumber (rows_of f) (codes "max-blob") c.in_ok-max_blob.max_blob = number_read _ (λ bs r. ParsesUnsigned 64 10 bs r × ExplainsUnsignedError 10 bs r × HasUnsignedDigitsIfOk bs r) 64 (rows_of f) (codes "max-blob") (Some c.in_ok-max_blob.max_blob) (λ u x g. g.0) (λ is. c.in_ok-max_blob.ensures.none (one_text-rows f (codes "max-blob") ∙ is)) (λ t is. c.in_ok-max_blob.ensures.value t (one_text-rows f (codes "max-blob") ∙ is)) in
    let same_slots = number_same (rows_of f) (codes "slots") c.in_ok-slots.slots slots s have.slots_given in
    let same_blob = number_same (rows_of f) (codes "max-blob") c.in_ok-max_blob.max_blob max_blob b have.max_blob_given in
    let some = have.sized.some in
    let few = have.sized.few in
    let blobs = have.sized.blobs in
    elim c.else-slots-ge1.branch [
      | else-slots-ge1-via-then-slots-ge1+then-slots-le-GREATEST_SLOTS+else-max_blob-le-MAX_BLOB w ↦ absurd (omega (arith, w.if-max_blob-le-MAX_BLOB.false))
      | else-slots-ge1-via-then-slots-ge1+else-slots-le-GREATEST_SLOTS w ↦ absurd (omega (arith, w.if-slots-le-GREATEST_SLOTS.false))
      | else-slots-ge1-via-else-slots-ge1 w ↦ absurd (omega (arith, w.if-slots-ge1.false))
    ]
