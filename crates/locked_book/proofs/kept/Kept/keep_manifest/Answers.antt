use Rattle.std.proofs.Common.{◌≡◌, subst, sym}
use Rattle.std.specs.Prelude.{IfOk}
use Rattle.blob_digest.specs.Digests.{sha256_text}
use Rattle.locked_book.proofs.Answered.{put_digest}
use Rattle.locked_book.proofs.kept.Kept.keep_manifest.Goals as goal
use Rattle.locked_book.proofs.kept.Kept.keep_manifest.Goals.{in-Ok, in-Err}

pub returns-clause-digest : goal.returns-clause-digest
returns-clause-digest g c = elim c.match-room.branch [
  | in-Ok w ↦ subst (λ r. IfOk r (λ d. d ≡ sha256_text c.args.manifest)) (sym w.result-is) (put_digest c.self.inside.book.catalog w.keep_manifest-result.new.self.catalog c.args.repo.now c.args.manifest w.keep_manifest-result.result w.keep_manifest-result.ensures.does)
  | in-Err w ↦ subst (λ r. IfOk r (λ d. d ≡ sha256_text c.args.manifest)) (sym w.result-is) tt
]
