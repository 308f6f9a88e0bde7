use Rattle.std.proofs.Common.{◌∙◌, arith, subst, sym, take}
use Rattle.std.proofs.Math.Seq.{take-length}
use Rattle.sha2.specs.Hashers.{Holds512}
use Rattle.blob_digest.specs.Hashing.{HashesUpload}
use Rattle.blob_digest.proofs.Slices.{slices_join}
use Rattle.blob_digest.proofs.upload_hashes.UploadHashes.catch_up.Goals as goal

pub returns-clause-same : goal.returns-clause-same
unfolding HashesUpload
returns-clause-same c =
    let bytes = c.args.bytes.now in
    let n = c.args.self.now.through_sha512 in
    (c.requires.all.0, omega arith, subst (Holds512 c.update.new.self) (slices_join n bytes ∙ sym (take-length bytes)) (c.update.ensures (take n bytes) c.requires.all.2), λ _. omega arith)

pub returns-clause-sha512 : goal.returns-clause-sha512
unfolding HashesUpload
returns-clause-sha512 c =
    let n = c.args.self.now.through_sha512 in
    subst (Holds512 c.update.new.self) (slices_join n c.args.bytes.now) (c.update.ensures (take n c.args.bytes.now) c.requires.all.2)
