use Rattle.std.proofs.Common.{false, refl}
use Rattle.blob_digest.proofs.UploadHashing.{taken_once}
use Rattle.blob_digest.proofs.upload_hashes.UploadHashes.update.Goals as goal

pub returns : goal.returns
returns c before is =
    let new = record c.args.self.now { sha256 = c.update.new.self; is_through_both = false } in
    taken_once c.args.self.now new before c.args.bytes.now refl refl refl c.update.ensures is
