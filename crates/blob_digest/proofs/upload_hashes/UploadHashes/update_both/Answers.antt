use Rattle.std.proofs.Common.{false, refl}
use Rattle.blob_digest.proofs.UploadHashing.{taken_once, taken_twice}
use Rattle.blob_digest.proofs.upload_hashes.UploadHashes.update_both.Goals as goal

pub returns-in-Some : goal.returns-in-Some
returns-in-Some c before is =
    let new = record c.args.self.now { sha256 = c.update.new.self; sha512 = c.update-in-Some.new.self; through_sha512 = c.in-Some.through } in
    taken_twice c.args.self.now new before c.args.bytes.now c.if-self.true c.in-Some.ensures.1 c.update.ensures c.update-in-Some.ensures is

pub returns-in_default : goal.returns-in_default
returns-in_default c before is =
    let new = record c.args.self.now { sha256 = c.update.new.self; is_through_both = false } in
    taken_once c.args.self.now new before c.args.bytes.now refl refl refl c.update.ensures is
