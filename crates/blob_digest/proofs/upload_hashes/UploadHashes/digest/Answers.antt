use Rattle.std.proofs.Common.{rules, ◌++◌, ◌∙◌, ap, subst, take}
use Rattle.std.specs.Prelude.{codes}
use Rattle.hex.specs.Hex.{encode_lower}
use Rattle.sha2.specs.Hashers.{Holds256, Holds512}
use Rattle.blob_digest.specs.Digests.{sha256_text, sha512_text}
use Rattle.blob_digest.specs.Hashing.{HashesUpload}
use Rattle.blob_digest.proofs.Slices.{slices_join}
use Rattle.blob_digest.proofs.upload_hashes.UploadHashes.digest.Goals as goal

pub catch_up-requires-clause-behind : goal.catch_up-requires-clause-behind
unfolding HashesUpload
catch_up-requires-clause-behind c = c.requires.front.1

pub returns-in-Ok-clause-value : goal.returns-in-Ok-clause-value
unfolding HashesUpload sha256_text
returns-in-Ok-clause-value c =
    let r = c.args.received in
    let bytes = c.args.bytes.now in
    let front : Holds256 c.in-Ok.all (take r bytes) = search rules in
    let all : Holds256 c.update.new.self bytes = subst (Holds256 c.update.new.self) (slices_join r bytes) (c.update.ensures (take r bytes) front) in
    rw c.in-Sha256.is (c.of_sha256.ensures ∙ ap (λ v. codes "sha256:" ++ encode_lower v) (c.finalize.ensures bytes all))

pub returns-in-Ok-clone-clause-value : goal.returns-in-Ok-clone-clause-value
unfolding sha512_text
returns-in-Ok-clone-clause-value c =
    let r = c.args.received in
    let bytes = c.args.bytes.now in
    let front : Holds512 c.in-Ok-clone.all (take r bytes) = search rules in
    let all : Holds512 c.update-in-Ok-clone.new.self bytes = subst (Holds512 c.update-in-Ok-clone.new.self) (slices_join r bytes) (c.update-in-Ok-clone.ensures (take r bytes) front) in
    rw c.in-Sha512.is (c.of_sha512.ensures ∙ ap (λ v. codes "sha512:" ++ encode_lower v) (c.finalize-in-Ok-clone.ensures bytes all))
