use Rattle.std.proofs.Common.{◌∙◌, ap, sym}
use Rattle.std.specs.List.{fold}
use Rattle.blob_digest.specs.Checksums.{checksum_of, checksum_of-text_of}
use Rattle.blob_digest.specs.declared.checksum.Checksum.{Checksum}
use Rattle.blob_digest.specs.contracts.checksum.ChecksumHash.TheImpl as checksum_hash
use Rattle.blob_digest.proofs.digest.DigestHash.hash.Goals as goal

pub returns : goal.returns
returns g c =
    c.hash.ensures
    ∙ ap (λ (s : Checksum). fold g.H.Hasher.write c.args.state.now (checksum_hash.hash_input-value.it s)) (sym (checksum_of-text_of c.self.inside.checksum c.self.invariant) ∙ ap checksum_of c.self.view_is)
