use Rattle.std.proofs.Common.{◌∙◌, subst, sym}
use Rattle.blob_digest.proofs.DigestOrder.{encoded_cmp}
use Rattle.blob_digest.specs.Checksums.{IsChecksum}
use Rattle.blob_digest.specs.declared.checksum.Checksum.TheVariants.{Sha256, Sha512}
use Rattle.blob_digest.proofs.digest.DigestOrd.cmp.Goals as goal

pub returns-in-Sha256-Sha256 : goal.returns-in-Sha256-Sha256
returns-in-Sha256-Sha256 c =
    let first : IsChecksum (Sha256 c.in-Sha256-Sha256.first) = subst IsChecksum c.in-Sha256-Sha256.is-0 c.self.invariant in
    let second : IsChecksum (Sha256 c.in-Sha256-Sha256.second) = subst IsChecksum c.in-Sha256-Sha256.is-1 c.other.invariant in
    rw (← c.self.view_is, ← c.other.view_is, c.in-Sha256-Sha256.is-0, c.in-Sha256-Sha256.is-1) (c.value_cmp.ensures ∙ sym (encoded_cmp _ _ first.1 second.1))

pub returns-in-Sha512-Sha512 : goal.returns-in-Sha512-Sha512
returns-in-Sha512-Sha512 c =
    let first : IsChecksum (Sha512 c.in-Sha512-Sha512.first) = subst IsChecksum c.in-Sha512-Sha512.is-0 c.self.invariant in
    let second : IsChecksum (Sha512 c.in-Sha512-Sha512.second) = subst IsChecksum c.in-Sha512-Sha512.is-1 c.other.invariant in
    rw (← c.self.view_is, ← c.other.view_is, c.in-Sha512-Sha512.is-0, c.in-Sha512-Sha512.is-1) (c.value_cmp-in-Sha512-Sha512.ensures ∙ sym (encoded_cmp _ _ first.1 second.1))
