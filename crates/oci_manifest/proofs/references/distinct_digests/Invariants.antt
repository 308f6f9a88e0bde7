use Rattle.std.proofs.Common.{◌≡◌, take}
use Rattle.oci_manifest.specs.Manifests.{distinct_texts}
use Rattle.oci_manifest.proofs.references.distinct_digests.Given as goal

-- the set has each digest so far once, in order
abbrev pub invariant-loop-digest : goal.invariant-loop-digest
invariant-loop-digest l = l.kept.keys ≡ distinct_texts (take l.digest-index l.digests)
