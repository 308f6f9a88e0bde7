use Rattle.link_table.proofs.ManifestRows.{IsReferrerIndex-initial}
use Rattle.link_table.proofs.repo_manifests.RepoManifests.new.Goals as goal

pub invariant_of-result : goal.invariant_of-result
invariant_of-result c = IsReferrerIndex-initial c.new.result c.new-2.result c.new.ensures.empty c.new-2.ensures.empty
