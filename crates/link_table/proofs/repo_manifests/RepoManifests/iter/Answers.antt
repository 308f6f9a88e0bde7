use Rattle.std.proofs.Common.{sym, ap, ◌∙◌}
use Rattle.std.specs.FinMap.{entries}
use Rattle.link_table.specs.Manifests.{RepoManifestBytes, shared_bytes}
use Rattle.link_table.proofs.ManifestRows.{entries-stored_manifests}
use Rattle.link_table.proofs.repo_manifests.RepoManifests.iter.Goals as goal

pub returns : goal.returns
returns c = ap shared_bytes c.iter.ensures.rest ∙ sym (entries-stored_manifests c.self.inside.rows c.iter.ensures.ordered) ∙ ap (λ (m : RepoManifestBytes). entries m) c.self.view_is
