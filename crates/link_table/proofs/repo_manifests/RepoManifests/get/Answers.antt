use Rattle.std.proofs.Common.{sym, ap, ◌∙◌}
use Rattle.std.specs.declared.alloc.Global.{Global}
use Rattle.std.specs.declared.sync.Arc.{Arc}
use Rattle.std.specs.Option.{option_map}
use Rattle.std.specs.FinMap.{get}
use Rattle.spec_lib.specs.Texts.{Text}
use Rattle.link_table.specs.Manifests.{RepoManifestBytes}
use Rattle.link_table.proofs.ManifestRows.{copied_value, get-stored_manifests}
use Rattle.link_table.proofs.repo_manifests.RepoManifests.get.Goals as goal

pub returns : goal.returns
returns c =
    copied_value (λ (a : Arc Text Global). a.value) c.get.result ∙ ap (option_map (λ (a : Arc Text Global). a.value)) c.get.ensures.value ∙ sym (get-stored_manifests c.self.inside.rows c.args.digest.now)
    ∙ ap (λ (m : RepoManifestBytes). get m c.args.digest.now) c.self.view_is
