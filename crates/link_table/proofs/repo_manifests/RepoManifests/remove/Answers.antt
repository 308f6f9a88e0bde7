use Rattle.std.proofs.Common.{◌≡◌, sym, ap, ◌∙◌, Some}
use Rattle.std.specs.declared.alloc.Global.{Global}
use Rattle.std.specs.declared.sync.Arc.{Arc}
use Rattle.std.specs.Option.{option_map}
use Rattle.std.specs.FinMap.{get, remove}
use Rattle.spec_lib.specs.Texts.{Text}
use Rattle.oci_manifest.specs.Manifests.{refs_of}
use Rattle.link_table.specs.Manifests.{RepoManifestBytes, stored_manifests, has_pair}
use Rattle.link_table.proofs.ManifestRows.{get-stored_manifests, stored_manifests-remove, IsReferrerIndex-remove}
use Rattle.link_table.proofs.repo_manifests.RepoManifests.remove.Goals as goal

pub invariant_of-self : goal.invariant_of-self
invariant_of-self c d o =
    let rows = c.self.inside.rows in
    let there : get (stored_manifests rows) c.args.digest.now ≡ Some c.in-Some.manifest.value = get-stored_manifests rows c.args.digest.now ∙ ap (option_map (λ (a : Arc Text Global). a.value)) (sym c.in-Some.ensures.value) in
    let is : refs_of c.in-Some.manifest.value ≡ Some c.refs.result.now = ap refs_of (sym c.deref.ensures) ∙ c.refs.ensures in
    IsReferrerIndex-remove (stored_manifests rows) c.args.digest.now c.in-Some.manifest.value c.refs.result.now is c.self.inside.referrers c.forget.new.referrers c.self.invariant there c.forget.ensures d o
    ∙ ap (λ m. has_pair m d o) (sym (stored_manifests-remove rows c.remove.new.self c.args.digest.now c.remove.ensures.updates.0))

pub returns-in-Some : goal.returns-in-Some
returns-in-Some c = stored_manifests-remove c.self.inside.rows c.remove.new.self c.args.digest.now c.remove.ensures.updates.0 ∙ ap (λ (m : RepoManifestBytes). remove m c.args.digest.now) c.self.view_is

pub returns-in_default : goal.returns-in_default
returns-in_default c = stored_manifests-remove c.self.inside.rows c.remove.new.self c.args.digest.now c.remove.ensures.updates.0 ∙ ap (λ (m : RepoManifestBytes). remove m c.args.digest.now) c.self.view_is
