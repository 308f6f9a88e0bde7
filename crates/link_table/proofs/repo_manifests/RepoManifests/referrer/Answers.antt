use Rattle.std.proofs.Common.{sym, ap, ◌∙◌}
use Rattle.spec_lib.proofs.Texts.{text_is_same}
use Rattle.link_table.specs.Manifests.{RepoManifestBytes, referrer_in}
use Rattle.link_table.proofs.ManifestRows.{referrer_empty, referrer_first, referrer_later}
use Rattle.link_table.proofs.repo_manifests.RepoManifests.referrer.Goals as goal

pub returns-in_err-referred : goal.returns-in_err-referred
returns-in_err-referred c =
    c.from_residual.ensures ∙ sym (referrer_empty _ c.args.digest.now c.self.inside.referrers c.self.invariant c.range.result (c.range.ensures.in_range tt) c.in_err-referred.ensures.steps.0)
    ∙ ap (λ (m : RepoManifestBytes). referrer_in m c.args.digest.now) c.self.view_is

pub returns-then-eq : goal.returns-then-eq
returns-then-eq c =
    referrer_first _ c.args.digest.now c.self.inside.referrers c.self.invariant c.range.result (c.range.ensures.in_range tt) c.in_ok-referred.field-0.now c.next.new.self c.in_ok-referred.ensures.steps
    (text_is_same c.in_ok-referred.field-0.now.0 c.args.digest.now (sym c.eq.ensures ∙ c.if-eq.true))
    ∙ ap (λ (m : RepoManifestBytes). referrer_in m c.args.digest.now) c.self.view_is

pub returns-else-eq : goal.returns-else-eq
returns-else-eq c =
    referrer_later _ c.args.digest.now c.self.inside.referrers c.self.invariant c.range.result (c.range.ensures.in_range tt) c.in_ok-referred.field-0.now c.next.new.self c.in_ok-referred.ensures.steps
    (sym c.eq.ensures ∙ c.if-eq.false)
    ∙ ap (λ (m : RepoManifestBytes). referrer_in m c.args.digest.now) c.self.view_is
