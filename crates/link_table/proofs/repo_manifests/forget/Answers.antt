use Rattle.std.proofs.Common.{sym, ◌∙◌}
use Rattle.std.proofs.lemmas.List.{get_or_default}
use Rattle.link_table.proofs.ManifestRows.{forgotten}
use Rattle.link_table.proofs.repo_manifests.forget.Goals as goal

pub loop-digest-preserved : goal.loop-digest-preserved
loop-digest-preserved c =
    forgotten c.args.refs.now c.loop-digest.digest-index c.digest-item.result c.args.manifest.now c.loop-digest-test.true (λ d. get_or_default c.args.refs.now c.loop-digest.digest-index d c.digest-item.result c.loop-digest-test.true ∙ sym c.digest-item.is)
    c.args.referrers.now c.loop-digest.referrers c.remove.new.self c.loop-digest.invariant c.remove.ensures.updates.0
