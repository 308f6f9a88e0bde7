use Rattle.std.proofs.Common.{rules, sym, ◌∙◌, take}
use Rattle.std.proofs.lemmas.List.{get_or_default}
use Rattle.link_table.proofs.ManifestRows.{referred, undone}
use Rattle.link_table.proofs.repo_manifests.refer.Goals as goal

pub loop-i-preserved : goal.loop-i-preserved
loop-i-preserved c =
    referred c.args.refs.now c.loop-i.i c.index-refs-i.result c.args.manifest.now c.loop-i-test.true (λ d. get_or_default c.args.refs.now c.loop-i.i d c.index-refs-i.result c.loop-i-test.true ∙ sym c.index-refs-i.is)
    c.args.referrers.now c.loop-i.referrers c.insert.new.self c.loop-i.invariant c.in-Ok.ensures.updates.0

pub returns-in_default-clause-err : goal.returns-in_default-clause-err
returns-in_default-clause-err c =
    undone (take c.loop-i.i c.args.refs.now) c.args.manifest.now c.args.referrers.now c.loop-i.referrers c.forget.new.referrers c.requires c.loop-i.invariant (search rules)
