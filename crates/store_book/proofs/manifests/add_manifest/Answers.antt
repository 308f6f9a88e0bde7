use Rattle.std.proofs.Common.{ap, arith, length, ◌∙◌}
use Rattle.spec_lib.specs.Sets as set
use Rattle.link_table.specs.Linked.{Linked, vanish}
use Rattle.link_table.proofs.Accepted.{appear-contains, appear-tenants}
use Rattle.store_book.proofs.Refine.Manifests.{appeared_put}
use Rattle.store_book.proofs.Refine.Start.{undone, unneeded}
use Rattle.store_book.proofs.manifests.add_manifest.Goals as goal
use Rattle.store_book.proofs.manifests.add_manifest.Goals.{then-is_new, else-is_new}

pub put_manifest-requires : goal.put_manifest-requires
put_manifest-requires c =
    omega (arith, c.requires.there, ap length (appear-tenants c.args.links.now c.appear.new.self c.args.tenant c.args.repo.now c.in_ok-is_new.is_new c.in_ok-is_new.ensures))

pub vanish-requires-clause-there : goal.vanish-requires-clause-there
vanish-requires-clause-there c =
    ap (λ (l : Linked). set.contains l.repos c.args.repo.now) c.in-Err.ensures.1
    ∙ appear-contains c.args.links.now c.appear.new.self c.args.tenant c.args.repo.now c.in_ok-is_new.is_new c.in_ok-is_new.ensures

pub returns-after-is_new : goal.returns-after-is_new
returns-after-is_new c =
    let l = c.args.links.now in
    let repo = c.args.repo.now in (
      (λ other. appeared_put l c.args.tenant repo c.args.manifest.value c.appear.new.self c.in_ok-is_new.is_new c.in_ok-is_new.ensures ∙ c.in-Err.ensures.0 other),
      elim c.if-is_new.branch [
        | then-is_new w ↦ w.links-is ∙ w.vanish.ensures ∙ ap (λ (x : Linked). vanish x repo) c.in-Err.ensures.1 ∙ undone l c.appear.new.self c.args.tenant repo c.in_ok-is_new.is_new c.in_ok-is_new.ensures w.if-is_new.true
        | else-is_new w ↦ w.links-is ∙ c.in-Err.ensures.1 ∙ unneeded l c.appear.new.self c.args.tenant repo c.in_ok-is_new.is_new c.in_ok-is_new.ensures w.if-is_new.false
      ],
    )
