use Rattle.store_book.specs.Internal.Lines.{repo_rows}
use Rattle.spec_lib.proofs.Writing.{Appends-step}
use Rattle.store_book.proofs.print.print_repos.Goals as goal

pub loop-repo-preserved : goal.loop-repo-preserved
loop-repo-preserved g c =
    let rows = repo_rows c.args.tables.now.links.now c.args.tables.now.uploads.now c.args.tables.now.slots.now c.args.tenant in
    λ whole rest. c.loop-repo.invariant whole (Appends-step rows _ _ whole c.in-Some.repo.now _ _ c.in-Some.ensures.steps c.in_ok-print_repo.ensures rest)
