use Rattle.std.proofs.Common.{ap, arith, not, sym, ◌∙◌, is_some}
use Rattle.std.proofs.lemmas.Bool.{false≢true}
use Rattle.std.proofs.lemmas.Result.{IfOk-weaker}
use Rattle.std.specs.FinMap.{contains_key}
use Rattle.link_table.specs.TenantRepos.{OwnRepos}
use Rattle.link_table.proofs.Groups.{group_of, get_there, updates, written, inserted, unchanged}
use Rattle.link_table.proofs.TenantRepoCalls.{on_ok, on_err}
use Rattle.link_table.proofs.TenantRepoRows.{contains-rows, few-rows, repos-same}
use Rattle.link_table.proofs.tenant_repos.TenantRepos.link.Goals as goal

pub unreachable-requires : goal.unreachable-requires
unreachable-requires c = false≢true (ap is_some c.in-None.ensures.value ∙ sym (contains-rows c.self.inside.repos c.args.repo.now) ∙ (rw (← c.self.view_is) at c.requires))

pub invariant_of-self : goal.invariant_of-self
invariant_of-self c = omega (arith, (c.get_mut.follows.holds c.insert.new.self).2, c.self.invariant)

pub returns-clause-ok : goal.returns-clause-ok
returns-clause-ok c =
    let rows = c.self.inside.repos in
    let r = c.args.repo.now in
    let m = c.in-Some.blobs.now in
    let w = c.insert.new.self in
    let n = c.get_mut.follows.lender w in
    let holds = (c.get_mut.follows.holds w).3 in
    let repos = repos-same rows n r m w c.in-Some.ensures.value (updates rows r n m w c.in-Some.ensures.value holds) in
    on_ok c.insert.result (λ is.
    let links = inserted rows r n m w c.args.digest.now c.args.size (group_of rows r m c.in-Some.ensures.value) (written rows r n m w c.in-Some.ensures.value holds) is in
    rw (← c.self.view_is) (λ j. record { repos = repos j; links = links j })) c.insert.ensures.ok

pub returns-clause-err : goal.returns-clause-err
returns-clause-err c =
    let rows = c.self.inside.repos in
    let r = c.args.repo.now in
    let m = c.in-Some.blobs.now in
    let w = c.insert.new.self in
    let n = c.get_mut.follows.lender w in
    let holds = (c.get_mut.follows.holds w).3 in
    let repos = repos-same rows n r m w c.in-Some.ensures.value (updates rows r n m w c.in-Some.ensures.value holds) in
    on_err c.insert.result (λ is.
    let links = unchanged rows r n m w (group_of rows r m c.in-Some.ensures.value) (written rows r n m w c.in-Some.ensures.value holds) is in
    rw (← c.self.view_is) (λ j. record { repos = repos j; links = links j })) c.insert.ensures.err

pub returns-clause-new : goal.returns-clause-new
returns-clause-new c =
    let rows = c.self.inside.repos in
    let r = c.args.repo.now in
    let m = c.in-Some.blobs.now in
    let d = c.args.digest.now in
    IfOk-weaker c.insert.result _ _ (λ b is.
    is ∙ ap (λ o. not (is_some o)) (get_there rows r m d (group_of rows r m c.in-Some.ensures.value))
    ∙ ap (λ (s : OwnRepos). not (contains_key s.links (r, d))) c.self.view_is) c.insert.ensures.new

pub returns-clause-few : goal.returns-clause-few
returns-clause-few c = rw (← c.self.view_is) (few-rows c.self.inside.repos c.get_mut.ensures.ordered c.self.invariant)
