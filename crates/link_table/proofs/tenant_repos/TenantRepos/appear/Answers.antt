use Rattle.std.proofs.Common.{◌<◌, ◌≤◌, refl, arith, ap, sym, ◌∙◌, true, Ok}
use Rattle.spec_lib.proofs.Trees.{insert_is}
use Rattle.spec_lib.proofs.Options.{no_value}
use Rattle.std.specs.BTreeMap as tree
use Rattle.spec_lib.specs.Texts.{text_cmp}
use Rattle.link_table.specs.Rows.{own_repos_shown}
use Rattle.link_table.specs.TenantRepos.{repo_count}
use Rattle.link_table.proofs.Groups.{given, no_group, unchanged}
use Rattle.link_table.proofs.TenantRepoCalls.{appear_there, appear_full, appear_new}
use Rattle.link_table.proofs.TenantRepoRows.{contains-rows, repos-insert, repo_count-rows}
use Rattle.link_table.proofs.tenant_repos.TenantRepos.appear.Goals as goal

pub returns-then-contains_key : goal.returns-then-contains_key
returns-then-contains_key c =
    let rows = c.self.inside.repos in
    rw (← c.self.view_is) (appear_there c.args.limit (own_repos_shown rows) c.args.repo.now (contains-rows rows c.args.repo.now ∙ sym c.contains_key.ensures ∙ c.if-contains_key.true))

pub returns-then-len-limit : goal.returns-then-len-limit
returns-then-len-limit c =
    let rows = c.self.inside.repos in
    let none = contains-rows rows c.args.repo.now ∙ sym c.contains_key.ensures ∙ c.if-contains_key.false in
    let many : c.args.limit ≤ repo_count (own_repos_shown rows) = omega (arith, repo_count-rows rows c.len.ensures.ordered, c.len.ensures.len, c.if-len-limit.true) in
    (λ _. rw (← c.self.view_is) (appear_full c.args.limit (own_repos_shown rows) c.args.repo.now none many), refl)

pub returns : goal.returns
returns c =
    let rows = c.self.inside.repos in
    let r = c.args.repo.now in
    let n = c.insert.new.self in
    let w = c.new.result in
    let absent = contains-rows rows r ∙ sym c.contains_key.ensures ∙ c.if-contains_key.false in
    let few : repo_count (own_repos_shown rows) < c.args.limit = omega (arith, repo_count-rows rows c.len.ensures.ordered, c.len.ensures.len, c.if-len-limit.false) in
    let put = rw c.in_ok-clone.ensures.cases at c.in_ok-insert.ensures.updates.0 in
    let none = sym (no_value (tree.get text_cmp rows r) (sym c.contains_key.ensures ∙ c.if-contains_key.false)) in
    let repos = repos-insert rows n r w put in
    let links = unchanged rows r n w w (ap given (no_group rows r none) ∙ sym c.new.ensures) (insert_is rows n r w put) refl in
    rw (← c.self.view_is) (appear_new c.args.limit (own_repos_shown rows) r absent few ∙ (λ j. Ok (true, record { repos = sym repos j; links = sym links j })))
