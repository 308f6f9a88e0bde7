use Rattle.std.proofs.Common.{ap, arith, ◌∙◌}
use Rattle.std.specs.FinMap.{get}
use Rattle.link_table.specs.Rows.{own_repos_shown}
use Rattle.link_table.specs.TenantRepos.{OwnRepos}
use Rattle.link_table.proofs.Groups.{group_of, get_there, get_none, updates, written, removed, removed_none}
use Rattle.link_table.proofs.TenantRepoRows.{repos-same}
use Rattle.link_table.proofs.tenant_repos.TenantRepos.unlink.Goals.{in-Some, in-None}
use Rattle.link_table.proofs.tenant_repos.TenantRepos.unlink.Goals as goal

pub invariant_of-self : goal.invariant_of-self
invariant_of-self c = elim c.match-get_mut.branch [
  | in-Some w ↦ rw w.self-inside-is (omega (arith, (c.get_mut.follows.holds w.remove.new.self).2, c.self.invariant))
  | in-None w ↦ rw (w.self-inside-is, c.get_mut.follows.holds-at-none) c.self.invariant
]

pub returns-clause-value : goal.returns-clause-value
returns-clause-value c =
    let rows = c.self.inside.repos in
    let r = c.args.repo.now in
    let d = c.args.digest.now in
    let seen = ap (λ (s : OwnRepos). get s.links (r, d)) c.self.view_is in
    elim c.match-get_mut.branch [
      | in-Some w ↦
          let m = w.in-Some.blobs.now in
          w.result-is ∙ w.remove.ensures.value ∙ get_there rows r m d (group_of rows r m w.in-Some.ensures.value) ∙ seen
      | in-None w ↦ w.result-is ∙ get_none rows r d w.in-None.ensures.value ∙ seen
    ]

pub returns-clause-gone : goal.returns-clause-gone
returns-clause-gone c =
    let rows = c.self.inside.repos in
    let r = c.args.repo.now in
    let d = c.args.digest.now in
    elim c.match-get_mut.branch [
      | in-Some w ↦
          let m = w.in-Some.blobs.now in
          let left = w.remove.new.self in
          let n = c.get_mut.follows.lender left in
          let holds = (c.get_mut.follows.holds left).3 in
          let repos = repos-same rows n r m left w.in-Some.ensures.value (updates rows r n m left w.in-Some.ensures.value holds) in
          let links = removed rows r n m left d (group_of rows r m w.in-Some.ensures.value) (written rows r n m left w.in-Some.ensures.value holds) w.remove.ensures.gone in
          rw (w.self-inside-is, ← c.self.view_is) (λ j. record { repos = repos j; links = links j })
      | in-None w ↦
          let links = removed_none rows r c.get_mut.follows.lender-at-none d w.in-None.ensures.value c.get_mut.follows.holds-at-none in
          rw (w.self-inside-is, ← c.self.view_is) (λ j. record { repos = (own_repos_shown (c.get_mut.follows.holds-at-none j)).repos; links = links j })
    ]
