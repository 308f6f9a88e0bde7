use Rattle.std.proofs.Common.{rules, ℕ, ◌≡◌, length, sym, ap, ◌∙◌}
use Rattle.std.specs.Prelude.{replicate}
use Rattle.std.specs.FinMap.{entries}
use Rattle.std.proofs.lemmas.List.{length-map}
use Rattle.blob_digest.specs.Keys.{link_cmp}
use Rattle.spec_lib.proofs.Rows.{entries-empty}
use Rattle.link_table.specs.TenantRepos.{links_shown, repos_shown}
use Rattle.link_table.specs.Tenancy.{tenant_shown, tenants_shown}
use Rattle.link_table.proofs.HolderCounts.{Counts-initial}
use Rattle.link_table.proofs.Soundness.{KeepsUsage-initial}
use Rattle.link_table.proofs.Tables.{links-initial, repos-initial, IsOwned-initial}
use Rattle.link_table.proofs.links.Links.new.Goals as goal

pub new-requires-clause-apart : goal.new-requires-clause-apart
new-requires-clause-apart c = rw c.as_slice.ensures.value c.in_ok-tenants.ensures.kept.apart

pub invariant_of-result : goal.invariant_of-result
invariant_of-result c =
    let tenants = tenants_shown c.in_ok-tenants.tenants.items in
    let n : length tenants ≡ length c.in_ok-tenants.tenants.items = length-map c.in_ok-tenants.tenants.items tenant_shown in
    let w : c.in_ok-blob_bytes.blob_bytes.items ≡ replicate (length c.in_ok-tenants.tenants.items) 0 = search rules in
    let k : c.in_ok-charges.charges.items ≡ replicate (length c.in_ok-tenants.tenants.items) 0 = search rules in
    let s = rw c.as_slice-count.ensures.value at c.in_ok-repos.ensures.ok in
    let holders = rw c.as_slice-count.ensures.value at c.in_ok-holders.ensures.ok in
    let links = ap links_shown s ∙ links-initial (length c.in_ok-tenants.tenants.items) in (
      KeepsUsage-initial tenants (links_shown c.in_ok-repos.repos.items) c.in_ok-blob_bytes.blob_bytes.items c.in_ok-charges.charges.items
          c.in_ok-tenants.ensures.kept links (w ∙ ap (λ m. replicate m 0) (sym n)) (k ∙ ap (λ m. replicate m 0) (sym n)),
      IsOwned-initial tenants c.in_ok-repos.repos.items (length c.in_ok-tenants.tenants.items) (sym n) s,
      Counts-initial tenants (links_shown c.in_ok-repos.repos.items) c.in_ok-holders.holders.items (ap entries links ∙ entries-empty link_cmp ℕ)
          (holders.0 ∙ sym n) holders.1,
      rw c.as_slice.ensures.value at c.in_ok-index.ensures.ok,
    )

pub returns-clause-opened : goal.returns-clause-opened
returns-clause-opened c =
    let tenants = tenants_shown c.in_ok-tenants.tenants.items in
    let n : length tenants ≡ length c.in_ok-tenants.tenants.items = length-map c.in_ok-tenants.tenants.items tenant_shown in
    let k : c.in_ok-charges.charges.items ≡ replicate (length c.in_ok-tenants.tenants.items) 0 = search rules in
    let charges = k ∙ ap (λ m. replicate m 0) (sym n) in
    let s = rw c.as_slice-count.ensures.value at c.in_ok-repos.ensures.ok in
    let links = ap links_shown s ∙ links-initial (length c.in_ok-tenants.tenants.items) in
    let repos = ap repos_shown s ∙ repos-initial (length c.in_ok-tenants.tenants.items) in
    record {
      names = c.in_ok-tenants.ensures.names;
      limits = c.in_ok-tenants.ensures.limits;
      same = c.in_ok-tenants.ensures.same;
      tenants = c.in_ok-tenants.ensures.kept;
      rising = c.in_ok-tenants.ensures.rising;
      empty = λ i. record { tenants = tenants; repos = repos i; links = links i; manifests = c.new-2.ensures i; charges = charges i };
    }
