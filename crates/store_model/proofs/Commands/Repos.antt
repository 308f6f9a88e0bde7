-- An accepted removal of a repository keeps a catalog sound, frees one name of its tenant, and changes nothing else.
use Rattle.std.proofs.Common.{◌≡◌, ℕ, ◌+◌, true, false, cond, Some, Ok, is_some, sym, ap, ◌∙◌, subst, arith}
use Rattle.std.specs.Cmp.Lexicographic.{nat_list_cmp_total}
use Rattle.std.specs.FinMap.{get}
use Rattle.std.specs.List.{count_by}
use Rattle.std.proofs.lemmas.Bool.{not-false}
use Rattle.std.proofs.lemmas.Map.Lookups.{exact_bytes}
use Rattle.blob_digest.specs.declared.refusal.Refusal.TheVariants.{NameUnknown, RepoInUse}
use Rattle.spec_lib.specs.Outcomes.{refuse}
use Rattle.spec_lib.specs.Sets as set
use Rattle.spec_lib.specs.Texts.{Text, text_cmp}
use Rattle.spec_lib.proofs.Options.{a_unit}
use Rattle.spec_lib.proofs.Outcomes.{bound_ok, not_refused, some_of_ok}
use Rattle.spec_lib.proofs.Sums.{get-remove_same, insert-remove, insert_back}
use Rattle.store_model.specs.Catalog.{Catalog, is_repo_of, repos_of, tenant_of}
use Rattle.store_model.specs.Commands.{check_repo, is_in_use, remove_repo, tenant, without_repo}
use Rattle.store_model.specs.Invariant.{FitsSlots, KeepsQuotas, KeepsShares, Sound, WellFormed}
use Rattle.store_model.specs.Removals.{RemovalsFreeNames, RemovalsKeepTheRest}
use Rattle.store_model.proofs.Commands.Accepted.{left_by}
use Rattle.store_model.proofs.Invariant.Repos.{count_new}
use Rattle.store_model.proofs.Invariant.Unused.{WellFormed-remove_repo, used_bytes-remove_repo}

module _ (C C' : Catalog) (repo : Text) (stepped : remove_repo C repo ≡ Ok (tt, C')) where
  record Removed : Type 0 where
    t : ℕ
    known : tenant_of C.tenants repo ≡ Some t
    there : set.contains C.repos repo ≡ true
    unused : is_in_use C repo ≡ false
    left : without_repo C repo ≡ C'

  removed : Removed
  removed =
      let a = bound_ok (tenant C repo) _ (tt, C') stepped in
      let b = bound_ok (check_repo C repo) _ (tt, C') a.2 in
      let c = bound_ok (refuse (is_in_use C repo) RepoInUse) _ (tt, C') b.2 in
      record { t = a.0; known = some_of_ok (tenant_of C.tenants repo) NameUnknown a.0 a.1; there = not-false _ (not_refused _ _ _ b.1); unused = not_refused _ _ _ c.1; left = left_by c.2 }

  pub WellFormed-after_remove_repo : WellFormed C → WellFormed C'
  WellFormed-after_remove_repo lawful = subst (λ (D : Catalog). WellFormed D) removed.left (WellFormed-remove_repo C repo removed.unused lawful)

  pub KeepsQuotas-after_remove_repo : WellFormed C → KeepsQuotas C → KeepsQuotas C'
  KeepsQuotas-after_remove_repo lawful keeps = subst (λ (D : Catalog). KeepsQuotas D) removed.left (λ u there.
      let k = keeps u there in
      let same = used_bytes-remove_repo C repo removed.unused removed.t u removed.known removed.there lawful in
      omega arith)

  pub Sound-after_remove_repo : Sound C → Sound C'
  Sound-after_remove_repo sound = record {
    lawful = WellFormed-after_remove_repo sound.lawful;
    quotas = KeepsQuotas-after_remove_repo sound.lawful sound.quotas;
    shares = subst (λ (D : Catalog). KeepsShares D) removed.left sound.shares;
    slots = subst (λ (D : Catalog). FitsSlots D) removed.left sound.slots;
  }

  one_name_less : (t : ℕ) → repos_of C t ≡ repos_of C' t + cond (is_repo_of C t repo) 1 0
  one_name_less t =
      let back : set.insert (set.remove C.repos repo) repo ≡ C.repos =
      insert-remove nat_list_cmp_total exact_bytes C.repos repo tt ∙ insert_back nat_list_cmp_total exact_bytes C.repos repo tt (a_unit (get C.repos repo) removed.there) in
      let more = count_new (is_repo_of C t) (set.remove C.repos repo) repo (ap is_some (get-remove_same nat_list_cmp_total exact_bytes C.repos repo)) in
      let as_before = ap (λ (s : set.Set text_cmp). count_by (is_repo_of C t) (set.items s)) back in
      subst (λ (D : Catalog). repos_of C t ≡ repos_of D t + cond (is_repo_of C t repo) 1 0) removed.left (omega arith)

  unchanged : C' ≡ without_repo C repo
  unchanged = sym removed.left

pub removals_free_names : RemovalsFreeNames
removals_free_names C C' repo t stepped = one_name_less C C' repo stepped t

pub removals_keep_the_rest : RemovalsKeepTheRest
removals_keep_the_rest C C' repo stepped = unchanged C C' repo stepped
