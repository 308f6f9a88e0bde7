-- An accepted mount keeps a catalog sound and every use unchanged, whether it links the blob or opens a session.
use Rattle.std.proofs.Common.{◌≡◌, ℕ, ◌+◌, ◌≤◌, true, false, cond, length, Option, Some, None, Ok, refl, sym, ap, ◌∙◌, subst, arith, inl, inr}
use Rattle.std.specs.Prelude.{◌&&◌, if◌then◌else◌}
use Rattle.std.specs.Cmp.Lexicographic.{nat_list_cmp_total}
use Rattle.std.specs.FinMap.{get}
use Rattle.std.proofs.lemmas.Bool.{cases_eq, and_parts}
use Rattle.std.proofs.lemmas.Map.Lookups.{exact_bytes}
use Rattle.blob_digest.specs.declared.refusal.Refusal.TheVariants.{NameUnknown, LimitReached}
use Rattle.spec_lib.specs.Sets as set
use Rattle.spec_lib.specs.Texts.{Text}
use Rattle.store_model.specs.Catalog.{Resident, Catalog, tenant_of, is_repo_of, holds, tenant_holds, held_count, held_digests, used_bytes}
use Rattle.store_model.specs.Commands.{tenant, start, mount, has_source, mounted_outcome, started_outcome, lacks_room_for}
use Rattle.spec_lib.specs.Outcomes.{refuse}
use Rattle.store_model.specs.declared.mount.Mount.{Mount}
use Rattle.store_model.specs.Invariant.{WellFormed, KeepsQuotas, KeepsShares, FitsSlots, Sound}
use Rattle.spec_lib.proofs.Lists.{witness}
use Rattle.spec_lib.proofs.Sets.{now}
use Rattle.store_model.proofs.Invariant.Repos.{is_own, is_no_other, WellFormed-appear, used_bytes-appear}
use Rattle.store_model.proofs.Invariant.Links.{is_held, WellFormed-link, used_other-link}
use Rattle.store_model.proofs.Commands.Start.{WellFormed-after_start, used_bytes-after_start, KeepsQuotas-after_start, KeepsShares-after_start, FitsSlots-after_start}
use Rattle.store_model.proofs.Invariant.Use.{used_bytes-link}
use Rattle.store_model.proofs.Invariant.DistinctUse.{contains-held_digests}
use Rattle.store_model.proofs.Invariant.Shares.{held_count-link, held_other-link}
use Rattle.spec_lib.proofs.Outcomes.{bound_ok, not_refused, some_of_ok}
use Rattle.store_model.proofs.Commands.Accepted.{left_by}

module _ (C : Catalog) (t : ℕ) (repo digest from : Text) (lawful : WellFormed C) (known : tenant_of C.tenants repo ≡ Some t) (own : is_repo_of C t from ≡ true) (has : holds C from digest ≡ true)
    (short : length repo ≤ 255) (room : lacks_room_for C t repo ≡ false) where
  abbrev with_repo : Catalog
  with_repo = record C { repos = set.insert C.repos repo }

  abbrev after : Catalog
  after = record with_repo { links = set.insert C.links (repo, digest) }

  appeared : WellFormed with_repo
  appeared = WellFormed-appear C t repo lawful known short room

  there : set.contains with_repo.repos repo ≡ true
  there = now nat_list_cmp_total exact_bytes C.repos repo

  kept : (b : Resident) × (get C.residents digest ≡ Some b) × (b.condemned ≡ false)
  kept = (lawful.links (from, digest) has).kept

  pub WellFormed-mounted : WellFormed after
  WellFormed-mounted = WellFormed-link with_repo repo digest appeared there kept.0 kept.1 kept.2

  -- the tenant had the blob before
  pub used_bytes-mounted : (u : ℕ) → used_bytes after u ≡ used_bytes C u
  used_bytes-mounted u =
      let a : used_bytes with_repo u ≡ used_bytes C u = used_bytes-appear C t repo lawful known u in
      elim (cases_eq u t) [
        | inl e ↦
            let held : tenant_holds with_repo t digest ≡ true = is_held with_repo t from digest (appeared.links (from, digest) has).repo own has in
            let b : used_bytes after t + (if tenant_holds with_repo t digest then length kept.0.bytes else 0) ≡ used_bytes with_repo t + length kept.0.bytes = used_bytes-link with_repo t repo digest kept.0 there (is_own C t repo known) kept.1 in
            let c : (if tenant_holds with_repo t digest then length kept.0.bytes else 0) ≡ length kept.0.bytes = ap (λ h. cond h (length kept.0.bytes) 0) held in
            let d : used_bytes after t ≡ used_bytes with_repo t = omega arith in
            ap (used_bytes after) e ∙ d ∙ sym (ap (used_bytes with_repo) e) ∙ a
        | inr other ↦ used_other-link with_repo repo digest u (is_no_other C t u repo known other) ∙ a
      ]

  -- the tenant held the digest before
  pub held_count-mounted : (u : ℕ) → held_count after u ≡ held_count C u
  held_count-mounted u = elim (cases_eq u t) [
    | inl e ↦
        let held : set.contains (held_digests C t) digest ≡ true = contains-held_digests C lawful t digest ∙ is_held C t from digest (lawful.links (from, digest) has).repo own has in
        ap (held_count after) e ∙ held_count-link with_repo t repo digest (is_own C t repo known) ∙ ap (λ b. cond b (held_count C t) (held_count C t + 1)) held ∙ sym (ap (held_count C) e)
    | inr other ↦ held_other-link with_repo u repo digest (is_no_other C t u repo known other)
  ]

-- a repository of the tenant that contains the mounted blob: the named one, or any if none was named
pub source_of : (C : Catalog) (t : ℕ) (digest : Text) (from : Option Text) → has_source C t digest from ≡ true → (q : Text) × (is_repo_of C t q ≡ true) × (holds C q digest ≡ true)
source_of C t digest None has = let w = witness (λ r. is_repo_of C t r && holds C r digest) (set.items C.repos) has in let both = and_parts (is_repo_of C t w.0) (holds C w.0 digest) w.1 in (w.0, both.0, both.1)
source_of C t digest (Some q) has = let both = and_parts (is_repo_of C t q) (holds C q digest) has in (q, both.0, both.1)

module _ (C C' : Catalog) (repo digest : Text) (from : Option Text) (answer : Mount) (stepped : mount C repo digest from ≡ Ok (answer, C')) (short : length repo ≤ 255) (lawful : WellFormed C) where
  record Mounted : Type 0 where
    lawful_after : WellFormed C'
    use_alike : (u : ℕ) → used_bytes C' u ≡ used_bytes C u
    keeps_after : KeepsQuotas C → KeepsQuotas C'
    shares_after : KeepsShares C → KeepsShares C'
    fits_after : FitsSlots C → FitsSlots C'

  by_link : (t : ℕ) (q : Text) → tenant_of C.tenants repo ≡ Some t → is_repo_of C t q ≡ true → holds C q digest ≡ true → mounted_outcome C t repo digest ≡ Ok (answer, C') → Mounted
  by_link t q known own has h =
      let a = bound_ok (refuse (lacks_room_for C t repo) LimitReached) _ (answer, C') h in
      let room = not_refused _ _ _ a.1 in
      let is : after C t repo digest q lawful known own has short room ≡ C' = left_by a.2 in
      record {
        lawful_after = subst (λ (D : Catalog). WellFormed D) is (WellFormed-mounted C t repo digest q lawful known own has short room);
        use_alike = λ u. ap (λ D. used_bytes D u) (sym is) ∙ used_bytes-mounted C t repo digest q lawful known own has short room u;
        keeps_after = λ keeps. subst (λ (D : Catalog). KeepsQuotas D) is (λ u there.
            let same = used_bytes-mounted C t repo digest q lawful known own has short room u in
            let k = keeps u there in
            omega arith);
        shares_after = λ shares. subst (λ (D : Catalog). KeepsShares D) is (λ u there.
            let same = held_count-mounted C t repo digest q lawful known own has short room u in
            let k = shares u there in
            omega arith);
        fits_after = λ fits. subst (λ (D : Catalog). FitsSlots D) is fits;
      }

  by_session : (n : ℕ) (D : Catalog) → start C repo ≡ Ok (n, D) → D ≡ C' → Mounted
  by_session n D started is =
      let to : start C repo ≡ Ok (n, C') = started ∙ (λ i. Ok (n, is i)) in
      record {
        lawful_after = WellFormed-after_start C C' repo n to short lawful;
        use_alike = used_bytes-after_start C C' repo n to short lawful;
        keeps_after = KeepsQuotas-after_start C C' repo n to short lawful;
        shares_after = KeepsShares-after_start C C' repo n to;
        fits_after = FitsSlots-after_start C C' repo n to;
      }

  mounted : Mounted
  mounted =
      let a = bound_ok (tenant C repo) _ (answer, C') stepped in
      let known = some_of_ok (tenant_of C.tenants repo) NameUnknown a.0 a.1 in
      elim (has_source C a.0 digest from) as (λ b. has_source C a.0 digest from ≡ b → (if b then mounted_outcome C a.0 repo digest else started_outcome C repo) ≡ Ok (answer, C') → Mounted) [
        | true ↦ λ is h. let source = source_of C a.0 digest from is in by_link a.0 source.0 known source.1 source.2 h
        | false ↦ λ is h. let s = bound_ok (start C repo) _ (answer, C') h in by_session s.0.0 s.0.1 s.1 (left_by s.2)
      ] refl a.2

  pub WellFormed-after_mount : WellFormed C'
  WellFormed-after_mount = mounted.lawful_after

  pub KeepsQuotas-after_mount : KeepsQuotas C → KeepsQuotas C'
  KeepsQuotas-after_mount = mounted.keeps_after

  pub KeepsShares-after_mount : KeepsShares C → KeepsShares C'
  KeepsShares-after_mount = mounted.shares_after

  pub FitsSlots-after_mount : FitsSlots C → FitsSlots C'
  FitsSlots-after_mount = mounted.fits_after

pub Sound-after_mount : (C C' : Catalog) (repo digest : Text) (from : Option Text) (answer : Mount) → mount C repo digest from ≡ Ok (answer, C') → length repo ≤ 255 → Sound C → Sound C'
Sound-after_mount C C' repo digest from answer stepped short sound = record {
  lawful = WellFormed-after_mount C C' repo digest from answer stepped short sound.lawful;
  quotas = KeepsQuotas-after_mount C C' repo digest from answer stepped short sound.lawful sound.quotas;
  shares = KeepsShares-after_mount C C' repo digest from answer stepped short sound.lawful sound.shares;
  slots = FitsSlots-after_mount C C' repo digest from answer stepped short sound.lawful sound.slots;
}
