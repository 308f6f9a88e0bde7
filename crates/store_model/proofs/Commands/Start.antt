-- Opening a session, in a new or an existing repository, keeps the catalog well-formed.
use Rattle.std.proofs.Common.{◌≡◌, ℕ, ◌<◌, ◌≤◌, false, length, Some, Ok, sym, ap, ◌∙◌, subst, arith}
use Rattle.blob_digest.specs.declared.refusal.Refusal.TheVariants.{NameUnknown, LimitReached}
use Rattle.spec_lib.specs.Texts.{Text}
use Rattle.store_model.specs.Catalog.{Catalog, tenant_of, used_bytes}
use Rattle.store_model.specs.Commands.{tenant, start, with_new_session, lacks_room_for, cannot_open}
use Rattle.spec_lib.specs.Outcomes.{refuse}
use Rattle.store_model.specs.Invariant.{WellFormed, KeepsQuotas, KeepsShares, FitsSlots, Sound}
use Rattle.spec_lib.proofs.Outcomes.{bound_ok, not_refused, some_of_ok}
use Rattle.store_model.proofs.Commands.Accepted.{left_by, tenant_there}
use Rattle.spec_lib.specs.Sets as set
use Rattle.store_model.proofs.Invariant.Repos.{is_own, WellFormed-appear, used_bytes-appear}
use Rattle.std.specs.Cmp.Lexicographic.{nat_list_cmp_total}
use Rattle.std.proofs.lemmas.Map.Lookups.{exact_bytes}
use Rattle.spec_lib.proofs.Sets.{now}
use Rattle.store_model.proofs.Invariant.Sessions.{WellFormed-open, used_bytes-open}

module _ (C : Catalog) (t : ℕ) (r : Text) (lawful : WellFormed C) (known : tenant_of C.tenants r ≡ Some t) (there : t < length C.tenants) (short : length r ≤ 255)
    (room : lacks_room_for C t r ≡ false) (opens : cannot_open C t ≡ false) where
  abbrev with_repo : Catalog
  with_repo = record C { repos = set.insert C.repos r }

  appeared : WellFormed with_repo
  appeared = WellFormed-appear C t r lawful known short room

  pub WellFormed-start : WellFormed (with_new_session C t r)
  WellFormed-start = WellFormed-open with_repo t r appeared there (now nat_list_cmp_total exact_bytes C.repos r) (is_own C t r known) opens

  pub used_bytes-start : (u : ℕ) → used_bytes (with_new_session C t r) u ≡ used_bytes C u
  used_bytes-start u = used_bytes-open with_repo t r appeared u ∙ used_bytes-appear C t r lawful known u

module _ (C C' : Catalog) (r : Text) (n : ℕ) (stepped : start C r ≡ Ok (n, C')) where
  passed : (t : ℕ) × (tenant_of C.tenants r ≡ Some t) × (lacks_room_for C t r ≡ false) × (cannot_open C t ≡ false) × (with_new_session C t r ≡ C')
  passed =
      let a = bound_ok (tenant C r) _ (n, C') stepped in
      let b = bound_ok (refuse (lacks_room_for C a.0 r) LimitReached) _ (n, C') a.2 in
      let c = bound_ok (refuse (cannot_open C a.0) LimitReached) _ (n, C') b.2 in
      (a.0, some_of_ok (tenant_of C.tenants r) NameUnknown a.0 a.1, not_refused _ _ _ b.1, not_refused _ _ _ c.1, left_by c.2)

  pub WellFormed-after_start : length r ≤ 255 → WellFormed C → WellFormed C'
  WellFormed-after_start short lawful =
      let p = passed in
      subst (λ (D : Catalog). WellFormed D) p.4 (WellFormed-start C p.0 r lawful p.1 (tenant_there C.tenants r p.0 p.1) short p.2 p.3)

  pub used_bytes-after_start : length r ≤ 255 → WellFormed C → (u : ℕ) → used_bytes C' u ≡ used_bytes C u
  used_bytes-after_start short lawful u =
      let p = passed in
      ap (λ D. used_bytes D u) (sym p.4) ∙ used_bytes-start C p.0 r lawful p.1 (tenant_there C.tenants r p.0 p.1) short p.2 p.3 u

  pub KeepsQuotas-after_start : length r ≤ 255 → WellFormed C → KeepsQuotas C → KeepsQuotas C'
  KeepsQuotas-after_start short lawful keeps =
      let p = passed in
      subst (λ (D : Catalog). KeepsQuotas D) p.4 (λ u there.
      let same = used_bytes-start C p.0 r lawful p.1 (tenant_there C.tenants r p.0 p.1) short p.2 p.3 u in
      let k = keeps u there in
      omega arith)

  pub KeepsShares-after_start : KeepsShares C → KeepsShares C'
  KeepsShares-after_start keeps = subst (λ (D : Catalog). KeepsShares D) passed.4 keeps

  pub FitsSlots-after_start : FitsSlots C → FitsSlots C'
  FitsSlots-after_start fits = subst (λ (D : Catalog). FitsSlots D) passed.4 fits

  pub Sound-after_start : length r ≤ 255 → Sound C → Sound C'
  Sound-after_start short sound = record {
    lawful = WellFormed-after_start short sound.lawful;
    quotas = KeepsQuotas-after_start short sound.lawful sound.quotas;
    shares = KeepsShares-after_start sound.shares;
    slots = FitsSlots-after_start sound.slots;
  }
