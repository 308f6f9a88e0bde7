-- Storing and deleting a manifest keep a catalog sound and every use unchanged.
use Rattle.std.proofs.Common.{◌≡◌, ℕ, ◌<◌, ◌≤◌, true, false, List, [], ◌∷◌, length, Some, None, Ok, Err, refl, sym, ap, ◌∙◌, subst, arith}
use Rattle.std.specs.Prelude.{nat_lt, if◌then◌else◌}
use Rattle.std.specs.Option.{ok_or}
use Rattle.std.specs.List.{AllByRecursion}
use Rattle.std.specs.Cmp.Lexicographic.{nat_list_cmp_total}
use Rattle.std.specs.FinMap.{get, remove}
use Rattle.std.proofs.lemmas.Bool.{ltb-false, leb-false}
use Rattle.std.proofs.lemmas.Map.Lookups.{exact_bytes}
use Rattle.blob_digest.specs.declared.refusal.Refusal.TheVariants.{NameUnknown, SizeInvalid, ManifestInvalid, ManifestBlobUnknown, LimitReached}
use Rattle.blob_digest.specs.Digests.{sha256_text}
use Rattle.spec_lib.specs.Sets as set
use Rattle.oci_manifest.specs.Manifests.{refs_of, max_manifest}
use Rattle.spec_lib.specs.Texts.{Text}
use Rattle.store_model.specs.Catalog.{Catalog, tenant_of, holds, used_bytes, manifests_of, limits_of}
use Rattle.store_model.specs.Commands.{tenant, check_all_links, has_manifest, is_full_of_manifests, add_manifest, put_manifest, manifest, delete_manifest, lacks_room_for}
use Rattle.spec_lib.specs.Outcomes.{refuse}
use Rattle.store_model.specs.Invariant.{WellFormed, KeepsQuotas, KeepsShares, FitsSlots, Sound}
use Rattle.spec_lib.proofs.Sets.{now}
use Rattle.spec_lib.proofs.Options.{no_value}
use Rattle.store_model.proofs.Invariant.Repos.{WellFormed-appear, used_bytes-appear}
use Rattle.store_model.proofs.Invariant.Manifests.{WellFormed-put_manifest, WellFormed-drop_manifest}
use Rattle.spec_lib.proofs.Outcomes.{bound_ok, not_refused, some_of_ok}
use Rattle.store_model.proofs.Commands.Accepted.{left_by}
use Rattle.blob_digest.specs.Tenants.{greatest_limits}
use Rattle.store_model.proofs.Invariant.TenantLimits.{limits_supported}

-- each reference is linked if none was missing
all_hold : (C : Catalog) (repo : Text) (digests : List Text) → check_all_links C repo digests ≡ Ok tt → AllByRecursion (λ d. holds C repo d ≡ true) digests
all_hold C repo [] h = tt
all_hold C repo (d ∷ digests) h =
    elim (holds C repo d) as (λ b. holds C repo d ≡ b → (if b then check_all_links C repo digests else Err (ManifestBlobUnknown d)) ≡ Ok tt → AllByRecursion (λ d. holds C repo d ≡ true) (d ∷ digests)) [
      | true ↦ λ is h. (is, all_hold C repo digests h)
      | false ↦ λ is h. absurd cc
    ] refl h

module _ (C C' : Catalog) (repo bytes name : Text) (stepped : put_manifest C repo bytes ≡ Ok (name, C')) (short : length repo ≤ 255) (lawful : WellFormed C) where
  abbrev key : Text × Text
  key = (repo, sha256_text bytes)

  record Put : Type 0 where
    lawful_after : WellFormed C'
    use_alike : (u : ℕ) → used_bytes C' u ≡ used_bytes C u
    keeps_after : KeepsQuotas C → KeepsQuotas C'
    shares_after : KeepsShares C → KeepsShares C'
    fits_after : FitsSlots C → FitsSlots C'

  by_new : (t : ℕ) → tenant_of C.tenants repo ≡ Some t → length bytes ≤ max_manifest → (refs : List Text) → refs_of bytes ≡ Some refs → AllByRecursion (λ d. holds C repo d ≡ true) refs →
      get C.manifests key ≡ None → add_manifest C t repo bytes ≡ Ok (name, C') → Put
  by_new t known small refs read linked absent h =
      let a = bound_ok (refuse (lacks_room_for C t repo) LimitReached) _ (name, C') h in
      let b = bound_ok (refuse (is_full_of_manifests C t repo) LimitReached) _ (name, C') a.2 in
      let room = not_refused _ _ _ a.1 in
      let limit : ℕ = (limits_of C t).manifests in
      let under : manifests_of C repo < limit = leb-false limit (manifests_of C repo) (not_refused _ _ _ b.1) in
      let supported : limit ≤ greatest_limits.manifests = (limits_supported C lawful t).manifests in
      let few : manifests_of C repo < greatest_limits.manifests = omega (arith, under, supported) in
      let with_repo : Catalog = record C { repos = set.insert C.repos repo } in
      let appeared : WellFormed with_repo = WellFormed-appear C t repo lawful known short room in
      let made = WellFormed-put_manifest with_repo appeared repo bytes (now nat_list_cmp_total exact_bytes C.repos repo) small refs read linked absent few in
      let is = left_by b.2 in
      record {
        lawful_after = subst (λ (D : Catalog). WellFormed D) is made;
        use_alike = λ u. ap (λ D. used_bytes D u) (sym is) ∙ used_bytes-appear C t repo lawful known u;
        keeps_after = λ keeps. subst (λ (D : Catalog). KeepsQuotas D) is (λ u there. let same = used_bytes-appear C t repo lawful known u in let k = keeps u there in omega arith);
        shares_after = λ shares. subst (λ (D : Catalog). KeepsShares D) is shares;
        fits_after = λ fits. subst (λ (D : Catalog). FitsSlots D) is fits;
      }

  by_old : C ≡ C' → Put
  by_old is = record {
    lawful_after = subst (λ (D : Catalog). WellFormed D) is lawful;
    use_alike = λ u. ap (λ D. used_bytes D u) (sym is);
    keeps_after = λ keeps. subst (λ (D : Catalog). KeepsQuotas D) is keeps;
    shares_after = λ shares. subst (λ (D : Catalog). KeepsShares D) is shares;
    fits_after = λ fits. subst (λ (D : Catalog). FitsSlots D) is fits;
  }

  put : Put
  put =
      let a = bound_ok (tenant C repo) _ (name, C') stepped in
      let b = bound_ok (refuse (nat_lt max_manifest (length bytes)) SizeInvalid) _ (name, C') a.2 in
      let c = bound_ok (ok_or (refs_of bytes) ManifestInvalid) _ (name, C') b.2 in
      let d = bound_ok (check_all_links C repo c.0) _ (name, C') c.2 in
      elim (has_manifest C repo (sha256_text bytes)) as (λ x. has_manifest C repo (sha256_text bytes) ≡ x → (if x then Ok (sha256_text bytes, C) else add_manifest C a.0 repo bytes) ≡ Ok (name, C') → Put) [
        | true ↦ λ is h. by_old (left_by h)
        | false ↦ λ is h.
            by_new a.0 (some_of_ok (tenant_of C.tenants repo) NameUnknown a.0 a.1) (ltb-false max_manifest (length bytes) (not_refused _ _ _ b.1)) c.0 (some_of_ok (refs_of bytes) ManifestInvalid c.0 c.1)
            (all_hold C repo c.0 d.1) (no_value (get C.manifests key) is) h
      ] refl d.2

  pub WellFormed-after_put_manifest : WellFormed C'
  WellFormed-after_put_manifest = put.lawful_after

  pub KeepsQuotas-after_put_manifest : KeepsQuotas C → KeepsQuotas C'
  KeepsQuotas-after_put_manifest = put.keeps_after

  pub KeepsShares-after_put_manifest : KeepsShares C → KeepsShares C'
  KeepsShares-after_put_manifest = put.shares_after

  pub FitsSlots-after_put_manifest : FitsSlots C → FitsSlots C'
  FitsSlots-after_put_manifest = put.fits_after

pub Sound-after_put_manifest : (C C' : Catalog) (repo bytes name : Text) → put_manifest C repo bytes ≡ Ok (name, C') → length repo ≤ 255 → Sound C → Sound C'
Sound-after_put_manifest C C' repo bytes name stepped short sound = record {
  lawful = WellFormed-after_put_manifest C C' repo bytes name stepped short sound.lawful;
  quotas = KeepsQuotas-after_put_manifest C C' repo bytes name stepped short sound.lawful sound.quotas;
  shares = KeepsShares-after_put_manifest C C' repo bytes name stepped short sound.lawful sound.shares;
  slots = FitsSlots-after_put_manifest C C' repo bytes name stepped short sound.lawful sound.slots;
}

module _ (C C' : Catalog) (repo name : Text) (stepped : delete_manifest C repo name ≡ Ok (tt, C')) where
  gone : record C { manifests = remove C.manifests (repo, name) } ≡ C'
  gone =
      let a = bound_ok (tenant C repo) _ (tt, C') stepped in
      let b = bound_ok (manifest C repo name) _ (tt, C') a.2 in
      left_by b.2

  pub WellFormed-after_delete_manifest : WellFormed C → WellFormed C'
  WellFormed-after_delete_manifest lawful = subst (λ (D : Catalog). WellFormed D) gone (WellFormed-drop_manifest C lawful (repo, name))

  pub KeepsQuotas-after_delete_manifest : KeepsQuotas C → KeepsQuotas C'
  KeepsQuotas-after_delete_manifest keeps = subst (λ (D : Catalog). KeepsQuotas D) gone keeps

  pub FitsSlots-after_delete_manifest : FitsSlots C → FitsSlots C'
  FitsSlots-after_delete_manifest fits = subst (λ (D : Catalog). FitsSlots D) gone fits

  pub Sound-after_delete_manifest : Sound C → Sound C'
  Sound-after_delete_manifest sound = record { lawful = WellFormed-after_delete_manifest sound.lawful; quotas = KeepsQuotas-after_delete_manifest sound.quotas; shares = subst (λ (D : Catalog). KeepsShares D) gone sound.shares; slots = FitsSlots-after_delete_manifest sound.slots }
