-- Storing a blob keeps the catalog well-formed and every use unchanged.
use Rattle.store_model.specs.Commands.{is_named}
use Rattle.std.proofs.Common.{◌≡◌, ℕ, ◌+◌, ◌<◌, ◌≤◌, true, false, cond, length, Some, None, refl, ap, ◌∙◌, subst, arith, inl, inr, ⊎_elim}
use Rattle.std.specs.Cmp.Lexicographic.{nat_list_cmp_total}
use Rattle.std.specs.FinMap.{get, insert, len, contains_key, len-insert}
use Rattle.std.proofs.lemmas.Map.Lookups.{exact_bytes}
use Rattle.spec_lib.specs.Texts.{Text}
use Rattle.store_model.specs.Catalog.{Resident, Catalog, tenant_holds, blob_share, used_bytes}
use Rattle.store_model.specs.Invariant.{WellFormed, FitsSlots}
use Rattle.spec_lib.proofs.Sums.{sum_new, sum_changed}
use Rattle.spec_lib.proofs.Maps.{get-insert_at, get-insert_other, got-insert, cases_key}
use Rattle.store_model.proofs.Invariant.Links.{unlinked, is_unheld}

module _ (C : Catalog) (d : Text) (b : Resident) where
  abbrev after : Catalog
  after = record C { residents = insert C.residents d b }

  module _ (sound : b.condemned ≡ false) where
    kept_now : (x : Text) → (old : Resident) × (get C.residents x ≡ Some old) × (old.condemned ≡ false) → (new : Resident) × (get after.residents x ≡ Some new) × (new.condemned ≡ false)
    kept_now x k = elim (cases_key nat_list_cmp_total exact_bytes x d) [
      | inl e ↦ (b, ap (get after.residents) e ∙ get-insert_at nat_list_cmp_total exact_bytes C.residents d b, sound)
      | inr differ ↦ (k.0, get-insert_other nat_list_cmp_total exact_bytes C.residents d b x differ ∙ k.1, k.2)
    ]

    pub WellFormed-put : WellFormed C → is_named C.contents d b.bytes ≡ true → WellFormed after
    WellFormed-put lawful is_digest = record {
      content = λ x now h. ⊎_elim
          (λ e. subst (λ (y : Resident). is_named C.contents x y.bytes ≡ true) e.1 (ap (λ (q : Text). is_named C.contents q b.bytes) e.0 ∙ is_digest))
          (lawful.content x now)
          (got-insert nat_list_cmp_total exact_bytes C.residents d b x now h);
      links = λ l h. let k = lawful.links l h in record { repo = k.repo; kept = kept_now l.1 k.kept };
      manifests = lawful.manifests;
      sessions = lawful.sessions;
      repositories = lawful.repositories;
      numbering = lawful.numbering;
      limits = lawful.limits;
      few_sessions = lawful.few_sessions;
      few_manifests = lawful.few_manifests;
    }

  -- a stored blob keeps its length
  pub used_bytes-put : WellFormed C → ((old : Resident) → get C.residents d ≡ Some old → length old.bytes ≡ length b.bytes) → (u : ℕ) → used_bytes after u ≡ used_bytes C u
  used_bytes-put lawful same u = elim (get C.residents d) as (λ x. get C.residents d ≡ x → used_bytes after u ≡ used_bytes C u) [
    | None ↦ λ none.
        let sum = sum_new nat_list_cmp_total exact_bytes (blob_share C u) C.residents d b none in
        let nothing : blob_share C u (d, b) ≡ 0 = ap (λ h. cond h (length b.bytes) 0) (is_unheld C u d (unlinked C lawful d none)) in
        omega arith
    | Some old ↦ λ found.
        let sum = sum_changed nat_list_cmp_total exact_bytes (blob_share C u) C.residents d old b found in
        let session_charge : blob_share C u (d, old) ≡ blob_share C u (d, b) = ap (λ n. cond (tenant_holds C u d) n 0) (same old found) in
        omega arith
  ] refl

  -- a stored blob takes no new slot, and a new blob takes a free one
  pub FitsSlots-put : FitsSlots C → (contains_key C.residents d ≡ false → len C.residents + C.retired < C.slots) → FitsSlots after
  FitsSlots-put fits free = record {
    some = fits.some;
    few = fits.few;
    fit = elim (contains_key C.residents d) as (λ h. contains_key C.residents d ≡ h → len after.residents + C.retired ≤ C.slots) [
      | true ↦ λ h. let now : len after.residents ≡ len C.residents = len-insert nat_list_cmp_total C.residents d b ∙ ap (λ x. cond x (len C.residents) (len C.residents + 1)) h in let fit = fits.fit in omega arith
      | false ↦ λ h. let now : len after.residents ≡ len C.residents + 1 = len-insert nat_list_cmp_total C.residents d b ∙ ap (λ x. cond x (len C.residents) (len C.residents + 1)) h in let room = free h in omega arith
    ] refl;
  }
