-- The change of a tenant's use by one more link.
use Rattle.std.proofs.Common.{◌≡◌, ℕ, ◌+◌, true, not, length, Some, is_some, refl, sym, ap, ◌∙◌, subst, arith}
use Rattle.std.specs.Prelude.{◌&&◌, if◌then◌else◌}
use Rattle.std.specs.List.{sum_by}
use Rattle.std.specs.Ordering.{eq_by_cmp, is_eq}
use Rattle.std.specs.Cmp.{Equal-is, tied_itself}
use Rattle.std.specs.Cmp.Lexicographic.{nat_list_cmp_total}
use Rattle.std.specs.FinMap.{entries, get, remove, get-insert, contains_key-keys}
use Rattle.std.proofs.lemmas.Bool.{not-true, and_from, true≢false}
use Rattle.std.proofs.lemmas.Map.Lookups.{exact_bytes}
use Rattle.spec_lib.specs.Sets as set
use Rattle.spec_lib.specs.Texts.{Text, text_cmp}
use Rattle.store_model.specs.Catalog.{Resident, Catalog, link_cmp, is_repo_of, holds, tenant_holds, blob_share, used_bytes}
use Rattle.blob_digest.proofs.KeyOrders.{link_cmp_total, exact_link}
use Rattle.spec_lib.proofs.Rows.{no_tie}
use Rattle.spec_lib.proofs.Sums.{sum_split, entries-remove, sum_by-where_key}
use Rattle.spec_lib.proofs.Lists.{list_any_weaker, list_any_same}

module _ (C : Catalog) (t : ℕ) (r d : Text) (b : Resident) (there : set.contains C.repos r ≡ true) (own : is_repo_of C t r ≡ true) (kept : get C.residents d ≡ Some b) where
  abbrev after : Catalog
  after = record C { links = set.insert C.links (r, d) }

  holds_now : holds after r d ≡ true
  holds_now = ap is_some (get-insert link_cmp_total C.links (r, d) tt (r, d)) ∙ rw (ap is_eq (tied_itself link_cmp_total (r, d))) refl

  -- the tenant now has the digest
  held_now : tenant_holds after t d ≡ true
  held_now =
      list_any_weaker (eq_by_cmp text_cmp r) (λ q. is_repo_of after t q && holds after q d)
      (λ q tie. subst (λ (x : Text). (is_repo_of after t x && holds after x d) ≡ true) (exact_bytes r q ((Equal-is (text_cmp r q)).0 tie)) (and_from (is_repo_of after t r) (holds after r d) own holds_now))
      (set.items C.repos) (sym (contains_key-keys C.repos r) ∙ there)

  -- every other digest is as before
  held_alike : (x : Text) → not (eq_by_cmp text_cmp d x) ≡ true → tenant_holds after t x ≡ tenant_holds C t x
  held_alike x other = list_any_same (λ q. is_repo_of after t q && holds after q x) (λ q. is_repo_of C t q && holds C q x) (λ q. ap (λ h. is_repo_of C t q && h) (holds_alike q)) (set.items C.repos)
    where
      differ : (q : Text) → ◌≡◌ {A = Text × Text} (q, x) (r, d) → ⊥
      differ q e = let same : x ≡ d = ap (λ p. p.1) e in true≢false (sym (rw (ap is_eq (tied_itself nat_list_cmp_total d)) refl) ∙ ap (eq_by_cmp text_cmp d) (sym same) ∙ not-true _ other)

      holds_alike : (q : Text) → holds after q x ≡ holds C q x
      holds_alike q = ap is_some (get-insert link_cmp_total C.links (r, d) tt (q, x)) ∙ rw (no_tie link_cmp exact_link (q, x) (r, d) (differ q)) refl

  -- The use rises by the blob's length, unless the tenant had it before.
  pub used_bytes-link : used_bytes after t + (if tenant_holds C t d then length b.bytes else 0) ≡ used_bytes C t + length b.bytes
  used_bytes-link =
      let now = sum_split nat_list_cmp_total exact_bytes (blob_share after t) C.residents d b kept in
      let before = sum_split nat_list_cmp_total exact_bytes (blob_share C t) C.residents d b kept in
      let rest : sum_by (blob_share after t) (entries (remove C.residents d)) ≡ sum_by (blob_share C t) (entries (remove C.residents d)) =
      ap (sum_by (blob_share after t)) (entries-remove nat_list_cmp_total exact_bytes C.residents d)
      ∙ sum_by-where_key text_cmp (λ x. not (eq_by_cmp text_cmp d x)) (blob_share after t) (blob_share C t) (λ e other. ap (λ h. if h then length e.1.bytes else 0) (held_alike e.0 other)) (entries C.residents)
      ∙ ap (sum_by (blob_share C t)) (sym (entries-remove nat_list_cmp_total exact_bytes C.residents d)) in
      let session_charge : blob_share after t (d, b) ≡ length b.bytes = rw held_now refl in
      omega arith
