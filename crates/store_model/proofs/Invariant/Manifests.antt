-- Storing and removing a manifest keep the catalog well-formed and every use unchanged.
use Rattle.std.proofs.Common.{◌≡◌, ℕ, ◌+◌, ◌<◌, ◌≤◌, true, false, cond, List, length, Some, None, refl, sym, ap, subst, arith, inl, inr}
use Rattle.std.specs.List.{AllByRecursion}
use Rattle.std.specs.FinMap.{get, insert, remove}
use Rattle.blob_digest.specs.Digests.{sha256_text}
use Rattle.spec_lib.specs.Sets as set
use Rattle.oci_manifest.specs.Manifests.{refs_of, max_manifest}
use Rattle.spec_lib.specs.Texts.{Text, same_text}
use Rattle.store_model.specs.Catalog.{Link, Catalog, holds, manifests_of}
use Rattle.store_model.specs.Invariant.{WellFormed, WellFormedManifest}
use Rattle.blob_digest.proofs.KeyOrders.{link_cmp_total, exact_link}
use Rattle.spec_lib.proofs.Texts.{text_is_same}
use Rattle.spec_lib.proofs.Sums.{sum_new}
use Rattle.spec_lib.proofs.Maps.{got-insert, got-remove, sum_at}
use Rattle.blob_digest.specs.Tenants.{greatest_limits}

module _ (C : Catalog) (lawful : WellFormed C) (r bytes : Text) where
  abbrev key : Link
  key = (r, sha256_text bytes)

  abbrev after : Catalog
  after = record C { manifests = insert C.manifests key bytes }

  pub WellFormed-put_manifest : set.contains C.repos r ≡ true → length bytes ≤ max_manifest → (refs : List Text) → refs_of bytes ≡ Some refs → AllByRecursion (λ d. holds C r d ≡ true) refs →
      get C.manifests key ≡ None → manifests_of C r < greatest_limits.manifests → WellFormed after
  WellFormed-put_manifest there small refs read linked absent few = record {
    content = lawful.content;
    links = lawful.links;
    manifests = λ l x h. elim (got-insert link_cmp_total exact_link C.manifests key bytes l x h) [
      | inl e ↦
          let new : WellFormedManifest after key bytes = record { repo = there; name = refl; small = small; refs = (refs, read, linked) } in
          subst (λ (y : Text). WellFormedManifest after l y) e.1 (subst (λ (q : Link). WellFormedManifest after q bytes) (sym e.0) new)
      | inr old ↦ lawful.manifests l x old
    ];
    sessions = lawful.sessions;
    repositories = lawful.repositories;
    numbering = lawful.numbering;
    limits = lawful.limits;
    few_sessions = lawful.few_sessions;
    few_manifests = λ q.
        let sum : manifests_of after q ≡ cond (same_text r q) 1 0 + manifests_of C q = sum_new link_cmp_total exact_link (λ e. cond (same_text e.0.0 q) 1 0) C.manifests key bytes absent in
        let before = lawful.few_manifests q in
        elim (same_text r q) as (λ b. same_text r q ≡ b → manifests_of after q ≤ greatest_limits.manifests) [
          | true ↦ λ e. let one : cond {A = ℕ} (same_text r q) 1 0 ≡ 1 = ap (λ b. cond b 1 0) e in let same : manifests_of C r ≡ manifests_of C q = ap (manifests_of C) (text_is_same r q e) in omega arith
          | false ↦ λ e. let none : cond {A = ℕ} (same_text r q) 1 0 ≡ 0 = ap (λ b. cond b 1 0) e in omega arith
        ] refl;
  }

module _ (C : Catalog) (lawful : WellFormed C) (key : Link) where
  abbrev without : Catalog
  without = record C { manifests = remove C.manifests key }

  pub WellFormed-drop_manifest : WellFormed without
  WellFormed-drop_manifest = record {
    content = lawful.content;
    links = lawful.links;
    manifests = λ l x h. lawful.manifests l x (got-remove link_cmp_total exact_link C.manifests key l x h);
    sessions = lawful.sessions;
    repositories = lawful.repositories;
    numbering = lawful.numbering;
    limits = lawful.limits;
    few_sessions = lawful.few_sessions;
    few_manifests = λ q.
        let sum = sum_at link_cmp_total exact_link (λ e. cond (same_text e.0.0 q) 1 0) C.manifests key in
        let before = lawful.few_manifests q in
        omega arith;
  }
