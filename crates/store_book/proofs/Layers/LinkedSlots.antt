-- The slot of a blob that is linked in a repository of the book.
use Rattle.std.proofs.Common.{◌≡◌, ℕ, Bool, true, false, not, Option, Some, None, is_some, refl, sym, ap, ◌∙◌}
use Rattle.std.specs.Prelude.{◌&&◌, nat_le, if◌then◌else◌}
use Rattle.std.specs.FinMap.{get, contains_key, len}
use Rattle.slot_table.specs.Slots.{StoredBlob, slot_of, stored_blob_at}
use Rattle.std.proofs.lemmas.Bool.{true≢false, false_from_ne_true, and_from}
use Rattle.link_table.specs.Linked.{is_repo_of_tenant, blobs_of, passes_share as links_pass_share}
use Rattle.link_table.proofs.Weights.{IsBlobs, IsBlobs-blobs}
use Rattle.spec_lib.specs.Texts.{Text}
use Rattle.store_model.specs.Catalog.{Resident, Catalog, is_repo_of, holds, share_of, tenant_holds, held_count}
use Rattle.store_model.specs.Commands.{has_source, passes_share}
use Rattle.store_book.specs.Internal.Storing.{linked_slot, source_slot}
use Rattle.store_book.specs.Layers.{Layers, lent_marks, resident_of, book_catalog, IsBook}
use Rattle.store_book.proofs.Layers.Sums.{holds_is}
use Rattle.store_model.proofs.Invariant.Links.{is_held}
use Rattle.store_model.proofs.Invariant.Shares.{held_count-by_keys}
use Rattle.store_model.proofs.Commands.Mount.{source_of}
use Rattle.spec_lib.proofs.Options.{some_value, nothing, some_same}
use Rattle.store_book.proofs.Slots.Changed.{resident_at}
use Rattle.store_book.proofs.Layers.Ties.{not_resident}

-- a result that depends on a test
some_if : (b : Bool) (o : Option ℕ) (k : ℕ) → (if b then o else None) ≡ Some k → (b ≡ true) × (o ≡ Some k)
some_if true o k e = (refl, e)
some_if false o k e = absurd cc

none_if : (b : Bool) (o : Option ℕ) → (if b then o else None) ≡ None → (b ≡ true → o ≡ None → ⊥) → b ≡ false
none_if true o e clash = absurd (clash refl e)
none_if false o e clash = refl

none_both : (a b : Bool) (o : Option ℕ) → (if a then (if b then o else None) else None) ≡ None → (b ≡ true → o ≡ None → ⊥) → (a && b) ≡ false
none_both true b o e clash = none_if b o e clash
none_both false b o e clash = refl

not_there : (o : Option ℕ) → is_some o ≡ false → o ≡ None
not_there None e = refl
not_there (Some n) e = absurd (true≢false e)

module _ (L : Layers) (book : IsBook L) where
  abbrev C : Catalog
  C = book_catalog L

  -- a repository holds a digest exactly if it is linked
  pub holds_linked : (r d : Text) → holds C r d ≡ contains_key L.links.links (r, d)
  holds_linked r d = holds_is L (lent_marks L.slots) book.tied (λ k h. (book.sound.lawful.links k h).repo) r d

  -- the linked digest has a slot
  pub has_slot : (r d : Text) → contains_key L.links.links (r, d) ≡ true → slot_of L.slots d ≡ None → ⊥
  has_slot r d linked none =
      let n = some_value (get L.links.links (r, d)) linked in
      nothing (not_resident L.slots (lent_marks L.slots) d none) (book.tied.sizes (r, d) n.0 n.1).1

  pub linked_some : (r d : Text) (k : ℕ) → linked_slot L.links L.slots r d ≡ Some k → (contains_key L.links.links (r, d) ≡ true) × (slot_of L.slots d ≡ Some k)
  linked_some r d k e = some_if (contains_key L.links.links (r, d)) (slot_of L.slots d) k e

  pub linked_none : (r d : Text) → linked_slot L.links L.slots r d ≡ None → holds C r d ≡ false
  linked_none r d e = holds_linked r d ∙ none_if (contains_key L.links.links (r, d)) (slot_of L.slots d) e (has_slot r d)

  -- a linked blob is not condemned
  pub linked_live : (r d : Text) (k : ℕ) (h : StoredBlob) → stored_blob_at L.slots k ≡ Some h → h.digest ≡ d → holds C r d ≡ true → h.condemned ≡ false
  linked_live r d k h at is has =
      let kept = (book.sound.lawful.links (r, d) has).kept in
      let same : resident_of h.lent h ≡ kept.0 = some_same (sym (ap (get C.residents) (sym is) ∙ resident_at L.slots k h at book.tied.distinct) ∙ kept.1) in
      ap (λ (b : Resident). b.condemned) same ∙ kept.2

  -- a tenant's blobs in the links
  blobs : (t : ℕ) → IsBlobs (is_repo_of_tenant L.links.tenants t) L.links.links (blobs_of L.links t)
  blobs t = IsBlobs-blobs (is_repo_of_tenant L.links.tenants t) L.links.links

  -- a digest among a tenant's blobs is linked in one of its repositories
  holder : (t : ℕ) (d : Text) → contains_key (blobs_of L.links t) d ≡ true → (q : Text) × (is_repo_of C t q ≡ true) × (contains_key L.links.links (q, d) ≡ true)
  holder t d has =
      let n = some_value (get (blobs_of L.links t) d) has in
      let q = (blobs t).some d n.0 n.1 in
      (q.0, q.1, ap is_some q.2)

  -- a digest that is not among them is linked in none
  no_holder : (t : ℕ) (d : Text) → contains_key (blobs_of L.links t) d ≡ false → tenant_holds C t d ≡ false
  no_holder t d none = false_from_ne_true (tenant_holds C t d) (λ h.
      let q = source_of C t d None h in
      let absent = (blobs t).none d q.0 (not_there (get (blobs_of L.links t) d) none) q.1 in
      true≢false (sym q.2 ∙ holds_linked q.0 d ∙ ap is_some absent))

  -- a tenant holds the digests of its blobs in the links
  pub tenant_blobs : (t : ℕ) (d : Text) → contains_key (blobs_of L.links t) d ≡ tenant_holds C t d
  tenant_blobs t d = by (contains_key (blobs_of L.links t) d) refl
    where
      by : (b : Bool) → contains_key (blobs_of L.links t) d ≡ b → b ≡ tenant_holds C t d
      by true held =
          let q = holder t d held in
          let has : holds C q.0 d ≡ true = holds_linked q.0 d ∙ q.2 in
          sym (is_held C t q.0 d (book.sound.lawful.links (q.0, d) has).repo q.1 has)
      by false none = sym (no_holder t d none)

  -- a tenant's blobs in the links are as many as it holds
  pub blobs_counted : (t : ℕ) → len (blobs_of L.links t) ≡ held_count C t
  blobs_counted t = held_count-by_keys C book.sound.lawful t (blobs_of L.links t) (λ d. tenant_blobs t d)

  -- the links and the catalog agree on whether a tenant's share admits a digest
  pub share_is : (t : ℕ) (d : Text) → links_pass_share L.links t d ≡ passes_share C t d
  share_is t d = λ i. not (tenant_blobs t d i) && nat_le (share_of C t) (blobs_counted t i)

  -- the source contains the digest, and this is its slot
  pub source_some : (t : ℕ) (from : Option Text) (d : Text) (k : ℕ) → source_slot L.links L.slots t from d ≡ Some k → (has_source C t d from ≡ true) × (slot_of L.slots d ≡ Some k)
  source_some t None d k e =
      let held = some_if (contains_key (blobs_of L.links t) d) (slot_of L.slots d) k e in
      let q = holder t d held.0 in
      let has : holds C q.0 d ≡ true = holds_linked q.0 d ∙ q.2 in
      (is_held C t q.0 d (book.sound.lawful.links (q.0, d) has).repo q.1 has, held.1)
  source_some t (Some from) d k e =
      let own = some_if (is_repo_of_tenant L.links.tenants t from) (linked_slot L.links L.slots from d) k e in
      let there = linked_some from d k own.1 in
      (and_from (is_repo_of C t from) (holds C from d) own.0 (holds_linked from d ∙ there.0), there.1)

  pub source_none : (t : ℕ) (from : Option Text) (d : Text) → source_slot L.links L.slots t from d ≡ None → has_source C t d from ≡ false
  source_none t None d e = no_holder t d (none_if (contains_key (blobs_of L.links t) d) (slot_of L.slots d) e (λ h none. let q = holder t d h in has_slot q.0 d q.2 none))
  source_none t (Some from) d e = ap (λ b. is_repo_of_tenant L.links.tenants t from && b) (holds_linked from d) ∙ none_both (is_repo_of_tenant L.links.tenants t from) (contains_key L.links.links (from, d)) (slot_of L.slots d) e (has_slot from d)
