-- After a blob was placed in a free slot, the catalog has it and the layers agree.
use Rattle.std.proofs.Common.{◌≡◌, ℕ, Bool, true, false, cond, List, length, Option, Some, None, refl, sym, ap, ◌∙◌, ◌⊎◌, subst, inl, inr}
use Rattle.std.specs.Prelude.{slice_get}
use Rattle.std.specs.Option.{option_map_or}
use Rattle.std.specs.Cmp.Lexicographic.{nat_list_cmp_total}
use Rattle.std.specs.List.{count_by}
use Rattle.std.specs.FinMap.{get, insert}
use Rattle.std.proofs.lemmas.Bool.{cases_eq}
use Rattle.std.proofs.lemmas.Map.Lookups.{exact_bytes}
use Rattle.slot_table.specs.declared.phase.Phase.{Phase}
use Rattle.slot_table.specs.declared.phase.Phase.TheVariants as phase
use Rattle.slot_table.specs.Slots.{Slot, StoredBlob, SlotContent, Free, Used, Retired, with_slot, fill, phase_at, phase_in, stored_blob_at, stored_blob_in, slot_of, is_retired}
use Rattle.spec_lib.proofs.Lists.{count_by-none}
use Rattle.spec_lib.specs.Sets as set
use Rattle.spec_lib.specs.Texts.{Text}
use Rattle.store_model.specs.Catalog.{Link, Resident, Catalog, holds, link_count}
use Rattle.store_model.specs.Invariant.{WellFormed}
use Rattle.store_book.specs.Layers.{Layers, catalog_from, IsTied}
use Rattle.spec_lib.proofs.Maps.{cases_key, get-insert_other}
use Rattle.spec_lib.proofs.Options.{some_same}
use Rattle.store_model.proofs.Invariant.Links.{unlinked}
use Rattle.store_book.proofs.Slots.Writes.{length-with_slot, count_by-with_slot, stored_blob_at-other, stored_blob_at-same}
use Rattle.slot_table.proofs.Finding.{not_held}
use Rattle.store_book.proofs.Layers.Ties.{not_resident}
use Rattle.store_book.proofs.Slots.Filled.{residents-fill, stored}

abbrev phase_by : Option Slot → Phase
phase_by o = option_map_or (λ s. phase_in s.content) o phase.Retired

-- a free slot exists, holds nothing, and is not retired
pub free_slot : (slots : List Slot) (k : ℕ) → phase_at slots k ≡ phase.Free → (s : Slot) × (slice_get slots k ≡ Some s) × (stored_blob_in s.content ≡ None) × (is_retired s ≡ false)
free_slot slots k free = there (slice_get slots k) refl free
  where
    at : (s : Slot) (c : SlotContent) → s.content ≡ c → phase_in c ≡ phase.Free → (stored_blob_in c ≡ None) × (is_retired (record s { content = c }) ≡ false)
    at s Free e f = (refl, refl)
    at s (Used h) e f = elim h.condemned as (λ b. cond b phase.Condemned phase.Live ≡ phase.Free → (stored_blob_in (Used h) ≡ None) × (is_retired (record s { content = Used h }) ≡ false)) [ true ↦ λ g. cc | false ↦ λ g. cc ] f
    at s Retired e f = cc

    there : (o : Option Slot) → slice_get slots k ≡ o → phase_by o ≡ phase.Free → (s : Slot) × (slice_get slots k ≡ Some s) × (stored_blob_in s.content ≡ None) × (is_retired s ≡ false)
    there None e f = cc
    there (Some s) e f = let x = at s s.content refl f in (s, e, x.0, x.1)

module _ (L : Layers) (marks : List Bool) (k : ℕ) (blob : Text × Text) (m : Bool)
    (free : phase_at L.slots k ≡ phase.Free) (at : slice_get marks k ≡ Some m) (none : slot_of L.slots blob.0 ≡ None) where
  abbrev C : Catalog
  C = catalog_from L marks

  abbrev slots' : List Slot
  slots' = with_slot L.slots k (fill blob)

  abbrev after : Catalog
  after = record C { residents = insert C.residents blob.0 (stored blob m) }

  absent : get C.residents blob.0 ≡ None
  absent = not_resident L.slots marks blob.0 none

  -- filling a free slot adds one blob
  pub catalog-fill : catalog_from (record L { slots = slots' }) marks ≡ after
  catalog-fill =
      let s = free_slot L.slots k free in
      let retired : count_by is_retired slots' ≡ count_by is_retired L.slots =
      count_by-with_slot is_retired L.slots k (fill blob) (λ x here. let same : s.0 ≡ x = some_same (sym s.1 ∙ here) in sym (ap is_retired (sym same) ∙ s.3)) in
      λ i. record C {
        slots = length-with_slot L.slots k (fill blob) i;
        residents = residents-fill blob L.slots k marks m free at absent i;
        retired = retired i;
      }

  abbrev filled : StoredBlob
  filled = record { digest = blob.0; bytes = blob.1; condemned = false; lent = false; links = 0 }

  pub stored_blob_at-fill : stored_blob_at slots' k ≡ Some filled
  stored_blob_at-fill = let s = free_slot L.slots k free in stored_blob_at-same L.slots k (fill blob) s.0 s.1

  -- the blob of each slot then
  abbrev pub Holds : ℕ → StoredBlob → Type 0
  Holds j h = ((j ≡ k) × (filled ≡ h)) ⊎ ((j ≡ k → ⊥) × (stored_blob_at L.slots j ≡ Some h))

  pub held_then : (j : ℕ) (h : StoredBlob) → stored_blob_at slots' j ≡ Some h → Holds j h
  held_then j h here = elim (cases_eq j k) [
    | inl e ↦ inl (e, some_same (sym stored_blob_at-fill ∙ ap (stored_blob_at slots') (sym e) ∙ here))
    | inr other ↦ inr (other, sym (stored_blob_at-other L.slots k (fill blob) j other) ∙ here)
  ]

  module _ (tied : IsTied L.links L.slots marks C) (lawful : WellFormed C) where
    apart : (a b : ℕ) (x y : StoredBlob) → Holds a x → Holds b y → x.digest ≡ y.digest → a ≡ b
    apart a b x y (inl p) (inl q) same = p.0 ∙ sym q.0
    apart a b x y (inl p) (inr q) same = absurd (not_held L.slots blob.0 none b y q.1 (sym same ∙ ap (λ (h : StoredBlob). h.digest) (sym p.1)))
    apart a b x y (inr p) (inl q) same = absurd (not_held L.slots blob.0 none a x p.1 (same ∙ ap (λ (h : StoredBlob). h.digest) (sym q.1)))
    apart a b x y (inr p) (inr q) same = tied.distinct a b x y p.1 q.1 same

    as_many_links : (j : ℕ) (h : StoredBlob) → Holds j h → h.links ≡ link_count after h.digest
    as_many_links j h (inl p) =
        let zero : link_count C blob.0 ≡ 0 = count_by-none (λ r. holds C r blob.0) (unlinked C lawful blob.0 absent) (set.items C.repos) in
        subst (λ (x : StoredBlob). x.links ≡ link_count after x.digest) p.1 (sym zero)
    as_many_links j h (inr p) = tied.counts j h p.1

    sized : (key : Link) (n : ℕ) → get L.links.links key ≡ Some n → (b : Resident) × (get after.residents key.1 ≡ Some b) × (n ≡ length b.bytes)
    sized key n found =
        let b = tied.sizes key n found in
        elim (cases_key nat_list_cmp_total exact_bytes key.1 blob.0) [
          | inl e ↦ absurd (let clash : None ≡ Some b.0 = sym (ap (get C.residents) e ∙ absent) ∙ b.1 in cc)
          | inr differ ↦ (b.0, get-insert_other nat_list_cmp_total exact_bytes C.residents blob.0 (stored blob m) key.1 differ ∙ b.1, b.2)
        ]

    -- the layers agree then
    pub IsTied-fill : IsTied L.links slots' marks (catalog_from (record L { slots = slots' }) marks)
    IsTied-fill = subst (λ (D : Catalog). IsTied L.links slots' marks D) (sym catalog-fill) (record {
      marks = tied.marks ∙ sym (length-with_slot L.slots k (fill blob));
      distinct = λ a b x y at_a at_b same. apart a b x y (held_then a x at_a) (held_then b y at_b) same;
      sizes = sized;
      counts = λ j h here. as_many_links j h (held_then j h here);
    })
