-- `Book::delete`, by the clauses of its calls of the layers.
use Rattle.std.proofs.Common.{◌≡◌, ℕ, ◌<◌, true, false, List, Some, None, Ok, Err, refl, sym, ap, ◌∙◌, subst, arith}
use Rattle.std.specs.Option.{option_map_or}
use Rattle.std.specs.FinMap.{get, remove, contains_key}
use Rattle.blob_digest.specs.declared.refusal.Refusal.TheVariants.{BlobUnknown, Referenced}
use Rattle.spec_lib.proofs.Options.{some_value, no_value}
use Rattle.spec_lib.proofs.Parts.{remove_absent}
use Rattle.blob_digest.proofs.KeyOrders.{link_cmp_total, exact_link}
use Rattle.spec_lib.specs.Sets as set
use Rattle.slot_table.specs.declared.phase.Phase.TheVariants as phase
use Rattle.slot_table.specs.Slots.{Slot, StoredBlob, slot_of, stored_blob_at, phase_at, links_at, with_slot, on_stored_blob, link_down}
use Rattle.link_table.specs.Linked.{Linked, known_tenant, unlink}
use Rattle.spec_lib.specs.Texts.{Text}
use Rattle.store_model.specs.Catalog.{Catalog, link_count, holds}
use Rattle.store_model.specs.Commands.{delete, referrer}
use Rattle.store_book.specs.Layers.{Layers, lent_marks, catalog_from, book_catalog, IsTied, IsBook}
use Rattle.store_book.specs.Pinned.{Pinned, slot_views_of, with_changed_slot, with_looks}
use Rattle.store_book.proofs.Slots.Pinned.{slot_views-with_slot, link_down-slot_view}
use Rattle.store_model.proofs.Invariant.Counts.{link_count-unlink}
use Rattle.store_book.proofs.Slots.LeaseMarks.{marks-on}
use Rattle.store_model.proofs.Commands.Delete.{Sound-after_delete}
use Rattle.store_model.proofs.Commands.Referrers.{held_if_referred}
use Rattle.store_book.proofs.Layers.LinkedSlots.{holds_linked, linked_live}
use Rattle.store_book.proofs.Slots.Writes.{phase_live}
use Rattle.slot_table.proofs.Finding.{held_of}
use Rattle.store_book.proofs.Layers.Ties.{links_of-remove, catalog-relink, IsTied-unlink, link_down-KeepsBlob}

-- a lower count does not change the view
pub slots_kept : (p q : Pinned) (k : ℕ) → q ≡ with_changed_slot k (on_stored_blob link_down) p → (q.table ≡ p.table) × (slot_views_of q ≡ slot_views_of p)
slots_kept p q k is = (ap (λ (x : Pinned). x.table) is, ap slot_views_of is ∙ ap (with_looks p.looks) (slot_views-with_slot p.slots k (on_stored_blob link_down) p.bounds link_down-slot_view))

module _ (L : Layers) (t : ℕ) (repo digest : Text) (book : IsBook L) (known : known_tenant L.links repo ≡ Ok t) where
  abbrev C : Catalog
  C = book_catalog L

  -- a digest that is not linked in the repository
  pub delete_unknown : contains_key L.links.links (repo, digest) ≡ false → delete C repo digest ≡ Err BlobUnknown
  delete_unknown none = rw (known, holds_linked L book repo digest ∙ none) refl

  -- then nothing is removed
  pub unlink_absent : contains_key L.links.links (repo, digest) ≡ false → unlink L.links repo digest ≡ L.links
  unlink_absent none = (λ i. record L.links { links = remove_absent link_cmp_total exact_link L.links.links (repo, digest) (no_value (get L.links.links (repo, digest)) none) i })

  -- a digest to which a manifest refers, and which is linked
  pub delete_referenced : (manifest : Text) → referrer C repo digest ≡ Some manifest → delete C repo digest ≡ Err (Referenced manifest)
  delete_referenced manifest is = rw (known, held_if_referred C book.sound.lawful repo digest manifest is, is) refl

  module _ (k : ℕ) (linked : contains_key L.links.links (repo, digest) ≡ true) (at_slot : slot_of L.slots digest ≡ Some k) where
    has : holds C repo digest ≡ true
    has = holds_linked L book repo digest ∙ linked

    abbrev held : (h : StoredBlob) × (stored_blob_at L.slots k ≡ Some h) × (h.digest ≡ digest)
    held = held_of L.slots digest k at_slot

    -- its slot is live, and counts it
    pub live_there : phase_at L.slots k ≡ phase.Live
    live_there = phase_live L.slots k held.0 held.1 (linked_live L book repo digest k held.0 held.1 held.2 has)

    pub counted_there : 0 < links_at L.slots k
    counted_there =
        let links : links_at L.slots k ≡ held.0.links = ap (λ o. option_map_or (λ (h : StoredBlob). h.links) o 0) held.1 in
        let old : held.0.links ≡ link_count C digest = book.tied.counts k held.0 held.1 ∙ ap (link_count C) held.2 in
        let one = link_count-unlink C repo digest (book.sound.lawful.links (repo, digest) has).repo has in
        omega arith

    abbrev l' : Linked
    l' = unlink L.links repo digest

    abbrev slots' : List Slot
    slots' = with_slot L.slots k (on_stored_blob link_down)

    abbrev C' : Catalog
    C' = book_catalog (record L { links = l'; slots = slots' })

    marks : lent_marks L.slots ≡ lent_marks slots'
    marks = sym (marks-on link_down (λ h. refl) L.slots k)

    left : C' ≡ record C { links = set.remove C.links (repo, digest) }
    left =
        (λ i. catalog_from (record L { links = l'; slots = slots' }) (sym marks i))
        ∙ catalog-relink L (remove L.links.links (repo, digest)) (lent_marks L.slots) k held.0 held.1 link_down link_down-KeepsBlob book.tied
        ∙ (λ i. record C { links = links_of-remove L.links.links (repo, digest) i })

    module _ (free : referrer C repo digest ≡ None) where
      deleted : delete C repo digest ≡ Ok (tt, C')
      deleted = rw (known, has, free) (λ i. Ok (tt, sym left i))

      tied_after : IsTied l' slots' (lent_marks slots') C'
      tied_after =
          let n = some_value (get L.links.links (repo, digest)) linked in
          let at_digest = IsTied-unlink L (lent_marks L.slots) k held.0 held.1 book.tied repo (book.sound.lawful.links (repo, digest) has).repo n.0 (ap (λ (d : Text). get L.links.links (repo, d)) held.2 ∙ n.1) in
          subst (λ m. IsTied l' slots' m (catalog_from (record L { links = l'; slots = slots' }) m)) marks
          (subst (λ (d : Text). IsTied (unlink L.links repo d) slots' (lent_marks L.slots) (catalog_from (record L { links = unlink L.links repo d; slots = slots' }) (lent_marks L.slots))) held.2 at_digest)

      deleted_book : IsBook (record L { links = l'; slots = slots' })
      deleted_book = record {
        sound = Sound-after_delete C C' repo digest deleted book.sound;
        tied = tied_after;
        charges = record { one_each = book.charges.one_each; sums = book.charges.sums };
      }

      module _ (l1 : Linked) (slots1 : List Slot) (links : l1 ≡ l') (slots_are : slots1 ≡ slots') where
        pub delete_ok : delete C repo digest ≡ Ok (tt, book_catalog (record L { links = l1; slots = slots1 }))
        delete_ok = deleted ∙ (λ i. Ok (tt, book_catalog (record L { links = sym links i; slots = sym slots_are i })))

        -- after a link was deleted, the layers make a book
        pub IsBook-delete : IsBook (record L { links = l1; slots = slots1 })
        IsBook-delete = subst (λ (x : Layers). IsBook x) (λ i. record L { links = sym links i; slots = sym slots_are i }) deleted_book
