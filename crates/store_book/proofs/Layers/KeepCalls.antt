-- Linking a sealed blob, by the clauses of the calls of the links and the slots.
use Rattle.std.proofs.Common.{◌≡◌, ◌≢◌, ℕ, ◌+◌, ◌<◌, ◌^◌, arith, Bool, true, false, cond, not, List, [], length, Some, None, Ok, refl, sym, ap, ◌∙◌}
use Rattle.std.specs.Prelude.{if◌then◌else◌}
use Rattle.std.specs.Option.{option_map_or}
use Rattle.std.specs.Ordering.{eq_by_cmp}
use Rattle.std.specs.Cmp.{Equal-is}
use Rattle.std.specs.FinMap.{get, insert, remove, contains_key, get-insert, get-remove, get_tied, same_map}
use Rattle.std.proofs.lemmas.Bool.{not-true, not-false}
use Rattle.spec_lib.specs.Texts.{Text}
use Rattle.blob_digest.specs.Keys.{Link, link_cmp}
use Rattle.blob_digest.specs.declared.refusal.Refusal.TheVariants.{DigestInvalid}
use Rattle.blob_digest.proofs.KeyOrders.{link_cmp_total, exact_link}
use Rattle.slot_table.specs.declared.phase.Phase.TheVariants as phase
use Rattle.slot_table.specs.Slots.{Slot, StoredBlob, slot_of, stored_blob_at, links_at, phase_at, with_slot, fill, on_stored_blob, link_up, mark}
use Rattle.link_table.specs.Linked.{Linked, link, unlink}
use Rattle.store_model.specs.Commands.{fits_content}
use Rattle.store_model.proofs.Commands.Fits.{fits_long, fits_same}
use Rattle.store_book.specs.Internal.Storing.{with_renewed_slot, with_revived_slot, bytes_at, renew, CanStore, IsStored, CannotStore, HasNoOtherContent, is_existing, is_added, differs}
use Rattle.store_book.proofs.Slots.Writes.{phase_live, stored_blob_at-on, with_slot-alike}
use Rattle.slot_table.proofs.Finding.{held_of}
use Rattle.spec_lib.proofs.Options.{no_value, some_same, some_value}
use Rattle.spec_lib.proofs.Sums.{insert_back}

-- the result of a link, and the links after it
module _ (l l' : Linked) (repo digest : Text) (n : ℕ) (b : Bool) (made : link l repo digest n ≡ Ok (b, l')) where
  pub link_new : not (contains_key l.links (repo, digest)) ≡ b
  link_new = let p : ◌≡◌ {A = Bool × Linked} (not (contains_key l.links (repo, digest)), record l { links = insert l.links (repo, digest) n }) (b, l') = cc in λ i. (p i).0

  pub link_left : record l { links = insert l.links (repo, digest) n } ≡ l'
  link_left = let p : ◌≡◌ {A = Bool × Linked} (not (contains_key l.links (repo, digest)), record l { links = insert l.links (repo, digest) n }) (b, l') = cc in λ i. (p i).1

  -- a new link can be removed again
  absent_at : (q : Link) (t : Bool) → eq_by_cmp link_cmp q (repo, digest) ≡ t → get l.links (repo, digest) ≡ None → cond t None (cond t (Some n) (get l.links q)) ≡ get l.links q
  absent_at q true tie none = sym (sym (get_tied link_cmp_total l.links q (repo, digest) ((Equal-is (link_cmp q (repo, digest))).0 tie)) ∙ none)
  absent_at q false tie none = refl

  pub unlink-link : get l.links (repo, digest) ≡ None → unlink l' repo digest ≡ l
  unlink-link none =
      let back : remove (insert l.links (repo, digest) n) (repo, digest) ≡ l.links =
      same_map link_cmp_total exact_link (remove (insert l.links (repo, digest) n) (repo, digest)) l.links (λ q.
      get-remove link_cmp_total (insert l.links (repo, digest) n) (repo, digest) q
      ∙ ap (cond (eq_by_cmp link_cmp q (repo, digest)) None) (get-insert link_cmp_total l.links (repo, digest) n q)
      ∙ absent_at q (eq_by_cmp link_cmp q (repo, digest)) refl none) in
      ap (λ (x : Linked). unlink x repo digest) (sym link_left) ∙ (λ i. record l { links = back i })

-- a link is removed again if it is new
pub link_undone : (l l' : Linked) (repo digest : Text) (n : ℕ) (b : Bool) → link l repo digest n ≡ Ok (b, l') → ((m : ℕ) → get l.links (repo, digest) ≡ Some m → m ≡ n) → (if b then unlink l' repo digest else l') ≡ l
link_undone l l' repo digest n true made sizes = unlink-link l l' repo digest n true made (no_value (get l.links (repo, digest)) (not-true _ (link_new l l' repo digest n true made)))
link_undone l l' repo digest n false made sizes =
    let there = some_value (get l.links (repo, digest)) (not-false _ (link_new l l' repo digest n false made)) in
    sym (link_left l l' repo digest n false made) ∙ (λ i. record l { links = insert_back link_cmp_total exact_link l.links (repo, digest) n (there.1 ∙ ap Some (sizes there.0 there.1)) i })

module _ (slots : List Slot) (k : ℕ) (blob : Text × Text) (found : slot_of slots blob.0 ≡ Some k) where
  -- the blob that the slot holds
  abbrev holding : (h : StoredBlob) × (stored_blob_at slots k ≡ Some h) × (h.digest ≡ blob.0)
  holding = held_of slots blob.0 k found

  content_there : bytes_at slots k ≡ holding.0.bytes
  content_there = ap (λ o. option_map_or (λ (x : StoredBlob). x.bytes) o []) holding.1

  -- a slot with another content
  pub differs_by_test : (on_disk : Bool) (l : Linked) (t : ℕ) → fits_content on_disk (bytes_at slots k) blob.1 ≡ false → CannotStore on_disk l slots t blob DigestInvalid
  differs_by_test on_disk l t other = differs k holding.0 found holding.1 (ap (λ (x : Text). fits_content on_disk x blob.1) (sym content_there) ∙ other) refl

  pub no_other_content : (on_disk : Bool) → fits_content on_disk (bytes_at slots k) blob.1 ≡ true → HasNoOtherContent on_disk slots blob
  no_other_content on_disk fits j x at stored =
      let same : j ≡ k = some_same (sym at ∙ found) in
      ap (λ (y : StoredBlob). fits_content on_disk y.bytes blob.1) (some_same (sym stored ∙ ap (stored_blob_at slots) same ∙ holding.1)) ∙ ap (λ (x : Text). fits_content on_disk x blob.1) (sym content_there) ∙ fits

-- a blob that fits the content of its slot
module _ (on_disk : Bool) (slots : List Slot) (k : ℕ) (blob : Text × Text) (found : slot_of slots blob.0 ≡ Some k) (fits : fits_content on_disk (bytes_at slots k) blob.1 ≡ true) where
  abbrev there : (h : StoredBlob) × (stored_blob_at slots k ≡ Some h) × (h.digest ≡ blob.0)
  there = held_of slots blob.0 k found

  fits_there : fits_content on_disk there.0.bytes blob.1 ≡ true
  fits_there = ap (λ (x : Text). fits_content on_disk x blob.1) (sym (content_there slots k blob found)) ∙ fits

  renewed_holds : stored_blob_at (with_renewed_slot slots k blob.1) k ≡ Some (renew blob.1 there.0)
  renewed_holds = stored_blob_at-on (renew blob.1) slots k there.0 there.1

  pub again_size : (l : Linked) (t : ℕ) (repo : Text) → CanStore l slots t repo blob → (r : Text) (m : ℕ) → get l.links (r, blob.0) ≡ Some m → m ≡ length blob.1
  again_size l t repo can r m at = can.sizes k there.0 r m there.1 (ap (λ (d : Text). get l.links (r, d)) there.2 ∙ at) ∙ fits_long on_disk there.0.bytes blob.1 fits_there

  pub renewed_live : phase_at (with_renewed_slot slots k blob.1) k ≡ phase.Live
  renewed_live = phase_live (with_renewed_slot slots k blob.1) k (renew blob.1 there.0) renewed_holds refl

  pub renewed_room : (l : Linked) (t : ℕ) (repo : Text) → CanStore l slots t repo blob → links_at (with_renewed_slot slots k blob.1) k + 1 < 2 ^ 32
  renewed_room l t repo can =
      let links : links_at (with_renewed_slot slots k blob.1) k ≡ there.0.links = ap (λ o. option_map_or (λ (h : StoredBlob). h.links) o 0) renewed_holds in
      let few = can.counts k there.0 there.1 in
      omega arith

  pub kept_new : (l l' : Linked) (slots' : List Slot) (repo : Text) → link l repo blob.0 (length blob.1) ≡ Ok (true, l') → slots' ≡ with_slot (with_renewed_slot slots k blob.1) k (on_stored_blob link_up) → IsStored on_disk l slots repo blob l' slots'
  kept_new l l' slots' repo made linked_up =
      let new = not-true _ (link_new l l' repo blob.0 (length blob.1) true made) in
      is_existing k there.0 found there.1 fits_there (sym (link_left l l' repo blob.0 (length blob.1) true made)) (linked_up ∙ ap (λ b. if b then with_renewed_slot slots k blob.1 else with_slot (with_renewed_slot slots k blob.1) k (on_stored_blob link_up)) (sym new))

  pub kept_old : (l l' : Linked) (slots' : List Slot) (repo : Text) → link l repo blob.0 (length blob.1) ≡ Ok (false, l') → slots' ≡ with_renewed_slot slots k blob.1 → IsStored on_disk l slots repo blob l' slots'
  kept_old l l' slots' repo made same =
      let old = not-false _ (link_new l l' repo blob.0 (length blob.1) false made) in
      is_existing k there.0 found there.1 fits_there (sym (link_left l l' repo blob.0 (length blob.1) false made)) (same ∙ ap (λ b. if b then with_renewed_slot slots k blob.1 else with_slot (with_renewed_slot slots k blob.1) k (on_stored_blob link_up)) (sym old))

module _ (slots : List Slot) (k : ℕ) (digest : Text) (found : slot_of slots digest ≡ Some k) where
  abbrev blob_there : Text × Text
  blob_there = (digest, bytes_at slots k)

  pub bytes_there : bytes_at slots k ≡ (held_of slots digest k found).0.bytes
  bytes_there = ap (λ o. option_map_or (λ (x : StoredBlob). x.bytes) o []) (held_of slots digest k found).1

  -- the size of a link to the blob of a slot
  pub size_there : (l : Linked) (t : ℕ) (repo : Text) → CanStore l slots t repo blob_there → (r : Text) (m : ℕ) → get l.links (r, digest) ≡ Some m → m ≡ length (bytes_at slots k)
  size_there l t repo can r m at =
      let h = held_of slots digest k found in
      can.sizes k h.0 r m h.1 (ap (λ (d : Text). get l.links (r, d)) h.2 ∙ at) ∙ ap length (sym bytes_there)

  -- the slot with its own content is that with its blob live
  same_content : with_renewed_slot slots k (bytes_at slots k) ≡ with_revived_slot slots k
  same_content = with_slot-alike slots k (renew (bytes_at slots k)) (mark false) (held_of slots digest k found).0 (held_of slots digest k found).1 (λ i. mark false (record (held_of slots digest k found).0 { bytes = bytes_there i }))

  pub again_new : (on_disk : Bool) (l l' : Linked) (slots' : List Slot) (repo : Text) → link l repo digest (length (bytes_at slots k)) ≡ Ok (true, l') → slots' ≡ with_slot (with_revived_slot slots k) k (on_stored_blob link_up) → IsStored on_disk l slots repo blob_there l' slots'
  again_new on_disk l l' slots' repo made linked_up =
      let h = held_of slots digest k found in
      let new = not-true _ (link_new l l' repo digest (length (bytes_at slots k)) true made) in
      is_existing k h.0 found h.1 (fits_same on_disk h.0.bytes (bytes_at slots k) (sym bytes_there)) (sym (link_left l l' repo digest (length (bytes_at slots k)) true made))
      (linked_up ∙ ap (λ xs. with_slot xs k (on_stored_blob link_up)) (sym same_content) ∙ ap (λ b. if b then with_renewed_slot slots k (bytes_at slots k) else with_slot (with_renewed_slot slots k (bytes_at slots k)) k (on_stored_blob link_up)) (sym new))

  pub again_old : (on_disk : Bool) (l l' : Linked) (repo : Text) → link l repo digest (length (bytes_at slots k)) ≡ Ok (false, l') → IsStored on_disk l slots repo blob_there l' (with_revived_slot slots k)
  again_old on_disk l l' repo made =
      let h = held_of slots digest k found in
      let old = not-false _ (link_new l l' repo digest (length (bytes_at slots k)) false made) in
      is_existing k h.0 found h.1 (fits_same on_disk h.0.bytes (bytes_at slots k) (sym bytes_there)) (sym (link_left l l' repo digest (length (bytes_at slots k)) false made))
      (sym same_content ∙ ap (λ b. if b then with_renewed_slot slots k (bytes_at slots k) else with_slot (with_renewed_slot slots k (bytes_at slots k)) k (on_stored_blob link_up)) (sym old))

pub kept_anew : (on_disk : Bool) (l l' : Linked) (slots slots1 slots' : List Slot) (repo : Text) (blob : Text × Text) (k : ℕ) (b : Bool) → slot_of slots blob.0 ≡ None → phase_at slots k ≡ phase.Free → link l repo blob.0 (length blob.1) ≡ Ok (b, l') →
    slots1 ≡ with_slot slots k (fill blob) → slots' ≡ with_slot slots1 k (on_stored_blob link_up) → IsStored on_disk l slots repo blob l' slots'
kept_anew on_disk l l' slots slots1 slots' repo blob k b none free made filled linked_up =
    is_added k none free (sym (link_left l l' repo blob.0 (length blob.1) b made)) (linked_up ∙ ap (λ xs. with_slot xs k (on_stored_blob link_up)) filled)
