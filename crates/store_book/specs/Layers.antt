-- The catalog of a book, from its layers, and the facts that tie the layers together.
use Rattle.std.specs.Prelude.{◌≡◌, ℕ, ◌<◌, Bool, false, Some, List, [], ◌∷◌, length, map, count_by, slice_index}
use Rattle.std.specs.Option.{option_map_or}
use Rattle.std.specs.FinMap as fmap
use Rattle.spec_lib.specs.Sets as set
use Rattle.slot_table.specs.Slots.{Slot, StoredBlob, SlotContent, Free, Used, Retired, is_retired, stored_blob_at, stored_blob_in, IsDistinct}
use Rattle.link_table.specs.Linked.{Linked, used_in}
use Rattle.upload_table.specs.Uploaded.{Uploaded}
use Rattle.store_book.specs.BookState.{BookState}
use Rattle.store_book.specs.Pinned.{Pinned, slot_views_of}
use Rattle.spec_lib.specs.Texts.{Text, text_cmp}
use Rattle.store_model.specs.Catalog.{Link, Resident, Catalog, link_cmp, session_charges_of, link_count, used_bytes, ContentRules}
use Rattle.store_model.specs.Invariant.{Sound}

-- the set of links, without their sizes
abbrev pub links_of : fmap.FinMap link_cmp ℕ → set.Set link_cmp
links_of links = set.from_list (fmap.keys links)

-- the stored blob of a used slot
abbrev pub resident_of : Bool → StoredBlob → Resident
resident_of lent h = record { bytes = h.bytes; condemned = h.condemned; lent = lent }

-- the list with the blob of this slot, if it has one
abbrev pub with_resident : SlotContent → Bool → List (Text × Resident) → List (Text × Resident)
with_resident Free lent rest = rest
with_resident (Used h) lent rest = (h.digest, resident_of lent h) ∷ rest
with_resident Retired lent rest = rest

-- the blobs of the used slots, with these ever-leased marks
abbrev pub resident_rows : List Slot → List Bool → List (Text × Resident)
resident_rows [] marks = []
resident_rows (s ∷ slots) [] = []
resident_rows (s ∷ slots) (m ∷ marks) = with_resident s.content m (resident_rows slots marks)

-- the stored blobs by digest
abbrev pub residents_of : List Slot → List Bool → fmap.FinMap text_cmp Resident
residents_of slots lent = fmap.from_entries (resident_rows slots lent)

-- whether a slot holds a blob that was leased since it was stored
abbrev pub is_lent : Slot → Bool
is_lent s = option_map_or (λ h. h.lent) (stored_blob_in s.content) false

-- the ever-leased mark of each slot
abbrev pub lent_marks : List Slot → List Bool
lent_marks slots = map is_lent slots

-- The layers of a book as their contracts show them, with the rules of contents.
pub record Layers : Type 0 where
  pub links : Linked
  pub uploads : Uploaded
  pub slots : List Slot
  pub contents : ContentRules

-- the catalog of these layers with these ever-leased marks
abbrev pub catalog_from : Layers → List Bool → Catalog
catalog_from L lent = record {
  tenants = L.links.tenants;
  slots = length L.slots;
  contents = L.contents;
  repos = L.links.repos;
  links = links_of L.links.links;
  manifests = L.links.manifests;
  sessions = L.uploads.sessions;
  next = L.uploads.next;
  residents = residents_of L.slots lent;
  retired = count_by is_retired L.slots;
}

-- the catalog of these layers
abbrev pub book_catalog : Layers → Catalog
book_catalog L = catalog_from L (lent_marks L.slots)

-- the state with this catalog, and with the table and the view of these slots
abbrev pub book_state : Catalog → Pinned → BookState
book_state C pinned = record { catalog = C; table = pinned.table; slots = slot_views_of pinned }

-- The layers of a book agree with each other and with its catalog.
pub record IsTied (l : Linked) (slots : List Slot) (lent : List Bool) (C : Catalog) : Type 0 where
  -- one mark for each slot
  pub marks : length lent ≡ length slots
  -- no digest has two slots
  pub distinct : IsDistinct slots
  -- the size of a link is the length of the resident blob
  pub sizes : (k : Link) (n : ℕ) → fmap.get l.links k ≡ Some n → (b : Resident) × (fmap.get C.residents k.1 ≡ Some b) × (n ≡ length b.bytes)
  -- the links of a slot are as many as the repositories that contain its digest
  pub counts : (k : ℕ) (h : StoredBlob) → stored_blob_at slots k ≡ Some h → h.links ≡ link_count C h.digest

-- each tenant is charged the bytes that its sessions have received and reserved
pub record AreCharges (l : Linked) (C : Catalog) : Type 0 where
  pub one_each : length l.charges ≡ length l.tenants
  pub sums : (t : ℕ) → t < length l.tenants → slice_index l.charges t ≡ session_charges_of C t

-- the catalog is sound, and the layers agree
pub record IsBook (L : Layers) : Type 0 where
  pub sound : Sound (book_catalog L)
  pub tied : IsTied L.links L.slots (lent_marks L.slots) (book_catalog L)
  pub charges : AreCharges L.links (book_catalog L)

-- in every book, the use that the layers keep of a tenant is the one that the catalog defines
abbrev pub UsesMatchCatalog : Type 0
UsesMatchCatalog = (L : Layers) → IsBook L → (t : ℕ) → t < length L.links.tenants → used_in L.links t ≡ used_bytes (book_catalog L) t
