-- A new book is sound, and its layers agree.
use Rattle.std.proofs.Common.{◌≡◌, ℕ, ◌+◌, ◌<◌, ◌≤◌, Bool, true, false, cond, List, [], ◌∷◌, length, map, get_or, None, refl, sym, ap, ◌∙◌, subst, arith, ◌⊎◌, inl, inr}
use Prim.Native.Nat.{zero, suc}
use Rattle.std.specs.Prelude.{replicate, nat_le, ◌^◌}
use Rattle.std.specs.List.{count_by, sum_by}
use Rattle.std.specs.FinMap.{empty, get-empty}
use Rattle.std.specs.FinMap as fmap
use Rattle.std.proofs.lemmas.Bool.{leb-true, leb-false}
use Rattle.std.proofs.lemmas.List.{length-replicate}
use Rattle.std.proofs.lemmas.List.Elements.{recursion_from_All}
use Rattle.std.proofs.lemmas.List.Sums.{sum_by-cons}
use Rattle.blob_digest.specs.Slots.{greatest_slots}
use Rattle.spec_lib.specs.Sets as set
use Rattle.spec_lib.proofs.Rows.{entries-empty}
use Rattle.slot_table.specs.Slots.{Slot, stored_blob_at, empty_slot, is_retired}
use Rattle.link_table.specs.Linked.{Linked}
use Rattle.link_table.specs.Linked as links
use Rattle.link_table.specs.Tenancy.{AreTenants, Opens}
use Rattle.store_model.specs.Sessions.{Session, session_charge}
use Rattle.upload_table.specs.Uploaded.{Uploaded}
use Rattle.upload_table.specs.Uploaded as uploads
use Rattle.spec_lib.specs.Texts.{Text, text_cmp}
use Rattle.store_model.specs.Catalog.{Tenant, Resident, Catalog, link_cmp, session_number_cmp, opening, ContentRules}
use Rattle.store_model.specs.Invariant.{Sound}
use Rattle.atomic_table.specs.Seated.{TableId}
use Rattle.pin_core.specs.Events.{IsBeyond}
use Rattle.store_book.specs.Pinned.{Pinned, slot_views_of, with_looks}
use Rattle.store_book.proofs.Slots.Shown.{slot_views_of-opening}
use Rattle.store_book.proofs.Slots.Pinned.{slot_view-opening}
use Rattle.store_book.specs.Layers.{Layers, links_of, resident_rows, lent_marks, book_catalog, book_state, IsBook}
use Rattle.store_book.specs.Openings.{IsSized, OpensBook}
use Rattle.store_book.proofs.Slots.LeaseMarks.{length-marks}
use Rattle.store_model.proofs.Commands.Opening.{Sound-opening}
use Rattle.spec_lib.proofs.Options.{nothing}

abbrev new_slots : ℕ → ℕ → List Slot
new_slots slots first = replicate slots (empty_slot first)

no_residents : (slots first : ℕ) (marks : List Bool) → resident_rows (new_slots slots first) marks ≡ []
no_residents zero first marks = refl
no_residents (suc slots) first [] = refl
no_residents (suc slots) first (m ∷ marks) = no_residents slots first marks

none_retired : (slots first : ℕ) → count_by is_retired (new_slots slots first) ≡ 0
none_retired zero first = refl
none_retired (suc slots) first =
    let sum : count_by is_retired (new_slots (suc slots) first) ≡ 0 + count_by is_retired (new_slots slots first) = sum_by-cons (λ s. cond (is_retired s) 1 0) (empty_slot first) (new_slots slots first) in
    let rest = none_retired slots first in
    omega arith

none_held : (slots first k : ℕ) → stored_blob_at (new_slots slots first) k ≡ None
none_held zero first k = refl
none_held (suc slots) first zero = refl
none_held (suc slots) first (suc k) = none_held slots first k

ones : (tenants : List Tenant) → replicate {A = ℕ} (length tenants) 1 ≡ map {B = ℕ} (λ _. 1) tenants
ones [] = refl
ones (t ∷ tenants) = ap (λ xs. 1 ∷ xs) (ones tenants)

zeros : (n k : ℕ) → get_or {A = ℕ} (replicate {A = ℕ} n 0) k 0 ≡ 0
zeros zero k = refl
zeros (suc n) zero = refl
zeros (suc n) (suc k) = zeros n k

no_links : links_of empty ≡ set.empty_set
no_links = ap (λ (es : List ((Text × Text) × ℕ)). set.from_list {R = link_cmp} (map (λ e. e.0) es)) (entries-empty link_cmp ℕ)

zero_or : (n : ℕ) → (n ≡ 0) ⊎ (0 < n)
zero_or zero = inl refl
zero_or (suc n) = inr (omega arith)

few_or : (n : ℕ) → (n ≤ greatest_slots) ⊎ (greatest_slots < n)
few_or n = by (nat_le n greatest_slots) refl
  where
    by : (b : Bool) → nat_le n greatest_slots ≡ b → (n ≤ greatest_slots) ⊎ (greatest_slots < n)
    by true e = inl (leb-true n greatest_slots e)
    by false e = inr (leb-false n greatest_slots e)

module _ (tenants : List Tenant) (slots first : ℕ) (contents : ContentRules) where
  abbrev l : Linked
  l = links.initial_links tenants

  abbrev u : Uploaded
  u = uploads.initial_uploads (length tenants) 1

  abbrev L : Layers
  L = record { links = l; uploads = u; slots = new_slots slots first; contents = contents }

  abbrev C : Catalog
  C = book_catalog L

  pub catalog-opening : C ≡ opening tenants slots contents
  catalog-opening = λ i. record {
    tenants = tenants;
    slots = length-replicate slots (empty_slot first) i;
    contents = contents;
    repos = set.empty_set;
    links = no_links i;
    manifests = empty;
    sessions = empty;
    next = ones tenants i;
    residents = ap (λ (es : List (Text × Resident)). fmap.from_entries {R = text_cmp} es) (no_residents slots first (lent_marks (new_slots slots first))) i;
    retired = none_retired slots first i;
  }

  pub IsBook-opening : AreTenants tenants → IsSized slots contents.max_blob → IsBook L
  IsBook-opening are sized = record {
    sound = subst (λ (D : Catalog). Sound D) (sym catalog-opening) (Sound-opening tenants slots contents are.limits.some are.limits.few are.apart sized.blobs (recursion_from_All _ tenants are.limits.quotas) (recursion_from_All _ tenants are.limits.limits) sized.some sized.few);
    tied = record {
      marks = length-marks (new_slots slots first);
      distinct = λ k m g h at_k at_m same. nothing (none_held slots first k) at_k;
      sizes = λ k n found. nothing (get-empty link_cmp k) found;
      counts = λ k h at. nothing (none_held slots first k) at;
    };
    charges = record {
      one_each = length-replicate (length tenants) 0;
      sums = λ t there. zeros (length tenants) t ∙ sym (ap (λ (es : List ((ℕ × ℕ) × Session)). sum_by (session_charge t) es) (entries-empty session_number_cmp Session));
    };
  }

-- the new layers make a book
module _ (given : List Tenant) (l' : Linked) (u' : Uploaded) (p : Pinned) (t : TableId) (count first : ℕ) (contents : ContentRules) (n : ℕ) (opened : Opens given l') (small : contents.max_blob ≤ 2 ^ 40) (within : ¬ IsBeyond greatest_slots count)
    (made : p ≡ record { table = t; slots = replicate count (empty_slot first); bounds = replicate count 0; looks = replicate count 0 }) (uploads_are : u' ≡ uploads.initial_uploads n 1) (one_each : n ≡ length l'.tenants) where
  slots_are : new_slots count first ≡ p.slots
  slots_are = sym (ap (λ (x : Pinned). x.slots) made)

  sized : IsSized count contents.max_blob
  sized = record {
    some = elim (zero_or count) [ inl e ↦ absurd (within (inl e)) | inr lt ↦ lt ];
    few = elim (few_or count) [ inl le ↦ le | inr lt ↦ absurd (within (inr lt)) ];
    blobs = small;
  }

  upload_is : u l'.tenants count first contents ≡ u'
  upload_is = sym (uploads_are ∙ ap (λ m. uploads.initial_uploads m 1) one_each)

  -- the layers of a new book
  abbrev made_layers : Layers
  made_layers = record { links = l'; uploads = u'; slots = p.slots; contents = contents }

  layers_are : L l'.tenants count first contents ≡ made_layers
  layers_are = λ i. record { links = sym opened.empty i; uploads = upload_is i; slots = slots_are i; contents = contents }

  pub opened_book : IsBook made_layers
  opened_book = subst (λ (x : Layers). IsBook x) layers_are (IsBook-opening l'.tenants count first contents opened.tenants sized)

  pub opens_book : OpensBook given count contents first (book_state (book_catalog made_layers) p)
  opens_book = record {
    names = opened.names;
    limits = opened.limits;
    sized = sized;
    catalog = record {
      same = opened.same;
      rising = opened.rising;
      empty = ap book_catalog (sym layers_are) ∙ catalog-opening l'.tenants count first contents;
    };
    slots = ap slot_views_of made ∙ ap (with_looks (replicate count 0)) (slot_view-opening count first) ∙ slot_views_of-opening count _;
  }
