-- The slots and the keeper's rows agree after each call, and the view of the slots.
use Rattle.std.proofs.Common.{◌≡◌, ℕ, ◌+◌, ◌≤◌, ◌⊎◌, Bool, true, false, cond, List, [], ◌∷◌, length, map, get_or, Option, Some, None, refl, sym, ap, ◌∙◌, subst, arith, inl, inr}
use Prim.Native.Nat.{zero, suc}
use Rattle.std.specs.Prelude.{slice_get, slice_index, slice_set, replicate, ◌≢◌, nat_le, ◌&&◌, Result, Ok, Err, if◌then◌else◌}
use Rattle.std.specs.Option.{option_map, option_map_or}
use Rattle.std.proofs.lemmas.Bool.{cases_eq}
use Rattle.std.proofs.lemmas.List.{get_or-set_other, get_or-set_same, length-map, length-replicate}
use Rattle.std.proofs.lemmas.Option.{slice_get_within}
use Rattle.std.proofs.Math.ListN.{length-set}
use Rattle.blob_digest.specs.Slots.{greatest_slots}
use Rattle.spec_lib.proofs.Lists.{there_at}
use Rattle.pin_core.specs.declared.world.Phase.TheVariants as pin
use Rattle.pin_core.specs.declared.world.PinRow.{PinRow}
use Rattle.pin_core.specs.Events.{IsNew, given_row, in_phase}
use Rattle.pin_core.specs.World.{row, no_row}
use Rattle.pin_table.specs.Rule.{with_added}
use Rattle.slot_table.specs.declared.phase.Phase.TheVariants as phase
use Rattle.slot_table.specs.Slots.{initial_slots, Slot, StoredBlob, SlotContent, Free, Used, Retired, stored_blob_in, stored_blob_at, phase_in, phase_at, slot_of, with_slot, on_stored_blob, content_with, fill, mark, link_up, link_down, lend, with_content, empty_slot}
use Rattle.blob_digest.specs.declared.refusal.Refusal.{Refusal}
use Rattle.blob_digest.specs.declared.refusal.Refusal.TheVariants.{LimitReached}
use Rattle.store_book.specs.BookState.{SlotView}
use Rattle.spec_lib.specs.Texts.{Text}
use Rattle.store_book.specs.Internal.Storing.{with_revived_slot}
use Rattle.store_book.specs.Pinned.{Pinned, IsPinned, row_of, slot_view, slot_views, with_slot_and_bound, with_changed_slot, KeepsGenerations}
use Rattle.store_book.specs.SlotSteps.{EachSlot, KeepsGeneration}
use Rattle.spec_lib.proofs.Options.{some_same}
use Rattle.store_book.proofs.Slots.Placed.{free_slot}
use Rattle.store_book.proofs.Slots.Writes.{with_slot-suc, length-with_slot, slot-same, slot-other, map-with_slot, stored_blob_at-same, stored_blob_at-other}
use Rattle.slot_table.proofs.Finding.{not_held}

-- ---- lists

get-map : {A B : Type 0} (f : A → B) (xs : List A) (k : ℕ) (x : A) (d : B) → slice_get xs k ≡ Some x → get_or (map f xs) k d ≡ f x
get-map f [] k x d at = cc
get-map f (y ∷ xs) zero x d at = ap f (some_same at)
get-map f (y ∷ xs) (suc k) x d at = get-map f xs k x d at

-- ---- rows

pub row-at : (slots : List Slot) (k : ℕ) (s : Slot) → slice_get slots k ≡ Some s → row (map row_of slots) k ≡ row_of s
row-at slots k s at = get-map row_of slots k s no_row at

-- the rows after a change of one slot
pub rows-write : (slots : List Slot) (k : ℕ) (f : Slot → Slot) (s : Slot) → slice_get slots k ≡ Some s → slice_set (map row_of slots) k (row_of (f s)) ≡ map row_of (with_slot slots k f)
rows-write [] k f s at = cc
rows-write (x ∷ slots) zero f s at = ap (λ (y : Slot). row_of (f y) ∷ map row_of slots) (sym (some_same at))
rows-write (x ∷ slots) (suc k) f s at = ap (λ rs. row_of x ∷ rs) (rows-write slots k f s at) ∙ sym (ap (map row_of) (with_slot-suc x slots k f))

-- ---- the view of the slots

pub slot_views-with_slot : (slots : List Slot) (k : ℕ) (f : Slot → Slot) (bounds : List ℕ) → ((s : Slot) (b : ℕ) → slot_view (f s) b ≡ slot_view s b) → slot_views (with_slot slots k f) bounds ≡ slot_views slots bounds
slot_views-with_slot [] k f bounds same = refl
slot_views-with_slot (s ∷ slots) zero f [] same = ap (λ x. x ∷ slot_views slots []) (same s 0)
slot_views-with_slot (s ∷ slots) zero f (b ∷ bounds) same = ap (λ x. x ∷ slot_views slots bounds) (same s b)
slot_views-with_slot (s ∷ slots) (suc k) f [] same = ap (λ xs. slot_views xs []) (with_slot-suc s slots k f) ∙ ap (λ xs. slot_view s 0 ∷ xs) (slot_views-with_slot slots k f [] same)
slot_views-with_slot (s ∷ slots) (suc k) f (b ∷ bounds) same = ap (λ xs. slot_views xs (b ∷ bounds)) (with_slot-suc s slots k f) ∙ ap (λ xs. slot_view s b ∷ xs) (slot_views-with_slot slots k f bounds same)

pub link_up-slot_view : (s : Slot) (b : ℕ) → slot_view (on_stored_blob link_up s) b ≡ slot_view s b
link_up-slot_view s b = by_content s.content
  where
    by_content : (c : SlotContent) → slot_view (record { generation = s.generation; content = content_with link_up c }) b ≡ slot_view (record { generation = s.generation; content = c }) b
    by_content Free = refl
    by_content (Used h) = refl
    by_content Retired = refl

pub link_down-slot_view : (s : Slot) (b : ℕ) → slot_view (on_stored_blob link_down s) b ≡ slot_view s b
link_down-slot_view s b = by_content s.content
  where
    by_content : (c : SlotContent) → slot_view (record { generation = s.generation; content = content_with link_down c }) b ≡ slot_view (record { generation = s.generation; content = c }) b
    by_content Free = refl
    by_content (Used h) = refl
    by_content Retired = refl

pub length-slot_views : (slots : List Slot) (bounds : List ℕ) → length (slot_views slots bounds) ≡ length slots
length-slot_views [] bounds = refl
length-slot_views (s ∷ slots) [] = ap suc (length-slot_views slots [])
length-slot_views (s ∷ slots) (b ∷ bounds) = ap suc (length-slot_views slots bounds)

-- the view of the slot k
pub slot_view-at : (slots : List Slot) (bounds : List ℕ) (k : ℕ) (a : SlotView) → slice_get (slot_views slots bounds) k ≡ Some a → (s : Slot) × (slice_get slots k ≡ Some s) × (a ≡ slot_view s (slice_index bounds k))
slot_view-at [] bounds k a at = absurd cc
slot_view-at (s ∷ slots) [] zero a at = (s, refl, sym (some_same at))
slot_view-at (s ∷ slots) [] (suc k) a at = slot_view-at slots [] k a at
slot_view-at (s ∷ slots) (b ∷ bounds) zero a at = (s, refl, sym (some_same at))
slot_view-at (s ∷ slots) (b ∷ bounds) (suc k) a at = slot_view-at slots bounds k a at

-- generations are unchanged, and no bound rises
pub EachSlot-quiet : (slots slots' : List Slot) (bounds bounds' : List ℕ) → length slots' ≡ length slots →
    ((k : ℕ) (s s' : Slot) → slice_get slots k ≡ Some s → slice_get slots' k ≡ Some s' → s'.generation ≡ s.generation) →
    ((k : ℕ) → slice_index bounds' k ≤ slice_index bounds k) → EachSlot KeepsGeneration (slot_views slots bounds) (slot_views slots' bounds')
EachSlot-quiet slots slots' bounds bounds' long same less = (
  length-slot_views slots' bounds' ∙ long ∙ sym (length-slot_views slots bounds),
  λ k a b at_a at_b.
      let p = slot_view-at slots bounds k a at_a in
      let q = slot_view-at slots' bounds' k b at_b in (
        ap (λ (x : SlotView). x.generation) q.2 ∙ same k p.0 q.0 p.1 q.1 ∙ sym (ap (λ (x : SlotView). x.generation) p.2),
        rw (p.2, q.2) (less k),
      ),
)

pub le-self : (n : ℕ) → n ≤ n
le-self n = omega arith

generation-with_slot : (slots : List Slot) (k : ℕ) (f : Slot → Slot) → ((s : Slot) → (f s).generation ≡ s.generation) → (j : ℕ) (s s' : Slot) → slice_get slots j ≡ Some s → slice_get (with_slot slots k f) j ≡ Some s' → s'.generation ≡ s.generation
generation-with_slot slots k f same j s s' at at' = elim (cases_eq j k) [
  | inl e ↦
      let now : slice_get (with_slot slots k f) k ≡ Some (f s) = slot-same slots k f s (ap (slice_get slots) (sym e) ∙ at) in
      let is : f s ≡ s' = some_same (sym now ∙ ap (slice_get (with_slot slots k f)) (sym e) ∙ at') in
      ap (λ (x : Slot). x.generation) (sym is) ∙ same s
  | inr other ↦
      let is : s ≡ s' = some_same (sym at ∙ sym (slot-other slots k f j other) ∙ at') in
      ap (λ (x : Slot). x.generation) (sym is)
]

pub index-lowered : (xs : List ℕ) (k j : ℕ) → slice_index (slice_set xs k 0) j ≤ slice_index xs j
index-lowered [] k j = omega arith
index-lowered (x ∷ xs) zero zero = omega arith
index-lowered (x ∷ xs) zero (suc j) = le-self (slice_index xs j)
index-lowered (x ∷ xs) (suc k) zero = le-self x
index-lowered (x ∷ xs) (suc k) (suc j) = index-lowered xs k j

pub KeepsGenerations-same : (p : Pinned) → KeepsGenerations p p
KeepsGenerations-same p = record { table = refl; slots = EachSlot-quiet p.slots p.slots p.bounds p.bounds refl (λ k s s' at at'. ap (λ (x : Slot). x.generation) (some_same (sym at' ∙ at))) (λ k. le-self (slice_index p.bounds k)) }

-- a change of one slot that keeps its generation
pub KeepsGenerations-with_changed_slot : (p q r : Pinned) (k : ℕ) (f : Slot → Slot) → ((s : Slot) → (f s).generation ≡ s.generation) → KeepsGenerations p q → r ≡ with_changed_slot k f q → KeepsGenerations p r
KeepsGenerations-with_changed_slot p q r k f same quiet is = subst (λ x. KeepsGenerations p x) (sym is) (record {
  table = quiet.table;
  slots = (
    length-slot_views (with_slot q.slots k f) q.bounds ∙ length-with_slot q.slots k f ∙ sym (length-slot_views q.slots q.bounds) ∙ quiet.slots.0,
    λ j a b at_a at_b.
        let now = slot_view-at (with_slot q.slots k f) q.bounds j b at_b in
        let old = there_at (slot_views q.slots q.bounds) j (let lt = slice_get_within (with_slot q.slots k f) j now.0 now.1 in let long = length-with_slot q.slots k f in let longer = length-slot_views q.slots q.bounds in omega arith) in
        let was = slot_view-at q.slots q.bounds j old.0 old.1 in
        let before = quiet.slots.1 j a old.0 at_a old.1 in (
          ap (λ (x : SlotView). x.generation) now.2 ∙ generation-with_slot q.slots k f same j was.0 now.0 was.1 now.1 ∙ sym (ap (λ (x : SlotView). x.generation) was.2) ∙ before.0,
          rw now.2 (let e = ap (λ (x : SlotView). x.bound) was.2 in let le = before.1 in omega arith),
        ),
  );
})

-- a slot that is filled
pub KeepsGenerations-placed : (p q : Pinned) (k : ℕ) (blob : Text × Text) → q ≡ with_slot_and_bound k (fill blob) 0 p → KeepsGenerations p q
KeepsGenerations-placed p q k blob is = subst (λ x. KeepsGenerations p x) (sym is) (record {
  table = refl;
  slots = EachSlot-quiet p.slots (with_slot p.slots k (fill blob)) p.bounds (slice_set p.bounds k 0) (length-with_slot p.slots k (fill blob)) (generation-with_slot p.slots k (fill blob) (λ s. refl)) (index-lowered p.bounds k);
})

-- ---- the slots and the rows agree

-- the blob before the change
pub origin-on : (g : StoredBlob → StoredBlob) (slots : List Slot) (k j : ℕ) (x : StoredBlob) → stored_blob_at (with_slot slots k (on_stored_blob g)) j ≡ Some x → (y : StoredBlob) × (stored_blob_at slots j ≡ Some y) × ((x ≡ y) ⊎ ((j ≡ k) × (x ≡ g y)))
origin-on g slots k j x here = elim (cases_eq j k) [
  | inl e ↦ at_k (slice_get slots k) refl e
  | inr other ↦ (x, sym (stored_blob_at-other slots k (on_stored_blob g) j other) ∙ here, inl refl)
]
  where
    at_k : (o : Option Slot) → slice_get slots k ≡ o → j ≡ k → (y : StoredBlob) × (stored_blob_at slots j ≡ Some y) × ((x ≡ y) ⊎ ((j ≡ k) × (x ≡ g y)))
    at_k None none e =
        let same : with_slot slots k (on_stored_blob g) ≡ slots = ap (λ o. option_map_or (λ s. slice_set slots k (on_stored_blob g s)) o slots) none in
        (x, ap (λ xs. stored_blob_at xs j) (sym same) ∙ here, inl refl)
    at_k (Some s) at e =
        let now : stored_blob_in (content_with g s.content) ≡ Some x = sym (stored_blob_at-same slots k (on_stored_blob g) s at) ∙ ap (stored_blob_at (with_slot slots k (on_stored_blob g))) (sym e) ∙ here in
        let c = by_content s.content now in
        (c.0, ap (stored_blob_at slots) e ∙ ap (λ o. option_map_or (λ (z : Slot). stored_blob_in z.content) o None) at ∙ c.1, inr (e, c.2))
      where
        by_content : (c : SlotContent) → stored_blob_in (content_with g c) ≡ Some x → (y : StoredBlob) × (stored_blob_in c ≡ Some y) × (x ≡ g y)
        by_content Free e = absurd cc
        by_content (Used y) e = (y, refl, sym (some_same e))
        by_content Retired e = absurd cc

-- a change that keeps each row and each mark
pub IsPinned-kept : (g : StoredBlob → StoredBlob) → ((s : Slot) → row_of (on_stored_blob g s) ≡ row_of s) → ((h : StoredBlob) → (g h).lent ≡ h.lent) → (slots : List Slot) (k : ℕ) (rows : List PinRow) (bounds : List ℕ) → IsPinned slots rows bounds → IsPinned (with_slot slots k (on_stored_blob g)) rows bounds
IsPinned-kept g same mark_kept slots k rows bounds kept = record {
  same_rows = kept.same_rows ∙ sym (map-with_slot row_of slots k (on_stored_blob g) (λ s at. same s));
  one_each = kept.one_each ∙ sym (length-with_slot slots k (on_stored_blob g));
  unlent = λ j x here unlent. (let o = origin-on g slots k j x here in kept.unlent j o.0 o.1 (by_origin j x o.0 o.2 unlent));
}
  where
    by_origin : (j : ℕ) (x y : StoredBlob) → (x ≡ y) ⊎ ((j ≡ k) × (x ≡ g y)) → x.lent ≡ false → y.lent ≡ false
    by_origin j x y (inl e) unlent = ap (λ (h : StoredBlob). h.lent) (sym e) ∙ unlent
    by_origin j x y (inr e) unlent = sym (mark_kept y) ∙ ap (λ (h : StoredBlob). h.lent) (sym e.1) ∙ unlent

pub link_up-row : (s : Slot) → row_of (on_stored_blob link_up s) ≡ row_of s
link_up-row s = by_content s.content
  where
    by_content : (c : SlotContent) → row_of (record { generation = s.generation; content = content_with link_up c }) ≡ row_of (record { generation = s.generation; content = c })
    by_content Free = refl
    by_content (Used h) = refl
    by_content Retired = refl

pub with_content-row : (content : Text) (s : Slot) → row_of (on_stored_blob (with_content content) s) ≡ row_of s
with_content-row content s = by_content s.content
  where
    by_content : (c : SlotContent) → row_of (record { generation = s.generation; content = content_with (with_content content) c }) ≡ row_of (record { generation = s.generation; content = c })
    by_content Free = refl
    by_content (Used h) = refl
    by_content Retired = refl

pub link_down-row : (s : Slot) → row_of (on_stored_blob link_down s) ≡ row_of s
link_down-row s = by_content s.content
  where
    by_content : (c : SlotContent) → row_of (record { generation = s.generation; content = content_with link_down c }) ≡ row_of (record { generation = s.generation; content = c })
    by_content Free = refl
    by_content (Used h) = refl
    by_content Retired = refl

-- ---- placing

pub new_digest : (slots : List Slot) (rows : List PinRow) (bounds : List ℕ) → IsPinned slots rows bounds → (d : Text) → slot_of slots d ≡ None → IsNew d rows
new_digest slots rows bounds kept d none = subst (λ rs. IsNew d rs) (sym kept.same_rows) (λ k default lt used has.
    let s = there_at slots k (let long = length-map slots row_of in omega arith) in
    let is : get_or (map row_of slots) k default ≡ row_of s.0 = get-map row_of slots k s.0 default s.1 in
    held s.0 k s.1 (ap (λ (r : PinRow). r.digest) (sym is) ∙ has))
  where
    held : (s : Slot) (k : ℕ) → slice_get slots k ≡ Some s → option_map (λ (h : StoredBlob). h.digest) (stored_blob_in s.content) ≡ Some d → ⊥
    held s k at has = by (stored_blob_in s.content) refl has
      where
        by : (o : Option StoredBlob) → stored_blob_in s.content ≡ o → option_map (λ (h : StoredBlob). h.digest) o ≡ Some d → ⊥
        by None e f = absurd cc
        by (Some h) e f = not_held slots d none k h (ap (λ o. option_map_or (λ (x : Slot). stored_blob_in x.content) o None) at ∙ e) (some_same f)

pub IsPinned-placed : (slots : List Slot) (rows : List PinRow) (bounds : List ℕ) → IsPinned slots rows bounds → (k : ℕ) (blob : Text × Text) → phase_at slots k ≡ phase.Free →
    IsPinned (with_slot slots k (fill blob)) (slice_set rows k (given_row blob.0 (row rows k))) (slice_set bounds k 0)
IsPinned-placed slots rows bounds kept k blob free =
    let s = free_slot slots k free in
    record {
      same_rows =
          ap (λ rs. slice_set rs k (given_row blob.0 (row rs k))) kept.same_rows
          ∙ ap (λ (r : PinRow). slice_set (map row_of slots) k (given_row blob.0 r)) (row-at slots k s.0 s.1)
          ∙ rows-write slots k (fill blob) s.0 s.1;
      one_each = length-set bounds k 0 ∙ kept.one_each ∙ sym (length-with_slot slots k (fill blob));
      unlent = unlent;
    }
  where
    unlent : (j : ℕ) (h : StoredBlob) → stored_blob_at (with_slot slots k (fill blob)) j ≡ Some h → h.lent ≡ false → slice_index (slice_set bounds k 0) j ≡ 0
    unlent j h here mark = elim (cases_eq j k) [
      | inl e ↦
          (let s = free_slot slots k free in
          let lt = slice_get_within slots k s.0 s.1 in
          let long = kept.one_each in
          ap (slice_index (slice_set bounds k 0)) e ∙ get_or-set_same bounds k 0 0 (omega arith))
      | inr other ↦ get_or-set_other bounds k j 0 0 other ∙ kept.unlent j h (sym (stored_blob_at-other slots k (fill blob) j other) ∙ here) mark
    ]

-- ---- reviving

pub condemned_slot : (slots : List Slot) (k : ℕ) → phase_at slots k ≡ phase.Condemned → (s : Slot) × (slice_get slots k ≡ Some s) × (phase_in s.content ≡ phase.Condemned)
condemned_slot slots k is = by (slice_get slots k) refl is
  where
    by : (o : Option Slot) → slice_get slots k ≡ o → option_map_or (λ (x : Slot). phase_in x.content) o phase.Retired ≡ phase.Condemned → (s : Slot) × (slice_get slots k ≡ Some s) × (phase_in s.content ≡ phase.Condemned)
    by None e f = absurd cc
    by (Some s) e f = (s, e, f)

used_condemned : (c : SlotContent) → phase_in c ≡ phase.Condemned → (h : StoredBlob) × (c ≡ Used h) × (h.condemned ≡ true)
used_condemned Free e = absurd cc
used_condemned (Used h) e = (h, refl, is h.condemned e)
  where
    is : (b : Bool) → cond b phase.Condemned phase.Live ≡ phase.Condemned → b ≡ true
    is true e = refl
    is false e = cc
used_condemned Retired e = absurd cc

-- the blob of a slot is condemned, or live again
pub IsPinned-marked : (b : Bool) (slots : List Slot) (rows : List PinRow) (bounds : List ℕ) → IsPinned slots rows bounds → (k : ℕ) (s : Slot) (h : StoredBlob) → slice_get slots k ≡ Some s → s.content ≡ Used h →
    IsPinned (with_slot slots k (on_stored_blob (mark b))) (slice_set rows k (in_phase (cond b pin.Condemned pin.Live) (row rows k))) bounds
IsPinned-marked b slots rows bounds kept k s h at is =
    let changed : in_phase (cond b pin.Condemned pin.Live) (row_of s) ≡ row_of (on_stored_blob (mark b) s) = (λ i. record { generation = s.generation; phase = cond b pin.Condemned pin.Live; digest = option_map (λ (x : StoredBlob). x.digest) (stored_blob_in (is i)) }) ∙ (λ i. row_of (record { generation = s.generation; content = content_with (mark b) (sym is i) })) in
    record {
      same_rows =
          ap (λ rs. slice_set rs k (in_phase (cond b pin.Condemned pin.Live) (row rs k))) kept.same_rows
          ∙ ap (λ (r : PinRow). slice_set (map row_of slots) k (in_phase (cond b pin.Condemned pin.Live) r)) (row-at slots k s at)
          ∙ ap (slice_set (map row_of slots) k) changed
          ∙ rows-write slots k (on_stored_blob (mark b)) s at;
      one_each = kept.one_each ∙ sym (length-with_slot slots k (on_stored_blob (mark b)));
      unlent = λ j x here unlent. (let o = origin-on (mark b) slots k j x here in kept.unlent j o.0 o.1 (by_origin j x o.0 o.2 unlent));
    }
  where
    by_origin : (j : ℕ) (x y : StoredBlob) → (x ≡ y) ⊎ ((j ≡ k) × (x ≡ mark b y)) → x.lent ≡ false → y.lent ≡ false
    by_origin j x y (inl e) unlent = ap (λ (h : StoredBlob). h.lent) (sym e) ∙ unlent
    by_origin j x y (inr e) unlent = ap (λ (h : StoredBlob). h.lent) (sym e.1) ∙ unlent

pub IsPinned-with_revived_slot : (slots : List Slot) (rows : List PinRow) (bounds : List ℕ) → IsPinned slots rows bounds → (k : ℕ) → phase_at slots k ≡ phase.Condemned →
    IsPinned (with_revived_slot slots k) (slice_set rows k (in_phase pin.Live (row rows k))) bounds
IsPinned-with_revived_slot slots rows bounds kept k is =
    let s = condemned_slot slots k is in
    let h = used_condemned s.0.content s.2 in
    IsPinned-marked false slots rows bounds kept k s.0 h.0 s.1 h.1

-- reviving a slot that is not condemned changes nothing
pub with_revived_slot-same : (slots : List Slot) (k : ℕ) → phase_at slots k ≢ phase.Condemned → with_revived_slot slots k ≡ slots
with_revived_slot-same [] k not = refl
with_revived_slot-same (s ∷ slots) zero not = ap (λ (x : Slot). x ∷ slots) (λ i. record { generation = s.generation; content = by_content s.content not i })
  where
    by_content : (c : SlotContent) → phase_in c ≢ phase.Condemned → content_with (mark false) c ≡ c
    by_content Free e = refl
    by_content (Used x) e = at x.condemned refl e
      where
        at : (b : Bool) → x.condemned ≡ b → cond b phase.Condemned phase.Live ≢ phase.Condemned → Used (mark false x) ≡ Used x
        at true is e = absurd (e refl)
        at false is e = λ i. Used (record { digest = x.digest; bytes = x.bytes; condemned = sym is i; lent = x.lent; links = x.links })
    by_content Retired e = refl
with_revived_slot-same (s ∷ slots) (suc k) not = with_slot-suc s slots k (on_stored_blob (mark false)) ∙ ap (λ xs. s ∷ xs) (with_revived_slot-same slots k not)

-- ---- looks

-- after n was written at k, the number at k is at most n
pub index-set-most : (xs : List ℕ) (k n : ℕ) → slice_index (slice_set xs k n) k ≤ n
index-set-most [] k n = omega arith
index-set-most (x ∷ xs) zero n = omega arith
index-set-most (x ∷ xs) (suc k) n = index-set-most xs k n

-- each slot has one count of looks after a slot changed
pub one_each-kept : (slots : List Slot) (looks : List ℕ) (k : ℕ) (f : Slot → Slot) → length looks ≡ length slots → length looks ≡ length (with_slot slots k f)
one_each-kept slots looks k f each = each ∙ sym (length-with_slot slots k f)

-- the same after a look and a change
pub one_each-looked : (slots : List Slot) (looks : List ℕ) (k : ℕ) (f : Slot → Slot) → length looks ≡ length slots → length (with_added k 1 looks) ≡ length (with_slot slots k f)
one_each-looked slots looks k f each = length-set looks k (slice_index looks k + 1) ∙ one_each-kept slots looks k f each

-- ---- opening

pub IsPinned-opening : (n first : ℕ) → IsPinned (replicate n (empty_slot first)) (replicate n (record { generation = first; phase = pin.Free; digest = None })) (replicate n 0)
IsPinned-opening n first = record {
  same_rows = rows n;
  one_each = length-replicate n 0 ∙ sym (length-replicate n (empty_slot first));
  unlent = λ k h at mark. zeros n k;
}
  where
    rows : (m : ℕ) → replicate m (record { generation = first; phase = pin.Free; digest = None }) ≡ map row_of (replicate m (empty_slot first))
    rows zero = refl
    rows (suc m) = ap (λ rs. row_of (empty_slot first) ∷ rs) (rows m)

    zeros : (m k : ℕ) → slice_index (replicate m 0) k ≡ 0
    zeros zero k = refl
    zeros (suc m) zero = refl
    zeros (suc m) (suc k) = zeros m k

pub slot_view-opening : (n first : ℕ) → slot_views (replicate n (empty_slot first)) (replicate n 0) ≡ replicate n (record { generation = first; phase = phase.Free; digest = None; bound = 0; looks = 0 })
slot_view-opening zero first = refl
slot_view-opening (suc n) first = ap (λ (xs : List SlotView). slot_view (empty_slot first) 0 ∷ xs) (slot_view-opening n first)

pub opened_slots : (count first : ℕ) (slots : List Slot) → initial_slots count first ≡ Ok slots → slots ≡ replicate count (empty_slot first)
opened_slots count first slots h = by_test (nat_le 1 count && nat_le count greatest_slots) h
  where
    by_test : (b : Bool) → ◌≡◌ {A = Result (List Slot) Refusal} (if b then Ok (replicate count (empty_slot first)) else Err LimitReached) (Ok slots) → slots ≡ replicate count (empty_slot first)
    by_test true h = sym (cc h)
    by_test false h = absurd cc

-- ---- lending and looking

pub lend-row : (s : Slot) → row_of (on_stored_blob lend s) ≡ row_of s
lend-row s = by_content s.content
  where
    by_content : (c : SlotContent) → row_of (record { generation = s.generation; content = content_with lend c }) ≡ row_of (record { generation = s.generation; content = c })
    by_content Free = refl
    by_content (Used h) = refl
    by_content Retired = refl

pub IsPinned-lent : (slots : List Slot) (rows : List PinRow) (bounds : List ℕ) → IsPinned slots rows bounds → (k n : ℕ) → IsPinned (with_slot slots k (on_stored_blob lend)) rows (slice_set bounds k n)
IsPinned-lent slots rows bounds kept k n = record {
  same_rows = kept.same_rows ∙ sym (map-with_slot row_of slots k (on_stored_blob lend) (λ s at. lend-row s));
  one_each = length-set bounds k n ∙ kept.one_each ∙ sym (length-with_slot slots k (on_stored_blob lend));
  unlent = λ j x here mark. elim (cases_eq j k) [
    | inl e ↦ (lent_at j e x here mark (slice_get slots k) refl)
    | inr other ↦ get_or-set_other bounds k j n 0 other ∙ kept.unlent j x (sym (stored_blob_at-other slots k (on_stored_blob lend) j other) ∙ here) mark
  ];
}
  where
    lent_at : (j : ℕ) → j ≡ k → (x : StoredBlob) → stored_blob_at (with_slot slots k (on_stored_blob lend)) j ≡ Some x → x.lent ≡ false → (o : Option Slot) → slice_get slots k ≡ o → slice_index (slice_set bounds k n) j ≡ 0
    lent_at j e x here mark None none =
        let same : with_slot slots k (on_stored_blob lend) ≡ slots = ap (λ o. option_map_or (λ s. slice_set slots k (on_stored_blob lend s)) o slots) none in
        let gone : None ≡ Some x = sym (ap (λ o. option_map_or (λ (z : Slot). stored_blob_in z.content) o None) none) ∙ ap (stored_blob_at slots) (sym e) ∙ ap (λ xs. stored_blob_at xs j) (sym same) ∙ here in
        absurd cc
    lent_at j e x here mark (Some s) at = absurd (by_content s.content (sym (stored_blob_at-same slots k (on_stored_blob lend) s at) ∙ ap (stored_blob_at (with_slot slots k (on_stored_blob lend))) (sym e) ∙ here))
      where
        by_content : (c : SlotContent) → stored_blob_in (content_with lend c) ≡ Some x → ⊥
        by_content Free f = absurd cc
        by_content (Used y) f = let clash : true ≡ false = ap (λ (h : StoredBlob). h.lent) (some_same f) ∙ mark in cc
        by_content Retired f = absurd cc

pub index-set-le : (xs : List ℕ) (k n j : ℕ) → n ≤ slice_index xs k → slice_index (slice_set xs k n) j ≤ slice_index xs j
index-set-le [] k n j le = omega arith
index-set-le (x ∷ xs) zero n zero le = le
index-set-le (x ∷ xs) zero n (suc j) le = le-self (slice_index xs j)
index-set-le (x ∷ xs) (suc k) n zero le = le-self x
index-set-le (x ∷ xs) (suc k) n (suc j) le = index-set-le xs k n j le
