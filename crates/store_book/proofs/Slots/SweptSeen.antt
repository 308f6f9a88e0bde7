-- The view of the slots after a sweep.
use Rattle.std.proofs.Common.{◌≡◌, ℕ, ◌+◌, ◌<◌, ◌≤◌, Bool, true, false, cond, length, List, [], ◌∷◌, Option, Some, None, refl, sym, ap, ◌∙◌, subst, arith}
use Rattle.std.specs.Prelude.{slice_index, ◌==◌}
use Rattle.std.specs.Option.{option_map, option_map_or}
use Rattle.std.specs.List.{position_from}
use Rattle.std.proofs.lemmas.Iterator.Adapters.{position_from-zero}
use Rattle.slot_table.specs.declared.phase.Phase.TheVariants as phase
use Rattle.slot_table.specs.Slots.{Slot, StoredBlob, SlotContent, Free, Used, Retired, has_digest, slot_of, stored_blob_in, is_orphan, content_with, mark}
use Rattle.store_book.specs.BookState.{SlotView}
use Rattle.spec_lib.specs.Texts.{Text, same_text}
use Rattle.store_book.specs.Pinned.{Pinned, slot_view, slot_views, slot_views_of, with_looks}
use Rattle.store_book.specs.SlotSteps.{EachSlot, HasLastGeneration, SweepsSlot, same, condemned, freed, retired}
use Rattle.store_book.specs.SweepParts.{is_between, is_reached, place_of}
use Rattle.store_book.proofs.Refine.Sweep.{is_slot_reached}
use Rattle.store_book.specs.Internal.SweptSlots.{IsLeftBy, Sweeps, IsSweptTo}
use Rattle.store_book.specs.Internal.SweptSlots as turns
use Rattle.store_model.specs.declared.swept.Swept.{Swept}
use Rattle.store_book.proofs.Refine.Lease.{slot_view-get}
use Rattle.spec_lib.proofs.Options.{some_same}
use Rattle.store_book.proofs.Slots.Pinned.{le-self, length-slot_views, slot_view-at}
use Rattle.store_book.proofs.Slots.Reclaimed.{orphan_held}
use Rattle.store_book.proofs.Slots.Shown.{EachSlot-slot_views_of, get-with_looks, length-with_looks, swept_blind}

-- the slot with this generation and content
abbrev slot_with : ℕ → SlotContent → Slot
slot_with g c = record { generation = g; content = c }

-- an orphan that remains
seen_held : (g : ℕ) (c : SlotContent) (n m : ℕ) → option_map_or (λ (h : StoredBlob). h.links == 0) (stored_blob_in c) false ≡ true → m ≤ n → SweepsSlot (slot_view (slot_with g c) n) (slot_view (slot_with g (content_with (mark true) c)) m)
seen_held g Free n m is le = absurd cc
seen_held g (Used h) n m is le = by h.condemned refl
  where
    by : (b : Bool) → h.condemned ≡ b → SweepsSlot (slot_view (slot_with g (Used h)) n) (slot_view (slot_with g (Used (mark true h))) m)
    by true is = same (refl, sym (ap (λ b. cond b phase.Condemned phase.Live) is), refl, le)
    by false is = condemned (ap (λ b. cond b phase.Condemned phase.Live) is) (refl, refl, refl, le)
seen_held g Retired n m is le = absurd cc

-- the digest of an orphan
digest_of : (s : Slot) (n : ℕ) → is_orphan s ≡ true → (d : Text) × ((slot_view s n).digest ≡ Some d)
digest_of s n is = let h = orphan_held s.content is in (h.0.digest, ap (λ c. option_map (λ (x : StoredBlob). x.digest) (stored_blob_in c)) h.1)

seen_turned : (s t : Slot) (n m : ℕ) → IsSweptTo s n t m → SweepsSlot (slot_view s n) (slot_view t m)
seen_turned s t n m (turns.kept linked e is) = subst (λ (x : Slot). SweepsSlot (slot_view s n) (slot_view x m)) (sym e) (same (refl, refl, refl, (let le = le-self n in omega arith)))
seen_turned s t n m (turns.held is lent e le) = subst (λ (x : Slot). SweepsSlot (slot_view s n) (slot_view x m)) (sym e) (seen_held s.generation s.content n m is le)
seen_turned s t n m (turns.freed is young e zeroed) = let d = digest_of s n is in freed d.0 d.1 young (λ i. slot_view (e i) (zeroed i))
seen_turned s t n m (turns.retired is last e zeroed) = let d = digest_of s n is in retired d.0 d.1 last (λ i. slot_view (e i) (zeroed i))

seen_left : (reached : Bool) (s t : Slot) (n m : ℕ) → IsLeftBy reached s n t m → SweepsSlot (slot_view s n) (slot_view t m)
seen_left true s t n m left = seen_turned s t n m left
seen_left false s t n m left = subst (λ (x : Slot). SweepsSlot (slot_view s n) (slot_view x m)) (sym left.0) (same (refl, refl, refl, (let le = le-self n in let is = left.1 in omega arith)))

-- ---- the slot of a digest

view_has : (d : Text) (s : Slot) (n : ℕ) → option_map_or (λ e. same_text e d) (slot_view s n).digest false ≡ has_digest d s
view_has d s n = by (stored_blob_in s.content)
  where
    by : (o : Option StoredBlob) → option_map_or (λ e. same_text e d) (option_map (λ (h : StoredBlob). h.digest) o) false ≡ option_map_or (λ (h : StoredBlob). same_text h.digest d) o false
    by None = refl
    by (Some h) = refl

-- the test of a view for a digest
abbrev has_view : Text → SlotView → Bool
has_view d s = option_map_or (λ e. same_text e d) s.digest false

place_from : (d : Text) (n : ℕ) (looks : List ℕ) (slots : List Slot) (bounds : List ℕ) → position_from (has_view d) n (with_looks looks (slot_views slots bounds)) ≡ position_from (has_digest d) n slots
place_from d n looks [] bounds = refl
place_from d n [] (s ∷ slots) [] = λ i. cond (view_has d s 0 i) (Some n) (place_from d (n + 1) [] slots [] i)
place_from d n [] (s ∷ slots) (b ∷ bounds) = λ i. cond (view_has d s b i) (Some n) (place_from d (n + 1) [] slots bounds i)
place_from d n (l ∷ looks) (s ∷ slots) [] = λ i. cond (view_has d s 0 i) (Some n) (place_from d (n + 1) looks slots [] i)
place_from d n (l ∷ looks) (s ∷ slots) (b ∷ bounds) = λ i. cond (view_has d s b i) (Some n) (place_from d (n + 1) looks slots bounds i)

-- the place of a digest among the views is that of its slot
place_is : (p : Pinned) (d : Text) → place_of (slot_views_of p) d ≡ slot_of p.slots d
place_is p d = position_from-zero (has_view d) (slot_views_of p) ∙ place_from d 0 p.looks p.slots p.bounds ∙ sym (position_from-zero (has_digest d) p.slots)

pub is_reached-slots : (from to : ℕ) (p : Pinned) → is_reached from to (slot_views_of p) ≡ is_slot_reached from to p.slots
is_reached-slots from to p = λ i d. option_map_or (is_between from to) (place_is p d i) false

pub length-slot_views_of : (p : Pinned) → length (slot_views_of p) ≡ length p.slots
length-slot_views_of p = length-with_looks p.looks (slot_views p.slots p.bounds) ∙ length-slot_views p.slots p.bounds

-- ---- the view of each slot

module _ (from to : ℕ) (p q : Pinned) (swept : Swept) (sweep : Sweeps from to p q swept) where
  each_swept : EachSlot SweepsSlot (slot_views p.slots p.bounds) (slot_views q.slots q.bounds)
  each_swept = (
    length-slot_views q.slots q.bounds ∙ sweep.long ∙ sym (length-slot_views p.slots p.bounds),
    λ k a b at_a at_b.
        let s = slot_view-at p.slots p.bounds k a at_a in
        let t = slot_view-at q.slots q.bounds k b at_b in
        let e = sweep.each k s.0 s.1 in
        let is : e.0 ≡ t.0 = some_same (sym e.1 ∙ t.1) in
        subst (λ (x : SlotView). SweepsSlot x b) (sym s.2) (subst (λ (x : SlotView). SweepsSlot (slot_view s.0 (slice_index p.bounds k)) x) (sym t.2)
        (subst (λ (x : Slot). SweepsSlot (slot_view s.0 (slice_index p.bounds k)) (slot_view x (slice_index q.bounds k))) is (seen_left (is_between from to k) s.0 e.0 (slice_index p.bounds k) (slice_index q.bounds k) e.2))),
  )

  pub EachSlot-swept : EachSlot SweepsSlot (slot_views_of p) (slot_views_of q)
  EachSlot-swept = EachSlot-slot_views_of SweepsSlot swept_blind p q each_swept

  pub HasLastGeneration-swept : 0 < swept.retired → HasLastGeneration (slot_views_of p)
  HasLastGeneration-swept some =
      let s = sweep.last some in
      (s.0, record (slot_view s.1 (slice_index p.bounds s.0)) { looks = slice_index p.looks s.0 }, get-with_looks p.looks (slot_views p.slots p.bounds) s.0 _ (slot_view-get p.slots p.bounds s.0 s.1 s.2), s.3)
