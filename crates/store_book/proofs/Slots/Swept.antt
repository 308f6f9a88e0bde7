-- A sweep of the slots, orphan by orphan.
use Rattle.std.proofs.Common.{◌≡◌, ℕ, ◌+◌, ◌<◌, ◌≤◌, ◌^◌, Bool, true, false, cond, List, [], ◌∷◌, length, drop, Option, Some, None, refl, sym, ap, ◌∙◌, subst, arith, inl, inr}
use Prim.Native.Nat.{zero, suc}
use Rattle.std.specs.Prelude.{if◌then◌else◌, slice_get, slice_index, slice_set, ◌==◌, ◌&&◌, not, ◌-◌, ◌⊎◌, ◌↔◌, IsTrue}
use Rattle.std.specs.Option.{option_map, option_map_or}
use Rattle.std.specs.List.{count_by, position}
use Rattle.std.proofs.lemmas.Bool.{cases_eq, cases_lt, eqb-false, eqb-true}
use Rattle.std.proofs.lemmas.Option.{slice_get_within}
use Rattle.std.proofs.Math.ListN.{drop_of_length-le}
use Rattle.std.proofs.lemmas.List.{drop-drop, get_or-set_other}
use Rattle.std.proofs.lemmas.List.Sums.{sum_by-cons}
use Rattle.pin_table.specs.declared.reclaim.Reclaim.{Reclaim}
use Rattle.pin_table.specs.declared.reclaim.Reclaim.TheVariants as reclaim
use Rattle.pin_table.specs.Calls.{IsUnheld}
use Rattle.slot_table.specs.declared.phase.Phase.TheVariants as phase
use Rattle.slot_table.specs.Slots.{Slot, StoredBlob, SlotContent, Free, Used, Retired, stored_blob_at, stored_blob_in, phase_at, phase_in, generation_at, is_orphan, is_retired, orphan_from, with_slot, on_stored_blob, content_with, mark, freed_slot, retire}
use Rattle.store_book.specs.Layers.{is_lent}
use Rattle.store_book.specs.Pinned.{Pinned, ReclaimsSlot, is_orphan_at, with_changed_slot}
use Rattle.store_book.specs.SweepParts.{is_between}
use Rattle.store_book.specs.Internal.SweptSlots.{IsLeftBy, Sweeps, IsSweptTo, counts_with, is_live_orphan, kept, held, freed, retired}
use Rattle.store_model.specs.declared.swept.Swept.{Swept}
use Rattle.spec_lib.proofs.Places.{IsFirst, get-drop, first, nowhere, count_by-nowhere}
use Rattle.spec_lib.proofs.Options.{some_same}
use Rattle.store_book.proofs.Slots.Between.{is_below, is_beyond, is_inside}
use Rattle.store_book.proofs.Slots.Pinned.{index-set-le, le-self}
use Rattle.store_book.proofs.Slots.Reclaimed.{orphan_held}
use Rattle.store_book.proofs.Slots.Writes.{length-with_slot, slot-other, slot-same, with_slot-suc, with_slot-twice}

-- ---- slots

pub count_by-written : (p : Slot → Bool) (slots : List Slot) (k : ℕ) (f : Slot → Slot) (s : Slot) → slice_get slots k ≡ Some s → count_by p (with_slot slots k f) + cond (p s) 1 0 ≡ count_by p slots + cond (p (f s)) 1 0
count_by-written p [] k f s at = absurd cc
count_by-written p (x ∷ slots) zero f s at =
    let same : x ≡ s = some_same at in
    let now : count_by p (f x ∷ slots) ≡ cond (p (f x)) 1 0 + count_by p slots = sum_by-cons (λ y. cond {A = ℕ} (p y) 1 0) (f x) slots in
    let old : count_by p (x ∷ slots) ≡ cond (p x) 1 0 + count_by p slots = sum_by-cons (λ y. cond {A = ℕ} (p y) 1 0) x slots in
    rw (← same) (omega arith)
count_by-written p (x ∷ slots) (suc k) f s at =
    let rest = count_by-written p slots k f s at in
    let now : count_by p (with_slot (x ∷ slots) (suc k) f) ≡ cond (p x) 1 0 + count_by p (with_slot slots k f) = ap (count_by p) (with_slot-suc x slots k f) ∙ sum_by-cons (λ y. cond {A = ℕ} (p y) 1 0) x (with_slot slots k f) in
    let old : count_by p (x ∷ slots) ≡ cond (p x) 1 0 + count_by p slots = sum_by-cons (λ y. cond {A = ℕ} (p y) 1 0) x slots in
    omega arith

-- the slots after the changed one
drop-written : (slots : List Slot) (k : ℕ) (f : Slot → Slot) → drop (suc k) (with_slot slots k f) ≡ drop (suc k) slots
drop-written [] k f = refl
drop-written (s ∷ slots) zero f = refl
drop-written (s ∷ slots) (suc k) f = ap (drop (suc (suc k))) (with_slot-suc s slots k f) ∙ drop-written slots k f

index-zeroed : (xs : List ℕ) (k : ℕ) → slice_index (slice_set xs k 0) k ≡ 0
index-zeroed [] k = refl
index-zeroed (x ∷ xs) zero = refl
index-zeroed (x ∷ xs) (suc k) = index-zeroed xs k

-- ---- one orphan

-- marking a blob changes neither whether it is an orphan nor whether its slot is used
marked_orphan : (b : Bool) (c : SlotContent) → option_map_or (λ (h : StoredBlob). h.links == 0) (stored_blob_in (content_with (mark b) c)) false ≡ option_map_or (λ (h : StoredBlob). h.links == 0) (stored_blob_in c) false
marked_orphan b Free = refl
marked_orphan b (Used h) = refl
marked_orphan b Retired = refl

marked_retired : (b : Bool) (s : Slot) → is_retired (on_stored_blob (mark b) s) ≡ is_retired s
marked_retired b s = by s.content
  where
    by : (c : SlotContent) → is_retired (record { generation = s.generation; content = content_with (mark b) c }) ≡ is_retired (record { generation = s.generation; content = c })
    by Free = refl
    by (Used h) = refl
    by Retired = refl

orphan_unretired : (s : Slot) → is_orphan s ≡ true → is_retired s ≡ false
orphan_unretired s is = let h = orphan_held s.content is in ap (λ (c : SlotContent). is_retired (record { generation = s.generation; content = c })) h.1

live_orphan : (s : Slot) → is_orphan s ≡ true → (live : Bool) → IsTrue live ↔ (phase_in s.content ≡ phase.Live) → is_live_orphan s ≡ live
live_orphan s is live told = by s.content is live told
  where
    by : (c : SlotContent) → option_map_or (λ (h : StoredBlob). h.links == 0) (stored_blob_in c) false ≡ true → (live : Bool) → IsTrue live ↔ (phase_in c ≡ phase.Live) → option_map_or (λ (h : StoredBlob). h.links == 0 && not h.condemned) (stored_blob_in c) false ≡ live
    by Free e live told = absurd cc
    by (Used h) e live told = ap (λ b. b && not h.condemned) e ∙ marked h.condemned live told
      where
        marked : (b live : Bool) → IsTrue live ↔ (cond b phase.Condemned phase.Live ≡ phase.Live) → not b ≡ live
        marked true true told = absurd (let e = told.0 refl in cc)
        marked true false told = refl
        marked false true told = refl
        marked false false told = sym (told.1 refl)
    by Retired e live told = absurd cc

-- a blob that pins hold was leased
lent_there : (s : Slot) → is_orphan s ≡ true → (weight : ℕ) → ((h : StoredBlob) → stored_blob_in (content_with (mark true) s.content) ≡ Some h → h.lent ≡ false → IsUnheld (reclaim.Held weight)) → is_lent s ≡ true
lent_there s is weight unlent = by s.content is unlent
  where
    by : (c : SlotContent) → option_map_or (λ (h : StoredBlob). h.links == 0) (stored_blob_in c) false ≡ true → ((h : StoredBlob) → stored_blob_in (content_with (mark true) c) ≡ Some h → h.lent ≡ false → IsUnheld (reclaim.Held weight)) → option_map_or (λ (h : StoredBlob). h.lent) (stored_blob_in c) false ≡ true
    by Free e unlent = absurd cc
    by (Used h) e unlent = at h.lent refl
      where
        at : (b : Bool) → h.lent ≡ b → b ≡ true
        at true is = refl
        at false is = absurd (unlent (mark true h) refl is)
    by Retired e unlent = absurd cc

-- the slots from a place on, with one of them changed
drop-with_slot : (n : ℕ) (slots : List Slot) (i : ℕ) (f : Slot → Slot) → drop n (with_slot slots (n + i) f) ≡ with_slot (drop n slots) i f
drop-with_slot zero slots i f = ap (λ k. with_slot slots k f) (let e : 0 + i ≡ i = omega arith in e)
drop-with_slot (suc n) [] i f = refl
drop-with_slot (suc n) (s ∷ slots) i f = ap (λ k. drop (suc n) (with_slot (s ∷ slots) k f)) (let e : suc n + i ≡ suc (n + i) = omega arith in e) ∙ ap (drop (suc n)) (with_slot-suc s slots (n + i) f) ∙ drop-with_slot n slots i f

-- ---- the sweep from a slot up to another

-- The slots from `start` up to a place were swept, and the counts are those of their orphans.
pub record IsPartly (start : ℕ) (p q : Pinned) (from : ℕ) (n : Swept) : Type 0 where
  pub table : q.table ≡ p.table
  pub long : length q.slots ≡ length p.slots
  pub within : from ≤ length p.slots
  pub onwards : start + (n.freed + n.held + n.retired) ≤ from
  pub live : n.condemned ≤ n.freed + n.held + n.retired
  pub before : (k : ℕ) → k < start → (slice_get q.slots k ≡ slice_get p.slots k) × (slice_index q.bounds k ≡ slice_index p.bounds k)
  pub rest : drop from q.slots ≡ drop from p.slots
  pub bounds : (k : ℕ) → from ≤ k → slice_index q.bounds k ≡ slice_index p.bounds k
  pub each : (k : ℕ) (s : Slot) → start ≤ k → k < from → slice_get p.slots k ≡ Some s → (t : Slot) × (slice_get q.slots k ≡ Some t) × IsSweptTo s (slice_index p.bounds k) t (slice_index q.bounds k)
  pub condemned : n.condemned + count_by is_live_orphan (drop from p.slots) ≡ count_by is_live_orphan (drop start p.slots)
  pub all : n.held + (n.freed + n.retired) + count_by is_orphan (drop from p.slots) ≡ count_by is_orphan (drop start p.slots)
  pub remaining : count_by is_orphan (drop start q.slots) + (n.freed + n.retired) ≡ count_by is_orphan (drop start p.slots)
  pub left : count_by is_orphan q.slots + (n.freed + n.retired) ≡ count_by is_orphan p.slots
  pub retired : count_by is_retired q.slots ≡ count_by is_retired p.slots + n.retired
  pub last : 0 < n.retired → (k : ℕ) × (s : Slot) × (slice_get p.slots k ≡ Some s) × (s.generation + 1 ≡ 2 ^ 32)

-- ---- the next orphan

pub found_orphan : (slots : List Slot) (from k : ℕ) → orphan_from slots from ≡ Some k → (i : ℕ) × (k ≡ from + i) × IsFirst is_orphan (drop from slots) i
found_orphan slots from k e = by (position is_orphan (drop from slots)) refl e
  where
    by : (o : Option ℕ) → position is_orphan (drop from slots) ≡ o → option_map (λ i. from + i) o ≡ Some k → (i : ℕ) × (k ≡ from + i) × IsFirst is_orphan (drop from slots) i
    by None none f = absurd cc
    by (Some i) is f = (i, sym (some_same f), first is_orphan (drop from slots) i is)

no_orphan : (slots : List Slot) (from : ℕ) → orphan_from slots from ≡ None → position is_orphan (drop from slots) ≡ None
no_orphan slots from e = by (position is_orphan (drop from slots)) e
  where
    by : (o : Option ℕ) → option_map (λ i. from + i) o ≡ None → o ≡ None
    by None f = refl
    by (Some i) f = absurd cc

live_is_orphan : (s : Slot) → is_orphan s ≡ false → is_live_orphan s ≡ false
live_is_orphan s is = by s.content is
  where
    by : (c : SlotContent) → option_map_or (λ (h : StoredBlob). h.links == 0) (stored_blob_in c) false ≡ false → option_map_or (λ (h : StoredBlob). h.links == 0 && not h.condemned) (stored_blob_in c) false ≡ false
    by Free e = refl
    by (Used h) e = ap (λ b. b && not h.condemned) e
    by Retired e = refl

-- the slot of the next orphan
pub orphan_place : (slots : List Slot) (from k : ℕ) → (next : orphan_from slots from ≡ Some k) → slice_get slots k ≡ Some (found_orphan slots from k next).2.found
orphan_place slots from k next = let o = found_orphan slots from k next in ap (slice_get slots) o.1 ∙ sym (get-drop from slots o.0) ∙ o.2.there

orphan_there : (slots : List Slot) (from k : ℕ) → orphan_from slots from ≡ Some k → (s : Slot) × (slice_get slots k ≡ Some s) × (is_orphan s ≡ true)
orphan_there slots from k e =
    let o = found_orphan slots from k e in
    (o.2.found, orphan_place slots from k e, o.2.passes)

pub orphan_next : (slots : List Slot) (from k : ℕ) → orphan_from slots from ≡ Some k → is_orphan_at slots k ≡ true
orphan_next slots from k e = let s = orphan_there slots from k e in ap (λ o. option_map_or is_orphan o false) s.1 ∙ s.2

pub orphan_condemned : (slots : List Slot) (from k : ℕ) → orphan_from slots from ≡ Some k → phase_at (with_slot slots k (on_stored_blob (mark true))) k ≡ phase.Condemned
orphan_condemned slots from k e =
    let s = orphan_there slots from k e in
    ap (λ o. option_map_or (λ (x : Slot). phase_in x.content) o phase.Retired) (slot-same slots k (on_stored_blob (mark true)) s.0 s.1) ∙ by s.0.content s.2
  where
    by : (c : SlotContent) → option_map_or (λ (h : StoredBlob). h.links == 0) (stored_blob_in c) false ≡ true → phase_in (content_with (mark true) c) ≡ phase.Condemned
    by Free e = absurd cc
    by (Used h) e = refl
    by Retired e = absurd cc

-- at most one is counted
one_at_most : (b : Bool) → cond {A = ℕ} b 1 0 ≤ 1
one_at_most true = omega arith
one_at_most false = omega arith

-- a slot is given only if more may be visited
pub next_given : (left : ℕ) (o : Option ℕ) (k : ℕ) → (if left == 0 then None else o) ≡ Some k → (0 < left) × (o ≡ Some k)
next_given left o k e = by (left == 0) refl e
  where
    by : (b : Bool) → (left == 0) ≡ b → (if b then None else o) ≡ Some k → (0 < left) × (o ≡ Some k)
    by true is f = absurd cc
    by false is f = (elim (cases_lt 0 left) [ inl lt ↦ lt | inr le ↦ absurd (eqb-false left 0 is (omega arith)) ], f)

-- if more may be visited, none is left
pub next_ended : (left : ℕ) (o : Option ℕ) → 0 < left → (if left == 0 then None else o) ≡ None → o ≡ None
next_ended left o lt e = by (left == 0) refl e
  where
    by : (b : Bool) → (left == 0) ≡ b → (if b then None else o) ≡ None → o ≡ None
    by true is f = absurd (let none = eqb-true left 0 is in omega arith)
    by false is f = f

-- ---- one orphan more

transported : (x y : Slot) → x ≡ y → (t : Slot) (a b : ℕ) → a ≡ b → (c d : ℕ) → c ≡ d → IsSweptTo y a t c → IsSweptTo x b t d
transported x y same t a b e c d f turned = subst (λ z. IsSweptTo z b t d) (sym same) (subst (λ m. IsSweptTo y m t d) e (subst (λ m. IsSweptTo y a t m) f turned))

-- What became of the slot of an orphan s: the slot changed by f, and its bound.
pub record Becomes (k : ℕ) (q r : Pinned) (s : Slot) (n m : Swept) (live : Bool) : Type 0 where
  pub f : Slot → Slot
  pub bound : ℕ
  pub table : r.table ≡ q.table
  pub slots : r.slots ≡ with_slot q.slots k f
  pub bounds : r.bounds ≡ slice_set q.bounds k bound
  pub turned : IsSweptTo s (slice_index q.bounds k) (f s) (slice_index (slice_set q.bounds k bound) k)
  pub condemned : m.condemned ≡ n.condemned + cond live 1 0
  pub all : m.held + (m.freed + m.retired) ≡ n.held + (n.freed + n.retired) + 1
  pub left : cond (is_orphan (f s)) 1 0 + (m.freed + m.retired) ≡ n.freed + n.retired + 1
  pub retired : m.retired ≡ n.retired + cond (is_retired (f s)) 1 0
  pub last : 0 < m.retired → (0 < n.retired) ⊎ (s.generation + 1 ≡ 2 ^ 32)

pub became_of : (k : ℕ) (q r1 r : Pinned) (s : Slot) (n : Swept) (live : Bool) (became : Reclaim) → slice_get q.slots k ≡ Some s → is_orphan s ≡ true → r1 ≡ with_changed_slot k (on_stored_blob (mark true)) q →
    ReclaimsSlot k r1 r became → ((h : StoredBlob) → stored_blob_at r1.slots k ≡ Some h → h.lent ≡ false → IsUnheld became) → Becomes k q r s n (counts_with live became n) live
became_of k q r1 r s n live reclaim.Freed at is e done unlent =
    let generation : generation_at r1.slots k ≡ s.generation = ap (λ (x : Pinned). generation_at x.slots k) e ∙ ap (λ o. option_map_or (λ (x : Slot). x.generation) o 0) (slot-same q.slots k (on_stored_blob (mark true)) s at) in
    let young = done.0 in
    record {
      f = freed_slot;
      bound = 0;
      table = ap (λ (x : Pinned). x.table) done.1 ∙ ap (λ (x : Pinned). x.table) e;
      slots = ap (λ (x : Pinned). x.slots) done.1 ∙ ap (λ (x : Pinned). with_slot x.slots k freed_slot) e ∙ with_slot-twice q.slots k (on_stored_blob (mark true)) freed_slot;
      bounds = ap (λ (x : Pinned). x.bounds) done.1 ∙ ap (λ (x : Pinned). slice_set x.bounds k 0) e;
      turned = freed is (omega arith) refl (index-zeroed q.bounds k);
      condemned = refl;
      all = omega arith;
      left = omega arith;
      retired = omega arith;
      last = λ lt. inl lt;
    }
became_of k q r1 r s n live reclaim.Retired at is e done unlent =
    let generation : generation_at r1.slots k ≡ s.generation = ap (λ (x : Pinned). generation_at x.slots k) e ∙ ap (λ o. option_map_or (λ (x : Slot). x.generation) o 0) (slot-same q.slots k (on_stored_blob (mark true)) s at) in
    let old = done.0 in
    let last : s.generation + 1 ≡ 2 ^ 32 = omega arith in
    record {
      f = retire;
      bound = 0;
      table = ap (λ (x : Pinned). x.table) done.1 ∙ ap (λ (x : Pinned). x.table) e;
      slots = ap (λ (x : Pinned). x.slots) done.1 ∙ ap (λ (x : Pinned). with_slot x.slots k retire) e ∙ with_slot-twice q.slots k (on_stored_blob (mark true)) retire;
      bounds = ap (λ (x : Pinned). x.bounds) done.1 ∙ ap (λ (x : Pinned). slice_set x.bounds k 0) e;
      turned = retired is last refl (index-zeroed q.bounds k);
      condemned = refl;
      all = omega arith;
      left = omega arith;
      retired = omega arith;
      last = λ lt. inr last;
    }
became_of k q r1 r s n live (reclaim.Held weight) at is e done unlent =
    let lent : is_lent s ≡ true = lent_there s is weight (λ h here. unlent h (ap (λ (x : Pinned). stored_blob_at x.slots k) e ∙ ap (λ o. option_map_or (λ (x : Slot). stored_blob_in x.content) o None) (slot-same q.slots k (on_stored_blob (mark true)) s at) ∙ here)) in
    let le : weight ≤ slice_index q.bounds k = (let w = done.1 in let same : slice_index r1.bounds k ≡ slice_index q.bounds k = ap (λ (x : Pinned). slice_index x.bounds k) e in omega arith) in
    let still : is_orphan (on_stored_blob (mark true) s) ≡ true = marked_orphan true s.content ∙ is in
    let used : is_retired (on_stored_blob (mark true) s) ≡ false = marked_retired true s ∙ orphan_unretired s is in
    record {
      f = on_stored_blob (mark true);
      bound = weight;
      table = ap (λ (x : Pinned). x.table) done.2 ∙ ap (λ (x : Pinned). x.table) e;
      slots = ap (λ (x : Pinned). x.slots) done.2 ∙ ap (λ (x : Pinned). x.slots) e;
      bounds = ap (λ (x : Pinned). x.bounds) done.2 ∙ ap (λ (x : Pinned). slice_set x.bounds k weight) e;
      turned = held is lent refl (index-set-le q.bounds k weight k le);
      condemned = refl;
      all = omega arith;
      left = rw still (omega arith);
      retired = rw used (omega arith);
      last = λ lt. inl lt;
    }

module _ (start : ℕ) (p q r : Pinned) (from k : ℕ) (n m : Swept) (live : Bool) (part : IsPartly start p q from n) (next : orphan_from q.slots from ≡ Some k) where
  abbrev pub o : (i : ℕ) × (k ≡ from + i) × IsFirst is_orphan (drop from q.slots) i
  o = found_orphan q.slots from k next

  abbrev pub s : Slot
  s = o.2.found

  at : slice_get q.slots k ≡ Some s
  at = orphan_place q.slots from k next

  -- the slots from the place on are unchanged
  as_before : (j : ℕ) → from ≤ j → slice_get q.slots j ≡ slice_get p.slots j
  as_before j le =
      let there : from + (j - from) ≡ j = omega arith in
      ap (slice_get q.slots) (sym there) ∙ sym (get-drop from q.slots (j - from)) ∙ ap (λ xs. slice_get xs (j - from)) part.rest ∙ get-drop from p.slots (j - from) ∙ ap (slice_get p.slots) there

  past : from ≤ k
  past = let e = o.1 in omega arith

  passed : (j : ℕ) (x : Slot) → from ≤ j → j < k → slice_get q.slots j ≡ Some x → is_orphan x ≡ false
  passed j x le lt here =
      let there : from + (j - from) ≡ j = omega arith in
      o.2.before (j - from) x (let e = o.1 in omega arith) (get-drop from q.slots (j - from) ∙ ap (slice_get q.slots) there ∙ here)

  -- counts of orphans from the place on, and after the orphan
  counts : (f : Slot → Bool) → ((x : Slot) → is_orphan x ≡ false → f x ≡ false) → count_by f (drop from p.slots) ≡ cond (f s) 1 0 + count_by f (drop (k + 1) p.slots)
  counts f weaker =
      let place : from + suc o.0 ≡ k + 1 = (let e = o.1 in omega arith) in
      ap (count_by f) (sym part.rest) ∙ o.2.counts f weaker
      ∙ ap (λ xs. cond {A = ℕ} (f s) 1 0 + count_by f xs) (ap (drop (suc o.0)) part.rest ∙ drop-drop (suc o.0) from p.slots ∙ ap (λ i. drop i p.slots) place)

  module _ (told : IsTrue live ↔ (phase_at q.slots k ≡ phase.Live)) (b : Becomes k q r s n m live) where
    turns : (j : ℕ) (x : Slot) → start ≤ j → j < k + 1 → slice_get p.slots j ≡ Some x → (t : Slot) × (slice_get r.slots j ≡ Some t) × IsSweptTo x (slice_index p.bounds j) t (slice_index r.bounds j)
    turns j x first lt here = elim (cases_eq j k) [
      | inl e ↦
          let same : x ≡ s = some_same (sym here ∙ sym (as_before j (let le = past in omega arith)) ∙ ap (slice_get q.slots) e ∙ at) in
          let old : slice_index q.bounds k ≡ slice_index p.bounds j = ap (slice_index q.bounds) (sym e) ∙ part.bounds j (let le = past in omega arith) in
          let now : slice_index (slice_set q.bounds k b.bound) k ≡ slice_index r.bounds j = ap (λ xs. slice_index xs k) (sym b.bounds) ∙ ap (slice_index r.bounds) (sym e) in (
            b.f s,
            ap (λ xs. slice_get xs j) b.slots ∙ ap (slice_get (with_slot q.slots k b.f)) e ∙ slot-same q.slots k b.f s at,
            transported x s same (b.f s) (slice_index q.bounds k) (slice_index p.bounds j) old (slice_index (slice_set q.bounds k b.bound) k) (slice_index r.bounds j) now b.turned,
          )
      | inr other ↦
          let bound : slice_index r.bounds j ≡ slice_index q.bounds j = ap (λ xs. slice_index xs j) b.bounds ∙ get_or-set_other q.bounds k j b.bound 0 other in
          let there : slice_get r.slots j ≡ slice_get q.slots j = ap (λ xs. slice_get xs j) b.slots ∙ slot-other q.slots k b.f j other in
          elim (cases_lt j from) [
            | inl below ↦
                let t = part.each j x first below here in
                (t.0, there ∙ t.1, transported x x refl t.0 (slice_index p.bounds j) (slice_index p.bounds j) refl (slice_index q.bounds j) (slice_index r.bounds j) (sym bound) t.2)
            | inr le ↦
                let here_now : slice_get q.slots j ≡ Some x = as_before j le ∙ here in
                (x, there ∙ here_now, kept (passed j x le (omega arith) here_now) refl (bound ∙ part.bounds j le))
          ]
    ]

    -- the changed slot is not below the start
    later : start ≤ k
    later = let le = past in let on = part.onwards in omega arith

    unchanged : (j : ℕ) → j < start → (slice_get r.slots j ≡ slice_get p.slots j) × (slice_index r.bounds j ≡ slice_index p.bounds j)
    unchanged j lt =
        let other : ¬ (j ≡ k) = λ e. absurd (let le = later in omega arith) in
        let was = part.before j lt in
        (ap (λ xs. slice_get xs j) b.slots ∙ slot-other q.slots k b.f j other ∙ was.0, ap (λ xs. slice_index xs j) b.bounds ∙ get_or-set_other q.bounds k j b.bound 0 other ∙ was.1)

    -- one orphan more was visited
    pub one_more : m.freed + m.held + m.retired ≡ n.freed + n.held + n.retired + 1
    one_more = let all = b.all in omega arith

    pub more : IsPartly start p r (k + 1) m
    more = record {
      table = b.table ∙ part.table;
      long = ap length b.slots ∙ length-with_slot q.slots k b.f ∙ part.long;
      within = (let lt = slice_get_within q.slots k s at in let long = part.long in omega arith);
      onwards = (let le = past in let on = part.onwards in let one = one_more in omega arith);
      live = (let was = part.live in let one = one_more in let now = b.condemned in let few = one_at_most live in omega arith);
      before = unchanged;
      rest =
          (let place : from + suc o.0 ≡ k + 1 = (let e = o.1 in omega arith) in
          ap (drop (k + 1)) b.slots ∙ ap (λ i. drop i (with_slot q.slots k b.f)) (let e : k + 1 ≡ suc k = omega arith in e) ∙ drop-written q.slots k b.f
          ∙ ap (λ i. drop i q.slots) (let e : suc k ≡ from + suc o.0 = omega arith in e) ∙ sym (drop-drop (suc o.0) from q.slots) ∙ ap (drop (suc o.0)) part.rest
          ∙ drop-drop (suc o.0) from p.slots ∙ ap (λ i. drop i p.slots) place);
      bounds = λ j le. ap (λ xs. slice_index xs j) b.bounds ∙ get_or-set_other q.bounds k j b.bound 0 (λ e. absurd (omega arith)) ∙ part.bounds j (let le2 = past in omega arith);
      each = turns;
      condemned =
          (let was = part.condemned in let now = b.condemned in
          let parts : count_by is_live_orphan (drop from p.slots) ≡ cond live 1 0 + count_by is_live_orphan (drop (k + 1) p.slots) = counts is_live_orphan live_is_orphan ∙ ap (λ c. cond {A = ℕ} c 1 0 + count_by is_live_orphan (drop (k + 1) p.slots)) alive in
          omega arith);
      all =
          (let was = part.all in let now = b.all in
          let parts : count_by is_orphan (drop from p.slots) ≡ 1 + count_by is_orphan (drop (k + 1) p.slots) = counts is_orphan (λ x none. none) ∙ ap (λ c. cond {A = ℕ} c 1 0 + count_by is_orphan (drop (k + 1) p.slots)) o.2.passes in
          omega arith);
      left =
          (let was = part.left in let now = b.left in
          let written : count_by is_orphan r.slots + 1 ≡ count_by is_orphan q.slots + cond (is_orphan (b.f s)) 1 0 = ap (λ xs. count_by is_orphan xs + 1) b.slots ∙ ap (λ c. count_by is_orphan (with_slot q.slots k b.f) + cond {A = ℕ} c 1 0) (sym o.2.passes) ∙ count_by-written is_orphan q.slots k b.f s at in
          omega arith);
      remaining =
          (let was = part.remaining in let now = b.left in
          let from_start : start + (k - start) ≡ k = (let le = later in omega arith) in
          let there : slice_get (drop start q.slots) (k - start) ≡ Some s = get-drop start q.slots (k - start) ∙ ap (slice_get q.slots) from_start ∙ at in
          let changed : drop start r.slots ≡ with_slot (drop start q.slots) (k - start) b.f = ap (drop start) (b.slots ∙ ap (λ i. with_slot q.slots i b.f) (sym from_start)) ∙ drop-with_slot start q.slots (k - start) b.f in
          let written : count_by is_orphan (drop start r.slots) + 1 ≡ count_by is_orphan (drop start q.slots) + cond (is_orphan (b.f s)) 1 0 = ap (λ xs. count_by is_orphan xs + 1) changed ∙ ap (λ c. count_by is_orphan (with_slot (drop start q.slots) (k - start) b.f) + cond {A = ℕ} c 1 0) (sym o.2.passes) ∙ count_by-written is_orphan (drop start q.slots) (k - start) b.f s there in
          omega arith);
      retired =
          (let was = part.retired in let now = b.retired in
          let written : count_by is_retired r.slots + 0 ≡ count_by is_retired q.slots + cond (is_retired (b.f s)) 1 0 = ap (λ xs. count_by is_retired xs + 0) b.slots ∙ ap (λ c. count_by is_retired (with_slot q.slots k b.f) + cond {A = ℕ} c 1 0) (sym (orphan_unretired s o.2.passes)) ∙ count_by-written is_retired q.slots k b.f s at in
          omega arith);
      last = λ some. elim (b.last some) [
        | inl before ↦ part.last before
        | inr old ↦ (k, s, sym (as_before k past) ∙ at, old)
      ];
    }
      where
        alive : is_live_orphan s ≡ live
        alive = live_orphan s o.2.passes live (subst (λ x. IsTrue live ↔ (x ≡ phase.Live)) (ap (λ o. option_map_or (λ (x : Slot). phase_in x.content) o phase.Retired) at) told)

-- ---- the end

-- the part ends after the last orphan that it visited
pub stops : (start : ℕ) (p q : Pinned) (from : ℕ) (n : Swept) → IsPartly start p q from n → Sweeps start from p q n
stops start p q from n part = record {
  table = part.table;
  long = part.long;
  onwards = (let on = part.onwards in omega arith);
  each = each;
  condemned = part.condemned;
  held = (let all = part.all in let left = part.remaining in let same : count_by is_orphan (drop from q.slots) ≡ count_by is_orphan (drop from p.slots) = ap (count_by is_orphan) part.rest in omega arith);
  gone = part.left;
  retired = part.retired;
  last = part.last;
}
  where
    beyond : (k : ℕ) → from ≤ k → slice_get q.slots k ≡ slice_get p.slots k
    beyond k le =
        let there : from + (k - from) ≡ k = omega arith in
        ap (slice_get q.slots) (sym there) ∙ sym (get-drop from q.slots (k - from)) ∙ ap (λ xs. slice_get xs (k - from)) part.rest ∙ get-drop from p.slots (k - from) ∙ ap (slice_get p.slots) there

    each : (k : ℕ) (s : Slot) → slice_get p.slots k ≡ Some s → (t : Slot) × (slice_get q.slots k ≡ Some t) × IsLeftBy (is_between start from k) s (slice_index p.bounds k) t (slice_index q.bounds k)
    each k s at = elim (cases_lt k start) [
      | inl low ↦ (s, (part.before k low).0 ∙ at, subst (λ b. IsLeftBy b s (slice_index p.bounds k) s (slice_index q.bounds k)) (sym (is_below start from k low)) (refl, (part.before k low).1))
      | inr le ↦ elim (cases_lt k from) [
        | inl lt ↦ let e = part.each k s le lt at in (e.0, e.1, subst (λ b. IsLeftBy b s (slice_index p.bounds k) e.0 (slice_index q.bounds k)) (sym (is_inside start from k le lt)) e.2)
        | inr past ↦ (s, beyond k past ∙ at, subst (λ b. IsLeftBy b s (slice_index p.bounds k) s (slice_index q.bounds k)) (sym (is_beyond start from k past)) (refl, part.bounds k past))
      ]
    ]

-- no orphan is left, so the part goes on to the last slot
pub ends : (start : ℕ) (p q : Pinned) (from : ℕ) (n : Swept) → IsPartly start p q from n → orphan_from q.slots from ≡ None → IsPartly start p q (length p.slots) n
ends start p q from n part none = record {
  table = part.table;
  long = part.long;
  within = (let le = le-self (length p.slots) in le);
  onwards = (let on = part.onwards in let le = part.within in omega arith);
  live = part.live;
  before = part.before;
  rest = drop_of_length-le q.slots (let e = part.long in let le : length q.slots ≤ length p.slots = omega arith in le) ∙ sym (drop_of_length-le p.slots (le-self (length p.slots)));
  bounds = λ k le. part.bounds k (let w = part.within in omega arith);
  each = λ k s first lt at. elim (cases_lt k from) [
    | inl below ↦ part.each k s first below at
    | inr le ↦ (s, sym (same k le) ∙ at, kept (unlinked (k - from) s (get-drop from p.slots (k - from) ∙ ap (slice_get p.slots) (let e : from + (k - from) ≡ k = omega arith in e) ∙ at)) refl (part.bounds k le))
  ];
  condemned = (let was = part.condemned in let zero_left = count_by-nowhere is_live_orphan (drop from p.slots) (λ j x at. live_is_orphan x (unlinked j x at)) in let none_after : count_by is_live_orphan (drop (length p.slots) p.slots) ≡ 0 = ap (count_by is_live_orphan) (drop_of_length-le p.slots (le-self (length p.slots))) in omega arith);
  all = (let all = part.all in let zero_left = count_by-nowhere is_orphan (drop from p.slots) unlinked in let none_after : count_by is_orphan (drop (length p.slots) p.slots) ≡ 0 = ap (count_by is_orphan) (drop_of_length-le p.slots (le-self (length p.slots))) in omega arith);
  remaining = part.remaining;
  left = part.left;
  retired = part.retired;
  last = part.last;
}
  where
    unlinked : (j : ℕ) (x : Slot) → slice_get (drop from p.slots) j ≡ Some x → is_orphan x ≡ false
    unlinked j x at = nowhere is_orphan (drop from q.slots) (no_orphan q.slots from none) j x (ap (λ xs. slice_get xs j) part.rest ∙ at)

    same : (k : ℕ) → from ≤ k → slice_get p.slots k ≡ slice_get q.slots k
    same k le =
        let there : from + (k - from) ≡ k = omega arith in
        ap (slice_get p.slots) (sym there) ∙ sym (get-drop from p.slots (k - from)) ∙ ap (λ xs. slice_get xs (k - from)) (sym part.rest) ∙ get-drop from q.slots (k - from) ∙ ap (slice_get q.slots) there
