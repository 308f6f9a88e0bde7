-- The theorems about every list of events, and about every word.
use Rattle.std.specs.Prelude.{◌≡◌, ◌≢◌, ℕ, ◌<◌, ◌≤◌, List, take, length, slice_get, Some}
use Prim.Native.Nat.{suc}
use Rattle.pin_core.specs.declared.world.Phase.{Phase}
use Rattle.pin_core.specs.declared.world.PinRecord.{PinRecord}
use Rattle.pin_core.specs.declared.event.Event.{Event}
use Rattle.pin_core.specs.declared.event.Event.TheVariants.{Give, Lend, Share, Leave}
use Rattle.spec_lib.specs.Texts.{Text}
use Rattle.pin_core.specs.World.{PinWorld, PinsAreValid, IsState, hold_named, row, initial_world, word, word_of, max_weight}
use Rattle.pin_core.specs.Events.{after_all, CanAll}

-- the world before the i-th event
abbrev pub world_at : PinWorld → List Event → ℕ → PinWorld
world_at p es i = after_all p (take i es)

-- the generation of the slot k before the i-th event
abbrev pub generation_at : PinWorld → List Event → ℕ → ℕ → ℕ
generation_at p es i k = (row (world_at p es i).rows k).generation

-- the i-th event gives the slot k a digest
abbrev pub GivesAt : List Event → ℕ → ℕ → Type 0
GivesAt es k i = (d : Text) × (slice_get es i ≡ Some (Give k d))

-- the pin n does not leave by any event from the place j to before the place i
abbrev pub StaysBetween : List Event → ℕ → ℕ → ℕ → Type 0
StaysBetween es j i n = (l : ℕ) → j ≤ l → l < i → slice_get es l ≢ Some (Leave n)

-- At the place i, a pin named n is on the slot k: it was there at the start or made by a Lend or Share, and has not left since.
pub data HasPinAt (p : PinWorld) (es : List Event) : ℕ → ℕ → ℕ → Type 0 where
  begun : (i n k : ℕ) (h : PinRecord) → hold_named n p.pins ≡ Some h → h.slot ≡ k → StaysBetween es 0 i n → HasPinAt p es i n k
  lent : (j i n k : ℕ) → slice_get es j ≡ Some (Lend k n) → j < i → StaysBetween es j i n → HasPinAt p es i n k
  shared : (j i m n k : ℕ) → HasPinAt p es j m k → slice_get es j ≡ Some (Share m n) → j < i → StaysBetween es j i n → HasPinAt p es i n k

-- The reclamation theorem holds for a list of events from the world p.
pub record ReclaimsSafely (p : PinWorld) (es : List Event) : Type 0 where
  -- after each event, the slot of every pin is used and has the pin's generation and digest
  pub held : (i : ℕ) → i ≤ length es → PinsAreValid (world_at p es i)
  -- after each event, the world is well-formed
  pub states : (i : ℕ) → i ≤ length es → IsState (world_at p es i)
  -- no slot is given a digest while a pin is on it
  pub apart : (i k n : ℕ) → GivesAt es k i → HasPinAt p es i n k → ⊥
  -- a Share changes no word
  pub steady : (i k n m : ℕ) → slice_get es i ≡ Some (Share n m) → word (world_at p es (suc i)) k ≡ word (world_at p es i) k
  -- a slot's generation never falls
  pub rises : (i j k : ℕ) → i ≤ j → j ≤ length es → generation_at p es i k ≤ generation_at p es j k
  -- a slot is given a digest at most once in a generation
  pub once : (i j k : ℕ) → GivesAt es k i → GivesAt es k j → generation_at p es i k ≡ generation_at p es j k → i ≡ j

-- The reclamation theorem holds for every list of events that can happen, from free slots and from any well-formed world.
pub record Reclamation : Type 0 where
  pub from_opening : (n g : ℕ) (es : List Event) → CanAll (initial_world n g) es → ReclaimsSafely (initial_world n g) es
  pub from_any : (p : PinWorld) (es : List Event) → IsState p → CanAll p es → ReclaimsSafely p es

-- equal words have equal generations, phases and sums of weights
abbrev pub Packing : Type 0
Packing = (g g' w w' : ℕ) (p p' : Phase) → w ≤ max_weight → w' ≤ max_weight → word_of g p w ≡ word_of g' p' w' → (g ≡ g') × (p ≡ p') × (w ≡ w')
