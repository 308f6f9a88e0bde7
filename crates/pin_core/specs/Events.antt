-- The events of a pin world: when each can happen, and what it changes.
use Rattle.std.specs.Prelude.{◌≡◌, ◌≢◌, ℕ, ◌+◌, ◌/◌, ◌<◌, ◌≤◌, ◌==◌, not, cond, List, [], ◌∷◌, ◌++◌, map, length, slice_set, Option, Some, None, IsSome, MatchOption, ◌⊎◌}
use Rattle.std.specs.List.{All, filter}
use Rattle.std.specs.Option.{IsSomeAnd}
use Rattle.blob_digest.specs.declared.refusal.Refusal.{Refusal}
use Rattle.blob_digest.specs.declared.refusal.Refusal.TheVariants.{LimitReached, Memory}
use Rattle.spec_lib.specs.Texts.{Text}
use Rattle.pin_core.specs.declared.world.Phase.{Phase}
use Rattle.pin_core.specs.declared.world.Phase.TheVariants.{Free, Live, Condemned, Retired}
use Rattle.pin_core.specs.declared.world.PinRow.{PinRow}
use Rattle.pin_core.specs.declared.world.PinRecord.{PinRecord}
use Rattle.pin_core.specs.declared.world.PinEntry.{PinEntry}
use Rattle.pin_core.specs.declared.event.Event.{Event}
use Rattle.pin_core.specs.declared.event.Event.TheVariants.{Give, Lend, Share, Leave, Condemn, Revive, Reclaim, Look, Verify}
use Rattle.pin_core.specs.World.{PinWorld, IsUsed, holds_of, weight_on, row, hold_named, max_weight}

-- a number of slots is outside 1 to a greatest one
abbrev pub IsBeyond : ℕ → ℕ → Type 0
IsBeyond greatest n = (n ≡ 0) ⊎ (greatest < n)

-- a number of slots is outside 1 to 65,536
abbrev pub IsOutside : ℕ → Type 0
IsOutside n = IsBeyond 65536 n

-- the error for n slots: `LimitReached` exactly outside 1 to a greatest number, and `Memory` only within
abbrev pub RefusesNumber : ℕ → ℕ → Refusal → Type 0
RefusesNumber greatest n e = ((e ≡ LimitReached) × IsBeyond greatest n) ⊎ ((e ≡ Memory) × ¬ IsBeyond greatest n)

-- the error for n slots, of which there may be 65,536
abbrev pub IsOpeningError : ℕ → Refusal → Type 0
IsOpeningError n e = RefusesNumber 65536 n e

-- the weight of a new pin
abbrev pub new_weight : ℕ
new_weight = 1024

-- the generation after which a slot is retired
abbrev pub last_generation : ℕ
last_generation = 0xffff_ffff

-- no used slot has the digest
abbrev pub IsNew : Text → List PinRow → Type 0
IsNew d rows = All (λ r. IsUsed r.phase → r.digest ≢ Some d) rows

-- no pin is on the slot k
abbrev pub IsClear : ℕ → List PinEntry → Type 0
IsClear k es = All (λ e. e.hold.slot ≢ k) es

-- there is a slot k, and it is in this phase
abbrev pub IsIn : PinWorld → ℕ → Phase → Type 0
IsIn p k phase = (k < length p.rows) × ((row p.rows k).phase ≡ phase)

-- the event can happen
abbrev pub Can : PinWorld → Event → Type 0
Can p (Give k d) = IsIn p k Free × IsNew d p.rows
Can p (Lend k n) = IsIn p k Live × (hold_named n p.pins ≡ None) × (weight_on k (holds_of p) + new_weight ≤ max_weight)
Can p (Share n m) = IsSomeAnd (hold_named n p.pins) (λ h. 1 < h.weight) × (hold_named m p.pins ≡ None)
Can p (Leave n) = IsSome (hold_named n p.pins)
Can p (Condemn k) = IsIn p k Live
Can p (Revive k) = IsIn p k Condemned
Can p (Reclaim k) = IsIn p k Condemned × IsClear k p.pins
Can p (Look k) = k < length p.rows
Can p (Verify n) = IsSome (hold_named n p.pins)

-- the event adds a pin, for which memory is allocated
abbrev pub AddsPin : Event → Type 0
AddsPin (Lend k n) = Unit {0}
AddsPin (Share n m) = Unit {0}
AddsPin _ = ⊥

-- ---- what an event changes

-- a row after it was given a digest
abbrev pub given_row : Text → PinRow → PinRow
given_row d r = record { generation = r.generation; phase = Live; digest = Some d }

-- a row with another phase
abbrev pub in_phase : Phase → PinRow → PinRow
in_phase p r = record { generation = r.generation; phase = p; digest = r.digest }

-- a row after it was reclaimed: free in the next generation, or retired after the last one
abbrev pub reclaimed_row : PinRow → PinRow
reclaimed_row r = cond (r.generation == last_generation) (record { generation = r.generation; phase = Retired; digest = None }) (record { generation = r.generation + 1; phase = Free; digest = None })

-- the row's digest, or the empty text if it has none
abbrev pub digest_or : Option Text → Text
digest_or None = []
digest_or (Some d) = d

-- a new pin on the slot k
abbrev pub lent_hold : ℕ → PinRow → PinRecord
lent_hold k r = record { slot = k; generation = r.generation; digest = digest_or r.digest; weight = new_weight }

-- a pin with half its weight
abbrev pub half : PinRecord → PinRecord
half h = record { slot = h.slot; generation = h.generation; digest = h.digest; weight = h.weight / 2 }

-- a pin with the name n
abbrev pub named_entry : ℕ → PinRecord → PinEntry
named_entry n h = record { name = n; hold = h }

-- an entry, with half its weight if its name is n
abbrev pub half_if_named : ℕ → PinEntry → PinEntry
half_if_named n e = cond (e.name == n) (named_entry e.name (half e.hold)) e

-- the other half of a shared pin, with the name m
abbrev pub second : ℕ → Option PinRecord → List PinEntry
second m None = []
second m (Some h) = named_entry m (half h) ∷ []

-- the world with another row for the slot k
abbrev pub with_row : ℕ → PinRow → PinWorld → PinWorld
with_row k r p = record { rows = slice_set p.rows k r; pins = p.pins }

-- the world with other pins
abbrev pub with_pins : List PinEntry → PinWorld → PinWorld
with_pins es p = record { rows = p.rows; pins = es }

-- the world after the event
abbrev pub after : PinWorld → Event → PinWorld
after p (Give k d) = with_row k (given_row d (row p.rows k)) p
after p (Lend k n) = with_pins (p.pins ++ named_entry n (lent_hold k (row p.rows k)) ∷ []) p
after p (Share n m) = with_pins (map (half_if_named n) p.pins ++ second m (hold_named n p.pins)) p
after p (Leave n) = with_pins (filter (λ e. not (e.name == n)) p.pins) p
after p (Condemn k) = with_row k (in_phase Condemned (row p.rows k)) p
after p (Revive k) = with_row k (in_phase Live (row p.rows k)) p
after p (Reclaim k) = with_row k (reclaimed_row (row p.rows k)) p
after p (Look k) = p
after p (Verify n) = p

-- the event can happen in the world p and leads to the world q
abbrev pub pinstep : PinWorld → Event → PinWorld → Type 0
pinstep p e q = Can p e × (q ≡ after p e)

-- the world to which the event leads, or none exactly if the event can't happen
abbrev pub IsStepResult : PinWorld → Event → Option PinWorld → Type 0
IsStepResult p e found = MatchOption found (¬ Can p e) (λ q. pinstep p e q)

-- ---- lists of events

-- the world after a list of events
abbrev pub after_all : PinWorld → List Event → PinWorld
after_all p [] = p
after_all p (e ∷ es) = after_all (after p e) es

-- each event can happen in its turn
abbrev pub CanAll : PinWorld → List Event → Type 0
CanAll p [] = Unit {0}
CanAll p (e ∷ es) = Can p e × CanAll (after p e) es

-- the world after all of the events, or none exactly if one of them can't happen in its turn
abbrev pub IsRunResult : PinWorld → List Event → Option PinWorld → Type 0
IsRunResult p es found = MatchOption found (¬ CanAll p es) (λ q. CanAll p es × (q ≡ after_all p es))
