-- Histories of several lanes, each of which returns only the hand that it took last.
use Rattle.std.specs.Prelude.{◌≡◌, ◌==◌, ℕ, List, [], ◌∷◌, Option, Some, None, Ok, fold, if◌then◌else◌, map}
use Rattle.std.specs.List.{AllByRecursion}
use Rattle.std.specs.FinMap as fmap
use Rattle.store_model.specs.Catalog.{Catalog, HandRecord}
use Rattle.store_model.specs.Durable.{Agrees, AreReturnedAsTaken, DurableState}
use Rattle.store_model.specs.Histories.{FinishCall, LeadsTo, PutBackCall, State, Step, TakeCall}
use Rattle.store_model.specs.Invariant.{Sound}
use Rattle.store_model.specs.Recovery.{IsWellFormedStep}

-- ---- the steps of lanes

-- steps, each with the number of the lane that made it
abbrev pub LaneSteps : Type 0
LaneSteps = List (ℕ × Step)

-- the steps of all lanes
abbrev pub all_steps : LaneSteps → List Step
all_steps entries = map (λ e. e.1) entries

-- the steps of one lane, in order
abbrev pub steps_by : ℕ → LaneSteps → List Step
steps_by lane [] = []
steps_by lane (e ∷ entries) =
    if e.0 == lane then e.1 ∷ steps_by lane entries else steps_by lane entries

-- ---- the hand that a lane holds

-- the hand that a lane holds after a step, if it held this one before it
abbrev pub hand_after : Option HandRecord → Step → Option HandRecord
hand_after held (TakeCall r n g len (Ok h)) = Some h
hand_after held (PutBackCall h reply) = None
hand_after held (FinishCall h d reply) = None
hand_after held step = held

-- the hand that a lane holds after its steps: the one that it took last, unless it returned it
abbrev pub held_hand : List Step → Option HandRecord
held_hand steps = fold hand_after None steps

-- the hand has the key, the repository and the chunks of the held one
abbrev pub IsHeldHand : Option HandRecord → HandRecord → Type 0
IsHeldHand held hand =
    (taken : HandRecord) × (held ≡ Some taken) × (hand.key ≡ taken.key) × (hand.repo ≡ taken.repo) × (hand.chunks ≡ taken.chunks)

-- a lane with these steps holds the hand
abbrev pub IsHeld : HandRecord → List Step → Type 0
IsHeld hand steps = IsHeldHand (held_hand steps) hand

-- ---- lanes that return what they took

-- if the step returns a hand, it is the held one
abbrev pub ReturnsHeldHand : Option HandRecord → Step → Type 0
ReturnsHeldHand held (PutBackCall h reply) = IsHeldHand held h
ReturnsHeldHand held (FinishCall h d reply) = IsHeldHand held h
ReturnsHeldHand held step = Unit {0}

-- the step returns no hand
abbrev pub ReturnsNothing : Step → Type 0
ReturnsNothing (PutBackCall h reply) = ⊥
ReturnsNothing (FinishCall h d reply) = ⊥
ReturnsNothing step = Unit {0}

-- a lane that holds this hand returns in its steps only hands that it holds
abbrev pub IsPaired : Option HandRecord → List Step → Type 0
IsPaired held [] = Unit {0}
IsPaired held (step ∷ steps) = ReturnsHeldHand held step × IsPaired (hand_after held step) steps

-- If the steps of each lane are paired, then in their common history every hand is returned as it was taken.
abbrev pub LanesReturnHands : Type 0
LanesReturnHands = (D : DurableState) (C : Catalog) (entries : LaneSteps) (s : State) →
    Agrees fmap.empty D C → Sound C → LeadsTo C (all_steps entries) s →
    AllByRecursion IsWellFormedStep (all_steps entries) →
    ((lane : ℕ) → IsPaired None (steps_by lane entries)) → AreReturnedAsTaken fmap.empty (all_steps entries)
