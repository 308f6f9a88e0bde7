-- One more step keeps a lane's steps paired, and the hand that the lane holds after it.
use Rattle.std.proofs.Common.{◌≡◌, ℕ, List, [], ◌∷◌, ◌++◌, Option, None, Result, Ok, refl, ◌∙◌}
use Rattle.std.specs.Prelude.{fold}
use Rattle.std.proofs.lemmas.List.Sums.{fold-append}
use Rattle.blob_digest.specs.declared.range.ByteRange.{ByteRange}
use Rattle.blob_digest.specs.declared.refusal.Refusal.{Refusal}
use Rattle.spec_lib.specs.Texts.{Text}
use Rattle.store_model.specs.Catalog.{HandRecord}
use Rattle.store_model.specs.Histories.{FinishCall, PutBackCall, Step, TakeCall}
use Rattle.store_model.specs.Lanes.{IsHeld, IsPaired, ReturnsHeldHand, ReturnsNothing, hand_after, held_hand}

-- ---- paired steps

pub IsPaired-append_one : (held : Option HandRecord) (steps : List Step) (step : Step) → IsPaired held steps → ReturnsHeldHand (fold hand_after held steps) step → IsPaired held (steps ++ step ∷ [])
IsPaired-append_one held [] step paired own = (own, tt)
IsPaired-append_one held (first ∷ steps) step paired own = (paired.0, IsPaired-append_one (hand_after held first) steps step paired.1 own)

-- a step that returns no hand keeps the steps paired
returns_nothing : (held : Option HandRecord) (step : Step) → ReturnsNothing step → ReturnsHeldHand held step
returns_nothing held (PutBackCall h reply) never = absurd never
returns_nothing held (FinishCall h d reply) never = absurd never
returns_nothing held step never = tt

pub IsPaired-append_other : (steps : List Step) (step : Step) → IsPaired None steps → ReturnsNothing step → IsPaired None (steps ++ step ∷ [])
IsPaired-append_other steps step paired nothing = IsPaired-append_one None steps step paired (returns_nothing (held_hand steps) step nothing)

-- the return of the held hand keeps the steps paired
pub IsPaired-append_put_back : (steps : List Step) (h : HandRecord) (reply : Result ℕ Refusal) → IsPaired None steps → IsHeld h steps → IsPaired None (steps ++ PutBackCall h reply ∷ [])
IsPaired-append_put_back steps h reply paired held = IsPaired-append_one None steps (PutBackCall h reply) paired held

pub IsPaired-append_finish : (steps : List Step) (h : HandRecord) (digest : Text) (reply : Result ℕ Refusal) → IsPaired None steps → IsHeld h steps → IsPaired None (steps ++ FinishCall h digest reply ∷ [])
IsPaired-append_finish steps h digest reply paired held = IsPaired-append_one None steps (FinishCall h digest reply) paired held

-- ---- the held hand

pub held_hand-append_one : (steps : List Step) (step : Step) → held_hand (steps ++ step ∷ []) ≡ hand_after (held_hand steps) step
held_hand-append_one steps step = fold-append hand_after None steps (step ∷ [])

-- a lane holds the hand that it took last
pub IsHeld-take : (steps : List Step) (r : Text) (n : ℕ) (g : Option ByteRange) (len : ℕ) (h : HandRecord) → IsHeld h (steps ++ TakeCall r n g len (Ok h) ∷ [])
IsHeld-take steps r n g len h = (h, held_hand-append_one steps (TakeCall r n g len (Ok h)), refl, refl, refl)

-- a step that neither takes nor returns a hand keeps the held one
pub IsHeld-append_one : (h : HandRecord) (steps : List Step) (step : Step) → hand_after (held_hand steps) step ≡ held_hand steps → IsHeld h steps → IsHeld h (steps ++ step ∷ [])
IsHeld-append_one h steps step same held = (held.0, held_hand-append_one steps step ∙ same ∙ held.1, held.2, held.3, held.4)

-- a hand with the same key, repository and chunks is held too, with or without a chunk filled in
pub IsHeld-same : (h filled : HandRecord) (steps : List Step) → filled.key ≡ h.key → filled.repo ≡ h.repo → filled.chunks ≡ h.chunks → IsHeld h steps → IsHeld filled steps
IsHeld-same h filled steps key repo chunks held = (held.0, held.1, key ∙ held.2, repo ∙ held.3, chunks ∙ held.4)
