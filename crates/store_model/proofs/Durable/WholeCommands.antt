-- A history of whole commands returns every hand as it was taken.
use Rattle.std.proofs.Common.{◌≡◌, List, [], ◌∷◌, ◌++◌, Some, Ok, Err, refl, sym, ap, ◌∙◌, subst, inl, inr, ⊎_elim}
use Rattle.std.specs.FinMap.{empty, get, get-empty, insert, remove}
use Rattle.blob_digest.proofs.KeyOrders.{number_cmp_total, exact_number}
use Rattle.spec_lib.proofs.Maps.{cases_key, get-insert_at, get-insert_other, got-remove}
use Rattle.spec_lib.proofs.Options.{nothing, some_same}
use Rattle.spec_lib.specs.Texts.{Text}
use Rattle.store_model.specs.Catalog.{HandRecord, SessionNumber, session_number_cmp}
use Rattle.store_model.specs.Durable.{AreReturnedAsTaken, IsReturnedAsTaken, TakenSessions, WholeCommandsReturnHands, taken_after_step}
use Rattle.store_model.specs.Histories.{CommandCall, FinishCall, PutBackCall, Step, SweepCall, SweepPartCall, TakeCall}
use Rattle.store_model.specs.Runs.{Event}
use Rattle.store_model.specs.WholeCommands.{AreWholeCommands, CheckedOut, CheckedOutSessions, CorrespondsTo}
use Rattle.store_model.proofs.Durable.Torn.{first_returned}

-- the repository and the chunks of a hand
abbrev taken_of : HandRecord → Text × List Text
taken_of h = (h.repo, h.chunks)

-- each checked-out hand has the repository and the chunks with which its session was taken
abbrev Known : TakenSessions → CheckedOutSessions → Type 0
Known taken hands = (k : SessionNumber) (out : CheckedOut) → get hands k ≡ Some out → get taken k ≡ Some (taken_of out.hand)

module _ (taken : TakenSessions) (hands : CheckedOutSessions) (known : Known taken hands) where
  same_hands : (after : CheckedOutSessions) → after ≡ hands → Known taken after
  same_hands after is = subst (λ x. Known taken x) (sym is) known

  lent : (h : HandRecord) (out : CheckedOut) → out.hand ≡ h → Known (insert taken h.key (taken_of h)) (insert hands h.key out)
  lent h out is k x found = elim (cases_key number_cmp_total exact_number k h.key) [
    | inl e ↦
        let same : out ≡ x = some_same (sym (get-insert_at number_cmp_total exact_number hands h.key out) ∙ ap (get (insert hands h.key out)) (sym e) ∙ found) in
        ap (get (insert taken h.key (taken_of h))) e ∙ get-insert_at number_cmp_total exact_number taken h.key (taken_of h) ∙ ap (λ (y : HandRecord). Some (taken_of y)) (sym is ∙ ap (λ (y : CheckedOut). y.hand) same)
    | inr other ↦ get-insert_other number_cmp_total exact_number taken h.key (taken_of h) k other ∙ known k x (sym (get-insert_other number_cmp_total exact_number hands h.key out k other) ∙ found)
  ]

  after_return : (key : SessionNumber) → Known taken (remove hands key)
  after_return key k x found = known k x (got-remove number_cmp_total exact_number hands key k x found)

  hand_is : (h : HandRecord) (out : CheckedOut) → get hands h.key ≡ Some out → taken_of h ≡ taken_of out.hand → get taken h.key ≡ Some (taken_of h)
  hand_is h out found same = known h.key out found ∙ ap Some (sym same)

step_returns : (taken : TakenSessions) (hands : CheckedOutSessions) (step : Step) (events : List Event) (after : CheckedOutSessions) → Known taken hands → CorrespondsTo hands step events after → IsReturnedAsTaken taken step × Known (taken_after_step taken step) after
step_returns taken hands (CommandCall command reply) events after known comes = (tt, same_hands taken hands known after comes.1)
step_returns taken hands (SweepCall swept) events after known comes = (tt, same_hands taken hands known after comes.1)
step_returns taken hands (SweepPartCall swept) events after known comes = (tt, same_hands taken hands known after comes.1)
step_returns taken hands (TakeCall r n g len (Ok h)) events after known comes =
    (tt, subst (λ x. Known (insert taken h.key (taken_of h)) x) (sym comes.1) (lent taken hands known h (record { hand = h; repo = r; range = g }) refl))
step_returns taken hands (TakeCall r n g len (Err e)) events after known comes = (tt, same_hands taken hands known after comes.1)
step_returns taken hands (PutBackCall h reply) events after known comes =
    let out : CheckedOut = comes.0 in
    let same : taken_of h ≡ taken_of out.hand = ⊎_elim (λ filled. ap taken_of filled.1.1) (λ unfilled. ap taken_of unfilled.0) comes.2 in
    (hand_is taken hands known h out comes.1 same, subst (λ x. Known taken x) (sym comes.3) (after_return taken hands known h.key))
step_returns taken hands (FinishCall h d reply) events after known comes =
    let out : CheckedOut = comes.0 in
    let same : taken_of h ≡ taken_of out.hand = ap taken_of comes.2.1.1 in
    (hand_is taken hands known h out comes.1 same, subst (λ x. Known taken x) (sym comes.3) (after_return taken hands known h.key))

steps_return : (steps : List Step) (taken : TakenSessions) (hands : CheckedOutSessions) (events : List Event) → Known taken hands → AreWholeCommands hands steps events → AreReturnedAsTaken taken steps
steps_return [] taken hands events known are = tt
steps_return (step ∷ steps) taken hands events known are =
    let one = step_returns taken hands step are.0 are.2 known are.3 in
    (one.0, steps_return steps (taken_after_step taken step) are.2 are.1 one.1 are.5)

pub whole_commands_return_hands : WholeCommandsReturnHands
whole_commands_return_hands steps later events are = first_returned steps later empty (steps_return (steps ++ later) empty empty events (λ k out found. nothing (get-empty session_number_cmp k) found) are)
