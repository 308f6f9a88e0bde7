-- Every list of steps is one list of events.
use Rattle.std.proofs.Common.{◌≡◌, ◌⊎◌, ℕ, zero, suc, ◌≤◌, List, [], ◌∷◌, take, length, sum_by, inl, inr, refl, sym, subst, arith}
use Rattle.std.proofs.lemmas.List.Sums.{sum_by-cons}
use Rattle.pin_core.specs.declared.event.Event.{Event}
use Rattle.pin_core.specs.declared.event.Event.TheVariants.{Give, Lend, Share, Leave, Condemn, Revive, Reclaim, Look, Verify}
use Rattle.pin_core.specs.World.{PinWorld, initial_world}
use Rattle.pin_core.specs.Events.{CanAll, after, after_all}
use Rattle.pin_core.proofs.Spans.{reclamation}
use Rattle.pin_table.specs.declared.view.View.{View}
use Rattle.pin_table.specs.Rule.{Agrees}
use Rattle.pin_table.specs.Steps.{SeatStep, look, give, lend, detach_pin, leave, condemn, revive, reclaim, fail_reclaim, share, verify, IsEvent, LeadsByEvent}
use Rattle.pin_table.specs.Laws.{AreMade, Histories, Moment, event_count, moment_after_all, new_table, moment_after}
use Rattle.pin_table.proofs.PinSeats.{opens}
use Rattle.pin_table.proofs.StepLaws.{steps}

-- a step is one event, or none
one_or_none : (p : PinWorld) (x : SeatStep) (ws : List ℕ) (vs : List View) → IsEvent p x ws vs → ((event_count x ≡ 1) × ((e : Event) × LeadsByEvent p e ws vs)) ⊎ ((event_count x ≡ 0) × Agrees ws vs p)
one_or_none p (look v s me) ws vs t = inl (refl, (Look s.word, t))
one_or_none p (give v s me d) ws vs t = inl (refl, (Give s.word d, t))
one_or_none p (lend v s me) ws vs t = inl (refl, (Lend s.word t.0, t.1))
one_or_none p (detach_pin v) ws vs t = inr (refl, t)
one_or_none p (leave id h s me) ws vs t = inl (refl, (Leave t.0, t.2))
one_or_none p (condemn v s me) ws vs t = inl (refl, (Condemn s.word, t))
one_or_none p (revive v s me) ws vs t = inl (refl, (Revive s.word, t))
one_or_none p (reclaim v s me) ws vs t = inl (refl, (Reclaim s.word, t))
one_or_none p (fail_reclaim v s me) ws vs t = inl (refl, (Look s.word, t))
one_or_none p (share id h) ws vs t = inl (refl, (Share t.0 t.1, t.3))
one_or_none p (verify v id h) ws vs t = inl (refl, (Verify t.0, t.2))

-- the events of a list of steps from the moment m, with which the world p agrees
record Followed (m : Moment) (p : PinWorld) (xs : List SeatStep) : Type 0 where
  events : List Event
  happen : CanAll p events
  one_each : length events ≡ sum_by event_count xs
  agrees : (i : ℕ) → i ≤ length xs → Agrees (moment_after_all m (take i xs)).words (moment_after_all m (take i xs)).views (after_all p (take (sum_by event_count (take i xs)) events))

-- one step before them, which is an event
after_event : (m : Moment) (p : PinWorld) (x : SeatStep) (xs : List SeatStep) (e : Event) → Agrees m.words m.views p → event_count x ≡ 1 → LeadsByEvent p e (moment_after m x).words (moment_after m x).views → Followed (moment_after m x) (after p e) xs → Followed m p (x ∷ xs)
after_event m p x xs e a one leads r = record {
  events = e ∷ r.events;
  happen = (leads.0, r.happen);
  one_each = omega (arith, sum_by-cons event_count x xs, one, r.one_each);
  agrees = at;
}
  where
    at : (i : ℕ) → i ≤ length (x ∷ xs) → Agrees (moment_after_all m (take i (x ∷ xs))).words (moment_after_all m (take i (x ∷ xs))).views (after_all p (take (sum_by event_count (take i (x ∷ xs))) (e ∷ r.events)))
    at zero l = a
    at (suc i) l =
        let more : sum_by event_count (x ∷ take i xs) ≡ suc (sum_by event_count (take i xs)) = omega (arith, sum_by-cons event_count x (take i xs), one) in
        subst (λ c. Agrees (moment_after_all (moment_after m x) (take i xs)).words (moment_after_all (moment_after m x) (take i xs)).views (after_all p (take c (e ∷ r.events)))) (sym more) (r.agrees i (omega (arith, l)))

-- one step before them, which is none
after_none : (m : Moment) (p : PinWorld) (x : SeatStep) (xs : List SeatStep) → Agrees m.words m.views p → event_count x ≡ 0 → Followed (moment_after m x) p xs → Followed m p (x ∷ xs)
after_none m p x xs a none r = record {
  events = r.events;
  happen = r.happen;
  one_each = omega (arith, sum_by-cons event_count x xs, none, r.one_each);
  agrees = at;
}
  where
    at : (i : ℕ) → i ≤ length (x ∷ xs) → Agrees (moment_after_all m (take i (x ∷ xs))).words (moment_after_all m (take i (x ∷ xs))).views (after_all p (take (sum_by event_count (take i (x ∷ xs))) r.events))
    at zero l = a
    at (suc i) l =
        let same : sum_by event_count (x ∷ take i xs) ≡ sum_by event_count (take i xs) = omega (arith, sum_by-cons event_count x (take i xs), none) in
        subst (λ c. Agrees (moment_after_all (moment_after m x) (take i xs)).words (moment_after_all (moment_after m x) (take i xs)).views (after_all p (take c r.events))) (sym same) (r.agrees i (omega (arith, l)))

follow : (m : Moment) (p : PinWorld) (xs : List SeatStep) → Agrees m.words m.views p → AreMade m xs → Followed m p xs
follow m p [] a t = record {
  events = [];
  happen = tt;
  one_each = refl;
  agrees = λ i l. let none : i ≡ 0 = omega (arith, l) in subst (λ j. Agrees (moment_after_all m (take j [])).words (moment_after_all m (take j [])).views (after_all p (take (sum_by event_count (take j [])) []))) (sym none) a;
}
follow m p (x ∷ xs) a t = by_kind (λ q b. follow (moment_after m x) q xs b t.1) (one_or_none p x (moment_after m x).words (moment_after m x).views (steps.steps m.words m.views p x a t.0))
  where
    by_kind : ((q : PinWorld) → Agrees (moment_after m x).words (moment_after m x).views q → Followed (moment_after m x) q xs)
        → ((event_count x ≡ 1) × ((e : Event) × LeadsByEvent p e (moment_after m x).words (moment_after m x).views)) ⊎ ((event_count x ≡ 0) × Agrees (moment_after m x).words (moment_after m x).views p) → Followed m p (x ∷ xs)
    by_kind rest (inl k) = after_event m p x xs k.1.0 a k.0 k.1.1 (rest (after p k.1.0) k.1.1.1)
    by_kind rest (inr k) = after_none m p x xs a k.0 (rest p k.1)

pub histories : Histories
histories n g xs t =
    let r = follow (new_table n g) (initial_world n g) xs (opens n g) t in record {
      events = r.events;
      happen = r.happen;
      reclaims = reclamation.from_opening n g r.events r.happen;
      one_each = r.one_each;
      agrees = r.agrees;
    }
