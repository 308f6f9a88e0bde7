-- Each step is its event, by the view of its seat after the step.
use Rattle.std.proofs.Common.{◌≡◌, ◌≢◌, ℕ, ◌+◌, ◌-◌, ◌%◌, ◌<◌, List, [], set, inl, inr, refl, sym, ap, ◌∙◌, subst, arith}
use Rattle.std.specs.Prelude.{slice_index, bit_or, bit_and}
use Rattle.std.proofs.lemmas.List.{set-get_or}
use Rattle.pin_core.specs.declared.event.Event.{Event}
use Rattle.pin_core.specs.declared.event.Event.TheVariants.{Give, Lend, Leave, Condemn, Revive, Reclaim, Look}
use Rattle.pin_core.specs.World.{PinWorld, holds_of, row, weight_on}
use Rattle.pin_table.specs.declared.view.KeeperView.{KeeperView}
use Rattle.pin_table.specs.declared.view.View.{View}
use Rattle.pin_table.specs.declared.view.View.TheVariants.{Keeper, Left}
use Rattle.pin_table.specs.Rule.{Agrees, released_pin}
use Rattle.pin_table.specs.Plays.{Finds, Move, Seated, IsReclaimStep, with_look}
use Rattle.pin_table.specs.Steps.{SeatStep, look, give, lend, detach_pin, leave, condemn, revive, reclaim, fail_reclaim, share, verify, Exchanges, IsEvent, IsMade, LeadsByEvent, OfKeeper, looks_of, views_after, words_after}
use Rattle.pin_table.specs.Laws.{StepsAreEvents}
use Rattle.pin_table.proofs.Bits.{one_sum}
use Rattle.pin_table.proofs.Names.{fresh}
use Rattle.pin_table.proofs.Steps.{Keeping, keeping, looks, gives, lends, condemns, revives, reclaims}
use Rattle.pin_table.proofs.PinSeats.{pinned, leaves, shares, hands_out, takes_in, opens}

module _ (ws : List ℕ) (vs : List View) (p : PinWorld) (a : Agrees ws vs p) where
  kept_by : (v : KeeperView) (s : Move) → OfKeeper ws vs v s → Keeping ws vs p v s.word
  kept_by v s o = let within = o.1.0 in keeping a v s.word o.0 (omega (arith, within, a.all_words))

  -- the words and the seat's view after the step, by their names
  led : (e : Event) (l m : List ℕ) (id : ℕ) (u : View) (me : Seated) → l ≡ m → me ≡ (u, []) → LeadsByEvent p e l (set vs id u) → LeadsByEvent p e m (set vs id me.0)
  led e l m id u me words is leads = subst (λ x. LeadsByEvent p e m (set vs id x)) (sym (ap (λ (y : Seated). y.0) is)) (subst (λ x. LeadsByEvent p e x (set vs id u)) words leads)

  -- a load, which found this sum
  looked_by : (v : KeeperView) (k weight : ℕ) (me : Seated) → Keeping ws vs p v k → Finds k (slice_index ws k) v weight → me ≡ (Keeper (with_look k weight v), []) → LeadsByEvent p (Look k) ws (set vs 0 me.0)
  looked_by v k weight me c finds is =
      let r = row v.rows k in
      let most = c.finds.fits in
      let same = one_sum r.generation r.generation (weight_on k (holds_of p)) weight r.phase r.phase (omega arith) finds.fits (sym c.finds.word ∙ finds.word) in
      led (Look k) (set ws k (slice_index ws k)) ws 0 (Keeper (with_look k weight v)) me (set-get_or ws k 0) is
      (subst (λ x. LeadsByEvent p (Look k) (set ws k (slice_index ws k)) (set vs 0 (Keeper (with_look k x v)))) same (looks c))

  -- an exchange that is made, and one that isn't
  made_by : (v : KeeperView) (s : Move) (me : Seated) → OfKeeper ws vs v s → Exchanges v s → slice_index ws s.word ≡ s.first → IsReclaimStep s (Keeper v, []) (slice_index ws s.word) me → LeadsByEvent p (Reclaim s.word) (set ws s.word s.second) (set vs 0 me.0)
  made_by v s me o e hit (inl t) = led (Reclaim s.word) (set ws s.word s.second) _ 0 _ me refl t.1 (reclaims s.first s.second (kept_by v s o) e.0 e.1 e.2 t.0)
  made_by v s me o e hit (inr t) = absurd (t.0 hit)

  missed_by : (v : KeeperView) (s : Move) (me : Seated) → OfKeeper ws vs v s → slice_index ws s.word ≢ s.first → IsReclaimStep s (Keeper v, []) (slice_index ws s.word) me → LeadsByEvent p (Look s.word) ws (set vs 0 me.0)
  missed_by v s me o apart (inl t) = absurd (apart t.0)
  missed_by v s me o apart (inr t) = looked_by v s.word t.1.0 me (kept_by v s o) t.1.1 t.1.2

  by_step : (x : SeatStep) → IsMade ws vs x → IsEvent p x (words_after ws x) (views_after vs x)
  by_step (look v s me) t = looked_by v s.word t.1.0 me (kept_by v s t.0) t.1.1 t.1.3
  by_step (give v s me d) t = led (Give s.word d) _ _ 0 _ me (ap (λ x. set ws s.word (bit_or (slice_index ws s.word) x)) (sym t.3)) t.4 (gives d (kept_by v s t.0) t.1 t.2)
  by_step (lend v s me) t = (fresh p.pins, led (Lend s.word (fresh p.pins)) _ _ 0 _ me (ap (λ x. set ws s.word ((slice_index ws s.word + x) % 18446744073709551616)) (sym t.4)) t.5 (lends (kept_by v s t.0) t.0.1.1 t.1 t.2 t.3))
  by_step (detach_pin v) t = hands_out a v t
  by_step (leave id h s me) t =
      let c = pinned a id h t.0 in
      let fits : slice_index ws h.slot < 18446744073709551616 = subst (λ k. slice_index ws k < 18446744073709551616) t.2 t.1.1 in (
        c.name,
        c.named,
        led (Leave c.name) _ _ id _ me
            (ap (λ k. set ws k ((slice_index ws k + (18446744073709551616 - h.weight)) % 18446744073709551616)) (sym t.2) ∙ ap (λ x. set ws s.word ((slice_index ws s.word + (18446744073709551616 - x)) % 18446744073709551616)) (sym t.3))
            (t.4 ∙ ap (λ look. (Left (released_pin h look), [])) (ap (λ l. slice_index (looks_of l) h.slot) c.agrees.seats)) (leaves c fits),
      )
  by_step (condemn v s me) t = led (Condemn s.word) _ _ 0 _ me (ap (λ x. set ws s.word (bit_or (slice_index ws s.word) x)) (sym t.2)) t.3 (condemns (kept_by v s t.0) t.1)
  by_step (revive v s me) t = led (Revive s.word) _ _ 0 _ me (ap (λ x. set ws s.word (bit_and (slice_index ws s.word) x)) (sym t.2)) t.3 (revives (kept_by v s t.0) t.0.1.1 t.1)
  by_step (reclaim v s me) t = made_by v s me t.0 t.1 t.2 t.3
  by_step (fail_reclaim v s me) t = missed_by v s me t.0 t.2 t.3
  by_step (share id h) t = let c = pinned a id h t.0 in (c.name, fresh p.pins, c.named, shares c t.1)
  by_step (verify v id h) t = let r = takes_in a v id h t.0 t.1 t.2 t.3 in (r.name, r.named, r.leads)

pub steps : StepsAreEvents
steps = record { made = opens; steps = λ ws vs p x a t. by_step ws vs p a x t }
