-- Each kind of step keeps the rule, in every state of the table.
use Rattle.std.proofs.Common.{◌≡◌, ℕ, ◌+◌, ◌-◌, ◌%◌, ◌≤◌, ◌<◌, List, [], ◌∷◌, ◌++◌, length, set, replicate, Some, None, inl, inr, refl, sym, ap, subst, arith}
use Rattle.std.specs.Prelude.{slice_index, slice_set, bit_or, bit_and, ◌==◌}
use mathlib.Core.Option.{some, none}
use lib.ListN.{get_elem?}
use prog.Atomic.{either}
use Rattle.atomic_table.specs.Table.{State, Me, step, keeps, Allows, Splits, Joins}
use Rattle.atomic_table.proofs.Lists.{exchanged}
use Rattle.spec_lib.specs.Texts.{Text}
use Rattle.pin_core.specs.declared.world.Phase.TheVariants.{Free, Live, Condemned}
use Rattle.pin_core.specs.declared.world.PinRecord.{PinRecord}
use Rattle.pin_core.specs.declared.event.Event.{Event}
use Rattle.pin_core.specs.declared.event.Event.TheVariants.{Give, Lend, Leave, Share, Condemn, Revive, Reclaim, Look, Verify}
use Rattle.pin_core.specs.World.{PinWorld, holds_of, weight_on, row, row_word, word_of, max_weight, initial_world}
use Rattle.pin_core.specs.Events.{IsNew, new_weight, reclaimed_row, after_all, in_phase, given_row, lent_hold}
use Rattle.pin_table.specs.declared.view.KeeperView.{KeeperView}
use Rattle.pin_table.specs.declared.view.View.{View}
use Rattle.pin_table.specs.declared.view.View.TheVariants.{Keeper, Pin, Left, Empty}
use Rattle.pin_table.specs.Rule.{Ruled, Agrees, released_pin, initial_view}
use Rattle.pin_table.specs.Plays.{with_transit, with_lent, with_look, with_row, IsLookStep, IsGiveStep, lent, IsLeaveStep, IsCondemnStep, IsReviveStep, IsReclaimStep, without_transit, transit_pin, halved, with_pin_taken}
use Rattle.pin_table.specs.Steps.{LeadsByEvent}
use Rattle.pin_table.proofs.Names.{fresh}
use Rattle.pin_table.proofs.Agreement.{advanced, is_keeper}
use Rattle.pin_table.proofs.Steps.{Keeping, keeping, hand_kept, looks, gives, lends, condemns, revives, reclaims}
use Rattle.pin_table.proofs.PinSeats.{pinned, leaves, shares, hands_out, takes_in, opens}

-- the rule, of a table of m slots that began in the generation g
abbrev pub holds : ℕ → ℕ → State (Unit {0}) View → Type 0
holds m g s = Ruled m g s.words s.views

-- a seat before and after a step
abbrev Seated : Type 0
Seated = Me (Unit {0}) View

module _ (m g slots : ℕ) where
  -- a step of the keeper's seat, known by equations
  by_keeper : (k id : ℕ) (me : Seated) (v : KeeperView) (f : ℕ → ℕ) (then : Seated → ℕ → Seated → Type 0) → id ≡ 0 → me ≡ (Keeper v, []) → k < length v.rows
      → ((ws : List ℕ) (vs : List View) (p : PinWorld) → Keeping ws vs p v k → slice_index ws k < 18446744073709551616
      → (u : KeeperView) × (e : Event) × LeadsByEvent p e (set ws k (f (slice_index ws k))) (set vs 0 (Keeper u)) × then (Keeper v, []) (slice_index ws k) (Keeper u, []))
      → Allows (holds m g) slots id me k f (then me)
  by_keeper k id me v f then zero_is me_is l law =
      subst (λ i. Allows (holds m g) slots i me k f (then me)) (sym zero_is)
      (subst (λ x. Allows (holds m g) slots 0 x k f (then x)) (sym me_is) (λ s r homes at fits.
      let a = r.agrees in
      let here = is_long s.words s.views r at in
      let t = law s.words s.views (after_all (initial_world m g) r.events) (keeping a v k at here) fits in
      (Keeper t.0, keeps, tt, advanced m g s.words (set s.words k (f (slice_index s.words k))) s.views (set s.views 0 (Keeper t.0)) r t.1 t.2, t.3)))
    where
      is_long : (ws : List ℕ) (vs : List View) (r : Ruled m g ws vs) → get_elem? vs 0 ≡ some (Keeper v) → k < length (after_all (initial_world m g) r.events).rows
      is_long ws vs r at = let same = is_keeper r.agrees v at in omega (arith, l, ap (λ x. length x) r.agrees.rows, ap (λ (x : KeeperView). length x.rows) same)

  pub look_allowed : (k id : ℕ) (me : Seated) (v : KeeperView) → id ≡ 0 → me ≡ (Keeper v, []) → k < length v.rows → Allows (holds m g) slots id me k (λ n. n) (IsLookStep (step slots k 0 0 none) me)
  look_allowed k id me v z is l = by_keeper k id me v (λ n. n) (IsLookStep (step slots k 0 0 none)) z is l (λ ws vs p c fits.
      (with_look k (weight_on k (holds_of p)) v, Look k, looks c, (weight_on k (holds_of p), c.finds, hand_kept c, refl)))

  pub give_allowed : (d : Text) (k id : ℕ) (me : Seated) (v : KeeperView) → id ≡ 0 → me ≡ (Keeper v, []) → k < length v.rows → (row v.rows k).phase ≡ Free → IsNew d v.rows
      → Allows (holds m g) slots id me k (λ n. bit_or n 2147483648) (IsGiveStep d (step slots k 2147483648 0 none) me)
  give_allowed d k id me v z is l free new = by_keeper k id me v (λ n. bit_or n 2147483648) (IsGiveStep d (step slots k 2147483648 0 none)) z is l (λ ws vs p c fits.
      (with_look k 0 (with_row k (given_row d (row v.rows k)) v), Give k d, gives d c free new, refl))

  pub lend_allowed : (k id : ℕ) (me : Seated) (v : KeeperView) → id ≡ 0 → me ≡ (Keeper v, []) → k < length v.rows → v.transit ≡ None → (row v.rows k).phase ≡ Live → slice_index v.bounds k + new_weight ≤ max_weight
      → Allows (holds m g) slots id me k (λ n. (n + 1024) % 18446744073709551616) (lent (step slots k 1024 0 none) me)
  lend_allowed k id me v z is l empty live room = by_keeper k id me v (λ n. (n + 1024) % 18446744073709551616) (lent (step slots k 1024 0 none)) z is l (λ ws vs p c fits.
      (with_transit (Some (lent_hold k (row v.rows k))) (with_lent k v), Lend k (fresh p.pins), lends c fits empty live room, refl))

  pub condemn_allowed : (k id : ℕ) (me : Seated) (v : KeeperView) → id ≡ 0 → me ≡ (Keeper v, []) → k < length v.rows → (row v.rows k).phase ≡ Live
      → Allows (holds m g) slots id me k (λ n. bit_or n 1073741824) (IsCondemnStep (step slots k 1073741824 0 none) me)
  condemn_allowed k id me v z is l live = by_keeper k id me v (λ n. bit_or n 1073741824) (IsCondemnStep (step slots k 1073741824 0 none)) z is l (λ ws vs p c fits.
      (with_row k (in_phase Condemned (row v.rows k)) v, Condemn k, condemns c live, refl))

  pub revive_allowed : (k id : ℕ) (me : Seated) (v : KeeperView) → id ≡ 0 → me ≡ (Keeper v, []) → k < length v.rows → (row v.rows k).phase ≡ Condemned
      → Allows (holds m g) slots id me k (λ n. bit_and n 18446744072635809791) (IsReviveStep (step slots k 18446744072635809791 0 none) me)
  revive_allowed k id me v z is l dead = by_keeper k id me v (λ n. bit_and n 18446744072635809791) (IsReviveStep (step slots k 18446744072635809791 0 none)) z is l (λ ws vs p c fits.
      (with_row k (in_phase Live (row v.rows k)) v, Revive k, revives c fits dead, refl))

  pub reclaim_allowed : (k id : ℕ) (me : Seated) (v : KeeperView) (old new : ℕ) → id ≡ 0 → me ≡ (Keeper v, []) → k < length v.rows → (row v.rows k).phase ≡ Condemned → old ≡ row_word (row v.rows k) 0 → new ≡ row_word (reclaimed_row (row v.rows k)) 0
      → Allows (holds m g) slots id me k (λ n. either (n == old) new n) (IsReclaimStep (step slots k old new none) me)
  reclaim_allowed k id me v old new z is l dead old_is new_is = by_keeper k id me v (λ n. either (n == old) new n) (IsReclaimStep (step slots k old new none)) z is l (λ ws vs p c fits.
      exchanged (slice_index ws k) old new (λ x. (u : KeeperView) × (e : Event) × LeadsByEvent p e (set ws k x) (set vs 0 (Keeper u)) × IsReclaimStep (step slots k old new none) (Keeper v, []) (slice_index ws k) (Keeper u, []))
      (λ hit. (with_look k 0 (with_row k (reclaimed_row (row v.rows k)) v), Reclaim k, reclaims old new c dead old_is new_is hit, inl (hit, refl)))
      (λ miss. (with_look k (weight_on k (holds_of p)) v, Look k, looks c, inr (miss, (weight_on k (holds_of p), c.finds, refl)))))

  -- the step of a pin's seat
  pub leave_allowed : (k n id : ℕ) (me : Seated) (h : PinRecord) → k ≡ h.slot → n ≡ h.weight → me ≡ (Pin h, [])
      → Allows (holds m g) slots id me k (λ x. (x + (18446744073709551616 - n)) % 18446744073709551616) (IsLeaveStep (step slots k n 0 none) me)
  leave_allowed k n id me h ks ns is =
      subst (λ j. Allows (holds m g) slots id me j (λ x. (x + (18446744073709551616 - n)) % 18446744073709551616) (IsLeaveStep (step slots j n 0 none) me)) (sym ks)
      (subst (λ w. Allows (holds m g) slots id me h.slot (λ x. (x + (18446744073709551616 - w)) % 18446744073709551616) (IsLeaveStep (step slots h.slot w 0 none) me)) (sym ns)
      (subst (λ y. Allows (holds m g) slots id y h.slot (λ x. (x + (18446744073709551616 - h.weight)) % 18446744073709551616) (IsLeaveStep (step slots h.slot h.weight 0 none) y)) (sym is) (λ s r homes at fits.
      let c = pinned r.agrees id h at in
      let word = (slice_index s.words h.slot + (18446744073709551616 - h.weight)) % 18446744073709551616 in
      let look : ℕ = slice_index c.agrees.keeper.looks h.slot in
      (Left (released_pin h look), keeps, tt, advanced m g s.words (set s.words h.slot word) s.views (set s.views id (Left (released_pin h look))) r (Leave c.name) (leaves c fits), (look, refl)))))

-- ---- splits and joins

pub share_allowed : (m g id : ℕ) (w : View) (h : PinRecord) → w ≡ Pin h → 1 < h.weight → Splits (holds m g) id w (halved w) (halved w)
share_allowed m g id w h is more = subst (λ x. Splits (holds m g) id x (halved x) (halved x)) (sym is) (λ s r at.
    let c = pinned r.agrees id h at in
    advanced m g s.words s.words s.views (slice_set s.views id (halved (Pin h)) ++ halved (Pin h) ∷ []) r (Share c.name (fresh (after_all (initial_world m g) r.events).pins)) (shares c more))

pub transit_allowed : (m g id : ℕ) (w : View) (v : KeeperView) → id ≡ 0 → w ≡ Keeper v → Splits (holds m g) id w (without_transit w) (transit_pin w)
transit_allowed m g id w v z is = subst (λ i. Splits (holds m g) i w (without_transit w) (transit_pin w)) (sym z) (subst (λ x. Splits (holds m g) 0 x (without_transit x) (transit_pin x)) (sym is) (λ s r at.
    record { events = r.events; happen = r.happen; agrees = hands_out r.agrees v at }))

pub verify_allowed : (m g id : ℕ) (w : View) (v : KeeperView) (other : ℕ) (u : View) (h : PinRecord) → id ≡ 0 → w ≡ Keeper v → v.transit ≡ None → u ≡ Pin h → Joins (holds m g) id w other u (with_pin_taken w u) Empty
verify_allowed m g id w v other u h z is empty pin =
    subst (λ i. Joins (holds m g) i w other u (with_pin_taken w u) Empty) (sym z)
    (subst (λ x. Joins (holds m g) 0 x other u (with_pin_taken x u) Empty) (sym is)
    (subst (λ y. Joins (holds m g) 0 (Keeper v) other y (with_pin_taken (Keeper v) y) Empty) (sym pin) (λ s r at ne there.
    let t = takes_in r.agrees v other h at empty ne there in
    advanced m g s.words s.words s.views (slice_set (slice_set s.views 0 (Keeper (with_transit (Some h) v))) other Empty) r (Verify t.name) t.leads)))

-- a new table
pub new_allowed : (m g : ℕ) (ws : List ℕ) → ws ≡ replicate m (word_of g Free 0) → Ruled m g ws (initial_view m g ∷ [])
new_allowed m g ws is = record { events = []; happen = tt; agrees = subst (λ l. Agrees l (initial_view m g ∷ []) (initial_world m g)) (sym is) (opens m g) }
