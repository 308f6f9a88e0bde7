-- The steps of pins' seats, the splits and joins of seats, and a new table.
use Rattle.std.proofs.Common.{◌≡◌, ℕ, zero, suc, ◌+◌, ◌-◌, ◌*◌, ◌%◌, ◌^◌, ◌≤◌, ◌<◌, List, [], ◌∷◌, ◌++◌, length, set, sum_by, replicate, is_some, Option, Some, None, refl, sym, ap, ◌∙◌, subst, arith, pow_mono}
use Rattle.std.specs.Prelude.{slice_index}
use Rattle.std.specs.Option.{IsSomeAnd}
use Rattle.std.proofs.lemmas.List.{length-replicate, get_or-replicate, set-get_or}
use Rattle.std.proofs.lemmas.List.Elements.{All-nil, All-set, All-push}
use Rattle.std.proofs.lemmas.List.Sums.{sum_by-append, sum_by_push}
use Rattle.std.proofs.lemmas.List.Sorted.{IsPermutation-refl}
use mathlib.Core.Option.{some}
use lib.ListN.{get_elem?}
use Rattle.pin_core.specs.declared.world.Phase.TheVariants.{Free}
use Rattle.pin_core.specs.declared.world.PinRow.{PinRow}
use Rattle.pin_core.specs.declared.world.PinRecord.{PinRecord}
use Rattle.pin_core.specs.declared.event.Event.TheVariants.{Leave, Share, Verify}
use Rattle.pin_core.specs.World.{PinWorld, IsWeight, IsValidPin, hold_named, holds_of, weight_at, weight_on, row, row_word, word_of, phase_bits, no_row, initial_world}
use Rattle.pin_core.specs.Events.{Can, after, half}
use Rattle.pin_core.proofs.PinsAreValid.{state_after, state_initial}
use Rattle.pin_core.proofs.Shares.{shared_sum}
use Rattle.pin_table.specs.declared.view.KeeperView.{KeeperView}
use Rattle.pin_table.specs.declared.view.View.{View}
use Rattle.pin_table.specs.declared.view.View.TheVariants.{Keeper, Pin, Left, Empty}
use Rattle.pin_table.specs.Rule.{Accounts, Agrees, all_holds, released_pin, released_weight, released_weight_since, holds_in, in_transit, keeper_view, IsPinSeat, IsPast, initial_view}
use Rattle.pin_table.specs.Plays.{with_transit, seat_of_pin}
use Rattle.pin_table.specs.Steps.{LeadsByEvent}
use Rattle.pin_table.proofs.Orders.{one, one_self, permutes}
use Rattle.pin_table.proofs.Names.{fresh, unnamed, name_of, left_sum, shared_sums}
use Rattle.pin_table.proofs.Holds.{sum_set, sum_push, sum_one, sum_at, all_counted, weight_same, weight_apart}
use Rattle.pin_table.proofs.Accounts.{leaves_kept, regrouped_kept, view_set}
use Rattle.pin_table.proofs.Agreement.{is_keeper, sums, changed, pins_changed, regrouped}

-- facts about the seat id with the pin h: its place among the others, and its name
pub record Pinned (ws : List ℕ) (vs : List View) (p : PinWorld) (id : ℕ) (h : PinRecord) : Type 0 where
  pub agrees : Agrees ws vs p
  pub place : ℕ
  pub id_is : id ≡ suc place
  pub at : get_elem? agrees.others place ≡ some (Pin h)
  pub name : ℕ
  pub named : hold_named name p.pins ≡ Some h
  pub keeps : IsValidPin p.rows h
  pub weighs : IsWeight h

-- the sum over the world's pins, by seats
pub seat_sums : {ws : List ℕ} {vs : List View} {p : PinWorld} (a : Agrees ws vs p) (f : PinRecord → ℕ) → sum_by f (holds_of p) ≡ sum_by f (in_transit a.keeper.transit) + sum_by f (all_holds a.others)
seat_sums a f = sums a f ∙ ap (λ l. sum_by f (all_holds l)) a.seats ∙ sum_by-append f (in_transit a.keeper.transit) (all_holds a.others)

pub pinned : {ws : List ℕ} {vs : List View} {p : PinWorld} (a : Agrees ws vs p) (id : ℕ) (h : PinRecord) → get_elem? vs id ≡ some (Pin h) → Pinned ws vs p id h
pinned a zero h at =
    let first : some (Keeper a.keeper) ≡ some (Pin h) = ap (λ l. get_elem? l 0) (sym a.seats) ∙ at in absurd cc
pinned {p = p} a (suc place) h at =
    let here : get_elem? a.others place ≡ some (Pin h) = ap (λ l. get_elem? l (suc place)) (sym a.seats) ∙ at in
    let counted : 0 < sum_by (one h) (holds_of p) = omega (arith, seat_sums a (one h), sum_at (one h) a.others place h here, one_self h) in
    let name = name_of h p.pins a.state.named counted in record {
      agrees = a;
      place = place;
      id_is = refl;
      at = here;
      name = name.0;
      named = name.1;
      keeps = all_counted (IsValidPin p.rows) h (holds_of p) a.state.held counted;
      weighs = all_counted IsWeight h (holds_of p) a.state.weights counted;
    }

-- ---- Leave

small_power : (e : ℕ) → e ≤ 10 → 2 ^ e ≤ 1024
small_power e h = pow_mono {i = e} {j = 10} h

small : (h : PinRecord) → IsWeight h → h.weight ≤ 1024
small h w = let p = small_power w.0 w.1 in let q = w.2 in omega arith

left_word : (n g b t t' w : ℕ) → n < 18446744073709551616 → n ≡ g * 4294967296 + b + t → t' + w ≡ t → w ≤ 1024 → (n + (18446744073709551616 - w)) % 18446744073709551616 ≡ g * 4294967296 + b + t'
left_word n g b t t' w fits is less small = omega arith

pub leaves : {ws : List ℕ} {vs : List View} {p : PinWorld} {id : ℕ} {h : PinRecord} (c : Pinned ws vs p id h) → slice_index ws h.slot < 18446744073709551616
    → LeadsByEvent p (Leave c.name) (set ws h.slot ((slice_index ws h.slot + (18446744073709551616 - h.weight)) % 18446744073709551616)) (set vs id (Left (released_pin h (slice_index c.agrees.keeper.looks h.slot))))
leaves {ws} {vs} {p} {id} {h} c fits =
    let a = c.agrees in
    let k : ℕ = h.slot in
    let u = Left (released_pin h (slice_index a.keeper.looks k)) in
    let can : Can p (Leave c.name) = ap is_some c.named in
    let q = after p (Leave c.name) in
    let n = slice_index ws k in
    let m : ℕ = (n + (18446744073709551616 - h.weight)) % 18446744073709551616 in
    let within : k < length p.rows = c.keeps.there in
    let lost : (f : PinRecord → ℕ) → sum_by f (holds_of q) + f h ≡ sum_by f (holds_of p) = λ f. left_sum f c.name p.pins h a.state.named c.named in
    let less : weight_on k (holds_of q) + h.weight ≡ weight_on k (holds_of p) = omega (arith, lost (weight_at k), weight_same h) in
    let made : m ≡ row_word (row p.rows k) (weight_on k (holds_of q)) =
    left_word n (row p.rows k).generation (phase_bits (row p.rows k).phase) (weight_on k (holds_of p)) (weight_on k (holds_of q)) h.weight fits (a.at_words k within) less (small h c.weighs) in
    let others = set a.others c.place u in
    let pins = permutes (all_holds (Keeper a.keeper ∷ others)) (holds_of q)
    (λ f. omega (arith, sum_by-append f (in_transit a.keeper.transit) (all_holds others), seat_sums a f, lost f, sum_set f a.others c.place (Pin h) u c.at, sum_one f h)) in
    let bound : a.keeper.bounds ≡ set a.keeper.bounds k (slice_index a.keeper.bounds k) = bound_same a k in
    let made' = changed ws vs p q a k m (slice_index a.keeper.bounds k) a.keeper others (All-set IsPinSeat a.others c.place u tt a.guests) a.rows bound pins (state_after p (Leave c.name) can a.state)
    (pins_changed p k m (slice_index a.keeper.bounds k) q.pins within made (λ j ne. let z : weight_at j h ≡ 0 = weight_apart j h (λ e. ne (sym e)) in omega (arith, lost (weight_at j))) (a.limits k within))
    (leaves_kept (length p.rows) a.keeper.bounds a.keeper.looks a.keeper.lent a.others c.place (holds_of p) (holds_of q) h c.at (λ j. lost (weight_at j)) a.accounts) in
    (can, subst (λ l. Agrees (set ws k m) (set l id u) q) (sym a.seats) (subst (λ i. Agrees (set ws k m) (set (Keeper a.keeper ∷ a.others) i u) q) (sym c.id_is) made'))
  where
    bound_same : (a : Agrees ws vs p) (k : ℕ) → a.keeper.bounds ≡ set a.keeper.bounds k (slice_index a.keeper.bounds k)
    bound_same a k = sym (set-get_or a.keeper.bounds k 0)

-- ---- Share

pub shares : {ws : List ℕ} {vs : List View} {p : PinWorld} {id : ℕ} {h : PinRecord} (c : Pinned ws vs p id h) → 1 < h.weight
    → LeadsByEvent p (Share c.name (fresh p.pins)) ws (set vs id (Pin (half h)) ++ Pin (half h) ∷ [])
shares {ws} {vs} {p} {id} {h} c more =
    let a = c.agrees in
    let g = half h in
    let second = fresh p.pins in
    let big : IsSomeAnd (hold_named c.name p.pins) (λ x. 1 < x.weight) = subst (λ o. IsSomeAnd o (λ x. 1 < x.weight)) (sym c.named) more in
    let can : Can p (Share c.name second) = (big, unnamed p.pins second (omega arith)) in
    let q = after p (Share c.name second) in
    let others = set a.others c.place (Pin g) ++ Pin g ∷ [] in
    let pins = permutes (all_holds (Keeper a.keeper ∷ others)) (holds_of q)
    (λ f. omega (arith, sum_by-append f (in_transit a.keeper.transit) (all_holds others), seat_sums a f, shared_sums f c.name second p.pins h a.state.named c.named, sum_push f (set a.others c.place (Pin g)) (Pin g), sum_set f a.others c.place (Pin h) (Pin g) c.at, sum_one f h, sum_one f g)) in
    let still : (f : View → ℕ) → f (Pin h) ≡ 0 → f (Pin g) ≡ 0 → sum_by f others ≡ sum_by f a.others = λ f x y. omega (arith, sum_by_push f (set a.others c.place (Pin g)) (Pin g), view_set f a.others c.place (Pin h) (Pin g) c.at) in
    let guests = All-push IsPinSeat (set a.others c.place (Pin g)) (Pin g) (All-set IsPinSeat a.others c.place (Pin g) tt a.guests) tt in
    let made = regrouped ws vs p q.pins a a.keeper others guests refl refl pins (state_after p (Share c.name second) can a.state) (λ j. shared_sum j c.name second p.pins a.state.named big a.state.weights)
    (regrouped_kept (length p.rows) a.keeper.bounds a.keeper.looks a.keeper.lent a.others others (holds_of p) (holds_of q) (λ k. still (released_weight k) refl refl) (λ k look. still (released_weight_since k look) refl refl) (λ j. shared_sum j c.name second p.pins a.state.named big a.state.weights)
    (All-push (IsPast a.keeper.looks) (set a.others c.place (Pin g)) (Pin g) (All-set (IsPast a.keeper.looks) a.others c.place (Pin g) tt a.accounts.past) tt) a.accounts) in
    (can, subst (λ l. Agrees ws (set l id (Pin g) ++ Pin g ∷ []) q) (sym a.seats) (subst (λ i. Agrees ws (set (Keeper a.keeper ∷ a.others) i (Pin g) ++ Pin g ∷ []) q) (sym c.id_is) made))

-- ---- the pin in transit

own_seat_sum : (f : PinRecord → ℕ) (o : Option PinRecord) → sum_by f (holds_in (seat_of_pin o)) ≡ sum_by f (in_transit o)
own_seat_sum f None = refl
own_seat_sum f (Some h) = refl

own_seat_none : (f : View → ℕ) → ((h : PinRecord) → f (Pin h) ≡ 0) → f Empty ≡ 0 → (o : Option PinRecord) → f (seat_of_pin o) ≡ 0
own_seat_none f pin spent None = spent
own_seat_none f pin spent (Some h) = pin h

own_seat_past : (looks : List ℕ) (o : Option PinRecord) → IsPast looks (seat_of_pin o)
own_seat_past looks None = tt
own_seat_past looks (Some h) = tt

own_seat_guest : (o : Option PinRecord) → IsPinSeat (seat_of_pin o)
own_seat_guest None = tt
own_seat_guest (Some h) = tt

pub hands_out : {ws : List ℕ} {vs : List View} {p : PinWorld} (a : Agrees ws vs p) (v : KeeperView) → get_elem? vs 0 ≡ some (Keeper v) → Agrees ws (set vs 0 (Keeper (with_transit None v)) ++ seat_of_pin v.transit ∷ []) p
hands_out {ws} {vs} {p} a v at =
    let same = is_keeper a v at in
    let u = with_transit None v in
    let others = a.others ++ seat_of_pin v.transit ∷ [] in
    let pins = permutes (all_holds (Keeper u ∷ others)) (holds_of p)
    (λ f. omega (arith, seat_sums a f, ap (λ (x : KeeperView). sum_by f (in_transit x.transit)) same, sum_push f a.others (seat_of_pin v.transit), own_seat_sum f v.transit)) in
    let still : (f : View → ℕ) → ((h : PinRecord) → f (Pin h) ≡ 0) → f Empty ≡ 0 → sum_by f others ≡ sum_by f a.others = λ f x y. omega (arith, sum_by_push f a.others (seat_of_pin v.transit), own_seat_none f x y v.transit) in
    let accounts = regrouped_kept (length p.rows) a.keeper.bounds a.keeper.looks a.keeper.lent a.others others (holds_of p) (holds_of p) (λ k. still (released_weight k) (λ h. refl) refl) (λ k look. still (released_weight_since k look) (λ h. refl) refl) (λ j. refl)
    (All-push (IsPast a.keeper.looks) a.others (seat_of_pin v.transit) a.accounts.past (own_seat_past a.keeper.looks v.transit)) a.accounts in
    subst (λ l. Agrees ws (set l 0 (Keeper u) ++ seat_of_pin v.transit ∷ []) p) (sym a.seats)
    (regrouped ws vs p p.pins a u others (All-push IsPinSeat a.others (seat_of_pin v.transit) a.guests (own_seat_guest v.transit)) (sym (ap (λ (x : KeeperView). x.rows) same)) (sym (ap (λ (x : KeeperView). x.bounds) same)) pins a.state (λ j. refl)
    (subst (λ (x : KeeperView). Accounts (length p.rows) x.bounds x.looks x.lent others (holds_of p)) same accounts))

-- a pin goes from its seat to the keeper
pub record Taken (ws : List ℕ) (vs : List View) (p : PinWorld) (v : KeeperView) (id : ℕ) (h : PinRecord) : Type 0 where
  pub name : ℕ
  pub named : hold_named name p.pins ≡ Some h
  pub leads : LeadsByEvent p (Verify name) ws (set (set vs 0 (Keeper (with_transit (Some h) v))) id Empty)

pub takes_in : {ws : List ℕ} {vs : List View} {p : PinWorld} (a : Agrees ws vs p) (v : KeeperView) (id : ℕ) (h : PinRecord) → get_elem? vs 0 ≡ some (Keeper v) → v.transit ≡ None → ¬ (id ≡ 0)
    → get_elem? (set vs 0 (Keeper (with_transit (Some h) v))) id ≡ some (Pin h) → Taken ws vs p v id h
takes_in a v zero h at empty ne there = absurd (ne refl)
takes_in {ws} {vs} {p} a v (suc place) h at empty ne there =
    let same = is_keeper a v at in
    let u = with_transit (Some h) v in
    let here : get_elem? a.others place ≡ some (Pin h) = ap (λ l. get_elem? (set l 0 (Keeper u)) (suc place)) (sym a.seats) ∙ there in
    let c = pinned a (suc place) h (ap (λ l. get_elem? l (suc place)) a.seats ∙ here) in
    let others = set a.others place Empty in
    let none : (f : PinRecord → ℕ) → sum_by f (in_transit a.keeper.transit) ≡ 0 = λ f. ap (λ (x : KeeperView). sum_by f (in_transit x.transit)) same ∙ ap (λ o. sum_by f (in_transit o)) empty in
    let still : (f : View → ℕ) → f (Pin h) ≡ 0 → f Empty ≡ 0 → sum_by f others ≡ sum_by f a.others = λ f x y. omega (arith, view_set f a.others place (Pin h) Empty here) in
    let accounts = regrouped_kept (length p.rows) a.keeper.bounds a.keeper.looks a.keeper.lent a.others others (holds_of p) (holds_of p) (λ k. still (released_weight k) refl refl) (λ k look. still (released_weight_since k look) refl refl) (λ j. refl)
    (All-set (IsPast a.keeper.looks) a.others place Empty tt a.accounts.past) a.accounts in
    let pins = permutes (all_holds (Keeper u ∷ others)) (holds_of p)
    (λ f. omega (arith, seat_sums a f, none f, sum_by-append f (h ∷ []) (all_holds others), sum_set f a.others place (Pin h) Empty here, sum_one f h)) in record {
      name = c.name;
      named = c.named;
      leads = (
        ap is_some c.named,
        subst (λ l. Agrees ws (set (set l 0 (Keeper u)) (suc place) Empty) p) (sym a.seats)
            (regrouped ws vs p p.pins a u others (All-set IsPinSeat a.others place Empty tt a.guests) (sym (ap (λ (x : KeeperView). x.rows) same)) (sym (ap (λ (x : KeeperView). x.bounds) same)) pins a.state (λ j. refl)
            (subst (λ (x : KeeperView). Accounts (length p.rows) x.bounds x.looks x.lent others (holds_of p)) same accounts)),
      );
    }

-- ---- a new table

pub opens : (n g : ℕ) → Agrees (replicate n (word_of g Free 0)) (initial_view n g ∷ []) (initial_world n g)
opens n g =
    let r : PinRow = record { generation = g; phase = Free; digest = None } in
    let rs = replicate n r in record {
      keeper = keeper_view rs (replicate n 0) (replicate n 0) (replicate n 0) None;
      others = [];
      seats = refl;
      guests = All-nil IsPinSeat;
      rows = refl;
      pins = IsPermutation-refl [];
      state = state_initial n g;
      all_words = length-replicate n (word_of g Free 0) ∙ sym (length-replicate n r);
      at_words = λ k h. let l : k < n = omega (arith, length-replicate n r) in get_or-replicate n k (word_of g Free 0) 0 l ∙ sym (let x : row rs k ≡ r = get_or-replicate n k r no_row l in ap (λ y. row_word y 0) x);
      accounts = record {
        all_bounds = length-replicate n 0 ∙ sym (length-replicate n r);
        all_looks = length-replicate n 0 ∙ sym (length-replicate n r);
        all_lent = length-replicate n 0 ∙ sym (length-replicate n r);
        at_lent = λ k h. zero_at k (omega (arith, length-replicate n r));
        at_bounds = λ k h. zero_at k (omega (arith, length-replicate n r));
        past = All-nil (IsPast (replicate n 0));
      };
      limits = λ k h. let z = zero_at k (omega (arith, length-replicate n r)) in omega arith;
    }
  where
    zero_at : (k : ℕ) → k < n → slice_index (replicate n 0) k ≡ 0
    zero_at k l = get_or-replicate n k 0 0 l
