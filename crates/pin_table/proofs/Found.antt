-- A call that counts one look found the weight of others' pins at one of its moments.
use Rattle.std.proofs.Common.{◌≡◌, ◌≢◌, ◌⊎◌, ℕ, ◌+◌, ◌≤◌, ◌<◌, List, [], ◌∷◌, ◌++◌, length, set, sum_by, None, inl, inr, refl, sym, ap, ◌∙◌, subst, arith}
use Rattle.std.specs.Prelude.{slice_index}
use Rattle.std.proofs.lemmas.Bool.{cases_lt}
use Rattle.std.proofs.lemmas.List.{length-set, length-replicate}
use Rattle.std.proofs.lemmas.List.Sums.{sum_by-append, sum_by-cons, sum_by-le-sum_by, sum_by_push}
use Rattle.std.proofs.lemmas.List.Sorted.{sum_by-IsPermutation}
use mathlib.Core.Logic.{dite}
use native.Mathlib.Decide.{ℕ_discrete}
use Rattle.pin_core.specs.declared.world.Phase.TheVariants.{Free}
use Rattle.pin_core.specs.declared.world.PinRecord.{PinRecord}
use Rattle.pin_core.specs.declared.event.Event.{Event}
use Rattle.pin_core.specs.declared.event.Event.TheVariants.{Give, Lend, Share, Leave, Condemn, Revive, Reclaim, Look, Verify}
use Rattle.pin_core.specs.World.{PinWorld, initial_world, row, weight_at, weight_on}
use Rattle.pin_core.specs.Events.{after, after_all, given_row, half, reclaimed_row}
use Rattle.pin_table.specs.declared.view.KeeperView.{KeeperView}
use Rattle.pin_table.specs.declared.view.View.{View}
use Rattle.pin_table.specs.declared.view.View.TheVariants.{Left, Pin, Empty}
use Rattle.pin_table.specs.Rule.{all_holds, released_pin, released_weight, released_weight_since, holds_in, in_transit}
use Rattle.pin_table.specs.Looks.{CallMoment, EndedByCall, FoundByCall, Follows, FollowsPin, IsCall, IsPinCall, IsUnderRule, WeighedAtSomeMoment, by_call, by_leave, by_share, last_moment, seats_on}
use Rattle.pin_table.proofs.Holds.{sum_one, sum_set, weight_same}
use Rattle.pin_table.proofs.Accounts.{none_after, since_at, view_set}
use Rattle.pin_table.proofs.Known.{known}

-- ---- as many rows as slots

after_long : (p : PinWorld) (e : Event) → length (after p e).rows ≡ length p.rows
after_long p (Give k d) = length-set p.rows k (given_row d (row p.rows k))
after_long p (Lend k n) = refl
after_long p (Share n m) = refl
after_long p (Leave n) = refl
after_long p (Condemn k) = length-set p.rows k _
after_long p (Revive k) = length-set p.rows k _
after_long p (Reclaim k) = length-set p.rows k (reclaimed_row (row p.rows k))
after_long p (Look k) = refl
after_long p (Verify n) = refl

all_long : (p : PinWorld) (es : List Event) → length (after_all p es).rows ≡ length p.rows
all_long p [] = refl
all_long p (e ∷ es) = all_long (after p e) es ∙ after_long p e

-- ---- sums over the seats of a moment

by_views : (f : PinRecord → ℕ) (vs : List View) → sum_by f (all_holds vs) ≡ sum_by (λ v. sum_by f (holds_in v)) vs
by_views f [] = refl
by_views f (v ∷ vs) = omega (arith, sum_by-append f (holds_in v) (all_holds vs), sum_by-cons (λ x. sum_by f (holds_in x)) v vs, by_views f vs)

-- the rule for the slot k at a moment
record Sums (m : CallMoment) (k : ℕ) : Type 0 where
  transit : ℕ
  transit_is : transit ≡ weight_on k (in_transit m.keeper.transit)
  lent : slice_index m.keeper.lent k ≡ transit + seats_on k m.own + seats_on k m.others + sum_by (released_weight k) m.own + sum_by (released_weight k) m.others
  bound : slice_index m.keeper.bounds k ≡ transit + seats_on k m.own + seats_on k m.others + sum_by (released_weight_since k (slice_index m.keeper.looks k)) m.own + sum_by (released_weight_since k (slice_index m.keeper.looks k)) m.others
  past : (c : ℕ) → slice_index m.keeper.looks k < c → sum_by (released_weight_since k c) m.others ≡ 0

sums_of : (n g : ℕ) (m : CallMoment) (k : ℕ) → IsUnderRule n g m → k < n → Sums m k
sums_of n g m k r l =
    let p = after_all (initial_world n g) r.ruled.events in
    let x = known r.ruled.agrees in
    let long : length p.rows ≡ n = all_long (initial_world n g) r.ruled.events ∙ length-replicate n (record { generation = g; phase = Free; digest = None }) in
    let there : k < length p.rows = omega (arith, long) in
    let total : (f : View → ℕ) → sum_by f r.seats ≡ sum_by f m.own + sum_by f m.others = λ f. sym (sum_by-IsPermutation f r.seats (m.own ++ m.others) r.order) ∙ sum_by-append f m.own m.others in
    let pins : weight_on k (all_holds r.seats) ≡ seats_on k m.own + seats_on k m.others =
    omega (arith, by_views (weight_at k) r.seats, by_views (weight_at k) m.own, by_views (weight_at k) m.others, total (λ v. sum_by (weight_at k) (holds_in v))) in
    let world = x.sums (weight_at k) in
    let c : ℕ = slice_index m.keeper.looks k in record {
      transit = weight_on k (in_transit m.keeper.transit);
      transit_is = refl;
      lent = omega (arith, x.accounts.at_lent k there, total (released_weight k));
      bound = omega (arith, x.accounts.at_bounds k there, total (released_weight_since k c));
      past = λ d above. omega (arith, none_after m.keeper.looks k d r.seats above x.accounts.past, total (released_weight_since k d));
    }

-- ---- one step

-- what others' pins weigh on the slot k, and what of theirs left when the keeper had looked c times
abbrev account : ℕ → ℕ → List View → ℕ
account k c vs = seats_on k vs + sum_by (released_weight_since k c) vs

-- what others' pins weigh, and what of theirs left
abbrev total : ℕ → List View → ℕ
total k vs = seats_on k vs + sum_by (released_weight k) vs

-- a step of another seat, over which the keeper and the call's own seats stay
module _ (m x : CallMoment) (k : ℕ) (a : Sums m k) (b : Sums x k) (keeper : x.keeper ≡ m.keeper) (own : x.own ≡ m.own) where
  transits : weight_on k (in_transit x.keeper.transit) ≡ weight_on k (in_transit m.keeper.transit)
  transits = ap (λ (v : KeeperView). weight_on k (in_transit v.transit)) keeper

  owned : seats_on k x.own ≡ seats_on k m.own
  owned = ap (λ vs. seats_on k vs) own

  same_account : account k (slice_index m.keeper.looks k) x.others ≡ account k (slice_index m.keeper.looks k) m.others
  same_account =
      let c : ℕ = slice_index m.keeper.looks k in
      let bound = ap (λ (v : KeeperView). slice_index v.bounds k) keeper in
      let since = ap (λ vs. sum_by (released_weight_since k c) vs) own in
      let at : slice_index x.keeper.bounds k ≡ b.transit + seats_on k x.own + seats_on k x.others + sum_by (released_weight_since k c) x.own + sum_by (released_weight_since k c) x.others =
      subst (λ i. slice_index x.keeper.bounds k ≡ b.transit + seats_on k x.own + seats_on k x.others + sum_by (released_weight_since k i) x.own + sum_by (released_weight_since k i) x.others) (ap (λ (v : KeeperView). slice_index v.looks k) keeper) b.bound in
      omega (arith, a.bound, a.transit_is, b.transit_is, transits, owned)

  same_total : total k x.others ≡ total k m.others
  same_total =
      let lent = ap (λ (v : KeeperView). slice_index v.lent k) keeper in
      let left = ap (λ vs. sum_by (released_weight k) vs) own in
      omega (arith, a.lent, b.lent, a.transit_is, b.transit_is, transits, owned)

-- ---- what others' steps leave

-- a test that is 0 for a pin only rises
rises : (f : View → ℕ) → ((h : PinRecord) → f (Pin h) ≡ 0) → (m x : CallMoment) → Follows m x → sum_by f m.others ≤ sum_by f x.others
rises f pin m x (by_call is) = let s = ap (λ vs. sum_by f vs) is in omega arith
rises f pin m x (by_leave place h look at is keeper own) = let s = ap (λ vs. sum_by f vs) is in omega (arith, view_set f m.others place (Pin h) (Left (released_pin h look)) at, pin h)
rises f pin m x (by_share place h at is keeper own) =
    let s = ap (λ vs. sum_by f vs) is in omega (arith, sum_by_push f (set m.others place (Pin (half h))) (Pin (half h)), view_set f m.others place (Pin h) (Pin (half h)) at, pin h, pin (half h))

risen : (f : View → ℕ) → ((h : PinRecord) → f (Pin h) ≡ 0) → (n g : ℕ) (m : CallMoment) (xs : List CallMoment) → IsCall n g m xs → sum_by f m.others ≤ sum_by f (last_moment m xs).others
risen f pin n g m [] c = omega arith
risen f pin n g m (x ∷ xs) c = omega (arith, rises f pin m x c.1, risen f pin n g x xs c.2)

rule_at : (n g : ℕ) (m : CallMoment) (xs : List CallMoment) → IsCall n g m xs → IsUnderRule n g m
rule_at n g m [] c = c
rule_at n g m (x ∷ xs) c = c.0

rule_end : (n g : ℕ) (m : CallMoment) (xs : List CallMoment) → IsCall n g m xs → IsUnderRule n g (last_moment m xs)
rule_end n g m [] c = c
rule_end n g m (x ∷ xs) c = rule_end n g x xs c.2

-- what others' pins weigh and what of theirs left stays the same
step_total : (m x : CallMoment) (k : ℕ) → Sums m k → Sums x k → Follows m x → total k x.others ≡ total k m.others
step_total m x k a b (by_call is) = ap (λ vs. total k vs) is
step_total m x k a b (by_leave place h look at is keeper own) = same_total m x k a b keeper own
step_total m x k a b (by_share place h at is keeper own) = same_total m x k a b keeper own

all_total : (n g k : ℕ) → k < n → (m : CallMoment) (xs : List CallMoment) → IsCall n g m xs → total k (last_moment m xs).others ≡ total k m.others
all_total n g k l m [] c = refl
all_total n g k l m (x ∷ xs) c = all_total n g k l x xs c.2 ∙ step_total m x k (sums_of n g m k c.0 l) (sums_of n g x k (rule_at n g x xs c.2) l) c.1

-- ---- the last time that the count came to e

-- After a step: the count is below e, or the account of e is some weight, which is the one before or what others' pins weigh now.
record Next (k e w : ℕ) (x : CallMoment) : Type 0 where
  weight : ℕ
  state : (slice_index x.keeper.looks k < e) ⊎ (account k e x.others ≡ weight)
  was : (weight ≡ w) ⊎ (seats_on k x.others ≡ weight)

next : (m x : CallMoment) (k e w : ℕ) → Sums m k → Sums x k → ((c : ℕ) → e < c → sum_by (released_weight_since k c) x.others ≡ 0) → Follows m x → (slice_index m.keeper.looks k < e) ⊎ (account k e m.others ≡ w) → Next k e w x
next m x k e w a b none follows state = elim (cases_lt (slice_index x.keeper.looks k) e) [
  | inl low ↦ record { weight = w; state = inl low; was = inl refl }
  | inr high ↦ by_kind high follows state
]
  where
    by_kind : e ≤ slice_index x.keeper.looks k → Follows m x → (slice_index m.keeper.looks k < e) ⊎ (account k e m.others ≡ w) → Next k e w x
    by_kind high (by_call is) (inl low) = let since : sum_by (released_weight_since k e) x.others ≡ 0 = ap (λ vs. sum_by (released_weight_since k e) vs) is ∙ a.past e low in record { weight = seats_on k x.others; state = inr (omega arith); was = inr refl }
    by_kind high (by_call is) (inr same) = record { weight = w; state = inr (ap (λ vs. account k e vs) is ∙ same); was = inl refl }
    by_kind high (by_leave place h look at is keeper own) (inl low) = let looks = ap (λ (v : KeeperView). slice_index v.looks k) keeper in absurd (omega arith)
    by_kind high (by_leave place h look at is keeper own) (inr same) =
        let c : ℕ = slice_index m.keeper.looks k in
        let t : account k c x.others ≡ account k c m.others = same_account m x k a b keeper own in
        dite (ℕ_discrete c e)
        (λ (now : c ≡ e). record { weight = w; state = inr (subst (λ i. account k i x.others ≡ account k i m.others) now t ∙ same); was = inl refl })
        (λ (later : c ≢ e).
        let looks = ap (λ (v : KeeperView). slice_index v.looks k) keeper in
        let z = none c (omega arith) in
        let r = rises (released_weight_since k c) (λ h. refl) m x (by_leave place h look at is keeper own) in
        let u = Left (released_pin h look) in
        let seats : seats_on k x.others ≡ seats_on k (set m.others place u) = ap (λ vs. seats_on k vs) is in
        let since : sum_by (released_weight_since k e) x.others ≡ sum_by (released_weight_since k e) (set m.others place u) = ap (λ vs. sum_by (released_weight_since k e) vs) is in
        record { weight = w; state = inr (omega (arith, t, sum_set (weight_at k) m.others place (Pin h) u at, sum_one (weight_at k) h, view_set (released_weight_since k e) m.others place (Pin h) u at, since_at k e u)); was = inl refl })
    by_kind high (by_share place h at is keeper own) (inl low) = let looks = ap (λ (v : KeeperView). slice_index v.looks k) keeper in absurd (omega arith)
    by_kind high (by_share place h at is keeper own) (inr same) =
        let c : ℕ = slice_index m.keeper.looks k in
        let t : account k c x.others ≡ account k c m.others = same_account m x k a b keeper own in
        let still : (f : View → ℕ) → f (Pin h) ≡ 0 → f (Pin (half h)) ≡ 0 → sum_by f x.others ≡ sum_by f m.others = λ f y z. ap (λ vs. sum_by f vs) is
        ∙ omega (arith, sum_by_push f (set m.others place (Pin (half h))) (Pin (half h)), view_set f m.others place (Pin h) (Pin (half h)) at) in
        record { weight = w; state = inr (omega (arith, t, still (released_weight_since k c) refl refl, still (released_weight_since k e) refl refl)); was = inl refl }

walk : (n g k e : ℕ) → k < n → (xs : List CallMoment) (m : CallMoment) (w : ℕ) → IsCall n g m xs → slice_index (last_moment m xs).keeper.looks k ≡ e → (slice_index m.keeper.looks k < e) ⊎ (account k e m.others ≡ w)
    → WeighedAtSomeMoment k (account k e (last_moment m xs).others) xs ⊎ (account k e (last_moment m xs).others ≡ w)
walk n g k e l [] m w c last (inl low) = absurd (omega arith)
walk n g k e l [] m w c last (inr same) = inr same
walk n g k e l (x ∷ xs) m w c last state =
    let none : (d : ℕ) → e < d → sum_by (released_weight_since k d) x.others ≡ 0 = λ d above. omega (arith, risen (released_weight_since k d) (λ h. refl) n g x xs c.2, (sums_of n g (last_moment x xs) k (rule_end n g x xs c.2) l).past d (omega arith)) in
    let t = next m x k e w (sums_of n g m k c.0 l) (sums_of n g x k (rule_at n g x xs c.2) l) none c.1 state in
    by_rest t.weight t.was (walk n g k e l xs x t.weight c.2 last t.state)
  where
    by_rest : (v : ℕ) → (v ≡ w) ⊎ (seats_on k x.others ≡ v) → WeighedAtSomeMoment k (account k e (last_moment x xs).others) xs ⊎ (account k e (last_moment x xs).others ≡ v) → WeighedAtSomeMoment k (account k e (last_moment x xs).others) (x ∷ xs) ⊎ (account k e (last_moment x xs).others ≡ w)
    by_rest v was (inl found) = inl (inr found)
    by_rest v (inl same) (inr is) = inr (is ∙ same)
    by_rest v (inr now) (inr is) = inl (inl (now ∙ sym is))

pub found_by_call : (n g : ℕ) → FoundByCall n g
found_by_call n g m xs k back c l empty empty' none one lent held =
    let last = last_moment m xs in
    let e : ℕ = slice_index m.keeper.looks k + 1 in
    let a = sums_of n g m k (rule_at n g m xs c) l in
    let b = sums_of n g last k (rule_end n g m xs c) l in
    let transit : a.transit ≡ 0 = a.transit_is ∙ ap (λ o. weight_on k (in_transit o)) empty in
    let transit' : b.transit ≡ 0 = b.transit_is ∙ ap (λ o. weight_on k (in_transit o)) empty' in
    let keeper_view = all_total n g k l m xs c in
    let mine : seats_on k last.own + sum_by (released_weight k) last.own ≡ back = omega (arith, a.lent, b.lent) in
    let less = sum_by-le-sum_by (released_weight_since k e) (released_weight k) last.own (λ v. since_at k e v) in
    let bound = subst (λ i. slice_index last.keeper.bounds k ≡ b.transit + seats_on k last.own + seats_on k last.others + sum_by (released_weight_since k i) last.own + sum_by (released_weight_since k i) last.others) one b.bound in
    (account k e last.others, by_walk (walk n g k e l xs m (account k e last.others + 1) c one (inl (omega arith))), omega (arith, bound))
  where
    by_walk : {v : ℕ} → WeighedAtSomeMoment k v xs ⊎ (v ≡ v + 1) → WeighedAtSomeMoment k v xs
    by_walk (inl found) = found
    by_walk (inr is) = absurd (omega arith)

-- ---- a call on a pin

own_total : (m x : CallMoment) (k : ℕ) → Sums m k → Sums x k → FollowsPin m x → total k x.own ≡ total k m.own
own_total m x k a b (inr own) = ap (λ vs. total k vs) own
own_total m x k a b (inl apart) =
    let lent = ap (λ (v : KeeperView). slice_index v.lent k) apart.0 in
    let transit = ap (λ (v : KeeperView). weight_on k (in_transit v.transit)) apart.0 in
    let others = ap (λ vs. total k vs) apart.1 in
    omega (arith, a.lent, b.lent, a.transit_is, b.transit_is)

pin_total : (n g k : ℕ) → k < n → (m : CallMoment) (xs : List CallMoment) → IsPinCall n g m xs → total k (last_moment m xs).own ≡ total k m.own
pin_total n g k l m [] c = refl
pin_total n g k l m (x ∷ xs) c = pin_total n g k l x xs c.2 ∙ own_total m x k (sums_of n g m k c.0 l) (sums_of n g x k (at x xs c.2) l) c.1
  where
    at : (y : CallMoment) (ys : List CallMoment) → IsPinCall n g y ys → IsUnderRule n g y
    at y [] r = r
    at y (z ∷ zs) r = r.0

pub ended_by_call : (n g : ℕ) → EndedByCall n g
ended_by_call n g m xs h place look c l own there =
    let k : ℕ = h.slot in
    let last = last_moment m xs in
    let begun = ap (λ vs. total k vs) own in
    omega (arith, pin_total n g k l m xs c, sum_one (weight_at k) h, sum_by-cons (released_weight k) (Pin h) [], weight_same h, view_set (released_weight k) last.own place (Left (released_pin h look)) Empty there)
