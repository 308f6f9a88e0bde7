-- The sums over the pins of the seats, after one seat's view has changed; and what a sum of weights says.
use Rattle.std.proofs.Common.{◌≡◌, ◌≢◌, ℕ, zero, suc, ◌+◌, ◌≤◌, ◌<◌, List, [], ◌∷◌, ◌++◌, set, map, cond, sum_by, refl, sym, ap, subst, arith, eq-eqb, ne_eqb, append-nil, pow_pos}
use Rattle.std.specs.List.{All}
use Rattle.std.proofs.lemmas.List.Elements.{All-cons, All-nil, All-head, All-tail}
use Rattle.std.proofs.lemmas.List.Sums.{sum_by-cons, sum_by-append}
use mathlib.Core.Logic.{dite}
use mathlib.Core.Option.{some, some-injective, some-ne-none}
use lib.ListN.{get_elem?}
use Rattle.pin_core.specs.declared.world.PinRecord.{PinRecord}
use Rattle.pin_core.specs.declared.world.PinEntry.{PinEntry}
use Rattle.pin_core.specs.World.{IsWeight, weight_at, weight_on}
use Rattle.pin_core.specs.Events.{IsClear}
use Rattle.pin_core.proofs.Names.{hold_in}
use Rattle.pin_table.specs.declared.view.View.{View}
use Rattle.pin_table.specs.declared.view.View.TheVariants.{Pin, Empty}
use Rattle.pin_table.specs.Rule.{holds_in, all_holds}
use Rattle.pin_table.proofs.Orders.{is_same, one, one_other}

module _ (f : PinRecord → ℕ) where
  pub sum_set : (vs : List View) (id : ℕ) (v w : View) → get_elem? vs id ≡ some v
      → sum_by f (all_holds (set vs id w)) + sum_by f (holds_in v) ≡ sum_by f (all_holds vs) + sum_by f (holds_in w)
  sum_set [] id v w e = absurd (some-ne-none v (sym e))
  sum_set (u ∷ vs) zero v w e =
      let same : sum_by f (holds_in u) ≡ sum_by f (holds_in v) = ap (λ x. sum_by f (holds_in x)) (some-injective u v e) in
      omega (arith, sum_by-append f (holds_in w) (all_holds vs), sum_by-append f (holds_in u) (all_holds vs), same)
  sum_set (u ∷ vs) (suc id) v w e = omega (arith, sum_by-append f (holds_in u) (all_holds (set vs id w)), sum_by-append f (holds_in u) (all_holds vs), sum_set vs id v w e)

  pub sum_push : (vs : List View) (w : View) → sum_by f (all_holds (vs ++ w ∷ [])) ≡ sum_by f (all_holds vs) + sum_by f (holds_in w)
  sum_push [] w = omega (arith, ap (λ l. sum_by f l) (append-nil (holds_in w)))
  sum_push (u ∷ vs) w = omega (arith, sum_by-append f (holds_in u) (all_holds (vs ++ w ∷ [])), sum_by-append f (holds_in u) (all_holds vs), sum_push vs w)

  pub sum_one : (h : PinRecord) → sum_by f (h ∷ []) ≡ f h
  sum_one h = omega (arith, sum_by-cons f h [])

  -- a seat's pin is among the pins of all seats
  pub sum_at : (vs : List View) (id : ℕ) (h : PinRecord) → get_elem? vs id ≡ some (Pin h) → f h ≤ sum_by f (all_holds vs)
  sum_at vs id h e = omega (arith, sum_set vs id (Pin h) Empty e, sum_one h)

-- a pin that counts has what all have
pub all_counted : (P : PinRecord → Type 0) (h : PinRecord) (xs : List PinRecord) → All P xs → 0 < sum_by (one h) xs → P h
all_counted P h [] a l = let z : sum_by (one h) [] ≡ 0 = refl in absurd (omega arith)
all_counted P h (x ∷ xs) a l = dite (is_same h x)
    (λ (e : h ≡ x). subst P (sym e) (All-head P x xs a))
    (λ (ne : h ≢ x). all_counted P h xs (All-tail P x xs a) (omega (arith, l, sum_by-cons (one h) x xs, one_other h x ne)))

-- ---- weights

pub weight_same : (h : PinRecord) → weight_at h.slot h ≡ h.weight
weight_same h = ap (λ b. cond b h.weight 0) (eq-eqb h.slot h.slot refl)

pub weight_apart : (k : ℕ) (h : PinRecord) → h.slot ≢ k → weight_at k h ≡ 0
weight_apart k h n = ap (λ b. cond b h.weight 0) (ne_eqb h.slot k n)

pub weight_none : (k : ℕ) (hs : List PinRecord) → All (λ h. h.slot ≢ k) hs → weight_on k hs ≡ 0
weight_none k [] a = refl
weight_none k (h ∷ hs) a = omega (arith, sum_by-cons (weight_at k) h hs, weight_apart k h (All-head (λ x. x.slot ≢ k) h hs a), weight_none k hs (All-tail (λ x. x.slot ≢ k) h hs a))

-- if the sum of weights on a slot is 0, no pin is on it
pub none_left : (k : ℕ) (es : List PinEntry) → All IsWeight (map hold_in es) → weight_on k (map hold_in es) ≡ 0 → IsClear k es
none_left k [] a z = All-nil (λ e. e.hold.slot ≢ k)
none_left k (x ∷ es) a z =
    let total = sum_by-cons (weight_at k) x.hold (map hold_in es) in
    let power = All-head IsWeight x.hold (map hold_in es) a in
    All-cons (λ e. e.hold.slot ≢ k) x es
    (λ (e : x.hold.slot ≡ k). let w : weight_at k x.hold ≡ x.hold.weight = subst (λ j. weight_at j x.hold ≡ x.hold.weight) e (weight_same x.hold) in let p = pow_pos power.0 in let q = power.2 in omega arith)
    (none_left k es (All-tail IsWeight x.hold (map hold_in es) a) (omega arith))
