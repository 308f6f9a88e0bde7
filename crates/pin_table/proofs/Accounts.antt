-- The weights that were lent, are present, and were released, slot by slot.
use Rattle.std.proofs.Common.{◌≡◌, ◌≢◌, ℕ, zero, suc, ◌+◌, ◌≤◌, ◌<◌, List, [], ◌∷◌, length, set, sum_by, cond, Bool, true, false, refl, sym, ap, ◌∙◌, subst, arith, eq-eqb, ne_eqb}
use Rattle.std.specs.Prelude.{slice_index, ◌==◌}
use Rattle.std.specs.List.{All}
use Rattle.std.proofs.lemmas.List.{length-set, get_or-set_other}
use Rattle.std.proofs.lemmas.Grind.{get_or-set_at}
use Rattle.std.proofs.lemmas.List.Elements.{All-nil, All-cons, All-head, All-tail, All-set}
use Rattle.std.proofs.lemmas.List.Sums.{sum_by-cons}
use mathlib.Core.Logic.{dite}
use mathlib.Core.Option.{some, some-injective, some-ne-none}
use lib.ListN.{get_elem?}
use native.Mathlib.Decide.{ℕ_discrete}
use Rattle.pin_core.specs.declared.world.PinRecord.{PinRecord}
use Rattle.pin_core.specs.World.{weight_at, weight_on}
use Rattle.pin_table.specs.declared.view.View.{View}
use Rattle.pin_table.specs.declared.view.View.TheVariants.{Keeper, Pin, Left, Empty}
use Rattle.pin_table.specs.Rule.{Accounts, IsPast, released_pin, released_weight, released_weight_since, with_added}
use Rattle.pin_table.proofs.Holds.{weight_same, weight_apart}

-- a pin of another slot adds no weight, by any test
none_apart : (b : Bool) (n : ℕ) → n ≡ 0 → cond b n 0 ≡ 0
none_apart true n z = z
none_apart false n z = refl

-- no weight was released since a look that is still to come
pub none_after : (looks : List ℕ) (k c : ℕ) (others : List View) → slice_index looks k < c → All (IsPast looks) others → sum_by (released_weight_since k c) others ≡ 0
none_after looks k c [] l a = refl
none_after looks k c (x ∷ xs) l a = omega (arith, sum_by-cons (released_weight_since k c) x xs, one x (All-head (IsPast looks) x xs a), none_after looks k c xs l (All-tail (IsPast looks) x xs a))
  where
    one : (y : View) → IsPast looks y → released_weight_since k c y ≡ 0
    one (Keeper v) p = refl
    one (Pin h) p = refl
    one Empty p = refl
    one (Left g) p = dite (ℕ_discrete g.hold.slot k)
        (λ (e : g.hold.slot ≡ k). let m : g.look ≤ slice_index looks k = subst (λ j. g.look ≤ slice_index looks j) e p in ap (λ b. cond b (weight_at k g.hold) 0) (ne_eqb g.look c (λ s. omega arith)))
        (λ (ne : g.hold.slot ≢ k). none_apart (g.look == c) (weight_at k g.hold) (weight_apart k g.hold ne))

-- the weight released since a look is at most the weight released
pub since_at : (k c : ℕ) (v : View) → released_weight_since k c v ≤ released_weight k v
since_at k c (Keeper v) = omega arith
since_at k c (Pin h) = omega arith
since_at k c Empty = omega arith
since_at k c (Left g) = by_test (g.look == c)
  where
    by_test : (b : Bool) → cond b (weight_at k g.hold) 0 ≤ weight_at k g.hold
    by_test true = omega arith
    by_test false = omega arith

-- a step of any kind that counts one more look at a slot has its present weight as the bound
pub told_true : (m n : ℕ) (bs ls ts bs' ls' ts' : List ℕ) (others : List View) (hs hs' : List PinRecord) (k : ℕ) → k < n → Accounts m bs ls ts others hs → Accounts n bs' ls' ts' others hs'
    → slice_index ls' k ≡ slice_index ls k + 1 → slice_index bs' k ≡ weight_on k hs'
told_true m n bs ls ts bs' ls' ts' others hs hs' k l a b one =
    let z = none_after ls k (slice_index ls k + 1) others (omega arith) a.past in
    let at = b.at_bounds k l in
    let same = ap (λ i. sum_by (released_weight_since k i) others) one in omega arith

-- ---- one seat's view has changed

pub view_set : (f : View → ℕ) (vs : List View) (id : ℕ) (v w : View) → get_elem? vs id ≡ some v → sum_by f (set vs id w) + f v ≡ sum_by f vs + f w
view_set f [] id v w e = absurd (some-ne-none v (sym e))
view_set f (u ∷ vs) zero v w e = let same : f u ≡ f v = ap f (some-injective u v e) in omega (arith, sum_by-cons f w vs, sum_by-cons f u vs)
view_set f (u ∷ vs) (suc id) v w e = omega (arith, sum_by-cons f u (set vs id w), sum_by-cons f u vs, view_set f vs id v w e)

-- a pin that leaves by a step of any kind records the current number of looks
pub left_now : (n : ℕ) (bs ls ts : List ℕ) (others : List View) (place : ℕ) (hs hs' : List PinRecord) (h : PinRecord) (look : ℕ) → get_elem? others place ≡ some (Pin h) → h.slot < n
    → weight_on h.slot hs' + h.weight ≡ weight_on h.slot hs → 0 < h.weight → Accounts n bs ls ts others hs → Accounts n bs ls ts (set others place (Left (released_pin h look))) hs' → look ≡ slice_index ls h.slot
left_now n bs ls ts others place hs hs' h look at l less heavy a b =
    let k : ℕ = h.slot in
    let f = released_weight_since k (slice_index ls k) in
    let x = a.at_bounds k l in
    let y = b.at_bounds k l in
    let s = view_set f others place (Pin h) (Left (released_pin h look)) at in
    dite (ℕ_discrete look (slice_index ls k)) (λ e. e) (λ ne. let none : f (Left (released_pin h look)) ≡ 0 = ap (λ b. cond b (weight_at k h) 0) (ne_eqb look (slice_index ls k) ne) in absurd (omega arith))

-- ---- each kind of step keeps the accounts

-- the looks have only become more
later : (ls ls' : List ℕ) → ((j : ℕ) → slice_index ls j ≤ slice_index ls' j) → (others : List View) → All (IsPast ls) others → All (IsPast ls') others
later ls ls' more [] a = All-nil (IsPast ls')
later ls ls' more (x ∷ xs) a = All-cons (IsPast ls') x xs (one x (All-head (IsPast ls) x xs a)) (later ls ls' more xs (All-tail (IsPast ls) x xs a))
  where
    one : (y : View) → IsPast ls y → IsPast ls' y
    one (Keeper v) p = tt
    one (Pin h) p = tt
    one Empty p = tt
    one (Left g) p = let m = more g.hold.slot in omega arith

-- a look, or a give or reclaim, for which the sum is 0
pub looks_kept : (n : ℕ) (bs ls ts : List ℕ) (others : List View) (hs : List PinRecord) (k w : ℕ) → k < n → w ≡ weight_on k hs → Accounts n bs ls ts others hs → Accounts n (set bs k w) (with_added k 1 ls) ts others hs
looks_kept n bs ls ts others hs k w l is a = record {
  all_bounds = length-set bs k w ∙ a.all_bounds;
  all_looks = length-set ls k (slice_index ls k + 1) ∙ a.all_looks;
  all_lent = a.all_lent;
  at_lent = a.at_lent;
  at_bounds = λ j m. dite (ℕ_discrete j k)
      (λ (e : j ≡ k).
      let here : slice_index (set bs k w) j ≡ w = get_or-set_at bs k j w 0 e (omega (arith, a.all_bounds)) in
      let z = none_after ls k (slice_index ls k + 1) others (omega arith) a.past in
      here ∙ omega arith ∙ ap (λ i. weight_on i hs + sum_by (released_weight_since i (slice_index ls k + 1)) others) (sym e) ∙ ap (λ i. weight_on j hs + sum_by (released_weight_since j i) others) (sym (at_look j e)))
      (λ (ne : j ≢ k). get_or-set_other bs k j w 0 ne ∙ a.at_bounds j m ∙ ap (λ i. weight_on j hs + sum_by (released_weight_since j i) others) (sym (get_or-set_other ls k j (slice_index ls k + 1) 0 ne)));
  past = later ls (with_added k 1 ls) (λ j. dite (ℕ_discrete j k)
      (λ (e : j ≡ k). let h = at_look j e in let s = ap (λ i. slice_index ls i) e in omega arith)
      (λ (ne : j ≢ k). let h = get_or-set_other ls k j (slice_index ls k + 1) 0 ne in omega arith)) others a.past;
}
  where
    at_look : (j : ℕ) → j ≡ k → slice_index (with_added k 1 ls) j ≡ slice_index ls k + 1
    at_look j e = get_or-set_at ls k j (slice_index ls k + 1) 0 e (omega (arith, a.all_looks))

-- a new pin g
pub lends_kept : (n : ℕ) (bs ls ts : List ℕ) (others : List View) (hs hs' : List PinRecord) (g : PinRecord) → g.slot < n → ((j : ℕ) → weight_on j hs' ≡ weight_on j hs + weight_at j g) → Accounts n bs ls ts others hs
    → Accounts n (with_added g.slot g.weight bs) ls (with_added g.slot g.weight ts) others hs'
lends_kept n bs ls ts others hs hs' g l sums a =
    let k : ℕ = g.slot in record {
      all_bounds = length-set bs k (slice_index bs k + g.weight) ∙ a.all_bounds;
      all_looks = a.all_looks;
      all_lent = length-set ts k (slice_index ts k + g.weight) ∙ a.all_lent;
      at_lent = λ j m. more ts j m a.all_lent (sum_by (released_weight j) others) (a.at_lent j m);
      at_bounds = λ j m. more bs j m a.all_bounds (sum_by (released_weight_since j (slice_index ls j)) others) (a.at_bounds j m);
      past = a.past;
    }
  where
    more : (xs : List ℕ) (j : ℕ) → j < n → length xs ≡ n → (s : ℕ) → slice_index xs j ≡ weight_on j hs + s → slice_index (with_added g.slot g.weight xs) j ≡ weight_on j hs' + s
    more xs j m len s is = dite (ℕ_discrete j g.slot)
        (λ (e : j ≡ g.slot).
        let here : slice_index (with_added g.slot g.weight xs) j ≡ slice_index xs g.slot + g.weight = get_or-set_at xs g.slot j (slice_index xs g.slot + g.weight) 0 e (omega arith) in
        let at = ap (λ i. slice_index xs i) e in
        let w : weight_at j g ≡ g.weight = subst (λ i. weight_at i g ≡ g.weight) (sym e) (weight_same g) in
        let t = sums j in omega arith)
        (λ (ne : j ≢ g.slot).
        let there = get_or-set_other xs g.slot j (slice_index xs g.slot + g.weight) 0 ne in
        let w : weight_at j g ≡ 0 = weight_apart j g (λ e. ne (sym e)) in
        let t = sums j in omega arith)

-- the pin h leaves
pub leaves_kept : (n : ℕ) (bs ls ts : List ℕ) (others : List View) (place : ℕ) (hs hs' : List PinRecord) (h : PinRecord) → get_elem? others place ≡ some (Pin h)
    → ((j : ℕ) → weight_on j hs' + weight_at j h ≡ weight_on j hs) → Accounts n bs ls ts others hs → Accounts n bs ls ts (set others place (Left (released_pin h (slice_index ls h.slot)))) hs'
leaves_kept n bs ls ts others place hs hs' h at sums a =
    let u = Left (released_pin h (slice_index ls h.slot)) in record {
      all_bounds = a.all_bounds;
      all_looks = a.all_looks;
      all_lent = a.all_lent;
      at_lent = λ j m. let s = view_set (released_weight j) others place (Pin h) u at in let t = sums j in let o = a.at_lent j m in omega arith;
      at_bounds = λ j m.
          let s = view_set (released_weight_since j (slice_index ls j)) others place (Pin h) u at in
          let t = sums j in
          let o = a.at_bounds j m in
          let now = counts j in omega arith;
      past = All-set (IsPast ls) others place u (omega arith) a.past;
    }
  where
    counts : (j : ℕ) → released_weight_since j (slice_index ls j) (Left (released_pin h (slice_index ls h.slot))) ≡ weight_at j h
    counts j = dite (ℕ_discrete h.slot j)
        (λ (e : h.slot ≡ j). ap (λ b. cond b (weight_at j h) 0) (eq-eqb (slice_index ls h.slot) (slice_index ls j) (ap (λ i. slice_index ls i) e)))
        (λ (ne : h.slot ≢ j). let z = weight_apart j h ne in none_apart (slice_index ls h.slot == slice_index ls j) (weight_at j h) z ∙ sym z)

-- other seats, of which the same has left, and other pins of the same weights
pub regrouped_kept : (n : ℕ) (bs ls ts : List ℕ) (others others' : List View) (hs hs' : List PinRecord) → ((k : ℕ) → sum_by (released_weight k) others' ≡ sum_by (released_weight k) others) → ((k look : ℕ) → sum_by (released_weight_since k look) others' ≡ sum_by (released_weight_since k look) others)
    → ((j : ℕ) → weight_on j hs' ≡ weight_on j hs) → All (IsPast ls) others' → Accounts n bs ls ts others hs → Accounts n bs ls ts others' hs'
regrouped_kept n bs ls ts others others' hs hs' ever since same past a = record {
  all_bounds = a.all_bounds;
  all_looks = a.all_looks;
  all_lent = a.all_lent;
  at_lent = λ j m. let x = ever j in let t = same j in let o = a.at_lent j m in omega arith;
  at_bounds = λ j m. let x = since j (slice_index ls j) in let t = same j in let o = a.at_bounds j m in omega arith;
  past = past;
}
