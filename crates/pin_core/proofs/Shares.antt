-- What a share keeps: the weights are powers of two, and their sum is the same.
use Rattle.std.proofs.Common.{◌≡◌, ℕ, zero, suc, ◌+◌, ◌*◌, ◌/◌, ◌^◌, ◌≤◌, ◌<◌, List, [], ◌∷◌, ◌++◌, map, Bool, true, false, cond, Option, Some, None, refl, sym, ap, ◌∙◌, subst, ne_eqb, eqb-true, ◌⊎◌, inl, inr, sum_by, arith}
use Rattle.std.specs.Prelude.{◌==◌}
use Rattle.std.specs.List.{All}
use Rattle.std.specs.Option.{IsSomeAnd}
use Rattle.std.proofs.Math.Nat.{pow-suc}
use Rattle.std.proofs.lemmas.List.Elements.{All-nil, All-cons, All-head, All-tail}
use Rattle.std.proofs.lemmas.List.Sums.{sum_by-cons}
use Rattle.pin_core.specs.declared.world.PinRecord.{PinRecord}
use Rattle.pin_core.specs.declared.world.PinEntry.{PinEntry}
use Rattle.pin_core.specs.World.{HasDistinctNames, IsWeight, hold_named, weight_at}
use Rattle.pin_core.specs.Events.{half, half_if_named, second, named_entry}
use Rattle.pin_core.proofs.Names.{hold_in, all_named, all_push, none_cons}
use Rattle.pin_core.proofs.Weights.{sum_of, sum_of-cons, sum_of-append}

-- the pin that is shared
pub shared_pin : (o : Option PinRecord) → IsSomeAnd o (λ h. 1 < h.weight) → (h : PinRecord) × (o ≡ Some h) × (1 < h.weight)
shared_pin None big = absurd big
shared_pin (Some h) big = (h, refl, big)

-- a power of two above 1 has a half, which is a power of two
half_power : (w e : ℕ) → e ≤ 10 → w ≡ 2 ^ e → 1 < w → ((f : ℕ) × (f ≤ 10) × (w / 2 ≡ 2 ^ f)) × (w / 2 + w / 2 ≡ w)
half_power w zero le is big = absurd (omega arith)
half_power w (suc e) le is big =
    let p : w ≡ 2 ^ e * 2 = is ∙ pow-suc 2 e in
    ((e, omega arith, omega arith), omega arith)

pub half_weight : (h : PinRecord) → IsWeight h → 1 < h.weight → IsWeight (half h) × (h.weight / 2 + h.weight / 2 ≡ h.weight)
half_weight h is big = half_power h.weight is.0 is.1 is.2 big

-- if no pin has the name, none is halved
none_halved_at_all : (n : ℕ) (es : List PinEntry) → hold_named n es ≡ None → map (half_if_named n) es ≡ es
none_halved_at_all n [] none = refl
none_halved_at_all n (x ∷ es) none =
    let c = none_cons x es n none in
    ap (λ b. cond b (named_entry x.name (half x.hold)) x ∷ map (half_if_named n) es) (ne_eqb x.name n c.0) ∙ ap (λ l. x ∷ l) (none_halved_at_all n es c.1)

-- the pin with the name is the first one or in the rest
pub named_cases : (n : ℕ) (x : PinEntry) (es : List PinEntry) (h : PinRecord) → HasDistinctNames (x ∷ es) → hold_named n (x ∷ es) ≡ Some h
    → (((x.name == n) ≡ true) × (x.hold ≡ h) × (map (half_if_named n) es ≡ es)) ⊎ (((x.name == n) ≡ false) × (hold_named n es ≡ Some h))
named_cases n x es h all there = by_name (x.name == n) refl there
  where
    by_name : (b : Bool) → (x.name == n) ≡ b → cond b (Some x.hold) (hold_named n es) ≡ Some h
        → (((x.name == n) ≡ true) × (x.hold ≡ h) × (map (half_if_named n) es ≡ es)) ⊎ (((x.name == n) ≡ false) × (hold_named n es ≡ Some h))
    by_name true is e =
        let name : x.name ≡ n = eqb-true x.name n is in
        inl (is, cc, none_halved_at_all n es (ap (λ m. hold_named m es) (sym name) ∙ all.0))
    by_name false is e = inr (is, e)

halved_first : (n : ℕ) (x : PinEntry) → (x.name == n) ≡ true → half_if_named n x ≡ named_entry x.name (half x.hold)
halved_first n x is = ap (λ b. cond b (named_entry x.name (half x.hold)) x) is

halved_other : (n : ℕ) (x : PinEntry) → (x.name == n) ≡ false → half_if_named n x ≡ x
halved_other n x is = ap (λ b. cond b (named_entry x.name (half x.hold)) x) is

-- the pins with one halved
halved_weights : (n : ℕ) (es : List PinEntry) (h : PinRecord) → HasDistinctNames es → hold_named n es ≡ Some h → IsWeight (half h) → All IsWeight (map hold_in es) → All IsWeight (map hold_in (map (half_if_named n) es))
halved_weights n [] h all there is a = a
halved_weights n (x ∷ es) h all there is a = elim (named_cases n x es h all there) [
  | inl f ↦
      subst (λ l. All IsWeight (map hold_in l)) (sym (ap (λ y. y ∷ map (half_if_named n) es) (halved_first n x f.0) ∙ ap (λ l. named_entry x.name (half x.hold) ∷ l) f.2))
      (All-cons IsWeight (half x.hold) (map hold_in es) (subst (λ (g : PinRecord). IsWeight (half g)) (sym f.1) is) (All-tail IsWeight x.hold (map hold_in es) a))
  | inr b ↦
      subst (λ l. All IsWeight (map hold_in l)) (sym (ap (λ y. y ∷ map (half_if_named n) es) (halved_other n x b.0)))
      (All-cons IsWeight x.hold (map hold_in (map (half_if_named n) es)) (All-head IsWeight x.hold (map hold_in es) a) (halved_weights n es h all.1 b.1 is (All-tail IsWeight x.hold (map hold_in es) a)))
]

-- the weights after a Share
pub shared_weights : (es : List PinEntry) (n m : ℕ) → HasDistinctNames es → IsSomeAnd (hold_named n es) (λ h. 1 < h.weight) → All IsWeight (map hold_in es) → All IsWeight (map hold_in (map (half_if_named n) es ++ second m (hold_named n es)))
shared_weights es n m all big a =
    let s = shared_pin (hold_named n es) big in
    let is = (half_weight s.0 (all_named IsWeight es n s.0 s.1 a) s.2).0 in
    subst (λ o. All IsWeight (map hold_in (map (half_if_named n) es ++ second m o))) (sym s.1)
    (all_push IsWeight (map (half_if_named n) es) (named_entry m (half s.0) ∷ []) (halved_weights n es s.0 all s.1 is a) (All-cons IsWeight (half s.0) [] is (All-nil IsWeight)))

-- two halves weigh as much as the pin did
twice_at : (k : ℕ) (h : PinRecord) → h.weight / 2 + h.weight / 2 ≡ h.weight → weight_at k (half h) + weight_at k (half h) ≡ weight_at k h
twice_at k h e = by_slot (h.slot == k)
  where
    by_slot : (b : Bool) → cond b (h.weight / 2) 0 + cond b (h.weight / 2) 0 ≡ cond b h.weight 0
    by_slot true = e
    by_slot false = omega arith

-- any sum over the pins, with one of them halved
pub halved_sum : (f : PinRecord → ℕ) (n : ℕ) (es : List PinEntry) (h : PinRecord) → HasDistinctNames es → hold_named n es ≡ Some h → sum_by f (map hold_in (map (half_if_named n) es)) + f h ≡ sum_by f (map hold_in es) + f (half h)
halved_sum f n [] h all there = absurd cc
halved_sum f n (x ∷ es) h all there = elim (named_cases n x es h all there) [
  | inl c ↦
      let a : sum_by f (map hold_in (map (half_if_named n) (x ∷ es))) ≡ sum_by f (half x.hold ∷ map hold_in es) = ap (λ y. sum_by f (map hold_in (y ∷ map (half_if_named n) es))) (halved_first n x c.0) ∙ ap (λ l. sum_by f (half x.hold ∷ map hold_in l)) c.2 in
      let b = sum_by-cons f (half x.hold) (map hold_in es) in
      let e = sum_by-cons f x.hold (map hold_in es) in
      let d : f (half x.hold) ≡ f (half h) = ap (λ (g : PinRecord). f (half g)) c.1 in
      let i : f x.hold ≡ f h = ap f c.1 in omega arith
  | inr g ↦
      let a : sum_by f (map hold_in (map (half_if_named n) (x ∷ es))) ≡ sum_by f (x.hold ∷ map hold_in (map (half_if_named n) es)) = ap (λ y. sum_by f (map hold_in (y ∷ map (half_if_named n) es))) (halved_other n x g.0) in
      let b = sum_by-cons f x.hold (map hold_in (map (half_if_named n) es)) in
      let c = sum_by-cons f x.hold (map hold_in es) in
      let d = halved_sum f n es h all.1 g.1 in omega arith
]

-- the sums after a Share are those before it
pub shared_sum : (k n m : ℕ) (es : List PinEntry) → HasDistinctNames es → IsSomeAnd (hold_named n es) (λ h. 1 < h.weight) → All IsWeight (map hold_in es) → sum_of k (map (half_if_named n) es ++ second m (hold_named n es)) ≡ sum_of k es
shared_sum k n m es all big a =
    let s = shared_pin (hold_named n es) big in
    let e = (half_weight s.0 (all_named IsWeight es n s.0 s.1 a) s.2).1 in
    let i : sum_of k (map (half_if_named n) es ++ second m (hold_named n es)) ≡ sum_of k (map (half_if_named n) es ++ named_entry m (half s.0) ∷ []) = ap (λ o. sum_of k (map (half_if_named n) es ++ second m o)) s.1 in
    let b = sum_of-append k (map (half_if_named n) es) (named_entry m (half s.0) ∷ []) in
    let c = sum_of-cons k (named_entry m (half s.0)) [] in
    let d = halved_sum (weight_at k) n es s.0 all s.1 in
    let t = twice_at k s.0 e in omega arith
