-- The sums of weights on a slot.
use Rattle.std.proofs.Common.{◌≡◌, ℕ, ◌+◌, ◌≤◌, List, [], ◌∷◌, ◌++◌, map, Bool, true, false, cond, refl, sym, ap, ◌∙◌, eqb-true, arith}
use Rattle.std.specs.Prelude.{◌==◌}
use Rattle.std.specs.List.{filter}
use Rattle.std.proofs.lemmas.List.Sums.{sum_by-cons}
use Rattle.pin_core.specs.declared.world.PinRecord.{PinRecord}
use Rattle.pin_core.specs.declared.world.PinEntry.{PinEntry}
use Rattle.pin_core.specs.World.{weight_at, weight_on, max_weight}
use Rattle.pin_core.specs.Events.{named_entry, new_weight}
use Rattle.pin_core.proofs.Names.{hold_in}

-- what the pins weigh on a slot
abbrev pub sum_of : ℕ → List PinEntry → ℕ
sum_of k es = weight_on k (map hold_in es)

pub sum_of-cons : (k : ℕ) (x : PinEntry) (es : List PinEntry) → sum_of k (x ∷ es) ≡ weight_at k x.hold + sum_of k es
sum_of-cons k x es = sum_by-cons (weight_at k) x.hold (map hold_in es)

pub sum_of-append : (k : ℕ) (es fs : List PinEntry) → sum_of k (es ++ fs) ≡ sum_of k es + sum_of k fs
sum_of-append k [] fs = omega arith
sum_of-append k (x ∷ es) fs = let a = sum_of-cons k x (es ++ fs) in let b = sum_of-cons k x es in let c = sum_of-append k es fs in omega arith

-- after a Lend
pub lent_fits : (es : List PinEntry) (k n : ℕ) (h : PinRecord) → h.slot ≡ k → h.weight ≡ new_weight → ((j : ℕ) → sum_of j es ≤ max_weight) → sum_of k es + new_weight ≤ max_weight → (j : ℕ) → sum_of j (es ++ named_entry n h ∷ []) ≤ max_weight
lent_fits es k n h slot weight fits room j =
    let a = sum_of-append j es (named_entry n h ∷ []) in
    let b = sum_of-cons j (named_entry n h) [] in
    let c = fits j in
    by_slot (h.slot == j) refl a b c
  where
    by_slot : (t : Bool) → (h.slot == j) ≡ t → sum_of j (es ++ named_entry n h ∷ []) ≡ sum_of j es + sum_of j (named_entry n h ∷ []) → sum_of j (named_entry n h ∷ []) ≡ cond t h.weight 0 + sum_of j [] → sum_of j es ≤ max_weight → sum_of j (es ++ named_entry n h ∷ []) ≤ max_weight
    by_slot true is a b c =
        let same : h.slot ≡ j = eqb-true h.slot j is in
        let here : sum_of j es ≡ sum_of k es = ap (λ i. sum_of i es) (sym same ∙ slot) in omega arith
    by_slot false is a b c = omega arith

-- after a Leave
filter_sum : (p : PinEntry → Bool) (k : ℕ) (es : List PinEntry) → sum_of k (filter p es) ≤ sum_of k es
filter_sum p k [] = omega arith
filter_sum p k (x ∷ es) = let b = sum_of-cons k x es in by_test (p x) b (filter_sum p k es)
  where
    by_test : (b : Bool) → sum_of k (x ∷ es) ≡ weight_at k x.hold + sum_of k es → sum_of k (filter p es) ≤ sum_of k es → sum_of k (cond b (x ∷ filter p es) (filter p es)) ≤ sum_of k (x ∷ es)
    by_test true e rest = let c = sum_of-cons k x (filter p es) in omega arith
    by_test false e rest = omega arith

pub filter_fits : (p : PinEntry → Bool) (es : List PinEntry) → ((k : ℕ) → sum_of k es ≤ max_weight) → (k : ℕ) → sum_of k (filter p es) ≤ max_weight
filter_fits p es fits k = let a = filter_sum p k es in let b = fits k in omega arith
