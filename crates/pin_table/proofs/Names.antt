-- The pins of a world by their names, and the sums over them after an event.
use Rattle.std.proofs.Common.{◌≡◌, ◌≢◌, ℕ, ◌+◌, ◌≤◌, ◌<◌, List, [], ◌∷◌, ◌++◌, map, sum_by, cond, not, Some, None, refl, sym, ap, ◌∙◌, eq-eqb, ne_eqb, eqb-true, inl, inr, arith}
use Rattle.std.specs.Prelude.{◌==◌}
use Rattle.std.specs.List.{filter}
use Rattle.std.proofs.lemmas.List.{map-append}
use Rattle.std.proofs.lemmas.List.Sums.{sum_by-cons, sum_by_push}
use mathlib.Core.Logic.{dite}
use Rattle.pin_core.specs.declared.world.PinRecord.{PinRecord}
use Rattle.pin_core.specs.declared.world.PinEntry.{PinEntry}
use Rattle.pin_core.specs.World.{HasDistinctNames, hold_named}
use Rattle.pin_core.specs.Events.{half, half_if_named, second, named_entry}
use Rattle.pin_core.proofs.Names.{hold_in, none_any, others_all}
use Rattle.pin_core.proofs.Shares.{named_cases, halved_sum}
use Rattle.pin_table.proofs.Orders.{is_same, one, one_other}

-- a name that no pin has, nor any name above it
pub fresh : List PinEntry → ℕ
fresh [] = 0
fresh (e ∷ es) = e.name + 1 + fresh es

pub unnamed : (es : List PinEntry) (n : ℕ) → fresh es ≤ n → hold_named n es ≡ None
unfolding fresh
unnamed [] n l = refl
unnamed (e ∷ es) n l = ap (λ b. cond b (Some e.hold) (hold_named n es)) (ne_eqb e.name n (λ s. omega arith)) ∙ unnamed es n (omega arith)

-- a pin that counts has a name
pub name_of : (h : PinRecord) (es : List PinEntry) → HasDistinctNames es → 0 < sum_by (one h) (map hold_in es) → (n : ℕ) × (hold_named n es ≡ Some h)
name_of h [] all l = let z : sum_by (one h) [] ≡ 0 = refl in absurd (omega arith)
name_of h (x ∷ es) all l = dite (is_same h x.hold)
    (λ (e : h ≡ x.hold). (x.name, ap (λ b. cond b (Some x.hold) (hold_named x.name es)) (eq-eqb x.name x.name refl) ∙ ap (λ (g : PinRecord). Some g) (sym e)))
    (λ (ne : h ≢ x.hold).
    let rest = name_of h es all.1 (omega (arith, l, sum_by-cons (one h) x.hold (map hold_in es), one_other h x.hold ne)) in
    (rest.0, ap (λ b. cond b (Some x.hold) (hold_named rest.0 es)) (ne_eqb x.name rest.0 (λ same. apart rest.0 rest.1 same)) ∙ rest.1))
  where
    apart : (n : ℕ) → hold_named n es ≡ Some h → x.name ≡ n → ⊥
    apart n there same = let none : hold_named n es ≡ None = ap (λ i. hold_named i es) (sym same) ∙ all.0 in absurd cc

-- ---- the sums after an event

pub lent_sum : (f : PinRecord → ℕ) (n : ℕ) (h : PinRecord) (es : List PinEntry) → sum_by f (map hold_in (es ++ named_entry n h ∷ [])) ≡ sum_by f (map hold_in es) + f h
lent_sum f n h es = ap (sum_by f) (map-append hold_in es (named_entry n h ∷ [])) ∙ sum_by_push f (map hold_in es) h

pub left_sum : (f : PinRecord → ℕ) (n : ℕ) (es : List PinEntry) (h : PinRecord) → HasDistinctNames es → hold_named n es ≡ Some h → sum_by f (map hold_in (filter (λ e. not (e.name == n)) es)) + f h ≡ sum_by f (map hold_in es)
left_sum f n [] h all there = absurd cc
left_sum f n (x ∷ es) h all there =
    let others : List PinEntry = filter (λ e. not (e.name == n)) es in elim (named_cases n x es h all there) [
      | inl c ↦
          let none : hold_named n es ≡ None = ap (λ m. hold_named m es) (sym (eqb-true x.name n c.0)) ∙ all.0 in
          let gone : filter (λ e. not (e.name == n)) (x ∷ es) ≡ es = ap (λ b. cond (not b) (x ∷ others) others) c.0 ∙ others_all es n (none_any es n none) in
          let a = ap (λ l. sum_by f (map hold_in l)) gone in
          let b = sum_by-cons f x.hold (map hold_in es) in
          let d : f x.hold ≡ f h = ap f c.1 in omega arith
      | inr g ↦
          let stays : filter (λ e. not (e.name == n)) (x ∷ es) ≡ x ∷ others = ap (λ b. cond (not b) (x ∷ others) others) g.0 in
          let a = ap (λ l. sum_by f (map hold_in l)) stays in
          let b = sum_by-cons f x.hold (map hold_in es) in
          let c = sum_by-cons f x.hold (map hold_in others) in
          let d = left_sum f n es h all.1 g.1 in omega arith
    ]

pub shared_sums : (f : PinRecord → ℕ) (n m : ℕ) (es : List PinEntry) (h : PinRecord) → HasDistinctNames es → hold_named n es ≡ Some h → sum_by f (map hold_in (map (half_if_named n) es ++ second m (hold_named n es))) + f h ≡ sum_by f (map hold_in es) + f (half h) + f (half h)
shared_sums f n m es h all there =
    let two = ap (λ o. sum_by f (map hold_in (map (half_if_named n) es ++ second m o))) there in
    let a = lent_sum f m (half h) (map (half_if_named n) es) in
    let b = halved_sum f n es h all there in omega arith
