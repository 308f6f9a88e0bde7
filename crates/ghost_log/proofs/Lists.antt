-- Lists: prefixes, the first place and the last, and the events of one writer.
use Rattle.std.proofs.Common.{◌≡◌, ◌≢◌, ◌⊎◌, ℕ, zero, suc, ◌==◌, List, [], ◌∷◌, ◌++◌, length, set, Bool, true, false, refl, sym, ap, ◌∙◌, inl, inr, ⊎_elim, append_assoc, eq-eqb, ne_eqb}
use Rattle.std.specs.Prelude.{if◌then◌else◌}
use Rattle.std.proofs.lemmas.List.{append-nil}
use mathlib.Core.Option.{some, some-injective, some-ne-none}
use lib.ListN.{get_elem?}
use Rattle.ghost_log.specs.Entries.{Entry, entries_by, events_by, IsPrefix}

module _ {A : Type 0} where
  pub prefix_self : (xs : List A) → IsPrefix xs xs
  prefix_self xs = ([], append-nil xs)

  pub prefix_more : (xs ys zs : List A) → IsPrefix xs ys → IsPrefix xs (ys ++ zs)
  prefix_more xs ys zs p = (p.0 ++ zs, sym (append_assoc xs p.0 zs) ∙ ap (λ w. w ++ zs) p.1)

  -- if the first element is known, another can replace it
  pub set_top : (l : List A) (a b : A) → get_elem? l 0 ≡ some a → get_elem? (set l 0 b) 0 ≡ some b
  set_top [] a b e = absurd (some-ne-none a (sym e))
  set_top (x ∷ xs) a b e = refl

  pub at_end : (l : List A) (a b : A) (j : ℕ) → get_elem? (l ++ a ∷ []) j ≡ some b → (get_elem? l j ≡ some b) ⊎ ((j ≡ length l) × (a ≡ b))
  at_end [] a b zero e = inr (refl, some-injective a b e)
  at_end [] a b (suc j) e = absurd (some-ne-none b (sym e))
  at_end (x ∷ xs) a b zero e = inl e
  at_end (x ∷ xs) a b (suc j) e = ⊎_elim (λ t. inl t) (λ t. inr (ap suc t.0, t.1)) (at_end xs a b j e)

-- a choice whose test is known
pub chosen : {A : Type 0} (b : Bool) (x y : A) → b ≡ true → (if b then x else y) ≡ x
chosen b x y e = ap (λ t. if t then x else y) e

pub left_over : {A : Type 0} (b : Bool) (x y : A) → b ≡ false → (if b then x else y) ≡ y
left_over b x y e = ap (λ t. if t then x else y) e

-- ---- the events of one writer

module _ {E : Type 0} where
  pushed : (b : Bool) (d : E) (xs bs cs : List E) → xs ≡ bs ++ cs → (if b then d ∷ xs else xs) ≡ (if b then d ∷ bs else bs) ++ cs
  pushed true d xs bs cs e = ap (λ ys. d ∷ ys) e
  pushed false d xs bs cs e = e

  pub events_append : (number : ℕ) (log more : List (Entry E)) → events_by number (log ++ more) ≡ events_by number log ++ events_by number more
  events_append number [] more = refl
  events_append number (x ∷ xs) more = pushed (x.writer == number) x.event (events_by number (xs ++ more)) (events_by number xs) (events_by number more) (events_append number xs more)

  events_of_own : (number : ℕ) (events : List E) → events_by number (entries_by number events) ≡ events
  events_of_own number [] = refl
  events_of_own number (d ∷ ds) =
      chosen (number == number) (d ∷ events_by number (entries_by number ds)) (events_by number (entries_by number ds)) (eq-eqb number number refl) ∙ ap (λ xs. d ∷ xs) (events_of_own number ds)

  events_of_another : (number other : ℕ) (events : List E) → number ≢ other → events_by other (entries_by number events) ≡ []
  events_of_another number other [] ne = refl
  events_of_another number other (d ∷ ds) ne =
      left_over (number == other) (d ∷ events_by other (entries_by number ds)) (events_by other (entries_by number ds)) (ne_eqb number other ne) ∙ events_of_another number other ds ne

  -- a writer's own events grow by those that it appends
  pub events_own : (number : ℕ) (log : List (Entry E)) (events : List E) → events_by number (log ++ entries_by number events) ≡ events_by number log ++ events
  events_own number log events = events_append number log (entries_by number events) ∙ ap (λ xs. events_by number log ++ xs) (events_of_own number events)

  -- and another's are unchanged
  pub events_other : (number other : ℕ) (log : List (Entry E)) (events : List E) → number ≢ other → events_by other (log ++ entries_by number events) ≡ events_by other log
  events_other number other log events ne =
      events_append other log (entries_by number events) ∙ (ap (λ xs. events_by other log ++ xs) (events_of_another number other events ne) ∙ append-nil (events_by other log))
