-- A history compared with the steps of desks, the last desk first.
use Rattle.std.proofs.Common.{◌≡◌, ◌<◌, ◌≤◌, ◌+◌, ◌∙◌, ℕ, zero, suc, List, [], ◌∷◌, ◌++◌, arith, get_or, inl, inr, length, refl, subst, sym}
use Rattle.std.proofs.Math.Nat.{eq-or-lt_of_le}
use Rattle.std.proofs.lemmas.Bool.{cases_lt}
use Rattle.ghost_log.specs.declared.view.Entry.{Entry}
use Rattle.ghost_log.specs.Entries.{events_by}
use Rattle.store_model.specs.Histories.{Step}
use Rattle.store_model.specs.Catalog.{Catalog}
use Rattle.locked_book.specs.Counting.{StoreContent}
use Rattle.locked_book.specs.History.{DeskView, LogLeadsTo, state_of, steps_of_each}

steps_at : (left rest : List DeskView) (d : DeskView) → get_or (steps_of_each (left ++ d ∷ rest)) (length left) [] ≡ d.trace.own
steps_at [] rest d = refl
steps_at (x ∷ left) rest d = steps_at left rest d

pub steps_beyond : (ds : List DeskView) (n : ℕ) → length ds ≤ n → get_or (steps_of_each ds) n [] ≡ []
steps_beyond [] n le = refl
steps_beyond (x ∷ ds) zero le = absurd (omega (arith, le))
steps_beyond (x ∷ ds) (suc n) le = steps_beyond ds n (omega (arith, le))

-- from this number on, a history has the steps of the desks at these places
abbrev pub HasFrom : List (Entry Step) → List DeskView → ℕ → Type 0
HasFrom order ds from = (n : ℕ) → from ≤ n → events_by n order ≡ get_or (steps_of_each ds) n []

-- one more desk was compared
pub has_more : (order : List (Entry Step)) (ds left rest : List DeskView) (d : DeskView) → ds ≡ left ++ d ∷ rest
    → events_by (length left) order ≡ d.trace.own
    → ((n : ℕ) → length ds ≤ n → events_by n order ≡ [])
    → (length left + 1 < length ds → HasFrom order ds (length left + 1))
    → HasFrom order ds (length left)
has_more order ds left rest d split own others later n le = elim (eq-or-lt_of_le le) [
  | inl same ↦ subst (λ m. events_by m order ≡ get_or (steps_of_each ds) m []) same (own ∙ sym (subst (λ xs. get_or (steps_of_each xs) (length left) [] ≡ d.trace.own) (sym split) (steps_at left rest d)))
  | inr above ↦ elim (cases_lt n (length ds)) [
    | inl within ↦ later (omega (arith, above, within)) n (omega (arith, above))
    | inr past ↦ others n past ∙ sym (steps_beyond ds n past)
  ]
]

-- an unchanged history leads to the same state, if the book and the totals are unchanged
pub still_leads : (C : Catalog) (order after : List (Entry Step)) (k k' : StoreContent) → after ≡ order → (k'.book ≡ k.book) × (k'.counts.totals ≡ k.counts.totals) → LogLeadsTo C order (state_of k) → LogLeadsTo C after (state_of k')
still_leads C order after k k' same kept leads =
    let state : state_of k ≡ state_of k' = λ i. record { catalog = (sym kept.0 i).catalog; totals = sym kept.1 i } in
    subst (λ s. LogLeadsTo C after s) state (subst (λ es. LogLeadsTo C es (state_of k)) (sym same) leads)
