-- Histories and rows that workers share: the elements that pass a test, if all of them are one worker's.
use Rattle.std.proofs.Common.{◌≡◌, ◌≢◌, ◌<◌, ◌%◌, ℕ, Bool, true, false, cond, List, [], ◌∷◌, refl, sym, ap, ◌∙◌}
use Rattle.std.specs.Prelude.{◌==◌, if◌then◌else◌}
use Rattle.std.specs.List.{AllByRecursion, filter}
use Rattle.std.proofs.lemmas.Bool.{eq-eqb, eqb-false, true≢false}
use Rattle.std.proofs.lemmas.Nat.{mod_below}
use Rattle.ghost_log.specs.declared.view.Entry.{Entry}
use Rattle.ghost_log.specs.Entries.{events_by}
use Rattle.store_model.specs.Histories.{Step}
use Rattle.script_player.specs.Shares.{is_own}
use Rattle.locked_book.specs.History.{steps_of}
use Rattle.blob_store.proofs.OneText.RowSteps.{Line}

-- ---- steps by their writers

-- a fact of all steps of a history holds of a writer's steps
pub all_by : (P : Step → Type 0) (w : ℕ) (order : List (Entry Step)) → AllByRecursion P (steps_of order) → AllByRecursion P (events_by w order)
all_by P w [] h = tt
all_by P w (e ∷ es) h = elim (e.writer == w) as (λ b. AllByRecursion P (if b then e.event ∷ events_by w es else events_by w es)) [
  | true ↦ (h.0, all_by P w es h.1)
  | false ↦ all_by P w es h.1
]

module _ {A : Type 0} (p : A → Bool) where
  -- if a filter leaves nothing, neither the first element nor the rest passes
  none_first : (x : A) (xs : List A) → filter p (x ∷ xs) ≡ [] → p x ≡ false
  none_first x xs h = by (p x) h
    where
      by : (b : Bool) → cond b (x ∷ filter p xs) (filter p xs) ≡ [] → b ≡ false
      by true e = absurd cc
      by false e = refl

  none_after : (x : A) (xs : List A) → filter p (x ∷ xs) ≡ [] → filter p xs ≡ []
  none_after x xs h = rw (none_first x xs h) at h

-- if no other writer's steps pass a test, the steps that pass are this writer's that do
pub only_by : (p : Step → Bool) (w : ℕ) (order : List (Entry Step)) → ((v : ℕ) → v ≢ w → filter p (events_by v order) ≡ []) → filter p (steps_of order) ≡ filter p (events_by w order)
only_by p w [] none = refl
only_by p w (e ∷ es) none = by (e.writer == w) refl (only_by p w es (λ v other. after v (e.writer == v) (none v other)))
  where
    after : (v : ℕ) (b : Bool) → filter p (if b then e.event ∷ events_by v es else events_by v es) ≡ [] → filter p (events_by v es) ≡ []
    after v true h = none_after p e.event (events_by v es) h
    after v false h = h

    by : (b : Bool) → (e.writer == w) ≡ b → filter p (steps_of es) ≡ filter p (events_by w es) → filter p (e.event ∷ steps_of es) ≡ filter p (if b then e.event ∷ events_by w es else events_by w es)
    by true is rest = ap (λ xs. cond (p e.event) (e.event ∷ xs) xs) rest
    by false is rest =
        let own : filter p (e.event ∷ events_by e.writer es) ≡ [] = rw (eq-eqb e.writer e.writer refl) at (none e.writer (eqb-false e.writer w is)) in
        rw (none_first p e.event (events_by e.writer es) own) rest

-- ---- rows by their workers

-- if each element that passes `p` also passes `own`, a filter by `own` before that by `p` changes nothing
module _ {A : Type 0} (p own : A → Bool) where
  pub passed_all : (xs : List A) → AllByRecursion (λ x. p x ≡ true → own x ≡ true) xs → filter p (filter own xs) ≡ filter p xs
  passed_all [] h = refl
  passed_all (x ∷ xs) h = by (own x) refl (passed_all xs h.1)
    where
      by : (b : Bool) → own x ≡ b → filter p (filter own xs) ≡ filter p xs → filter p (cond b (x ∷ filter own xs) (filter own xs)) ≡ filter p (x ∷ xs)
      by true is rest = ap (λ ys. cond (p x) (x ∷ ys) ys) rest
      by false is rest = elim (p x) as (λ b. p x ≡ b → filter p (filter own xs) ≡ cond b (x ∷ filter p xs) (filter p xs)) [
        | true ↦ λ passes. absurd (true≢false (sym (h.0 passes) ∙ is))
        | false ↦ λ _. rest
      ] refl

  pub passed_none : (xs : List A) → AllByRecursion (λ x. p x ≡ true → own x ≡ false) xs → filter p (filter own xs) ≡ []
  passed_none [] h = refl
  passed_none (x ∷ xs) h = by (own x) refl (passed_none xs h.1)
    where
      by : (b : Bool) → own x ≡ b → filter p (filter own xs) ≡ [] → filter p (cond b (x ∷ filter own xs) (filter own xs)) ≡ []
      by false is rest = rest
      by true is rest = elim (p x) as (λ b. p x ≡ b → cond b (x ∷ filter p (filter own xs)) (filter p (filter own xs)) ≡ []) [
        | true ↦ λ passes. absurd (true≢false (sym is ∙ h.0 passes))
        | false ↦ λ _. rest
      ] refl

-- a fact of all of each worker's rows holds of all rows
pub all_shares : (P : Line → Type 0) (n : ℕ) → 0 < n → (lines : List Line) → ((w : ℕ) → w < n → AllByRecursion P (filter (λ l. is_own n w l.0) lines)) → AllByRecursion P lines
all_shares P n some [] each = tt
all_shares P n some (l ∷ lines) each = (here, all_shares P n some lines (λ w lt. rest w (is_own n w l.0) (each w lt)))
  where
    here : P l
    here = (rw (eq-eqb (l.0.lane % n) (l.0.lane % n) refl) at (each (l.0.lane % n) (mod_below l.0.lane n some))).0

    rest : (w : ℕ) (b : Bool) → AllByRecursion P (cond b (l ∷ filter (λ x. is_own n w x.0) lines) (filter (λ x. is_own n w x.0) lines)) → AllByRecursion P (filter (λ x. is_own n w x.0) lines)
    rest w true h = h.1
    rest w false h = h
