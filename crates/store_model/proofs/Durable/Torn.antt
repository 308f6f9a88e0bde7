-- A log that lost its last records is the log of the first steps of its history.
use Rattle.std.proofs.Common.{◌≡◌, List, [], ◌∷◌, ◌++◌, Option, Some, None, refl, sym, ap, ◌∙◌, subst, append_assoc}
use Rattle.std.specs.List.{cons_option}
use Rattle.std.specs.FinMap.{empty}
use Rattle.std.proofs.lemmas.List.Elements.{filter_map-append}
use Rattle.store_model.specs.Catalog.{Tenant}
use Rattle.store_model.specs.Durable.{Agrees, AreReturnedAsTaken, Change, TakenSessions, TornLogsAgree, after_changes, change_of, changes_of, taken_after_step, taken_after_steps}
use Rattle.store_model.specs.Histories.{AreSteps, State, Step, initial_state}
use Rattle.store_model.proofs.Durable.Histories.{logs_extend}

-- a list of steps splits in two
pub first_steps : (first rest : List Step) (s s' : State) → AreSteps s (first ++ rest) s' → (mid : State) × AreSteps s first mid × AreSteps mid rest s'
first_steps [] rest s s' run = (s, refl, run)
first_steps (step ∷ first) rest s s' run = let later = first_steps first rest run.0 s' run.2 in (later.0, (run.0, run.1, later.1), later.2)

pub first_returned : (first rest : List Step) (taken : TakenSessions) → AreReturnedAsTaken taken (first ++ rest) → AreReturnedAsTaken taken first
first_returned [] rest taken all = tt
first_returned (step ∷ first) rest taken all = (all.0, first_returned first rest (taken_after_step taken step) all.1)

-- the first steps, whose changes are the kept ones
abbrev Cut : List Tenant → List Step → List Change → Type 0
Cut tenants steps kept = (first : List Step) × (rest : List Step) × (steps ≡ first ++ rest) × (changes_of tenants first ≡ kept)

one_more : (tenants : List Tenant) (step : Step) (steps : List Step) (c : Change) (kept lost : List Change) → ((xs : List Change) → changes_of tenants steps ≡ xs ++ lost → Cut tenants steps xs) →
    (o : Option Change) → change_of tenants step ≡ o → cons_option o (changes_of tenants steps) ≡ c ∷ kept ++ lost → Cut tenants (step ∷ steps) (c ∷ kept)
one_more tenants step steps c kept lost cut_of None none is =
    let later = cut_of (c ∷ kept) is in
    (step ∷ later.0, later.1, ap (λ xs. step ∷ xs) later.2, ap (λ o. cons_option o (changes_of tenants later.0)) none ∙ later.3)
one_more tenants step steps c kept lost cut_of (Some x) some is =
    let head : x ≡ c = cc in
    let tail : changes_of tenants steps ≡ kept ++ lost = cc in
    let later = cut_of kept tail in
    (step ∷ later.0, later.1, ap (λ xs. step ∷ xs) later.2, ap (λ o. cons_option o (changes_of tenants later.0)) some ∙ (λ i. head i ∷ later.3 i))

cut : (tenants : List Tenant) (steps : List Step) (kept lost : List Change) → changes_of tenants steps ≡ kept ++ lost → Cut tenants steps kept
cut tenants [] [] lost is = ([], [], refl, refl)
cut tenants [] (c ∷ kept) lost is = absurd cc
cut tenants (step ∷ steps) [] lost is = ([], step ∷ steps, refl, refl)
cut tenants (step ∷ steps) (c ∷ kept) lost is = one_more tenants step steps c kept lost (λ xs e. cut tenants steps xs lost e) (change_of tenants step) refl is

pub torn_logs_agree : TornLogsAgree
torn_logs_agree D C done later s kept lost opens run returned is =
    let c = cut D.tenants later kept lost is in
    let both : done ++ later ≡ (done ++ c.0) ++ c.1 = ap (λ xs. done ++ xs) c.2 ∙ sym (append_assoc done c.0 c.1) in
    let steps = first_steps (done ++ c.0) c.1 (initial_state C) s (subst (λ xs. AreSteps (initial_state C) xs s) both run) in
    let records : changes_of D.tenants (done ++ c.0) ≡ changes_of D.tenants done ++ kept = filter_map-append (change_of D.tenants) done c.0 ∙ ap (λ xs. changes_of D.tenants done ++ xs) c.3 in
    record {
      first = c.0;
      rest = c.1;
      at = steps.0;
      split = c.2;
      records = c.3;
      leads = steps.1;
      agrees = subst (λ xs. Agrees (taken_after_steps empty (done ++ c.0)) (after_changes D xs) steps.0.catalog) records
          (logs_extend empty D (initial_state C) (done ++ c.0) steps.0 opens steps.1 (first_returned (done ++ c.0) c.1 empty (subst (λ xs. AreReturnedAsTaken empty xs) both returned)));
    }
