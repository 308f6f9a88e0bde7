-- The records of a log beside the changes that they describe, and bytes that are read in two parts.
use Rattle.std.proofs.Common.{◌≡◌, ◌∙◌, ℕ, zero, suc, Bool, List, [], ◌∷◌, ◌++◌, Option, Some, None, ap, refl, subst, sym, append_assoc, append-nil}
use Rattle.std.specs.Prelude.{take}
use Rattle.std.specs.List.{AllByRecursion, cons_option}
use Rattle.std.specs.Option.{option_map}
use Rattle.std.proofs.lemmas.Grind.{flat_map-append}
use Rattle.std.proofs.lemmas.List.Concat.{flat_map-cons}
use Rattle.log_records.specs.Changes as logged
use Rattle.log_records.specs.Changes.{IsChange}
use Rattle.log_records.specs.Laws.{AreChangesIn, HasNoRecord}
use Rattle.log_records.specs.Records.{record_bytes, records_bytes}
use Rattle.log_records.proofs.Apart.{records_apart}
use Rattle.locked_book.specs.Described.{IsLogged, logged_change}
use Rattle.locked_book.specs.Logging.{is_noted}
use Rattle.locked_book.specs.Restoring.{logged_changes}
use Rattle.store_model.specs.Catalog.{Tenant}
use Rattle.store_model.specs.Durable.{Change, change_of, changes_of}
use Rattle.store_model.specs.Histories.{Step}

-- ---- records and changes

-- the record describes the change
abbrev pub IsLogOf : List Tenant → logged.Change → Change → Type 0
IsLogOf tenants l c = (noted : Bool) × (l ≡ logged_change tenants noted c)

-- the records describe the changes, one by one
abbrev pub AreLogsOf : List Tenant → List logged.Change → List Change → Type 0
AreLogsOf tenants [] [] = Unit {0}
AreLogsOf tenants [] (c ∷ cs) = ⊥
AreLogsOf tenants (l ∷ ls) [] = ⊥
AreLogsOf tenants (l ∷ ls) (c ∷ cs) = IsLogOf tenants l c × AreLogsOf tenants ls cs

pub steps_logged : (longest : Option ℕ) (tenants : List Tenant) (steps : List Step) → AllByRecursion (IsLogged longest tenants) steps → AreLogsOf tenants (logged_changes longest steps) (changes_of tenants steps)
steps_logged longest tenants [] all = tt
steps_logged longest tenants (step ∷ steps) all =
    subst (λ l. AreLogsOf tenants (cons_option l (logged_changes longest steps)) (cons_option (change_of tenants step) (changes_of tenants steps))) (sym all.0)
    (by (steps_logged longest tenants steps all.1) (change_of tenants step))
  where
    by : AreLogsOf tenants (logged_changes longest steps) (changes_of tenants steps) → (o : Option Change) →
        AreLogsOf tenants (cons_option (option_map (logged_change tenants (is_noted longest step)) o) (logged_changes longest steps)) (cons_option o (changes_of tenants steps))
    by again None = again
    by again (Some c) = ((is_noted longest step, refl), again)

pub take_logged : (tenants : List Tenant) (n : ℕ) (ls : List logged.Change) (cs : List Change) → AreLogsOf tenants ls cs → AreLogsOf tenants (take n ls) (take n cs)
take_logged tenants zero ls cs are = tt
take_logged tenants (suc n) [] [] are = tt
take_logged tenants (suc n) [] (c ∷ cs) are = absurd are
take_logged tenants (suc n) (l ∷ ls) [] are = absurd are
take_logged tenants (suc n) (l ∷ ls) (c ∷ cs) are = (are.0, take_logged tenants n ls cs are.1)

-- changes that are described by two lists of records, in their parts
pub record Split (tenants : List Tenant) (ls ms : List logged.Change) (cs : List Change) : Type 0 where
  pub first : List Change
  pub later : List Change
  pub both : cs ≡ first ++ later
  pub logs : AreLogsOf tenants ls first
  pub later_logs : AreLogsOf tenants ms later

pub split_logged : (tenants : List Tenant) (ls ms : List logged.Change) (cs : List Change) → AreLogsOf tenants (ls ++ ms) cs → Split tenants ls ms cs
split_logged tenants [] ms cs are = record { first = []; later = cs; both = refl; logs = tt; later_logs = are }
split_logged tenants (l ∷ ls) ms [] are = absurd are
split_logged tenants (l ∷ ls) ms (c ∷ cs) are =
    let s = split_logged tenants ls ms cs are.1 in
    record { first = c ∷ s.first; later = s.later; both = ap (λ xs. c ∷ xs) s.both; logs = (are.0, s.logs); later_logs = s.later_logs }

-- a property of all changes holds of those of each part
pub all_first : (P : Change → Type 0) (xs ys : List Change) → AllByRecursion P (xs ++ ys) → AllByRecursion P xs
all_first P [] ys all = tt
all_first P (x ∷ xs) ys all = (all.0, all_first P xs ys all.1)

pub all_later : (P : Change → Type 0) (xs ys : List Change) → AllByRecursion P (xs ++ ys) → AllByRecursion P ys
all_later P [] ys all = all
all_later P (x ∷ xs) ys all = all_later P xs ys all.1

-- ---- bytes in two parts

more_records : (c : logged.Change) (cs : List logged.Change) (rest : List ℕ) → records_bytes (c ∷ cs) ++ rest ≡ record_bytes c ++ (records_bytes cs ++ rest)
more_records c cs rest = ap (λ t. t ++ rest) (flat_map-cons record_bytes c cs) ∙ append_assoc (record_bytes c) (records_bytes cs) rest

-- what is read of bytes behind some whole records
pub record ReadsBehind (back : List ℕ) (front all : List logged.Change) (rest : List ℕ) : Type 0 where
  pub more : List logged.Change
  pub both : all ≡ front ++ more
  pub read : AreChangesIn back more rest

behind : (back rest : List ℕ) (fs ls : List logged.Change) → AllByRecursion IsChange fs → AllByRecursion IsChange ls → HasNoRecord rest → records_bytes fs ++ back ≡ records_bytes ls ++ rest → ReadsBehind back fs ls rest
behind back rest [] ls fit all none same = record { more = ls; both = refl; read = record { fit = all; whole = same; longest = none } }
behind back rest (f ∷ fs) [] fit all none same = absurd (none f (records_bytes fs ++ back) fit.0 (sym same ∙ more_records f fs back))
behind back rest (f ∷ fs) (l ∷ ls) fit all none same =
    let both = records_apart f l (records_bytes fs ++ back) (records_bytes ls ++ rest) fit.0 all.0 (sym (more_records f fs back) ∙ same ∙ more_records l ls rest) in
    let b = behind back rest fs ls fit.1 all.1 none both.1 in
    record { more = b.more; both = λ i. sym both.0 i ∷ b.both i; read = b.read }

pub read_behind : (front back rest : List ℕ) (fs ls : List logged.Change) → AreChangesIn front fs [] → AreChangesIn (front ++ back) ls rest → ReadsBehind back fs ls rest
read_behind front back rest fs ls first all =
    behind back rest fs ls first.fit all.fit all.longest
    (ap (λ t. t ++ back) (sym (append-nil (records_bytes fs)) ∙ sym first.whole) ∙ all.whole)

-- whole records, and those behind them
pub read_both : (front back rest : List ℕ) (fs ms : List logged.Change) → AreChangesIn front fs [] → AreChangesIn back ms rest → AreChangesIn (front ++ back) (fs ++ ms) rest
read_both front back rest fs ms first later = record {
  fit = all_fit fs first.fit;
  whole = (λ i. (first.whole ∙ append-nil (records_bytes fs)) i ++ later.whole i)
      ∙ sym (append_assoc (records_bytes fs) (records_bytes ms) rest)
      ∙ ap (λ t. t ++ rest) (sym (flat_map-append record_bytes fs ms));
  longest = later.longest;
}
  where
    all_fit : (xs : List logged.Change) → AllByRecursion IsChange xs → AllByRecursion IsChange (xs ++ ms)
    all_fit [] all = later.fit
    all_fit (x ∷ xs) all = (all.0, all_fit xs all.1)
