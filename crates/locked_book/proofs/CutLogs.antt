-- The first bytes of a log restore the state after some first steps.
use Rattle.std.proofs.Common.{◌≡◌, ◌≤◌, ◌+◌, ◌-◌, ◌∙◌, ℕ, Bool, true, false, Option, None, Some, List, [], ◌∷◌, ◌++◌, ap, arith, length, length-append, refl, subst, sym}
use Rattle.std.specs.FinMap as fmap
use Rattle.std.specs.List.{AllByRecursion, cons_option}
use Rattle.std.specs.Option.{option_map}
use Rattle.std.specs.Prelude.{drop, is_some, map, take}
use Rattle.std.proofs.Math.Seq.{take-append-add, take-append_seam}
use Rattle.std.proofs.lemmas.List.{length-take-le, take-append-drop, take-map}
use Rattle.std.proofs.lemmas.List.Elements.{filter_map-append}
use Rattle.ghost_log.specs.declared.view.Entry.{Entry}
use Rattle.ghost_log.specs.Entries.{IsPrefix}
use Rattle.log_records.specs.Changes as logged
use Rattle.log_records.specs.Laws.{AreChangesIn, KeepsFirstChanges}
use Rattle.log_records.specs.Records.{records_bytes}
use Rattle.log_records.proofs.Cuts.{cuts, one_way, read_back}
use Rattle.noted_logs.specs.Noted.{kept_change}
use Rattle.noted_logs.proofs.Noting.{notes_determine}
use Rattle.store_model.specs.Catalog.{Catalog, Tenant}
use Rattle.store_model.specs.Durable.{Agrees, BlobLinked, BlobStored, BlobUnlinked, Change, ChunkReceived, ManifestDeleted, ManifestPut, NumberSet, RepoAdded, RepoRemoved, SessionDropped, SessionOpened, SessionSealed, TakenSessions, after_changes, change_of, changes_of, initial_durable, taken_after_steps}
use Rattle.store_model.specs.Histories.{Step}
use Rattle.store_model.proofs.Durable.Crashes.{stores_survive_crashes}
use Rattle.locked_book.specs.CutLogs.{AgreesByNotes, CutLogsRestore, SameLogsRestart, changes_in, logged_in}
use Rattle.locked_book.specs.Described.{IsLogged, described, logged_change}
use Rattle.locked_book.specs.History.{steps_of}
use Rattle.locked_book.specs.Logging.{has_log, is_noted, logged_step}
use Rattle.locked_book.specs.Names.{StoreNames}
use Rattle.locked_book.specs.Restoring.{logged_changes, opening_state, records_of}
use Rattle.locked_book.proofs.Fitting.{Describes, all_described, all_fit, history_described}
use Rattle.locked_book.proofs.Restoring.{history_records}

steps_of-append : (xs ys : List (Entry Step)) → steps_of (xs ++ ys) ≡ steps_of xs ++ steps_of ys
steps_of-append [] ys = refl
steps_of-append (x ∷ xs) ys = ap (λ steps. x.event ∷ steps) (steps_of-append xs ys)

-- the changes of first entries are the first changes
changes_first : (names : StoreNames) (history first : List (Entry Step)) (of : IsPrefix first history) → changes_in names history ≡ changes_in names first ++ changes_in names of.0
changes_first names history first of =
    sym (ap (changes_in names) of.1)
    ∙ ap (changes_of names.setting.tenants) (steps_of-append first of.0)
    ∙ filter_map-append (change_of names.setting.tenants) (steps_of first) (steps_of of.0)

-- and so are their descriptions
logged_first : (names : StoreNames) (history first : List (Entry Step)) (of : IsPrefix first history) → logged_in names history ≡ logged_in names first ++ logged_in names of.0
logged_first names history first of =
    sym (ap (logged_in names) of.1)
    ∙ ap (logged_changes names.longest) (steps_of-append first of.0)
    ∙ filter_map-append (logged_step names.longest) (steps_of first) (steps_of of.0)

-- there are as many descriptions as changes
same_count : (longest : Option ℕ) (tenants : List Tenant) (steps : List Step) → AllByRecursion (IsLogged longest tenants) steps → length (logged_changes longest steps) ≡ length (changes_of tenants steps)
same_count longest tenants [] each = refl
same_count longest tenants (step ∷ steps) each = ap (λ l. length (cons_option l (logged_changes longest steps))) each.0 ∙ by (same_count longest tenants steps each.1) (change_of tenants step)
  where
    by : length (logged_changes longest steps) ≡ length (changes_of tenants steps) → (o : Option Change) → length (cons_option (option_map (logged_change tenants (is_noted longest step)) o) (logged_changes longest steps)) ≡ length (cons_option o (changes_of tenants steps))
    by again None = again
    by again (Some c) = omega (arith, again)

-- the log describes each of the first steps
first_logged : (longest : Option ℕ) (tenants : List Tenant) (xs ys : List Step) → AllByRecursion (IsLogged longest tenants) (xs ++ ys) → AllByRecursion (IsLogged longest tenants) xs
first_logged longest tenants [] ys all = tt
first_logged longest tenants (x ∷ xs) ys all = (all.0, first_logged longest tenants xs ys all.1)

-- the records of first entries are the records of the first changes
records_first : (names : StoreNames) (history first : List (Entry Step)) → has_log names.policy ≡ true → IsPrefix first history →
    records_bytes (take (length (logged_in names first)) (logged_in names history)) ≡ records_of names first
records_first names history first some of =
    let mine = logged_in names first in
    ap records_bytes (ap (take (length mine)) (logged_first names history first of) ∙ take-append_seam mine (logged_in names of.0))
    ∙ sym (history_records names.policy names.longest first some)

-- a list of this many first elements begins with fewer of them
prefix_of_take : {A : Type 0} (xs mine more : List A) (count : ℕ) → xs ≡ mine ++ more → length mine ≤ count → IsPrefix mine (take count xs)
prefix_of_take xs mine more count is long =
    let place : count ≡ length mine + (count - length mine) = omega (arith, long) in
    (take (count - length mine) more, sym (ap (take count) is ∙ ap (λ n. take n (mine ++ more)) place ∙ take-append-add mine more (count - length mine)))

pub cut_logs_restore : CutLogsRestore
cut_logs_restore names history s bytes restores some of =
    let cs = changes_in names history in
    let ls = logged_in names history in
    let fit = all_fit names.longest names.setting.tenants (steps_of history) restores.describes (history_described names history s restores) in
    let all : bytes ++ of.0 ≡ records_bytes ls = of.1 ∙ restores.records some in
    let taken : take (length bytes) (records_bytes ls) ≡ bytes = ap (take (length bytes)) (sym all) ∙ take-append_seam bytes of.0 in
    let k : KeepsFirstChanges ls (length bytes) = cuts ls (length bytes) fit in
    let count : length ls ≡ length cs = same_count names.longest names.setting.tenants (steps_of history) restores.describes in
    let kept = take k.count cs in
    let long : length kept ≡ k.count = length-take-le k.count cs (omega (arith, k.at_most, count)) in
    let both : cs ≡ kept ++ drop k.count cs = sym (take-append-drop k.count cs) in
    record {
      kept = kept;
      lost = drop k.count cs;
      rest = k.rest;
      split = both;
      read = subst (λ n. AreChangesIn bytes (take n ls) k.rest) (sym long)
          (subst (λ (b : List ℕ). AreChangesIn b (take k.count ls) k.rest) taken k.read);
      survives = stores_survive_crashes (opening_state names) names.opening [] (steps_of history) s kept (drop k.count cs)
          restores.opening restores.opens.sound restores.leads restores.returned restores.formed both;
      complete = λ first p q.
          let mine = changes_in names first in
          let more = changes_in names p.0 in
          let is : cs ≡ mine ++ more = changes_first names history first p in
          let also : ls ≡ logged_in names first ++ logged_in names p.0 = logged_first names history first p in
          let steps_are : steps_of history ≡ steps_of first ++ steps_of p.0 = sym (ap steps_of p.1) ∙ steps_of-append first p.0 in
          let each_mine = first_logged names.longest names.setting.tenants (steps_of first) (steps_of p.0) (subst (AllByRecursion (IsLogged names.longest names.setting.tenants)) steps_are restores.describes) in
          let mine_count : length (logged_in names first) ≡ length mine = same_count names.longest names.setting.tenants (steps_of first) each_mine in
          let few : length (logged_in names first) ≤ length ls = omega (arith, ap length also, length-append (logged_in names first) (logged_in names p.0)) in
          let fits : length (records_bytes (take (length (logged_in names first)) ls)) ≤ length bytes =
          omega (arith, ap length (records_first names history first some p), ap length q.1, length-append (records_of names first) q.0) in
          let enough : length (logged_in names first) ≤ k.count = k.complete (length (logged_in names first)) few fits in
          prefix_of_take cs mine more k.count is (omega (arith, enough, mine_count));
    }

-- ---- restarts

-- in memory, changes are kept as they are
kept_whole : (cs : List Change) → map (kept_change false) cs ≡ cs
kept_whole [] = refl
kept_whole (c ∷ cs) = λ i. whole c i ∷ kept_whole cs i
  where
    whole : (c : Change) → kept_change false c ≡ c
    whole (SessionOpened repo key) = refl
    whole (ChunkReceived key bytes) = refl
    whole (SessionSealed key digest last) = refl
    whole (SessionDropped key) = refl
    whole (BlobLinked repo digest) = refl
    whole (BlobUnlinked repo digest) = refl
    whole (ManifestPut repo bytes) = refl
    whole (ManifestDeleted repo digest) = refl
    whole (RepoRemoved repo) = refl
    whole (RepoAdded repo) = refl
    whole (NumberSet t n) = refl
    whole (BlobStored digest bytes) = refl

-- a store's changes that are read from the first records of another one are kept as the other's first changes
kept_same : (names : StoreNames) (steps : List Step) (history : List (Entry Step)) (kept lost : List Change) (bytes rest : List ℕ) →
    bytes ≡ records_bytes (logged_changes names.longest steps) → AllByRecursion (IsLogged names.longest names.setting.tenants) steps → AllByRecursion (Describes names.setting.tenants) (changes_of names.setting.tenants steps) →
    AllByRecursion (IsLogged names.longest names.setting.tenants) (steps_of history) → AllByRecursion (Describes names.setting.tenants) (changes_in names history) → changes_in names history ≡ kept ++ lost →
    AreChangesIn bytes (take (length kept) (logged_in names history)) rest →
    map (kept_change (is_some names.longest)) (changes_of names.setting.tenants steps) ≡ map (kept_change (is_some names.longest)) kept
kept_same names steps history kept lost bytes rest is each fit each_all fit_all split read =
    let tenants = names.setting.tenants in
    let files = is_some names.longest in
    let mine = logged_changes names.longest steps in
    let whole = read_back mine (all_fit names.longest tenants steps each fit) in
    let same : mine ≡ take (length kept) (logged_in names history) =
    (one_way bytes mine (take (length kept) (logged_in names history)) [] rest (subst (λ (b : List ℕ). AreChangesIn b mine []) (sym is) whole) read).0 in
    let front : take (length kept) (changes_in names history) ≡ kept = ap (take (length kept)) split ∙ take-append_seam kept lost in
    sym (all_described names.longest tenants steps each fit)
    ∙ ap (map (described tenants files)) same
    ∙ sym (take-map (described tenants files) (length kept) (logged_in names history))
    ∙ ap (take (length kept)) (all_described names.longest tenants (steps_of history) each_all fit_all)
    ∙ take-map (kept_change files) (length kept) (changes_in names history)
    ∙ ap (map (kept_change files)) front

-- changes that are kept alike leave a new store in states of which one agrees with what the other agrees with, up to notes
agrees_by_notes : (files : Bool) (tenants : List Tenant) (mine kept : List Change) (taken : TakenSessions) (C : Catalog) → map (kept_change files) mine ≡ map (kept_change files) kept →
    Agrees taken (after_changes (initial_durable tenants) mine) C → AgreesByNotes files taken (after_changes (initial_durable tenants) kept) C
agrees_by_notes false tenants mine kept taken C same agrees =
    subst (λ (cs : List Change). Agrees taken (after_changes (initial_durable tenants) cs) C) (sym (kept_whole mine) ∙ same ∙ kept_whole kept) agrees
agrees_by_notes true tenants mine kept taken C same agrees = (after_changes (initial_durable tenants) mine, notes_determine tenants mine kept same, agrees)

pub same_logs_restart : SameLogsRestart
same_logs_restart names history s other replayed t restores again some too tenants longest of =
    let bytes = records_of other replayed in
    let first = cut_logs_restore names history s bytes restores some of in
    let steps = steps_of replayed in
    let fit : AllByRecursion (Describes names.setting.tenants) (changes_of names.setting.tenants steps) =
    subst (λ ts. AllByRecursion (Describes ts) (changes_of ts steps)) tenants (history_described other replayed t again) in
    let each : AllByRecursion (IsLogged names.longest names.setting.tenants) steps =
    subst (λ (p : Option ℕ × List Tenant). AllByRecursion (IsLogged p.0 p.1) steps) (λ i. (longest i, tenants i)) again.describes in
    let records : bytes ≡ records_bytes (logged_changes names.longest steps) =
    again.records too ∙ ap (λ l. records_bytes (logged_changes l steps)) longest in
    let same = kept_same names steps history first.kept first.lost bytes first.rest records each fit restores.describes (history_described names history s restores) first.split first.read in
    record {
      restores = first;
      agrees = agrees_by_notes (is_some names.longest) names.setting.tenants (changes_of names.setting.tenants steps) first.kept (taken_after_steps fmap.empty steps) t.catalog same
          (subst (λ ts. Agrees (taken_after_steps fmap.empty steps) (after_changes (initial_durable ts) (changes_of ts steps)) t.catalog) tenants again.agrees);
    }
