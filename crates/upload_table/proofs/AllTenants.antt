-- The sessions of all tenants, from those of each.
use Rattle.std.proofs.Common.{◌≡◌, ℕ, zero, suc, ◌+◌, ◌<◌, ◌≤◌, Bool, true, false, cond, List, [], ◌∷◌, ◌++◌, length, map, filter, set, get_or, Option, Some, None, is_some, Result, Ok, Err, refl, sym, ap, ◌∙◌, arith, inl, inr}
use Rattle.std.specs.Prelude.{◌^◌, ◌==◌, ◌&&◌, ◌||◌, nat_le, replicate, slice_get, slice_index}
use Rattle.std.specs.declared.cmp.Ordering.TheVariants.{Less, Equal}
use Rattle.std.specs.Ordering.{eq_by_cmp, is_eq, is_lt, nat_cmp}
use Rattle.std.specs.Option.{option_map_or}
use Rattle.std.specs.List.{sum_by}
use Rattle.std.specs.FinMap.{find, get, insert, remove, entries, from_entries, get-entries, get-insert, get-remove, is_sorted, same_map}
use Rattle.std.specs.FinMap.Entries.{below_all, find-where_key}
use Rattle.std.specs.Cmp.{nat_cmp_total}
use Rattle.std.proofs.lemmas.Bool.{and_from, and_parts, eq-eqb, cases_eq}
use Rattle.std.proofs.lemmas.Bool.Decides.{nat_tests}
use Rattle.std.proofs.lemmas.List.{length-map, append-nil}
use Rattle.std.proofs.lemmas.List.Elements.{filter-append}
use Rattle.std.proofs.lemmas.List.Sums.{length-filter, sum_by-cons}
use Rattle.std.proofs.lemmas.Option.{slice_get_past, slice_get_read}
use Rattle.blob_digest.specs.Keys.{SessionNumber, session_number_cmp}
use Rattle.spec_lib.specs.Texts.{Text, same_text}
use Rattle.blob_digest.proofs.KeyOrders.{number_cmp_total, exact_number}
use Rattle.spec_lib.proofs.Lists.{filter-map}
use Rattle.spec_lib.proofs.Options.{some_none, some_same}
use Rattle.spec_lib.proofs.Rows.{entries-empty, sum_by-map}
use Rattle.spec_lib.proofs.Sorted.{entries-sorted, rising}
use Rattle.blob_digest.specs.Outcomes.{Does, OutcomeIn}
use Rattle.blob_digest.specs.declared.refusal.Refusal.{Refusal}
use Rattle.blob_digest.specs.declared.refusal.Refusal.TheVariants.{LimitReached}
use Rattle.store_model.specs.Sessions.{Chunks, CheckedIn, Session, Sessions, charged_length, session_charges, is_of_repo, open_count_in, sessions_of, session_charge, with_chunks}
use Rattle.upload_table.specs.Tenants.{SessionsByNumber, charged_in, entries_from, is_exhausted, no_sessions, tenant_entry, start_here, tenants_shown, with_chunks_here, without_number}
use Rattle.upload_table.specs.Uploaded.{Uploaded, initial_uploads, start_upload, with_new_session, with_sessions}

-- ---- the entries are in order

less_tenant : (t j a b : ℕ) → t < j → session_number_cmp (t, a) (j, b) ≡ Less
less_tenant t j a b lt = grind (arith, nat_tests)

same_tenant : (t a b : ℕ) → session_number_cmp (t, a) (t, b) ≡ nat_cmp a b
same_tenant t a b = grind (arith, nat_tests)

-- a key is below those of later tenants
below_part : (t j n : ℕ) (es : List (ℕ × Session)) (rest : List (SessionNumber × Session)) → t < j → below_all session_number_cmp (t, n) rest ≡ true → below_all session_number_cmp (t, n) (map (tenant_entry j) es ++ rest) ≡ true
below_part t j n [] rest lt all = all
below_part t j n (e ∷ es) rest lt all = rw (less_tenant t j n e.0 lt) (below_part t j n es rest lt all)

below_later : (t j n : ℕ) (tenants : List SessionsByNumber) → t < j → below_all session_number_cmp (t, n) (entries_from j tenants) ≡ true
below_later t j n [] lt = refl
below_later t j n (s ∷ tenants) lt = below_part t j n (entries s.sessions) (entries_from (j + 1) tenants) lt (below_later t (j + 1) n tenants (omega arith))

-- and below the greater ones of its own
below_own : (t n : ℕ) (es : List (ℕ × Session)) (rest : List (SessionNumber × Session)) → below_all nat_cmp n es ≡ true → below_all session_number_cmp (t, n) rest ≡ true → below_all session_number_cmp (t, n) (map (tenant_entry t) es ++ rest) ≡ true
below_own t n [] rest own all = all
below_own t n (e ∷ es) rest own all =
    let parts = and_parts (is_lt (nat_cmp n e.0)) (below_all nat_cmp n es) own in
    and_from (is_lt (session_number_cmp (t, n) (t, e.0))) (below_all session_number_cmp (t, n) (map (tenant_entry t) es ++ rest)) (ap is_lt (same_tenant t n e.0) ∙ parts.0) (below_own t n es rest parts.1 all)

sorted_part : (t : ℕ) (es : List (ℕ × Session)) (rest : List (SessionNumber × Session)) → is_sorted nat_cmp es ≡ true → is_sorted session_number_cmp rest ≡ true → ((n : ℕ) → below_all session_number_cmp (t, n) rest ≡ true) → is_sorted session_number_cmp (map (tenant_entry t) es ++ rest) ≡ true
sorted_part t [] rest own sorted below = sorted
sorted_part t (e ∷ es) rest own sorted below =
    let parts = and_parts (below_all nat_cmp e.0 es) (is_sorted nat_cmp es) own in
    and_from (below_all session_number_cmp (t, e.0) (map (tenant_entry t) es ++ rest)) (is_sorted session_number_cmp (map (tenant_entry t) es ++ rest)) (below_own t e.0 es rest parts.0 (below e.0)) (sorted_part t es rest parts.1 sorted below)

sorted_from : (t : ℕ) (tenants : List SessionsByNumber) → is_sorted session_number_cmp (entries_from t tenants) ≡ true
sorted_from t [] = refl
sorted_from t (s ∷ tenants) =
    sorted_part t (entries s.sessions) (entries_from (t + 1) tenants) (rising s.sessions) (sorted_from (t + 1) tenants)
    (λ n. below_later t (t + 1) n tenants (omega arith))

abbrev pub all_of : List SessionsByNumber → Sessions
all_of tenants = from_entries (entries_from 0 tenants)

entries-all : (tenants : List SessionsByNumber) → entries (all_of tenants) ≡ entries_from 0 tenants
entries-all tenants = entries-sorted session_number_cmp number_cmp_total exact_number (entries_from 0 tenants) (sorted_from 0 tenants)

-- ---- one tenant's entries

-- the sessions of the tenant at a place, or none if there is no tenant
abbrev pub own : List SessionsByNumber → ℕ → List (ℕ × Session)
own tenants i = option_map_or (λ s. entries s.sessions) (slice_get tenants i) []

other_tenant : (t j : ℕ) → t < j → (j == t) ≡ false
other_tenant t j lt = grind (arith, nat_tests)

other_tenant' : (t j : ℕ) → j < t → (j == t) ≡ false
other_tenant' t j lt = grind (arith, nat_tests)

all_pass : (t : ℕ) (es : List (ℕ × Session)) → filter (λ e. e.0.0 == t) (map (tenant_entry t) es) ≡ map (tenant_entry t) es
all_pass t [] = refl
all_pass t (e ∷ es) = rw (eq-eqb t t refl) (ap (λ fs. tenant_entry t e ∷ fs) (all_pass t es))

none_pass : (t j : ℕ) (es : List (ℕ × Session)) → (j == t) ≡ false → filter (λ e. e.0.0 == t) (map (tenant_entry j) es) ≡ []
none_pass t j [] other = refl
none_pass t j (e ∷ es) other = rw other (none_pass t j es other)

none_later : (t j : ℕ) (tenants : List SessionsByNumber) → t < j → filter (λ e. e.0.0 == t) (entries_from j tenants) ≡ []
none_later t j [] lt = refl
none_later t j (s ∷ tenants) lt =
    filter-append (λ (e : SessionNumber × Session). e.0.0 == t) (map (tenant_entry j) (entries s.sessions)) (entries_from (j + 1) tenants)
    ∙ (λ i. none_pass t j (entries s.sessions) (other_tenant t j lt) i ++ none_later t (j + 1) tenants (omega arith) i)

own_part : (j i t : ℕ) (tenants : List SessionsByNumber) → t ≡ j + i → filter (λ e. e.0.0 == t) (entries_from j tenants) ≡ map (tenant_entry t) (own tenants i)
own_part j i t [] is = nothing i
  where
    nothing : (i : ℕ) → [] ≡ map (tenant_entry t) (own [] i)
    nothing zero = refl
    nothing (suc i) = refl
own_part j zero t (s ∷ tenants) is =
    let here : j ≡ t = omega (arith, is) in
    filter-append (λ (e : SessionNumber × Session). e.0.0 == t) (map (tenant_entry j) (entries s.sessions)) (entries_from (j + 1) tenants)
    ∙ (λ k. filter (λ (e : SessionNumber × Session). e.0.0 == t) (map (tenant_entry (here k)) (entries s.sessions)) ++ none_later t (j + 1) tenants (omega (arith, is)) k)
    ∙ append-nil (filter (λ (e : SessionNumber × Session). e.0.0 == t) (map (tenant_entry t) (entries s.sessions)))
    ∙ all_pass t (entries s.sessions)
own_part j (suc i) t (s ∷ tenants) is =
    filter-append (λ (e : SessionNumber × Session). e.0.0 == t) (map (tenant_entry j) (entries s.sessions)) (entries_from (j + 1) tenants)
    ∙ (λ k. none_pass t j (entries s.sessions) (other_tenant' t j (omega (arith, is))) k ++ own_part (j + 1) i t tenants (omega (arith, is)) k)

-- the entries of a tenant
pub own_entries : (tenants : List SessionsByNumber) (t : ℕ) → filter (λ e. e.0.0 == t) (entries (all_of tenants)) ≡ map (tenant_entry t) (own tenants t)
own_entries tenants t = ap (filter (λ (e : SessionNumber × Session). e.0.0 == t)) (entries-all tenants) ∙ own_part 0 t t tenants (omega arith)

-- the tenant that was read
pub tenant_at : (tenants : List SessionsByNumber) (t : ℕ) (s : SessionsByNumber) → t < length tenants → s ≡ get_or tenants t s → slice_get tenants t ≡ Some s
tenant_at tenants t s lt is = slice_get_read tenants (length tenants) t s refl lt is

-- ---- a look-up

find_own : (t n : ℕ) (es : List (ℕ × Session)) → find session_number_cmp (t, n) (map (tenant_entry t) es) ≡ find nat_cmp n es
find_own t n [] = refl
find_own t n (e ∷ es) =
    let tie : eq_by_cmp session_number_cmp (t, n) (t, e.0) ≡ eq_by_cmp nat_cmp n e.0 = ap is_eq (same_tenant t n e.0) in
    (λ i. cond (tie i) (Some e.1) (find_own t n es i))

pub get_own : (tenants : List SessionsByNumber) (t n : ℕ) → get (all_of tenants) (t, n) ≡ find nat_cmp n (own tenants t)
get_own tenants t n =
    let alike : (x : SessionNumber) → session_number_cmp (t, n) x ≡ Equal → (x.0 == t) ≡ (t == t) = λ x tie. ap (λ (k : SessionNumber). k.0 == t) (sym (exact_number (t, n) x tie)) in
    let passed : cond (t == t) (find session_number_cmp (t, n) (entries (all_of tenants))) None ≡ find session_number_cmp (t, n) (entries (all_of tenants)) = rw (eq-eqb t t refl) refl in
    get-entries (all_of tenants) (t, n) ∙ sym passed
    ∙ sym (find-where_key session_number_cmp (λ k. k.0 == t) (t, n) alike (entries (all_of tenants)))
    ∙ ap (find session_number_cmp (t, n)) (own_entries tenants t) ∙ find_own t n (own tenants t)

pub get_nowhere : (tenants : List SessionsByNumber) (t n : ℕ) → length tenants ≤ t → get (all_of tenants) (t, n) ≡ None
get_nowhere tenants t n past = get_own tenants t n ∙ ap (λ o. find nat_cmp n (option_map_or (λ (x : SessionsByNumber). entries x.sessions) o [])) (slice_get_past tenants t past)

-- an existing tenant
module _ (tenants : List SessionsByNumber) (t : ℕ) (s : SessionsByNumber) (at : slice_get tenants t ≡ Some s) where
  own_is : own tenants t ≡ entries s.sessions
  own_is = ap (λ o. option_map_or (λ (x : SessionsByNumber). entries x.sessions) o []) at

  pub get_there : (n : ℕ) → get (all_of tenants) (t, n) ≡ get s.sessions n
  get_there n = get_own tenants t n ∙ ap (find nat_cmp n) own_is ∙ sym (get-entries s.sessions n)

  -- the usage of a tenant's sessions, and their number
  pub counted_there : open_count_in (all_of tenants) t ≡ length (entries s.sessions)
  counted_there =
      sym (length-filter (λ (e : SessionNumber × Session). e.0.0 == t) (entries (all_of tenants)))
      ∙ ap length (own_entries tenants t ∙ ap (map (tenant_entry t)) own_is) ∙ length-map (entries s.sessions) (tenant_entry t)

  sum_share : (es : List (SessionNumber × Session)) → sum_by (session_charge t) es ≡ sum_by (λ e. charged_length e.1) (filter (λ e. e.0.0 == t) es)
  sum_share [] = refl
  sum_share (e ∷ es) = sum_by-cons (session_charge t) e es ∙ (elim (e.0.0 == t) as (λ b. cond b (charged_length e.1) 0 + sum_by (session_charge t) es ≡ sum_by (λ f. charged_length f.1) (cond b (e ∷ filter (λ f. f.0.0 == t) es) (filter (λ f. f.0.0 == t) es))) [
    | true ↦ ap (λ n. charged_length e.1 + n) (sum_share es) ∙ sym (sum_by-cons (λ (f : SessionNumber × Session). charged_length f.1) e (filter (λ f. f.0.0 == t) es))
    | false ↦ omega (arith, sum_share es)
  ])

  pub charged_there : session_charges (all_of tenants) t ≡ charged_in s
  charged_there =
      sum_share (entries (all_of tenants)) ∙ ap (sum_by (λ (e : SessionNumber × Session). charged_length e.1)) (own_entries tenants t ∙ ap (map (tenant_entry t)) own_is)
      ∙ sum_by-map (λ (e : SessionNumber × Session). charged_length e.1) (tenant_entry t) (entries s.sessions)

  pub next_there : slice_index (map (λ (x : SessionsByNumber). x.next) tenants) t ≡ s.next
  next_there = by tenants t at
    where
      by : (xs : List SessionsByNumber) (i : ℕ) → slice_get xs i ≡ Some s → slice_index (map (λ (x : SessionsByNumber). x.next) xs) i ≡ s.next
      by [] i is = some_none (sym is)
      by (x ∷ xs) zero is = ap (λ (y : SessionsByNumber). y.next) (some_same is)
      by (x ∷ xs) (suc i) is = by xs i is

-- a repository's sessions, or none if there is no tenant
both_tests : (t : ℕ) (repo : Text) (es : List (SessionNumber × Session)) → filter (is_of_repo t repo) es ≡ filter (λ e. same_text e.1.repo repo) (filter (λ e. e.0.0 == t) es)
both_tests t repo [] = refl
both_tests t repo (e ∷ es) = elim (e.0.0 == t) as (λ b. cond (b && same_text e.1.repo repo) (e ∷ filter (is_of_repo t repo) es) (filter (is_of_repo t repo) es) ≡ filter (λ f. same_text f.1.repo repo) (cond b (e ∷ filter (λ f. f.0.0 == t) es) (filter (λ f. f.0.0 == t) es))) [
  | true ↦ (λ i. cond (same_text e.1.repo repo) (e ∷ both_tests t repo es i) (both_tests t repo es i))
  | false ↦ both_tests t repo es
]

pub sessions_there : (tenants : List SessionsByNumber) (t : ℕ) (repo : Text) → sessions_of (all_of tenants) t repo ≡ map (tenant_entry t) (filter (λ e. same_text e.1.repo repo) (own tenants t))
sessions_there tenants t repo =
    both_tests t repo (entries (all_of tenants)) ∙ ap (filter (λ (e : SessionNumber × Session). same_text e.1.repo repo)) (own_entries tenants t)
    ∙ filter-map (λ (e : SessionNumber × Session). same_text e.1.repo repo) (tenant_entry t) (own tenants t)

-- an existing session has a tenant
pub tenant_there : (tenants : List SessionsByNumber) (t n : ℕ) → is_some (get (all_of tenants) (t, n)) ≡ true → t < length tenants
tenant_there tenants t n there = by tenants t (ap is_some (sym (get_own tenants t n)) ∙ there)
  where
    by : (xs : List SessionsByNumber) (i : ℕ) → is_some (find nat_cmp n (own xs i)) ≡ true → i < length xs
    by [] zero is = absurd cc
    by [] (suc i) is = absurd cc
    by (x ∷ xs) zero is = omega arith
    by (x ∷ xs) (suc i) is = let lt : i < length xs = by xs i is in omega arith

-- ---- a tenant changes

own-set_same : (tenants : List SessionsByNumber) (t : ℕ) (s new : SessionsByNumber) → slice_get tenants t ≡ Some s → own (set tenants t new) t ≡ entries new.sessions
own-set_same [] t s new at = some_none (sym at)
own-set_same (x ∷ xs) zero s new at = refl
own-set_same (x ∷ xs) (suc t) s new at = own-set_same xs t s new at

own-set_other : (tenants : List SessionsByNumber) (t i : ℕ) (new : SessionsByNumber) → (i ≡ t → ⊥) → own (set tenants t new) i ≡ own tenants i
own-set_other [] t i new ne = refl
own-set_other (x ∷ xs) zero zero new ne = absurd (ne refl)
own-set_other (x ∷ xs) zero (suc i) new ne = refl
own-set_other (x ∷ xs) (suc t) zero new ne = refl
own-set_other (x ∷ xs) (suc t) (suc i) new ne = own-set_other xs t i new (λ e. ne (ap suc e))

next-set : (tenants : List SessionsByNumber) (t : ℕ) (new : SessionsByNumber) → map (λ (x : SessionsByNumber). x.next) (set tenants t new) ≡ set (map (λ (x : SessionsByNumber). x.next) tenants) t new.next
next-set [] t new = refl
next-set (x ∷ xs) zero new = refl
next-set (x ∷ xs) (suc t) new = ap (λ ns. x.next ∷ ns) (next-set xs t new)

set_next_same : (tenants : List SessionsByNumber) (t : ℕ) (s : SessionsByNumber) → slice_get tenants t ≡ Some s → set (map (λ (x : SessionsByNumber). x.next) tenants) t s.next ≡ map (λ (x : SessionsByNumber). x.next) tenants
set_next_same [] t s at = refl
set_next_same (x ∷ xs) zero s at = ap (λ (y : SessionsByNumber). y.next ∷ map (λ (x : SessionsByNumber). x.next) xs) (sym (some_same at))
set_next_same (x ∷ xs) (suc t) s at = ap (λ ns. x.next ∷ ns) (set_next_same xs t s at)

key_test : (a b t n : ℕ) → eq_by_cmp session_number_cmp (a, b) (t, n) ≡ (a == t && eq_by_cmp nat_cmp b n)
key_test a b t n = grind (arith, nat_tests)

module _ (tenants : List SessionsByNumber) (t : ℕ) (s : SessionsByNumber) (at : slice_get tenants t ≡ Some s) (new : SessionsByNumber) where
  -- one number of the tenant has another session, or none
  changed : (n : ℕ) (w : Option Session) → ((b : ℕ) → get new.sessions b ≡ cond (eq_by_cmp nat_cmp b n) w (get s.sessions b)) →
      (k : SessionNumber) → get (all_of (set tenants t new)) k ≡ cond (eq_by_cmp session_number_cmp k (t, n)) w (get (all_of tenants) k)
  changed n w is k = elim (cases_eq k.0 t) [
    | inl e ↦
        ap (λ a. get (all_of (set tenants t new)) (a, k.1)) e
        ∙ get_own (set tenants t new) t k.1 ∙ ap (find nat_cmp k.1) (own-set_same tenants t s new at) ∙ sym (get-entries new.sessions k.1)
        ∙ is k.1
        ∙ ap (cond (eq_by_cmp nat_cmp k.1 n) w) (sym (get_there tenants t s at k.1))
        ∙ (λ i. cond (sym (key_test t k.1 t n ∙ ap (λ b. b && eq_by_cmp nat_cmp k.1 n) (eq-eqb t t refl)) i) w (get (all_of tenants) (t, k.1)))
        ∙ ap (λ a. cond (eq_by_cmp session_number_cmp (a, k.1) (t, n)) w (get (all_of tenants) (a, k.1))) (sym e)
    | inr ne ↦
        get_own (set tenants t new) k.0 k.1 ∙ ap (find nat_cmp k.1) (own-set_other tenants t k.0 new ne) ∙ sym (get_own tenants k.0 k.1)
        ∙ (λ i. cond (sym (key_test k.0 k.1 t n ∙ ap (λ b. b && eq_by_cmp nat_cmp k.1 n) (not_equal k.0 t ne)) i) w (get (all_of tenants) k))
  ]
    where
      not_equal : (a b : ℕ) → (a ≡ b → ⊥) → (a == b) ≡ false
      not_equal a b ne = grind (arith, nat_tests)

  pub all-insert : (n : ℕ) (x : Session) → new.sessions ≡ insert s.sessions n x → all_of (set tenants t new) ≡ insert (all_of tenants) (t, n) x
  all-insert n x is = same_map number_cmp_total exact_number (all_of (set tenants t new)) (insert (all_of tenants) (t, n) x) (λ k.
      changed n (Some x) (λ b. ap (λ m. get m b) is ∙ get-insert nat_cmp_total s.sessions n x b) k ∙ sym (get-insert number_cmp_total (all_of tenants) (t, n) x k))

  pub all-remove : (n : ℕ) → new.sessions ≡ remove s.sessions n → all_of (set tenants t new) ≡ remove (all_of tenants) (t, n)
  all-remove n is = same_map number_cmp_total exact_number (all_of (set tenants t new)) (remove (all_of tenants) (t, n)) (λ k.
      changed n None (λ b. ap (λ m. get m b) is ∙ get-remove nat_cmp_total s.sessions n b) k ∙ sym (get-remove number_cmp_total (all_of tenants) (t, n) k))

  -- the table shows other sessions if the next number is unchanged
  pub shown-same : (m : Sessions) → new.next ≡ s.next → all_of (set tenants t new) ≡ m → tenants_shown (set tenants t new) ≡ with_sessions (tenants_shown tenants) m
  shown-same m next is =
      let nexts = next-set tenants t new ∙ ap (set (map (λ (x : SessionsByNumber). x.next) tenants) t) next ∙ set_next_same tenants t s at in
      (λ i. record { next = nexts i; sessions = is i })

  next_shown : (m : Sessions) → all_of (set tenants t new) ≡ m → tenants_shown (set tenants t new) ≡ record { next = set (map (λ (x : SessionsByNumber). x.next) tenants) t new.next; sessions = m }
  next_shown m is = (λ i. record { next = next-set tenants t new i; sessions = is i })

  -- the session of a number has other chunks
  pub shown-chunks : (n : ℕ) (c : Chunks) (x : Session) → new ≡ with_chunks_here s n c → get s.sessions n ≡ Some x → tenants_shown (set tenants t new) ≡ with_sessions (tenants_shown tenants) (with_chunks (all_of tenants) (t, n) x c)
  shown-chunks n c x is found =
      let sessions : new.sessions ≡ insert s.sessions n (record x { chunks = c }) = ap (λ (y : SessionsByNumber). y.sessions) is ∙ ap (λ o. option_map_or (λ (y : Session). insert s.sessions n (record y { chunks = c })) o s.sessions) found in
      shown-same (with_chunks (all_of tenants) (t, n) x c) (ap (λ (y : SessionsByNumber). y.next) is) (all-insert n (record x { chunks = c }) sessions)

  -- the session is removed
  pub shown-without_number : (n : ℕ) → new ≡ without_number s n → tenants_shown (set tenants t new) ≡ with_sessions (tenants_shown tenants) (remove (all_of tenants) (t, n))
  shown-without_number n is = shown-same (remove (all_of tenants) (t, n)) (ap (λ (y : SessionsByNumber). y.next) is) (all-remove n (ap (λ (y : SessionsByNumber). y.sessions) is))

-- ---- a session more

module _ (tenants : List SessionsByNumber) (t : ℕ) (s : SessionsByNumber) (at : slice_get tenants t ≡ Some s) where
  set_itself : tenants_shown (set tenants t s) ≡ tenants_shown tenants
  set_itself = ap tenants_shown (by tenants t at)
    where
      by : (xs : List SessionsByNumber) (i : ℕ) → slice_get xs i ≡ Some s → set xs i s ≡ xs
      by [] i is = refl
      by (x ∷ xs) zero is = ap (λ y. y ∷ xs) (sym (some_same is))
      by (x ∷ xs) (suc i) is = ap (λ ys. x ∷ ys) (by xs i is)

  abbrev for_all : OutcomeIn SessionsByNumber ℕ → OutcomeIn Uploaded ℕ
  for_all (Ok r) = Ok (r.0, tenants_shown (set tenants t r.1))
  for_all (Err e) = Err e

  start_outcome : (n : ℕ) (repo : Text) → start_upload n (tenants_shown tenants) t repo ≡ for_all (start_here n s repo)
  start_outcome n repo = ap (λ b. cond b (Err LimitReached) (Ok (slice_index (tenants_shown tenants).next t, with_new_session (tenants_shown tenants) t repo))) (λ i. nat_le n (counted_there tenants t s at i) || nat_le (2 ^ 32) (next_there tenants t s at i)) ∙ by (is_exhausted n s)
    where
      session : Session
      session = record { repo = repo; chunks = CheckedIn [] }

      one_more : SessionsByNumber
      one_more = record { next = s.next + 1; sessions = insert s.sessions s.next session }

      by : (b : Bool) → cond b (Err LimitReached) (Ok (slice_index (tenants_shown tenants).next t, with_new_session (tenants_shown tenants) t repo)) ≡ for_all (cond b (Err LimitReached) (Ok (s.next, one_more)))
      by true = refl
      by false =
          let after = (λ i. record { next = set (map (λ (x : SessionsByNumber). x.next) tenants) t (next_there tenants t s at i + 1); sessions = insert (all_of tenants) (t, next_there tenants t s at i) session })
          ∙ sym (next_shown tenants t s at one_more (insert (all_of tenants) (t, s.next) session) (all-insert tenants t s at one_more s.next session refl)) in
          (λ i. Ok (next_there tenants t s at i, after i))

  -- to open a session of the tenant's is to open one in the table
  pub start_does : (limit : ℕ) (repo : Text) (new : SessionsByNumber) (r : Result ℕ Refusal) → Does (λ n. n) r s new (start_here limit s repo) → Does (λ n. n) r (tenants_shown tenants) (tenants_shown (set tenants t new)) (start_upload limit (tenants_shown tenants) t repo)
  start_does limit repo new (Ok n) is = start_outcome limit repo ∙ ap for_all is
  start_does limit repo new (Err e) is = ((λ other. start_outcome limit repo ∙ ap for_all (is.0 other)), ap (λ x. tenants_shown (set tenants t x)) is.1 ∙ set_itself)

-- a tenant with a next number exists
pub within_next : (tenants : List SessionsByNumber) (v : Uploaded) (t : ℕ) → tenants_shown tenants ≡ v → t < length v.next → t < length tenants
within_next tenants v t shows lt = omega (arith, lt, ap (λ (u : Uploaded). length u.next) shows, length-map tenants (λ (x : SessionsByNumber). x.next))

-- ---- no sessions yet

next-replicate : (k first : ℕ) → map (λ (x : SessionsByNumber). x.next) (replicate k (no_sessions first)) ≡ replicate k first
next-replicate zero first = refl
next-replicate (suc k) first = ap (λ ns. first ∷ ns) (next-replicate k first)

nothing_from : (j k first : ℕ) → entries_from j (replicate k (no_sessions first)) ≡ []
nothing_from j zero first = refl
nothing_from j (suc k) first = (λ i. map (tenant_entry j) (entries-empty nat_cmp Session i) ++ nothing_from (j + 1) k first i)

pub initial_is : (k first : ℕ) → tenants_shown (replicate k (no_sessions first)) ≡ initial_uploads k first
initial_is k first = (λ i. record { next = next-replicate k first i; sessions = from_entries {R = session_number_cmp} (nothing_from 0 k first i) })
