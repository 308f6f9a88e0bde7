-- The rows of one tenant, in the order of their numbers, as a map: a row found, added, changed and taken out.
use Rattle.std.proofs.Common.{◌≡◌, ℕ, zero, suc, ◌+◌, ◌<◌, ◌≤◌, true, false, List, [], ◌∷◌, ◌++◌, length, map, set, get_or, Some, None, Ok, Err, refl, sym, ap, ◌∙◌, subst, arith}
use Rattle.std.specs.Prelude.{◌^◌, ◌&&◌, nat_le}
use Rattle.std.specs.declared.cmp.Ordering.{Ordering}
use Rattle.std.specs.declared.cmp.Ordering.TheVariants.{Less, Equal}
use Rattle.std.specs.Ordering.{eq_by_cmp, is_eq, is_lt, nat_cmp}
use Rattle.std.specs.List.{AllByRecursion, HoldsAt, remove, sum_by}
use Rattle.std.specs.List.Sorted.{IsBinarySearchResult}
use Rattle.std.specs.FinMap.{FinMap, find, get, insert, entries, from_entries, from_entries_push, get-from_entries, is_sorted, nat_cmp-IsAntisymmetric, remove as fremove}
use Rattle.std.specs.Cmp.{eq_by_cmp_equiv, nat_cmp_total}
use Rattle.std.specs.FinMap.Entries.{below_all}
use Rattle.std.proofs.lemmas.Bool.{and_from, and_parts, false≢true, le-leb, lt-leb}
use Rattle.std.proofs.lemmas.List.{length-map, map-set}
use Rattle.std.proofs.lemmas.List.Sums.{sum_by-set, sum_by-remove, sum_by_push, get_or-le-sum_by}
use Rattle.spec_lib.proofs.Lists.{map-remove, all-push, all-remove, all-set, all_at, all_weaker, map-push, sum_by-alike}
use Rattle.spec_lib.proofs.Rows.{from_entries-remove, from_entries-set, sum_by-map}
use Rattle.spec_lib.proofs.Sorted.{IsApart-sorted, entries-sorted, found_at, is_sorted-remove, map_at, missing, nat_cmp-less}
use Rattle.spec_lib.specs.Texts.{Text}
use Rattle.blob_digest.specs.declared.refusal.Refusal.TheVariants.{LimitReached}
use Rattle.store_model.specs.Sessions.{Chunks, Session, charged_length, is_checked_in, received_length, received_of, reserved_of}
use Rattle.store_model.specs.Sessions as shown
use Rattle.upload_table.specs.Tenants.{SessionsByNumber, charged_in, is_exhausted, start_here, with_chunks_here}
use Rattle.upload_table.specs.Rows.{chunks_shown, content_charge, content_received, entry_of, is_at_home, session_of, sessions_shown, HasConsistentBuffer, IsSound}
use Rattle.upload_table.specs.declared.upload.SessionContent.{SessionContent}
use Rattle.upload_table.specs.declared.upload.SessionContent.TheVariants.{Home, InHand}
use Rattle.upload_table.specs.declared.upload.Upload.{Upload}
use Rattle.upload_table.proofs.HandCalls.{whole_length}

-- ---- lists

module _ {K X : Type 0} (R : K → K → Ordering) where
  below_all-set : (q : K) (es : List (K × X)) (i : ℕ) (d f : K × X) → (get_or es i d).0 ≡ f.0 → below_all R q (set es i f) ≡ below_all R q es
  below_all-set q [] i d f key = refl
  below_all-set q (e ∷ es) zero d f key = ap (λ k. is_lt (R q k) && below_all R q es) (sym key)
  below_all-set q (e ∷ es) (suc i) d f key = ap (λ b. is_lt (R q e.0) && b) (below_all-set q es i d f key)

  -- an entry changed under its key
  is_sorted-set : (es : List (K × X)) (i : ℕ) (d f : K × X) → (get_or es i d).0 ≡ f.0 → is_sorted R (set es i f) ≡ is_sorted R es
  is_sorted-set [] i d f key = refl
  is_sorted-set (e ∷ es) zero d f key = ap (λ k. below_all R k es && is_sorted R es) (sym key)
  is_sorted-set (e ∷ es) (suc i) d f key = λ j. below_all-set e.0 es i d f key j && is_sorted-set es i d f key j

  below_all-push : (q : K) (es : List (K × X)) (e : K × X) → below_all R q es ≡ true → R q e.0 ≡ Less → below_all R q (es ++ e ∷ []) ≡ true
  below_all-push q [] e all less = rw less refl
  below_all-push q (f ∷ es) e all less =
      let parts = and_parts (is_lt (R q f.0)) (below_all R q es) all in
      and_from (is_lt (R q f.0)) (below_all R q (es ++ e ∷ [])) parts.0 (below_all-push q es e parts.1 less)

  -- an entry after those with smaller keys
  is_sorted-push : (es : List (K × X)) (e : K × X) → is_sorted R es ≡ true → AllByRecursion (λ f. R f.0 e.0 ≡ Less) es → is_sorted R (es ++ e ∷ []) ≡ true
  is_sorted-push [] e sorted less = refl
  is_sorted-push (f ∷ es) e sorted less =
      let parts = and_parts (below_all R f.0 es) (is_sorted R es) sorted in
      and_from (below_all R f.0 (es ++ e ∷ [])) (is_sorted R (es ++ e ∷ [])) (below_all-push f.0 es e parts.0 less.0) (is_sorted-push es e parts.1 less.1)

-- a number above all others isn't found
above_none : {X : Type 0} (n : ℕ) (es : List (ℕ × X)) → AllByRecursion (λ e. nat_cmp e.0 n ≡ Less) es → find nat_cmp n es ≡ None
above_none n [] all = refl
above_none n (e ∷ es) all =
    let tie : eq_by_cmp nat_cmp n e.0 ≡ false = (eq_by_cmp_equiv nat_cmp_total).symm n e.0 ∙ ap is_eq all.0 in
    rw tie (above_none n es all.1)

-- ---- the calls

with_chunks_found : (s : SessionsByNumber) (n : ℕ) (x : Session) (c : Chunks) → get s.sessions n ≡ Some x → with_chunks_here s n c ≡ record s { sessions = insert s.sessions n (record x { chunks = c }) }
with_chunks_found s n x c found = rw found refl

pub start_spent : (n : ℕ) (s : SessionsByNumber) (repo : Text) → is_exhausted n s ≡ true → start_here n s repo ≡ Err LimitReached
start_spent n s repo spent = rw spent refl

pub start_open : (n : ℕ) (s : SessionsByNumber) (repo : Text) → is_exhausted n s ≡ false → start_here n s repo ≡ Ok (s.next, record { next = s.next + 1; sessions = insert s.sessions s.next (record { repo = repo; chunks = shown.CheckedIn [] }) })
start_open n s repo open_ = rw open_ refl

-- ---- one row

-- the map that the rows show
abbrev pub map_of : List Upload → FinMap nat_cmp Session
map_of rows = from_entries (map entry_of rows)

-- the bytes that a session has received, and those that it counts in its tenant's usage
pub received_is : (u : Upload) → HasConsistentBuffer u.content → received_length (session_of u) ≡ content_received u.content
received_is u = at u.content
  where
    at : (c : SessionContent) → HasConsistentBuffer c → received_of (chunks_shown c) ≡ content_received c
    at (Home p) whole = whole_length p.value whole
    at (InHand n m) whole = refl

pub charged_is : (u : Upload) → HasConsistentBuffer u.content → charged_length (session_of u) ≡ content_charge u.content
charged_is u = at u.content
  where
    at : (c : SessionContent) → HasConsistentBuffer c → received_of (chunks_shown c) + reserved_of (chunks_shown c) ≡ content_charge c
    at (Home p) whole =
        let len : received_of (chunks_shown (Home p)) ≡ length p.value.bytes = whole_length p.value whole in
        omega (arith, len)
    at (InHand n m) whole = refl

module _ (next sum_kept : ℕ) (rows : List Upload) (sound : IsSound next sum_kept rows) where
  pub entries-rows : entries (map_of rows) ≡ map entry_of rows
  entries-rows = entries-sorted nat_cmp nat_cmp_total nat_cmp-IsAntisymmetric (map entry_of rows) sound.order

  pub repo_count-rows : length (entries (map_of rows)) ≡ length rows
  repo_count-rows = ap length entries-rows ∙ length-map rows entry_of

  pub spent_many : (n : ℕ) → n ≤ length rows → is_exhausted n (sessions_shown next rows) ≡ true
  spent_many n many =
      let h : nat_le n (length (entries (map_of rows))) ≡ true = le-leb n (length (entries (map_of rows))) (omega (arith, repo_count-rows, many)) in
      rw h refl

  pub spent_few : (n : ℕ) → length rows < n → is_exhausted n (sessions_shown next rows) ≡ nat_le (2 ^ 32) next
  spent_few n few =
      let h : nat_le n (length (entries (map_of rows))) ≡ false = lt-leb n (length (entries (map_of rows))) (omega (arith, repo_count-rows, few)) in
      rw h refl

  -- the stored sum is the usage of the sessions
  pub charged_kept : sum_kept ≡ charged_in (sessions_shown next rows)
  charged_kept =
      sound.counted
      ∙ sum_by-alike (λ (u : Upload). HasConsistentBuffer u.content) (λ u. content_charge u.content) (λ u. charged_length (session_of u)) (λ u whole. sym (charged_is u whole)) rows sound.whole
      ∙ sym (sum_by-map (λ (e : ℕ × Session). charged_length e.1) entry_of rows) ∙ ap (sum_by (λ (e : ℕ × Session). charged_length e.1)) (sym entries-rows)

  pub absent : (n i : ℕ) → IsBinarySearchResult (λ u. nat_cmp u.number n) rows (Err i) → get (map_of rows) n ≡ None
  absent n i missed = get-from_entries nat_cmp_total (map entry_of rows) n ∙ missing nat_cmp nat_cmp_total entry_of rows n i sound.order missed

  -- a found row
  module _ (n i : ℕ) (u : Upload) (lt : i < length rows) (holds : HoldsAt (λ u. nat_cmp u.number n ≡ Equal) rows i) (is : u ≡ get_or rows i u) where
    pub number_is : u.number ≡ n
    number_is = ap (λ (r : Upload). r.number) is ∙ nat_cmp-IsAntisymmetric (get_or rows i u).number n (holds u)

    pub found : get (map_of rows) n ≡ Some (session_of u)
    found =
        get-from_entries nat_cmp_total (map entry_of rows) n ∙ found_at nat_cmp nat_cmp_total entry_of nat_cmp-IsAntisymmetric rows n i u sound.order lt holds
        ∙ ap (λ (r : Upload). Some (session_of r)) (sym is)

    pub whole_row : HasConsistentBuffer u.content
    whole_row = subst (λ (r : Upload). HasConsistentBuffer r.content) (sym is) (all_at (λ (r : Upload). HasConsistentBuffer r.content) rows i u lt sound.whole)

    -- the usage of a row is at most the sum
    pub charge-le : content_charge u.content ≤ sum_kept
    charge-le =
        let le = get_or-le-sum_by (λ (r : Upload). content_charge r.content) rows i u lt in
        omega (arith, le, sound.counted, ap (λ (r : Upload). content_charge r.content) is)

    -- a checked-in session has its chunks in its row
    pub home_row : is_checked_in (get (map_of rows) n) ≡ true → is_at_home u.content ≡ true
    home_row home = by u.content (ap is_checked_in (sym found) ∙ home)
      where
        by : (c : SessionContent) → is_checked_in (Some (record { repo = u.repo; chunks = chunks_shown c })) ≡ true → is_at_home c ≡ true
        by (Home p) h = refl
        by (InHand n m) h = absurd (false≢true h)

    -- a length within the session's charge is within the row's
    pub within_charge : (s : SessionsByNumber) (k : ℕ) → sessions_shown next rows ≡ s → ((x : Session) → get s.sessions n ≡ Some x → k ≤ charged_length x) → k ≤ content_charge u.content
    within_charge s k shows less =
        let le : k ≤ charged_length (session_of u) = less (session_of u) (ap (λ (x : SessionsByNumber). get x.sessions n) (sym shows) ∙ found) in
        omega (arith, le, charged_is u whole_row)

    within : i < length (map entry_of rows)
    within = rw (length-map rows entry_of) lt

    key : (get_or (map entry_of rows) i (entry_of u)).0 ≡ n
    key = ap (λ (e : ℕ × Session). e.0) (map_at entry_of rows i u) ∙ nat_cmp-IsAntisymmetric (get_or rows i u).number n (holds u)

    -- the row gets other chunks
    module _ (c : SessionContent) where
      abbrev pub changed : Upload
      changed = record u { content = c }

      pub shown-set : map_of (set rows i changed) ≡ insert (map_of rows) n (record { repo = u.repo; chunks = chunks_shown c })
      shown-set =
          ap (λ es. from_entries {R = nat_cmp} es) (map-set entry_of rows i changed)
          ∙ from_entries-set nat_cmp nat_cmp_total nat_cmp-IsAntisymmetric (map entry_of rows) i (entry_of u) (entry_of changed) (IsApart-sorted nat_cmp (map entry_of rows) sound.order) within (key ∙ sym number_is)
          ∙ ap (λ k. insert (map_of rows) k (session_of changed)) number_is

      pub view-set : sessions_shown next (set rows i changed) ≡ with_chunks_here (sessions_shown next rows) n (chunks_shown c)
      view-set = (λ j. record { next = next; sessions = shown-set j }) ∙ sym (with_chunks_found (sessions_shown next rows) n (session_of u) (chunks_shown c) found)

      pub sound-set : (m : ℕ) → m + content_charge u.content ≡ sum_kept + content_charge c → HasConsistentBuffer c → IsSound next m (set rows i changed)
      sound-set m more whole = record {
        order = ap (is_sorted nat_cmp) (map-set entry_of rows i changed) ∙ is_sorted-set nat_cmp (map entry_of rows) i (entry_of u) (entry_of changed) (key ∙ sym number_is) ∙ sound.order;
        below = all-set (λ (r : Upload). r.number < next) rows i changed sound.below (subst (λ (r : Upload). r.number < next) (sym is) (all_at (λ (r : Upload). r.number < next) rows i u lt sound.below));
        whole = all-set (λ (r : Upload). HasConsistentBuffer r.content) rows i changed sound.whole whole;
        counted =
            let sums = sum_by-set (λ (r : Upload). content_charge r.content) rows i changed u lt in
            omega (arith, sums, more, sound.counted, ap (λ (r : Upload). content_charge r.content) is);
      }

    -- the row is removed
    pub shown-remove : map_of (remove rows i) ≡ fremove (map_of rows) n
    shown-remove =
        ap (λ es. from_entries {R = nat_cmp} es) (map-remove entry_of rows i)
        ∙ from_entries-remove nat_cmp nat_cmp_total nat_cmp-IsAntisymmetric (map entry_of rows) i (entry_of u) n (IsApart-sorted nat_cmp (map entry_of rows) sound.order) within key

    pub sound-remove : (m : ℕ) → m + content_charge u.content ≡ sum_kept → IsSound next m (remove rows i)
    sound-remove m less = record {
      order = ap (is_sorted nat_cmp) (map-remove entry_of rows i) ∙ is_sorted-remove nat_cmp (map entry_of rows) i sound.order;
      below = all-remove (λ (r : Upload). r.number < next) rows i sound.below;
      whole = all-remove (λ (r : Upload). HasConsistentBuffer r.content) rows i sound.whole;
      counted =
          let sums = sum_by-remove (λ (r : Upload). content_charge r.content) rows i u lt in
          omega (arith, sums, less, sound.counted, ap (λ (r : Upload). content_charge r.content) is);
    }

  -- ---- a row more, under the next number

  module _ (u : Upload) (number : u.number ≡ next) where
    lesser : (rs : List Upload) → AllByRecursion (λ r. r.number < next) rs → AllByRecursion (λ (e : ℕ × Session). nat_cmp e.0 u.number ≡ Less) (map entry_of rs)
    lesser [] all = tt
    lesser (r ∷ rs) all = (nat_cmp-less r.number u.number (omega (arith, all.0, number)), lesser rs all.1)

    pub shown-push : map_of (rows ++ u ∷ []) ≡ insert (map_of rows) u.number (session_of u)
    shown-push =
        ap (λ es. from_entries {R = nat_cmp} es) (map-push entry_of rows u)
        ∙ from_entries_push nat_cmp_total nat_cmp-IsAntisymmetric (map entry_of rows) u.number (session_of u) (above_none u.number (map entry_of rows) (lesser rows sound.below))

    pub sound-push : content_charge u.content ≡ 0 → HasConsistentBuffer u.content → IsSound (next + 1) sum_kept (rows ++ u ∷ [])
    sound-push empty whole = record {
      order = ap (is_sorted nat_cmp) (map-push entry_of rows u) ∙ is_sorted-push nat_cmp (map entry_of rows) (entry_of u) sound.order (lesser rows sound.below);
      below = all-push (λ (r : Upload). r.number < next + 1) rows u (all_weaker (λ (r : Upload). r.number < next) (λ r. r.number < next + 1) (λ r lt. omega arith) rows sound.below) (omega (arith, number));
      whole = all-push (λ (r : Upload). HasConsistentBuffer r.content) rows u sound.whole whole;
      counted = omega (arith, sum_by_push (λ (r : Upload). content_charge r.content) rows u, sound.counted, empty);
    }
