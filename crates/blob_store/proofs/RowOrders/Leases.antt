-- Rows of several workers use one table of leases as those of the workers: a row uses only the leases of its own lane.
use Rattle.std.proofs.Common.{◌≡◌, ◌≢◌, ◌%◌, ◌==◌, ◌++◌, ◌∷◌, [], ℕ, Bool, true, false, cond, List, map, Option, Some, None, refl, sym, ap, ◌∙◌, subst, inl, inr}
use Rattle.std.specs.Prelude.{if◌then◌else◌}
use Rattle.std.specs.FinMap.{get, get-insert, get-remove, insert, remove}
use Rattle.std.specs.Ordering.{eq_by_cmp}
use Rattle.std.proofs.lemmas.Bool.{cases_eq}
use Rattle.blob_digest.specs.declared.refusal.Refusal.TheVariants.{WeightSpent}
use Rattle.spec_lib.specs.Texts.{Text}
use Rattle.spec_lib.proofs.Maps.{get-insert_other, get-remove_other}
use Rattle.store_model.specs.Catalog.{Catalog}
use Rattle.store_model.specs.Runs.{Event, IsRun}
use Rattle.store_api.specs.Answers.{Answer, Refused, Shared}
use Rattle.store_api.specs.Commands.{StoreRequest}
use Rattle.store_api.specs.LeaseViews.{LeaseView, half_lease, new_lease}
use Rattle.script_player.specs.Leases.{Leases, Name, name_cmp}
use Rattle.script_player.specs.Plays.{LendsIfNameFree, Plays, RowStep, State, VerifiesLease, give_back_result, lease_name_of, named_lease, piece_ends, read_answer, second_name_of, share_result}
use Rattle.script_player.specs.Rows.{RowView}
use Rattle.script_player.specs.LeaseNames.{name_cmp_total}
use Rattle.script_player.proofs.LeaseTables.{exact_name}
use Rattle.blob_store.specs.RowOrders.{RequestLeads}
use Rattle.blob_store.proofs.RowOrders.Merging.{Told}

-- ---- one row

module _ (lane : ℕ) (table own : Leases) where
  -- the table has the same leases of the lane
  abbrev AreSame : Leases → Leases → Type 0
  AreSame a b = (key : Text) → get a (lane, key) ≡ get b (lane, key)

  -- the remaining table if this remains of the lane's leases: other lanes keep theirs
  pub record IsJoined (left : Leases) (P : Leases → Type 0) : Type 0 where
    pub after : Leases
    pub does : P after
    pub same : AreSame after left
    pub elsewhere : (name : Name) → name.0 ≢ lane → get after name ≡ get table name
    pub own_elsewhere : (name : Name) → name.0 ≢ lane → get left name ≡ get own name

  other_lane : (key : Text) (name : Name) → name.0 ≢ lane → name ≢ (lane, key)
  other_lane key name other e = other (ap (λ (x : Name). x.0) e)

  inserted : (a b : Leases) → AreSame a b → (key : Text) (lease : LeaseView) → AreSame (insert a (lane, key) lease) (insert b (lane, key) lease)
  inserted a b same key lease q =
      get-insert name_cmp_total a (lane, key) lease (lane, q) ∙ ap (cond (eq_by_cmp name_cmp (lane, q) (lane, key)) (Some lease)) (same q) ∙ sym (get-insert name_cmp_total b (lane, key) lease (lane, q))

  removed : (a b : Leases) → AreSame a b → (key : Text) → AreSame (remove a (lane, key)) (remove b (lane, key))
  removed a b same key q =
      get-remove name_cmp_total a (lane, key) (lane, q) ∙ ap (cond (eq_by_cmp name_cmp (lane, q) (lane, key)) None) (same q) ∙ sym (get-remove name_cmp_total b (lane, key) (lane, q))

  inserted_elsewhere : (a : Leases) (key : Text) (lease : LeaseView) (name : Name) → name.0 ≢ lane → get (insert a (lane, key) lease) name ≡ get a name
  inserted_elsewhere a key lease name other = get-insert_other name_cmp_total exact_name a (lane, key) lease name (other_lane key name other)

  removed_elsewhere : (a : Leases) (key : Text) (name : Name) → name.0 ≢ lane → get (remove a (lane, key)) name ≡ get a name
  removed_elsewhere a key name other = get-remove_other name_cmp_total exact_name a (lane, key) name (other_lane key name other)

  module _ (same : AreSame table own) (left : Leases) (P : Leases → Type 0) where
    stays : left ≡ own → P table → IsJoined left P
    stays is does = record {
      after = table;
      does = does;
      same = λ q. same q ∙ ap (λ m. get m (lane, q)) (sym is);
      elsewhere = λ name other. refl;
      own_elsewhere = λ name other. ap (λ m. get m name) is;
    }

    one_more : (key : Text) (lease : LeaseView) → left ≡ insert own (lane, key) lease → P (insert table (lane, key) lease) → IsJoined left P
    one_more key lease is does = record {
      after = insert table (lane, key) lease;
      does = does;
      same = λ q. inserted table own same key lease q ∙ ap (λ m. get m (lane, q)) (sym is);
      elsewhere = inserted_elsewhere table key lease;
      own_elsewhere = λ name other. ap (λ m. get m name) is ∙ inserted_elsewhere own key lease name other;
    }

    two_more : (key second : Text) (lease : LeaseView) → left ≡ insert (insert own (lane, key) lease) (lane, second) lease → P (insert (insert table (lane, key) lease) (lane, second) lease) → IsJoined left P
    two_more key second lease is does = record {
      after = insert (insert table (lane, key) lease) (lane, second) lease;
      does = does;
      same = λ q. inserted (insert table (lane, key) lease) (insert own (lane, key) lease) (inserted table own same key lease) second lease q ∙ ap (λ m. get m (lane, q)) (sym is);
      elsewhere = λ name other. inserted_elsewhere (insert table (lane, key) lease) second lease name other ∙ inserted_elsewhere table key lease name other;
      own_elsewhere = λ name other. ap (λ m. get m name) is ∙ inserted_elsewhere (insert own (lane, key) lease) second lease name other ∙ inserted_elsewhere own key lease name other;
    }

    one_less : (key : Text) → left ≡ remove own (lane, key) → P (remove table (lane, key)) → IsJoined left P
    one_less key is does = record {
      after = remove table (lane, key);
      does = does;
      same = λ q. removed table own same key q ∙ ap (λ m. get m (lane, q)) (sym is);
      elsewhere = removed_elsewhere table key;
      own_elsewhere = λ name other. ap (λ m. get m name) is ∙ removed_elsewhere own key name other;
    }

    -- a join with one fact is a join with each fact that follows from it
    joined_so : (Q : Leases → Type 0) → ((m : Leases) → P m → Q m) → IsJoined left P → IsJoined left Q
    joined_so Q f j = record { after = j.after; does = f j.after j.does; same = j.same; elsewhere = j.elsewhere; own_elsewhere = j.own_elsewhere }

module _ {S : Type 0} (acts : S → StoreRequest → Answer → S → Type 0) (s t : S) (table own left : Leases) (row : RowView) (answer : Answer) (same : (key : Text) → get table (row.lane, key) ≡ get own (row.lane, key)) where
  -- the row on the table
  abbrev Step : Leases → Type 0
  Step m = RowStep acts (s, table) row answer (t, m)

  abbrev Joined : (Leases → Type 0) → Type 0
  Joined P = IsJoined row.lane table own left P

  key_same : named_lease own row ≡ named_lease table row
  key_same = sym (same row.key)

  lends : (o : Option LeaseView) → LendsIfNameFree acts o (s, own) row answer (t, left) → Joined (λ m. LendsIfNameFree acts o (s, table) row answer (t, m))
  lends (Some lease) h = stays row.lane table own same left (λ m. LendsIfNameFree acts (Some lease) (s, table) row answer (t, m)) (ap (λ (x : State S). x.1) h.1) (h.0, λ i. ((h.1 i).0, table))
  lends None h = elim h [
    | inl l ↦ one_more row.lane table own same left (λ m. LendsIfNameFree acts None (s, table) row answer (t, m)) row.key (new_lease l.0) l.3 (inl (l.0, l.1, l.2, refl))
    | inr r ↦ stays row.lane table own same left (λ m. LendsIfNameFree acts None (s, table) row answer (t, m)) r.3 (inr (r.0, r.1, r.2, refl))
  ]

  shares : (o p : Option LeaseView) → ◌≡◌ {A = Answer × Leases} (answer, left) (share_result own (lease_name_of row) (second_name_of row) o p) → Joined (λ m. ◌≡◌ {A = Answer × Leases} (answer, m) (share_result table (lease_name_of row) (second_name_of row) o p))
  shares None p h = stays row.lane table own same left (λ m. ◌≡◌ {A = Answer × Leases} (answer, m) (share_result table (lease_name_of row) (second_name_of row) None p)) (ap (λ (x : Answer × Leases). x.1) h) (λ i. ((h i).0, table))
  shares (Some lease) (Some other) h = stays row.lane table own same left (λ m. ◌≡◌ {A = Answer × Leases} (answer, m) (share_result table (lease_name_of row) (second_name_of row) (Some lease) (Some other))) (ap (λ (x : Answer × Leases). x.1) h) (λ i. ((h i).0, table))
  shares (Some lease) None h = by (lease.weight == 1) h
    where
      -- the result of sharing, if the weight of one can be halved, or not
      by_weight : Leases → Bool → Answer × Leases
      by_weight m b = if b then (Refused WeightSpent, m) else (Shared, insert (insert m (lease_name_of row) (half_lease lease)) (second_name_of row) (half_lease lease))

      by : (b : Bool) → ◌≡◌ {A = Answer × Leases} (answer, left) (by_weight own b) → Joined (λ m. ◌≡◌ {A = Answer × Leases} (answer, m) (by_weight table b))
      by true h = stays row.lane table own same left (λ m. ◌≡◌ {A = Answer × Leases} (answer, m) (by_weight table true)) (ap (λ (x : Answer × Leases). x.1) h) (λ i. ((h i).0, table))
      by false h = two_more row.lane table own same left (λ m. ◌≡◌ {A = Answer × Leases} (answer, m) (by_weight table false)) row.key row.body (half_lease lease) (ap (λ (x : Answer × Leases). x.1) h) (λ i. ((h i).0, insert (insert table (lease_name_of row) (half_lease lease)) (second_name_of row) (half_lease lease)))

  returns : (o : Option LeaseView) → ◌≡◌ {A = Answer × Leases} (answer, left) (give_back_result own (lease_name_of row) o) → Joined (λ m. ◌≡◌ {A = Answer × Leases} (answer, m) (give_back_result table (lease_name_of row) o))
  returns None h = stays row.lane table own same left (λ m. ◌≡◌ {A = Answer × Leases} (answer, m) (give_back_result table (lease_name_of row) None)) (ap (λ (x : Answer × Leases). x.1) h) (λ i. ((h i).0, table))
  returns (Some lease) h = one_less row.lane table own same left (λ m. ◌≡◌ {A = Answer × Leases} (answer, m) (give_back_result table (lease_name_of row) (Some lease))) row.key (ap (λ (x : Answer × Leases). x.1) h) (λ i. ((h i).0, remove table (lease_name_of row)))

  pub row_joined : RowStep acts (s, own) row answer (t, left) → Joined Step
  row_joined step = elim step [
    | inl store ↦ stays row.lane table own same left Step store.1 (inl (store.0, refl))
    | inr (inl x) ↦
        joined_so row.lane table own same left (λ m. LendsIfNameFree acts (named_lease own row) (s, table) row answer (t, m)) Step
        (λ m h. inr (inl (x.0, x.1, subst (λ o. LendsIfNameFree acts o (s, table) row answer (t, m)) key_same h)))
        (lends (named_lease own row) x.2)
    | inr (inr (inl x)) ↦
        stays row.lane table own same left Step (ap (λ (y : State S). y.1) x.2) (inr (inr (inl (x.0, x.1 ∙ ap (λ o. read_answer o (piece_ends row.range)) key_same, λ i. ((x.2 i).0, table)))))
    | inr (inr (inr (inl x))) ↦
        joined_so row.lane table own same left (λ m. ◌≡◌ {A = Answer × Leases} (answer, m) (share_result table (lease_name_of row) (second_name_of row) (get own (lease_name_of row)) (get own (second_name_of row)))) Step
        (λ m h. inr (inr (inr (inl (x.0, h ∙ (λ i. share_result table (lease_name_of row) (second_name_of row) (sym (same row.key) i) (sym (same row.body) i)), x.2)))))
        (shares (get own (lease_name_of row)) (get own (second_name_of row)) x.1)
    | inr (inr (inr (inr (inl x)))) ↦
        stays row.lane table own same left Step x.2 (inr (inr (inr (inr (inl (x.0, subst (λ o. VerifiesLease acts o s answer t) key_same x.1, refl))))))
    | inr (inr (inr (inr (inr (inl x))))) ↦
        joined_so row.lane table own same left (λ m. ◌≡◌ {A = Answer × Leases} (answer, m) (give_back_result table (lease_name_of row) (named_lease own row))) Step
        (λ m h. inr (inr (inr (inr (inr (inl (x.0, h ∙ ap (give_back_result table (lease_name_of row)) key_same, x.2)))))))
        (returns (named_lease own row) x.1)
    | inr (inr (inr (inr (inr (inr x))))) ↦ stays row.lane table own same left Step x.2 (inr (inr (inr (inr (inr (inr (x.0, x.1, refl)))))))
  ]

-- ---- all rows

parted : (first later : List Event) (C C' : Catalog) → IsRun C (first ++ later) C' → (mid : Catalog) × IsRun C first mid × IsRun mid later C'
parted [] later C C' run = (C, refl, run)
parted (e ∷ first) later C C' run = let rest = parted first later run.0 C' run.2 in (rest.0, (run.0, run.1, rest.1), rest.2)

-- the table has the leases of each lane that the lane's worker has
abbrev pub IsTable : ℕ → Leases → (ℕ → Leases) → Type 0
IsTable n table held = (name : Name) → get table name ≡ get (held (name.0 % n)) name

-- rows that are these events play on one table as the events run
pub told_plays : (n : ℕ) (order : List (RowView × Answer)) (events : List Event) (C C' : Catalog) (table : Leases) (held : ℕ → Leases) → Told n held order events → IsRun C events C' → IsTable n table held →
    (left : Leases) × Plays RequestLeads (C, table) (map (λ p. p.0) order) (map (λ p. p.1) order) (C', left)
told_plays n [] events C C' table held told run is = (table, λ i. (subst (λ es. IsRun C es C') told run i, table))
told_plays n (p ∷ order) events C C' table held told run is =
    let first : List Event = told.0 in
    let later : List Event = told.1 in
    let next : ℕ → Leases = told.2 in
    let w : ℕ = p.0.lane % n in
    let parts = parted first later C C' (subst (λ es. IsRun C es C') told.3 run) in
    let j = row_joined RequestLeads C parts.0 table (held w) (next w) p.0 p.1 (λ key. is (p.0.lane, key)) (told.4.step C parts.0 parts.1) in
    let goes_on : IsTable n j.after next = (λ name. elim (cases_eq name.0 p.0.lane) [
      | inl e ↦ subst (λ l. get j.after (l, name.1) ≡ get (next (l % n)) (l, name.1)) (sym e) (j.same name.1)
      | inr other ↦ j.elsewhere name other ∙ is name ∙ elim (cases_eq (name.0 % n) w) [
        | inl q ↦ subst (λ v. get (held v) name ≡ get (next v) name) (sym q) (sym (j.own_elsewhere name other))
        | inr away ↦ ap (λ m. get m name) (sym (told.5 (name.0 % n) away))
      ]
    ]) in
    let rest = told_plays n order later parts.0 C' j.after next told.6 parts.2 goes_on in
    (rest.0, ((parts.0, j.after), j.does, told.4.fine, rest.1))
