-- Rows that lease no blob have one run.
use Rattle.std.proofs.Common.{◌≡◌, ◌≢◌, ◌+◌, ◌∙◌, ◌∷◌, [], ℕ, List, Bool, false, true, cond, inl, inr, length, map, Option, Some, None, Result, Ok, Err, ap, arith, refl, subst, sym}
use Rattle.std.specs.Prelude.{if◌then◌else◌, is_none, count_by, nat_lt, not}
use Rattle.std.specs.FinMap as fmap
use Rattle.std.specs.FinMap.{get, get-empty, get-insert, same_map}
use Rattle.std.specs.Cmp.Lexicographic.{nat_list_cmp_total}
use Rattle.std.proofs.lemmas.Bool.{false≢true}
use Rattle.std.proofs.lemmas.Map.Lookups.{exact_bytes}
use Rattle.std.proofs.lemmas.Option.{same_Some}
use Rattle.std.specs.Ordering.{eq_by_cmp}
use Rattle.blob_digest.specs.Digests.{sha256_text}
use Rattle.spec_lib.specs.Texts.{Text, text_cmp}
use Rattle.spec_lib.specs.Outcomes.{◌>>=◌, refuse}
use Rattle.blob_digest.specs.declared.refusal.Refusal.{Refusal}
use Rattle.blob_digest.specs.declared.refusal.Refusal.TheVariants as no
use Rattle.oci_manifest.specs.Manifests.{refs_of, max_manifest}
use Rattle.std.specs.Option.{ok_or}
use Rattle.store_model.specs.Catalog.{Catalog, Resident, opening, ContentRules}
use Rattle.store_model.specs.Runs as runs
use Rattle.store_model.specs.Commands.{Outcome, tenant, start, append, close, abandon, mount, delete, put_manifest, delete_manifest, remove_repo, check_repo, is_in_use, with_stored_blob, was_leased, has_source, mounted_outcome, started_outcome, has_manifest, add_manifest, chunk_length_check, session, not_busy, check_no_referrer, referrer, check_all_links, manifest, check_link, is_digest_accepted, has_slot, check_quota, check_share, content_in, lacks_room_for, cannot_open, is_full_of_manifests}
use Rattle.store_model.specs.Sweep.{IsAfterSweep, IsSweep, is_orphan}
use Rattle.store_model.specs.declared.swept.Swept.{Swept as SweptCounts}
use Rattle.store_api.specs.Answers.{Answer, Swept}
use Rattle.store_api.specs.Commands.{Command, Start, Status, Append, Close, Abandon, Mount, Delete, PutManifest, GetManifest, DeleteManifest, RemoveRepo, Lease, Sweeps, is_lease, uses_repo}
use Rattle.script_player.specs.RowCommands.{command_of}
use Rattle.blobctl.specs.Played.{CatalogLeads, command_outcome, outcome_result}
use Rattle.store_api.specs.CommandAnswers.{command_answer}
use Rattle.script_player.specs.Plays.{Plays, RowStep, State, StoreRow, VerifiesLease, give_back_result, lease_name_of, named_lease, piece_ends, read_answer, second_name_of, share_result_in}
use Rattle.store_api.specs.Steps.{StepOf}
use Rattle.csv.specs.Machine.{next_record}
use Rattle.csv.specs.Reading.{AreRecords, Reached}
use Rattle.csv.specs.declared.parser.Config.{Config}
use Rattle.csv.specs.declared.parser.State.{State as CsvState}
use Rattle.blob_digest.specs.Tenants.{Tenant}
use Rattle.store_api.specs.LeaseViews.{LeaseView}
use Rattle.blobctl.specs.OneText.{LeaseNothing}
use Rattle.blobctl.specs.Script.{AreRowsOf}
use Rattle.blobctl.specs.Records.{Record, row_of as row_of_record}
use Rattle.script_player.specs.Rows.{RowView}
use Rattle.store_api.specs.declared.verb.Verb.{Verb}
use Rattle.store_api.specs.declared.verb.Verb.TheVariants as verb
use Rattle.script_player.proofs.Spellings.{spells_none}

-- no blob was leased
abbrev pub LentNone : Catalog → Type 0
LentNone C = (d : Text) (b : Resident) → get C.residents d ≡ Some b → b.lent ≡ false

-- ---- one step

pub store_same : (o : Result (Option Command) Refusal) (C D E : Catalog) (a b : Answer) → StepOf CatalogLeads o C a D → StepOf CatalogLeads o C b E → ◌≡◌ {A = Answer × Catalog} (a, D) (b, E)
store_same (Ok (Some command)) C D E a b one two = one.1 ∙ sym two.1
store_same (Ok None) C D E a b one two = absurd one
store_same (Err refusal) C D E a b one two = λ i. ((one.0 ∙ sym two.0) i, (one.1 ∙ sym two.1) i)

left_of : (o : Bool) (b : Resident) (now : Option Resident) → b.lent ≡ false → IsAfterSweep o b now → now ≡ cond o None (Some b)
left_of false b now none left = left
left_of true b None none left = refl
left_of true b (Some now) none left = absurd (false≢true (sym none ∙ left.0))

module _ (C : Catalog) (none : LentNone C) where
  after : (s : SweptCounts) (D : Catalog) (d : Text) (x : Option Resident) → IsSweep C s D → get C.residents d ≡ x → get D.residents d ≡ cond (is_orphan C d) None x
  after s D d None sweep is = sweep.no_others d is ∙ none_either (is_orphan C d)
    where
      none_either : (o : Bool) → None ≡ cond {A = Option Resident} o None None
      none_either true = refl
      none_either false = refl
  after s D d (Some b) sweep is = left_of (is_orphan C d) b (get D.residents d) (none d b is) (sweep.orphans d b is)

  pub sweep_same : (s t : SweptCounts) (D E : Catalog) → IsSweep C s D → IsSweep C t E → s.retired ≡ 0 → t.retired ≡ 0 → ◌≡◌ {A = Answer × Catalog} (Swept s, D) (Swept t, E)
  sweep_same s t D E one two kept kept' =
      let residents : D.residents ≡ E.residents = same_map nat_list_cmp_total exact_bytes D.residents E.residents (λ d. after s D d (get C.residents d) one refl ∙ sym (after t E d (get C.residents d) two refl)) in
      let retired : s.retired ≡ t.retired = kept ∙ sym kept' in
      let catalog : D ≡ E = one.rest ∙ (λ i. record C { residents = residents i; retired = C.retired + retired i }) ∙ sym two.rest in
      let gone : s.freed + s.retired ≡ t.freed + t.retired = one.gone ∙ ap (λ (m : fmap.FinMap _ Resident). count_by (λ e. is_none (get m e.0)) (fmap.entries C.residents)) residents ∙ sym two.gone in
      let freed : s.freed ≡ t.freed = omega (arith, gone, kept, kept') in
      let held : s.held ≡ t.held = one.held ∙ ap (λ (m : fmap.FinMap _ Resident). count_by (λ e. e.1.condemned) (fmap.entries m)) residents ∙ sym two.held in
      let condemned : s.condemned ≡ t.condemned = one.condemned ∙ sym two.condemned in
      λ i. (Swept (record { condemned = condemned i; freed = freed i; held = held i; retired = retired i }), catalog i)

  pub sweep_none : (s : SweptCounts) (D : Catalog) → IsSweep C s D → LentNone D
  sweep_none s D sweep d now at = by (is_orphan C d) (get C.residents d) refl (sym (after s D d (get C.residents d) sweep refl) ∙ at)
    where
      by : (o : Bool) (x : Option Resident) → get C.residents d ≡ x → cond o None x ≡ Some now → now.lent ≡ false
      by true x is e = absurd (let h = e in cc)
      by false x is e = none d now (is ∙ e)

-- ---- a command that leases nothing leaves nothing leased

-- if an outcome is accepted, this holds of the catalog after it
Keeps : {A : Type 0} → Outcome A → Type 0
Keeps {A} o = (x : A × Catalog) → o ≡ Ok x → LentNone x.1

bind_keeps : {A B : Type 0} (r : Result A Refusal) (f : A → Outcome B) → ((a : A) → r ≡ Ok a → Keeps (f a)) → Keeps (r >>= f)
unfolding Keeps
bind_keeps (Ok a) f next x e = next a refl x e
bind_keeps (Err r) f next x e = absurd (let h = e in cc)

ok_keeps : {A : Type 0} (a : A) (D : Catalog) → LentNone D → Keeps (Ok (a, D))
unfolding Keeps
ok_keeps a D none x e = subst (λ (o : Result _ Refusal). LentIn o) e none
  where
    LentIn : {A : Type 0} → Result (A × Catalog) Refusal → Type 0
    LentIn (Ok y) = LentNone y.1
    LentIn (Err r) = Unit {0}

if_keeps : {A : Type 0} (b : Bool) (x y : Outcome A) → Keeps x → Keeps y → Keeps (if b then x else y)
if_keeps true x y h k = h
if_keeps false x y h k = k

answered_keeps : {A B : Type 0} (answer : A → B) (o : Outcome A) → Keeps o → Keeps (runs.map_outcome answer o)
unfolding Keeps
answered_keeps answer (Ok x) keeps y e = ok_keeps (answer x.0) x.1 (keeps x refl) y e
answered_keeps answer (Err r) keeps y e = absurd (let h = e in cc)

module _ (C : Catalog) (none : LentNone C) where
  read_keeps : {A : Type 0} (answer : A → runs.Answer) (r : Result A Refusal) → Keeps (runs.reading_outcome answer C r)
  unfolding Keeps
  read_keeps answer (Ok x) y e = ok_keeps (answer x) C none y e
  read_keeps answer (Err r) y e = absurd (let h = e in cc)

  unlent_before : (x : Option Resident) (d : Text) → get C.residents d ≡ x → was_leased x ≡ false
  unlent_before None d is = refl
  unlent_before (Some b) d is = none d b is

  stored_none : (t : ℕ) (repo : Text) (number : ℕ) (digest bytes : Text) → LentNone (with_stored_blob C t repo number digest bytes)
  stored_none t repo number digest bytes d now at = by (eq_by_cmp text_cmp d digest) (sym (get-insert nat_list_cmp_total C.residents digest _ d) ∙ at)
    where
      by : (o : Bool) → cond o (Some (record { bytes = bytes; condemned = false; lent = was_leased (get C.residents digest) })) (get C.residents d) ≡ Some now → now.lent ≡ false
      by true e = sym (ap (λ (b : Resident). b.lent) (same_Some _ _ e)) ∙ unlent_before (get C.residents digest) digest refl
      by false e = none d now e

  start_keeps : (repo : Text) → Keeps (start C repo)
  start_keeps repo = bind_keeps (tenant C repo) _ (λ t _. bind_keeps (refuse (lacks_room_for C t repo) no.LimitReached) _ (λ _ _. bind_keeps (refuse (cannot_open C t) no.LimitReached) _ (λ _ _. ok_keeps _ _ none)))

  start_none : (repo : Text) (s : ℕ × Catalog) → start C repo ≡ Ok s → LentNone s.1
  unfolding Keeps
  start_none repo s is = start_keeps repo s is

  instead_keeps : (repo : Text) → Keeps (started_outcome C repo)
  instead_keeps repo = bind_keeps (start C repo) _ (λ s is. ok_keeps _ _ (start_none repo s is))

  run_keeps : (c : Command) → is_lease c ≡ false → Keeps (runs.outcome false C c)
  run_keeps (Start repo) no_lease = answered_keeps _ _ (start_keeps repo)
  run_keeps (Status repo n) no_lease = read_keeps _ _
  run_keeps (Append repo n range bytes) no_lease =
      answered_keeps _ (append C repo n range bytes) (bind_keeps (tenant C repo) _ (λ t _. bind_keeps (chunk_length_check C t repo n range (length bytes)) _ (λ m _. bind_keeps (check_quota C t (length bytes)) _ (λ _ _. ok_keeps _ _ none))))
  run_keeps (Close repo n digest range bytes) no_lease =
      answered_keeps _ (close C repo n digest range bytes) (bind_keeps (tenant C repo) _ (λ t _. bind_keeps (chunk_length_check C t repo n range (length bytes)) _ (λ m _. bind_keeps (check_quota C t (length bytes)) _ (λ _ _. bind_keeps (refuse (not (is_digest_accepted C digest (content_in C.sessions (t, n) bytes))) no.DigestInvalid) _ (λ _ _. bind_keeps (check_share C t digest) _ (λ _ _. bind_keeps (has_slot C digest) _ (λ _ _. ok_keeps _ _ (stored_none t repo n digest (content_in C.sessions (t, n) bytes)))))))))
  run_keeps (Abandon repo n) no_lease =
      answered_keeps _ (abandon C repo n) (bind_keeps (tenant C repo) _ (λ t _. bind_keeps (session C t repo n) _ (λ s _. bind_keeps (not_busy s.chunks) _ (λ _ _. ok_keeps _ _ none))))
  run_keeps (Mount repo digest from) no_lease =
      answered_keeps _ (mount C repo digest from) (bind_keeps (tenant C repo) _ (λ t _. if_keeps (has_source C t digest from) (mounted_outcome C t repo digest) (started_outcome C repo) (bind_keeps (refuse (lacks_room_for C t repo) no.LimitReached) _ (λ _ _. ok_keeps _ _ none)) (instead_keeps repo)))
  run_keeps (Delete repo digest) no_lease =
      answered_keeps _ (delete C repo digest) (bind_keeps (tenant C repo) _ (λ t _. bind_keeps (check_link C repo digest) _ (λ _ _. bind_keeps (check_no_referrer (referrer C repo digest)) _ (λ _ _. ok_keeps _ _ none))))
  run_keeps (PutManifest repo bytes) no_lease =
      answered_keeps _ (put_manifest C repo bytes) (bind_keeps (tenant C repo) _ (λ t _. bind_keeps (refuse (nat_lt max_manifest (length bytes)) no.SizeInvalid) _ (λ _ _. bind_keeps (ok_or (refs_of bytes) no.ManifestInvalid) _ (λ refs _. bind_keeps (check_all_links C repo refs) _ (λ _ _. if_keeps (has_manifest C repo (sha256_text bytes)) _ (add_manifest C t repo bytes) (ok_keeps _ _ none) (bind_keeps (refuse (lacks_room_for C t repo) no.LimitReached) _ (λ _ _. bind_keeps (refuse (is_full_of_manifests C t repo) no.LimitReached) _ (λ _ _. ok_keeps _ _ none))))))))
  run_keeps (GetManifest repo digest) no_lease = read_keeps _ _
  run_keeps (DeleteManifest repo digest) no_lease = answered_keeps _ (delete_manifest C repo digest) (bind_keeps (tenant C repo) _ (λ t _. bind_keeps (manifest C repo digest) _ (λ _ _. ok_keeps _ _ none)))
  run_keeps (RemoveRepo repo) no_lease = answered_keeps _ (remove_repo C repo) (bind_keeps (tenant C repo) _ (λ t _. bind_keeps (check_repo C repo) _ (λ _ _. bind_keeps (refuse (is_in_use C repo) no.RepoInUse) _ (λ _ _. ok_keeps _ _ none))))
  run_keeps (Lease repo digest) no_lease = absurd (false≢true (sym no_lease))

  outcome_keeps : (c : Command) → is_lease c ≡ false → Keeps (command_outcome C c)
  outcome_keeps c no_lease = answered_keeps (command_answer c) (runs.outcome false C c) (run_keeps c no_lease)

  result_none : (o : Outcome Answer) → Keeps o → LentNone (outcome_result C o).1
  unfolding Keeps
  result_none (Ok x) keeps = keeps x refl
  result_none (Err r) keeps = none

  pub store_none : (o : Result (Option Command) Refusal) (D : Catalog) (a : Answer) → StepOf CatalogLeads o C a D → LentNone D
  store_none (Ok (Some command)) D a step = subst LentNone (sym (ap (λ (p : Answer × Catalog). p.1) step.1)) (result_none (command_outcome C command) (outcome_keeps command step.0))
  store_none (Ok None) D a step = absurd step
  store_none (Err refusal) D a step = subst LentNone (sym step.1) none

-- ---- rows

-- a row that leases nothing, by its verb
RowOf : Verb → State Catalog → RowView → Answer → State Catalog → Type 0
RowOf verb.Read s line a t = (a ≡ read_answer (named_lease s.1 line) (piece_ends line.range)) × (t ≡ s)
RowOf verb.Share s line a t = ((a, t.1) ≡ share_result_in s.1 (lease_name_of line) (second_name_of line)) × (t.0 ≡ s.0)
RowOf verb.Verify s line a t = VerifiesLease CatalogLeads (named_lease s.1 line) s.0 a t.0 × (t.1 ≡ s.1)
RowOf verb.GiveBack s line a t = ((a, t.1) ≡ give_back_result s.1 (lease_name_of line) (named_lease s.1 line)) × (t.0 ≡ s.0)
RowOf verb.Sweep s line a t = CatalogLeads s.0 Sweeps a t.0 × (t.1 ≡ s.1)
RowOf verb.Lease s line a t = ⊥
RowOf _ s line a t = StoreRow CatalogLeads s line a t

module _ (s t : State Catalog) (line : RowView) (a : Answer) where
  of_store : (v : Verb) → uses_repo v ≡ true → v ≢ verb.Lease → StoreRow CatalogLeads s line a t → RowOf v s line a t
  unfolding RowOf
  of_store verb.Start uses other h = h
  of_store verb.Status uses other h = h
  of_store verb.Append uses other h = h
  of_store verb.Close uses other h = h
  of_store verb.Abandon uses other h = h
  of_store verb.Mount uses other h = h
  of_store verb.Delete uses other h = h
  of_store verb.PutManifest uses other h = h
  of_store verb.GetManifest uses other h = h
  of_store verb.DeleteManifest uses other h = h
  of_store verb.RemoveRepo uses other h = h
  of_store verb.Lease uses other h = absurd (other refl)
  of_store verb.Read uses other h = absurd (false≢true uses)
  of_store verb.Share uses other h = absurd (false≢true uses)
  of_store verb.Verify uses other h = absurd (false≢true uses)
  of_store verb.GiveBack uses other h = absurd (false≢true uses)
  of_store verb.Sweep uses other h = absurd (false≢true uses)

  repo_named : (u : Bool) → uses_repo line.verb ≡ u → StoreRow CatalogLeads s line a t → u ≡ true
  repo_named true is h = refl
  repo_named false is h = absurd (let k = rw (spells_none line line.verb refl is) at h.0 in k)

  row_of : line.verb ≢ verb.Lease → RowStep CatalogLeads s line a t → RowOf line.verb s line a t
  unfolding RowOf
  row_of other step = elim step [
    | inl store ↦ of_store line.verb (repo_named (uses_repo line.verb) refl store) other store
    | inr (inl lends) ↦ absurd (other lends.0)
    | inr (inr (inl reads)) ↦ subst (λ v. RowOf v s line a t) (sym reads.0) (reads.1, reads.2)
    | inr (inr (inr (inl shares))) ↦ subst (λ v. RowOf v s line a t) (sym shares.0) (shares.1, shares.2)
    | inr (inr (inr (inr (inl looks)))) ↦ subst (λ v. RowOf v s line a t) (sym looks.0) (looks.1, looks.2)
    | inr (inr (inr (inr (inr (inl returns))))) ↦ subst (λ v. RowOf v s line a t) (sym returns.0) (returns.1, returns.2)
    | inr (inr (inr (inr (inr (inr sweeps))))) ↦ subst (λ v. RowOf v s line a t) (sym sweeps.0) (sweeps.1, sweeps.2)
  ]

module _ (s t u : State Catalog) (line : RowView) (a b : Answer) where
  store_rows : StoreRow CatalogLeads s line a t → StoreRow CatalogLeads s line b u → ◌≡◌ {A = Answer × State Catalog} (a, t) (b, u)
  store_rows h k = let p = store_same (command_of line) s.0 t.0 u.0 a b h.0 k.0 in λ i. ((p i).0, ((p i).1, (h.1 ∙ sym k.1) i))

  verify_same : (o : Option LeaseView) → VerifiesLease CatalogLeads o s.0 a t.0 → VerifiesLease CatalogLeads o s.0 b u.0 → ◌≡◌ {A = Answer × Catalog} (a, t.0) (b, u.0)
  verify_same None h k = λ i. ((h.0 ∙ sym k.0) i, (h.1 ∙ sym k.1) i)
  verify_same (Some lease) h k = λ i. ((h.0 ∙ sym k.0) i, (h.1 ∙ sym k.1) i)

  rows_same : LentNone s.0 → (v : Verb) → RowOf v s line a t → RowOf v s line b u → ◌≡◌ {A = Answer × State Catalog} (a, t) (b, u)
  unfolding RowOf
  rows_same none verb.Start h k = store_rows h k
  rows_same none verb.Status h k = store_rows h k
  rows_same none verb.Append h k = store_rows h k
  rows_same none verb.Close h k = store_rows h k
  rows_same none verb.Abandon h k = store_rows h k
  rows_same none verb.Mount h k = store_rows h k
  rows_same none verb.Delete h k = store_rows h k
  rows_same none verb.PutManifest h k = store_rows h k
  rows_same none verb.GetManifest h k = store_rows h k
  rows_same none verb.DeleteManifest h k = store_rows h k
  rows_same none verb.RemoveRepo h k = store_rows h k
  rows_same none verb.Lease h k = absurd h
  rows_same none verb.Read h k = λ i. ((h.0 ∙ sym k.0) i, (h.1 ∙ sym k.1) i)
  rows_same none verb.Share h k = let p = h.0 ∙ sym k.0 in λ i. ((p i).0, ((h.1 ∙ sym k.1) i, (p i).1))
  rows_same none verb.Verify h k = let p = verify_same (named_lease s.1 line) h.0 k.0 in λ i. ((p i).0, ((p i).1, (h.1 ∙ sym k.1) i))
  rows_same none verb.GiveBack h k = let p = h.0 ∙ sym k.0 in λ i. ((p i).0, ((h.1 ∙ sym k.1) i, (p i).1))
  rows_same none verb.Sweep h k =
      let p = sweep_same s.0 none h.0.0 k.0.0 t.0 u.0 h.0.2 k.0.2 h.0.3 k.0.3 in
      λ i. ((h.0.1 ∙ ap (λ (x : Answer × Catalog). x.0) p ∙ sym k.0.1) i, ((p i).1, (h.1 ∙ sym k.1) i))

module _ (s t : State Catalog) (line : RowView) (a : Answer) (none : LentNone s.0) where
  verify_none : (o : Option LeaseView) → VerifiesLease CatalogLeads o s.0 a t.0 → LentNone t.0
  verify_none None h = subst LentNone (sym h.1) none
  verify_none (Some lease) h = subst LentNone (sym h.1) none

  row_none : (v : Verb) → RowOf v s line a t → LentNone t.0
  unfolding RowOf
  row_none verb.Start h = store_none s.0 none (command_of line) t.0 a h.0
  row_none verb.Status h = store_none s.0 none (command_of line) t.0 a h.0
  row_none verb.Append h = store_none s.0 none (command_of line) t.0 a h.0
  row_none verb.Close h = store_none s.0 none (command_of line) t.0 a h.0
  row_none verb.Abandon h = store_none s.0 none (command_of line) t.0 a h.0
  row_none verb.Mount h = store_none s.0 none (command_of line) t.0 a h.0
  row_none verb.Delete h = store_none s.0 none (command_of line) t.0 a h.0
  row_none verb.PutManifest h = store_none s.0 none (command_of line) t.0 a h.0
  row_none verb.GetManifest h = store_none s.0 none (command_of line) t.0 a h.0
  row_none verb.DeleteManifest h = store_none s.0 none (command_of line) t.0 a h.0
  row_none verb.RemoveRepo h = store_none s.0 none (command_of line) t.0 a h.0
  row_none verb.Lease h = absurd h
  row_none verb.Read h = subst LentNone (sym (ap (λ (x : State Catalog). x.0) h.1)) none
  row_none verb.Share h = subst LentNone (sym h.1) none
  row_none verb.Verify h = verify_none (named_lease s.1 line) h.0
  row_none verb.GiveBack h = subst LentNone (sym h.1) none
  row_none verb.Sweep h = sweep_none s.0 none h.0.0 t.0 h.0.2

-- the rows of a script, none of which leases a blob, have one list of replies and one last catalog
pub plays_same : (s t u : State Catalog) (lines : List RowView) (one two : List Answer) → LentNone s.0 → LeaseNothing lines → Plays CatalogLeads s lines one t → Plays CatalogLeads s lines two u → ◌≡◌ {A = List Answer × State Catalog} (one, t) (two, u)
plays_same s t u [] [] [] none nothing h k = λ i. ([], (h ∙ sym k) i)
plays_same s t u [] [] (b ∷ bs) none nothing h k = absurd k
plays_same s t u [] (a ∷ as') bs none nothing h k = absurd h
plays_same s t u (l ∷ ls) [] bs none nothing h k = absurd h
plays_same s t u (l ∷ ls) (a ∷ as') [] none nothing h k = absurd k
plays_same s t u (l ∷ ls) (a ∷ as') (b ∷ bs) none nothing h k =
    let here = row_of s h.0 l a nothing.0 h.1 in
    let p = rows_same s h.0 k.0 l a b none l.verb here (row_of s k.0 l b nothing.0 k.1) in
    let rest = subst (λ (m : State Catalog). Plays CatalogLeads m ls bs u) (sym (ap (λ (x : Answer × State Catalog). x.1) p)) k.3 in
    let q = plays_same h.0 t u ls as' bs (row_none s h.0 l a none l.verb here) nothing.1 h.3 rest in
    λ i. ((p i).0 ∷ (q i).0, (q i).1)

-- ---- records

records_same : (cfg : Config) (s : CsvState) (xs : Text) (rs qs : List Record) → AreRecords cfg s xs rs → AreRecords cfg s xs qs → rs ≡ qs
unfolding Reached
records_same cfg s xs [] [] h k = refl
records_same cfg s xs [] (q ∷ qs) h k = absurd (let none = sym k.2.1 ∙ (λ i. next_record cfg (h.2.0 i) [] [] (h.2.1 i)) ∙ h.3 in cc)
records_same cfg s xs (r ∷ rs) [] h k = absurd (let none = sym h.2.1 ∙ (λ i. next_record cfg (k.2.0 i) [] [] (k.2.1 i)) ∙ k.3 in cc)
records_same cfg s xs (r ∷ rs) (q ∷ qs) h k =
    let same = same_Some h.2.0 k.2.0 (sym h.2.1 ∙ k.2.1) in
    let rest = subst (λ x. Reached cfg x.1 x.2 qs k.0 k.1) (sym same) k.2.3 in
    let tails = records_same cfg h.2.0.1 h.2.0.2 rs qs (h.0, h.1, h.2.3, h.3) (k.0, k.1, rest, k.3) in
    let heads = h.2.2 ∙ ap (λ x. x.0) same ∙ sym k.2.2 in
    λ i. heads i ∷ tails i

some_same : (xs ys : List RowView) → map Some xs ≡ map Some ys → xs ≡ ys
some_same [] [] e = refl
some_same [] (y ∷ ys) e = absurd (let h = e in cc)
some_same (x ∷ xs) [] e = absurd (let h = e in cc)
some_same (x ∷ xs) (y ∷ ys) e =
    let heads : x ≡ y = (let h = e in cc) in
    let tails : map Some xs ≡ map Some ys = (let h = e in cc) in
    λ i. heads i ∷ some_same xs ys tails i

-- a script has one list of rows
pub rows_are_one : (script : Text) (one two : List RowView) → AreRowsOf script one → AreRowsOf script two → one ≡ two
rows_are_one script one two h k = some_same one two (sym h.good ∙ ap (map row_of_record) (records_same _ _ _ h.records k.records h.all k.all) ∙ k.good)

-- nothing is leased if nothing is stored
pub opening_none : (C : Catalog) (tenants : List Tenant) (slots : ℕ) (contents : ContentRules) → C ≡ opening tenants slots contents → LentNone C
opening_none C tenants slots contents is d b at = absurd (let h = sym (get-empty text_cmp d) ∙ ap (λ (x : Catalog). get x.residents d) (sym is) ∙ at in cc)
