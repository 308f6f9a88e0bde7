-- The rows of a script are a run of commands and sweeps.
use Rattle.std.proofs.Common.{◌≡◌, ◌≢◌, ◌⊎◌, ◌∙◌, ◌∷◌, [], ℕ, List, Bool, false, true, inl, inr, length, Option, Some, None, Result, Ok, Err, ap, refl, subst, sym}
use Rattle.std.specs.Prelude.{◌&&◌, if◌then◌else◌}
use Rattle.std.specs.List.{AllByRecursion}
use Rattle.std.proofs.lemmas.Bool.{false≢true}
use Rattle.spec_lib.specs.Texts.{Text}
use Rattle.blob_digest.specs.Tenants.{Tenant, is_repo_of_tenant}
use Rattle.blob_digest.specs.declared.refusal.Refusal.{Refusal}
use Rattle.store_model.specs.Catalog.{Catalog, opening, ContentRules}
use Rattle.store_model.specs.Noninterference.{IsCollisionFreeRun, NoCollision, uploads_of_run, commands_of, events_of}
use Rattle.store_model.specs.Runs as runs
use Rattle.store_model.specs.Commands.{Outcome}
use Rattle.store_model.specs.declared.mount.Mount.TheVariants as mounting
use Rattle.store_api.specs.Answers.{Answer, Bytes, Leased, NameTaken, Refused, result_answer}
use Rattle.store_api.specs.Commands.{Command, Start, Status, Append, Close, Abandon, Mount, Delete, PutManifest, GetManifest, DeleteManifest, RemoveRepo, Lease, is_lease, uses_repo}
use Rattle.script_player.specs.RowCommands.{command_of}
use Rattle.store_api.specs.LeaseViews.{LeaseView}
use Rattle.script_player.specs.Plays.{LendsIfNameFree, Plays, RowStep, State, VerifiesLease, named_lease as lease_named}
use Rattle.store_api.specs.Steps.{StepOf}
use Rattle.script_player.specs.Rows.{RowView}
use Rattle.store_api.specs.declared.verb.Verb.{Verb}
use Rattle.store_api.specs.declared.verb.Verb.TheVariants as verb
use Rattle.script_player.proofs.Spellings.{names_repo, repo_spelled}
use Rattle.blobctl.specs.Played.{CatalogLeads, outcome_result}
use Rattle.store_api.specs.CommandAnswers.{command_answer}
use Rattle.blobctl.specs.ScriptRuns.{AreEventsOf, IsEvent, IsNoEvent, rows_of, shown_reply}

-- ---- one row

-- the reply to a row's command
abbrev pub reply_answer : Command → Result runs.Answer Refusal → Answer
reply_answer c r = result_answer (command_answer c) r

pub asked : (C C' : Catalog) (c : Command) (answer : Answer) (o : Outcome runs.Answer) → runs.outcome false C c ≡ o → ◌≡◌ {A = Answer × Catalog} (answer, C') (outcome_result C (runs.map_outcome (command_answer c) o))
    → (r : Result runs.Answer Refusal) × runs.IsCommandCase C c r C' × (answer ≡ reply_answer c r)
asked C C' c answer (Ok x) is h = (Ok x.0, is ∙ (λ i. Ok (x.0, sym (ap (λ (p : Answer × Catalog). p.1) h) i)), ap (λ (p : Answer × Catalog). p.0) h)
asked C C' c answer (Err e) is h = (Err e, (inl (false, is), ap (λ (p : Answer × Catalog). p.1) h), ap (λ (p : Answer × Catalog). p.0) h)

plain_shown : (c : Command) (r : Result runs.Answer Refusal) → is_lease c ≡ false → reply_answer c r ≡ shown_reply c r
plain_shown c (Err e) none = refl
plain_shown (Start repo) (Ok a) none = refl
plain_shown (Status repo n) (Ok a) none = refl
plain_shown (Append repo n range bytes) (Ok a) none = refl
plain_shown (Close repo n digest range bytes) (Ok a) none = refl
plain_shown (Abandon repo n) (Ok a) none = refl
plain_shown (Mount repo digest from) (Ok a) none = refl
plain_shown (Delete repo digest) (Ok a) none = refl
plain_shown (PutManifest repo bytes) (Ok a) none = refl
plain_shown (GetManifest repo digest) (Ok a) none = refl
plain_shown (DeleteManifest repo digest) (Ok a) none = refl
plain_shown (RemoveRepo repo) (Ok a) none = refl
plain_shown (Lease repo digest) (Ok a) none = absurd (false≢true (sym none))

module _ (repo digest : Text) where
  lent_shown : (bytes : Text) (r : Result runs.Answer Refusal) → Bytes bytes ≡ reply_answer (Lease repo digest) r → Leased (length bytes) ≡ shown_reply (Lease repo digest) r
  lent_shown bytes (Ok (runs.Bytes b)) e = (let same : bytes ≡ b = (let h = e in cc) in ap (λ (t : Text). Leased (length t)) same)
  lent_shown bytes (Ok (runs.Number n)) e = absurd (let h = e in cc)
  lent_shown bytes (Ok (runs.Mounting mounting.Mounted)) e = absurd (let h = e in cc)
  lent_shown bytes (Ok (runs.Mounting (mounting.Session n))) e = absurd (let h = e in cc)
  lent_shown bytes (Ok runs.Done) e = absurd (let h = e in cc)
  lent_shown bytes (Err refusal) e = absurd (let h = e in cc)

  refused_shown : (refusal : Refusal) (r : Result runs.Answer Refusal) → Refused refusal ≡ reply_answer (Lease repo digest) r → Refused refusal ≡ shown_reply (Lease repo digest) r
  refused_shown refusal (Ok (runs.Bytes b)) e = absurd (let h = e in cc)
  refused_shown refusal (Ok (runs.Number n)) e = e
  refused_shown refusal (Ok (runs.Mounting m)) e = e
  refused_shown refusal (Ok runs.Done) e = e
  refused_shown refusal (Err r) e = e

-- a row is no event of a run, or one
abbrev Told : Catalog → RowView → Answer → Catalog → Type 0
Told C line a C' = (IsNoEvent line a × (C' ≡ C)) ⊎ ((e : runs.Event) × IsEvent line a e × runs.Happens C e C')

module _ (C C' : Catalog) (line : RowView) (a : Answer) where
  store_told : (o : Result (Option Command) Refusal) → command_of line ≡ o → StepOf CatalogLeads o C a C' → Told C line a C'
  store_told (Ok (Some c)) is h = let x = asked C C' c a (runs.outcome false C c) refl h.1 in inr (runs.CommandEvent c x.0, (is, x.2 ∙ plain_shown c x.0 h.0), x.1)
  store_told (Ok None) is h = absurd h
  store_told (Err refusal) is h = inl (inl (refusal, is, h.0), h.1)

  -- a row of a lease that a lane has is no event
  no_event : (v : Verb) → uses_repo v ≡ false → v ≢ verb.Sweep → line.verb ≡ v → IsNoEvent line a
  no_event v none other is = inr (inr (ap uses_repo is ∙ none, λ e. other (sym is ∙ e)))

  verify_told : (o : Option LeaseView) → VerifiesLease CatalogLeads o C a C' → C' ≡ C
  verify_told None h = h.1
  verify_told (Some lease) h = h.1

module _ (s t : State Catalog) (line : RowView) (a : Answer) where
  lease_told : (o : Option LeaseView) → line.verb ≡ verb.Lease → command_of line ≡ Ok (Some (Lease line.repo line.digest)) → LendsIfNameFree CatalogLeads o s line a t → Told s.0 line a t.0
  lease_told (Some lease) is spells h = inl (inr (inl (is, h.0)), ap (λ (x : State Catalog). x.0) h.1)
  lease_told None is spells h = elim h [
    | inl l ↦
        let c = Lease line.repo line.digest in
        let x = asked s.0 t.0 c (Bytes l.0) (runs.outcome false s.0 c) refl l.1 in
        inr (runs.CommandEvent c x.0, (spells, l.2 ∙ lent_shown line.repo line.digest l.0 x.0 x.2), x.1)
    | inr r ↦
        let c = Lease line.repo line.digest in
        let x = asked s.0 t.0 c (Refused r.0) (runs.outcome false s.0 c) refl r.1 in
        inr (runs.CommandEvent c x.0, (spells, r.2 ∙ refused_shown line.repo line.digest r.0 x.0 x.2), x.1)
  ]

  row_told : RowStep CatalogLeads s line a t → Told s.0 line a t.0
  row_told step = elim step [
    | inl store ↦ store_told s.0 t.0 line a (command_of line) refl store.0
    | inr (inl lends) ↦ lease_told (lease_named s.1 line) lends.0 lends.1 lends.2
    | inr (inr (inl reads)) ↦ inl (no_event s.0 t.0 line a verb.Read refl (λ e. absurd (let h = e in cc)) reads.0, ap (λ (x : State Catalog). x.0) reads.2)
    | inr (inr (inr (inl shares))) ↦ inl (no_event s.0 t.0 line a verb.Share refl (λ e. absurd (let h = e in cc)) shares.0, shares.2)
    | inr (inr (inr (inr (inl looks)))) ↦ inl (no_event s.0 t.0 line a verb.Verify refl (λ e. absurd (let h = e in cc)) looks.0, verify_told s.0 t.0 line a (lease_named s.1 line) looks.1)
    | inr (inr (inr (inr (inr (inl returns))))) ↦ inl (no_event s.0 t.0 line a verb.GiveBack refl (λ e. absurd (let h = e in cc)) returns.0, returns.2)
    | inr (inr (inr (inr (inr (inr sweeps))))) ↦ inr (runs.SweepEvent sweeps.1.0, (sweeps.0, sweeps.1.1), sweeps.1.2)
  ]

-- ---- all rows

-- the rows and replies are these events, which lead from one catalog to another
abbrev Run : Catalog → List RowView → List Answer → Catalog → Type 0
Run C lines answers C' = (es : List runs.Event) × AreEventsOf lines answers es × runs.IsRun C es C'

row_first : (C D C' : Catalog) (line : RowView) (a : Answer) (lines : List RowView) (answers : List Answer) → Told C line a D → Run D lines answers C' → Run C (line ∷ lines) (a ∷ answers) C'
row_first C D C' line a lines answers here rest = elim here [
  | inl h ↦ (rest.0, inl (h.0, rest.1), subst (λ (X : Catalog). runs.IsRun X rest.0 C') h.1 rest.2)
  | inr h ↦ (h.0 ∷ rest.0, inr (h.0, rest.0, refl, h.1, rest.1), (D, h.2, rest.2))
]

pub plays_run : (s t : State Catalog) (lines : List RowView) (answers : List Answer) → Plays CatalogLeads s lines answers t → Run s.0 lines answers t.0
plays_run s t [] [] h = ([], refl, ap (λ (x : State Catalog). x.0) h)
plays_run s t [] (a ∷ as') h = absurd h
plays_run s t (l ∷ ls) [] h = absurd h
plays_run s t (l ∷ ls) (a ∷ as') h = row_first s.0 h.0.0 t.0 l a ls as' (row_told s h.0 l a h.1) (plays_run h.0 t ls as' h.3)

-- ---- the commands that rows spell

abbrev add_spelled : Result (Option Command) Refusal → List Command → List Command
add_spelled (Ok (Some c)) cs = c ∷ cs
add_spelled (Ok None) cs = cs
add_spelled (Err refusal) cs = cs

abbrev pub spelled_commands : List RowView → List Command
spelled_commands [] = []
spelled_commands (l ∷ ls) = add_spelled (command_of l) (spelled_commands ls)

module _ (l : RowView) (R : List RowView) (cs : List Command) (same : cs ≡ spelled_commands R) where
  refused : (b : Bool) (r : Refusal) → command_of l ≡ Err r → cs ≡ spelled_commands (if b then l ∷ R else R)
  refused true r is = rw is same
  refused false r is = same

  skipped : (b : Bool) → uses_repo l.verb ≡ false → cs ≡ spelled_commands (if uses_repo l.verb && b then l ∷ R else R)
  skipped b none = rw none same

called : (l : RowView) (R : List RowView) (b : Bool) (c : Command) (reply : Result runs.Answer Refusal) (E : List runs.Event) → command_of l ≡ Ok (Some c) → commands_of E ≡ spelled_commands R
    → commands_of (if b then runs.CommandEvent c reply ∷ E else E) ≡ spelled_commands (if b then l ∷ R else R)
called l R true c reply E spells same = rw spells (ap (λ (cs : List Command). c ∷ cs) same)
called l R false c reply E spells same = same

module _ (tenants : List Tenant) (t : ℕ) where
  event_spelled : (l : RowView) (ls : List RowView) (a : Answer) (e : runs.Event) (rest : List runs.Event) → IsEvent l a e → commands_of (events_of tenants t rest) ≡ spelled_commands (rows_of tenants t ls) → commands_of (events_of tenants t (e ∷ rest)) ≡ spelled_commands (rows_of tenants t (l ∷ ls))
  event_spelled l ls a (runs.CommandEvent c reply) rest h more =
      let R = rows_of tenants t ls in
      let all = commands_of (events_of tenants t (runs.CommandEvent c reply ∷ rest)) in
      let here = called l R (is_repo_of_tenant tenants t (runs.repo_of c)) c reply (events_of tenants t rest) h.0 more in
      let named = subst (λ (r : Text). all ≡ spelled_commands (if is_repo_of_tenant tenants t r then l ∷ R else R)) (repo_spelled l c h.0) here in
      subst (λ (u : Bool). all ≡ spelled_commands (if u && is_repo_of_tenant tenants t l.repo then l ∷ R else R)) (sym (names_repo l c h.0)) named
  event_spelled l ls a (runs.SweepEvent swept) rest h more = skipped l (rows_of tenants t ls) (commands_of (events_of tenants t rest)) more (is_repo_of_tenant tenants t l.repo) (ap uses_repo h.0)
  event_spelled l ls a (runs.SweepPartEvent swept) rest h more = absurd h

  -- the commands among a tenant's events are those that its rows spell
  pub spelled_of : (lines : List RowView) (answers : List Answer) (es : List runs.Event) → AreEventsOf lines answers es → AllByRecursion (λ answer. answer ≢ NameTaken) answers → commands_of (events_of tenants t es) ≡ spelled_commands (rows_of tenants t lines)
  spelled_of [] [] es h free = ap (λ (xs : List runs.Event). commands_of (events_of tenants t xs)) h
  spelled_of [] (a ∷ as') es h free = absurd h
  spelled_of (l ∷ ls) [] es h free = absurd h
  spelled_of (l ∷ ls) (a ∷ as') es h free = elim h [
    | inl (inl bad, more) ↦ refused l (rows_of tenants t ls) (commands_of (events_of tenants t es)) (spelled_of ls as' es more free.1) (uses_repo l.verb && is_repo_of_tenant tenants t l.repo) bad.0 bad.1
    | inl (inr (inl taken), more) ↦ absurd (free.0 taken.1)
    | inl (inr (inr own), more) ↦ skipped l (rows_of tenants t ls) (commands_of (events_of tenants t es)) (spelled_of ls as' es more free.1) (is_repo_of_tenant tenants t l.repo) own.0
    | inr e ↦ ap (λ (xs : List runs.Event). commands_of (events_of tenants t xs)) e.2 ∙ event_spelled l ls a e.0 e.1 e.3 (spelled_of ls as' e.1 e.4 free.1)
  ]

-- ---- the premises of the law on tenants

abbrev FairFrom : Catalog → List runs.Event → Catalog → Type 0
FairFrom C es C' = (run : runs.IsRun C es C') × NoCollision (uploads_of_run es C C' run)

pub fair_from : (tenants : List Tenant) (slots : ℕ) (contents : ContentRules) (C C' : Catalog) (es : List runs.Event) → C ≡ opening tenants slots contents → FairFrom C es C' → IsCollisionFreeRun tenants slots contents es C'
fair_from tenants slots contents C C' es same h = let k = subst (λ (X : Catalog). FairFrom X es C') same h in record { run = k.0; no_collision = k.1 }
