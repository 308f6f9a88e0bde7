-- The steps of rows with their replies, if no row is about a lease and none sweeps.
use Rattle.std.proofs.Common.{◌≡◌, ◌≢◌, ℕ, Bool, true, false, cond, List, [], ◌∷◌, ◌++◌, Option, Some, None, Result, Ok, Err, refl, sym, ap, ◌∙◌, subst, inl, inr, map, append_assoc}
use Rattle.std.specs.Prelude.{◌==◌, nat_eq, length}
use Rattle.std.specs.List.{AllByRecursion, filter}
use Rattle.std.specs.Option.{option_eq}
use Rattle.std.proofs.lemmas.Bool.{false≢true}
use Rattle.std.proofs.lemmas.List.{append-nil}
use Rattle.std.proofs.lemmas.List.Elements.{filter-append}
use Rattle.blob_digest.specs.declared.range.ByteRange.{ByteRange}
use Rattle.blob_digest.specs.declared.refusal.Refusal.{Refusal}
use Rattle.blob_digest.specs.declared.refusal.Refusal.TheVariants.{Memory}
use Rattle.spec_lib.specs.Texts.{Text}
use Rattle.store_model.specs.Catalog.{HandRecord, Tenant, is_repo_of_tenant}
use Rattle.store_model.specs.Histories.{FinishCall, PutBackCall, Step, TakeCall}
use Rattle.store_model.specs.HistoryIsolation.{is_step_of}
use Rattle.store_model.specs.Runs.{repo_of}
use Rattle.store_api.specs.Answers.{Answer, Received, Refused, Stored}
use Rattle.store_api.specs.Commands.{Append, Close, Command, StoreRequest, is_command}
use Rattle.script_player.specs.RowCommands.{command_of}
use Rattle.script_player.specs.Plays.{Plays, RowStep, State, StoreRow}
use Rattle.store_api.specs.Steps.{StepOf}
use Rattle.script_player.specs.Rows.{RowView}
use Rattle.store_api.specs.declared.verb.Verb.{Verb}
use Rattle.store_api.specs.declared.verb.Verb.TheVariants as verb
use Rattle.script_player.proofs.Spellings.{repo_spelled}
use Rattle.locked_book.specs.History.{filled_hand}
use Rattle.blob_store.specs.StoreBackends.{AreCommandSteps, AreUploadSteps, Work, WorkActs}
use Rattle.blob_store.proofs.OneText.OwnReplies.{HasOwnReply, taken_owner}

-- a row with its reply
abbrev pub Line : Type 0
Line = RowView × Answer

-- the rows of lines, and their replies
abbrev pub rows_of : List Line → List RowView
rows_of lines = map (λ l. l.0) lines

abbrev pub answers_of : List Line → List Answer
answers_of lines = map (λ l. l.1) lines

-- the steps of a row with this reply: those of its command, or none if it spells none
abbrev pub AreRowSteps : Result (Option Command) Refusal → Answer → List Step → Type 0
AreRowSteps (Ok (Some command)) answer steps = AreCommandSteps command answer steps
AreRowSteps (Ok None) answer steps = ⊥
AreRowSteps (Err e) answer steps = (answer ≡ Refused e) × (steps ≡ [])

-- the steps of rows in turn, none of which has the reply `Memory`
abbrev pub AreLineSteps : List Line → List Step → Type 0
AreLineSteps [] steps = steps ≡ []
AreLineSteps (l ∷ lines) steps = (first : List Step) × (rest : List Step) × AreRowSteps (command_of l.0) l.1 first × (l.1 ≢ Refused Memory) × AreLineSteps lines rest × (steps ≡ first ++ rest)

-- ---- rows that were played

-- the row of a command is played by its command
pub store_row : {S : Type 0} (acts : S → StoreRequest → Answer → S → Type 0) (old new : State S) (row : RowView) (answer : Answer) → is_command row.verb ≡ true → RowStep acts old row answer new → StoreRow acts old row answer new
store_row acts old new row answer commands step = elim step [
  | inl store ↦ store
  | inr (inl lends) ↦ other verb.Lease lends.0 refl
  | inr (inr (inl reads)) ↦ other verb.Read reads.0 refl
  | inr (inr (inr (inl shares))) ↦ other verb.Share shares.0 refl
  | inr (inr (inr (inr (inl looks)))) ↦ other verb.Verify looks.0 refl
  | inr (inr (inr (inr (inr (inl returns))))) ↦ other verb.GiveBack returns.0 refl
  | inr (inr (inr (inr (inr (inr sweeps))))) ↦ other verb.Sweep sweeps.0 refl
]
  where
    other : {A : Type 0} (v : Verb) → row.verb ≡ v → is_command v ≡ false → A
    other v is none = absurd (false≢true (sym none ∙ ap is_command (sym is) ∙ commands))

spelled_steps : (o : Result (Option Command) Refusal) (old new : Work) (answer : Answer) → StepOf WorkActs o old answer new → (steps : List Step) × AreRowSteps o answer steps × (new.steps ≡ old.steps ++ steps)
spelled_steps (Ok (Some command)) old new answer h = h.1.steps
spelled_steps (Ok None) old new answer h = absurd h
spelled_steps (Err e) old new answer h = ([], (h.0, refl), ap (λ (w : Work). w.steps) h.1 ∙ sym (append-nil old.steps))

pub line_steps : (lines : List Line) (old new : State Work) → AllByRecursion (λ row. is_command row.verb ≡ true) (rows_of lines) → Plays WorkActs old (rows_of lines) (answers_of lines) new
    → (steps : List Step) × AreLineSteps lines steps × (new.0.steps ≡ old.0.steps ++ steps)
line_steps [] old new commands h = ([], refl, ap (λ (s : State Work). s.0.steps) h ∙ sym (append-nil old.0.steps))
line_steps (l ∷ lines) old new commands h =
    let here = spelled_steps (command_of l.0) old.0 h.0.0 l.1 (store_row WorkActs old h.0 l.0 l.1 commands.0 h.1).0 in
    let after = line_steps lines h.0 new commands.1 h.3 in
    (here.0 ++ after.0, (here.0, after.0, here.1, h.2, after.1, refl), after.2 ∙ ap (λ xs. xs ++ after.0) here.2 ∙ append_assoc old.0.steps here.0 after.0)

-- ---- the steps of a tenant

-- a fact of all of a list holds of both its parts
pub all_both : {A : Type 0} (P : A → Type 0) (xs ys : List A) → AllByRecursion P (xs ++ ys) → AllByRecursion P xs × AllByRecursion P ys
all_both P [] ys h = (tt, h)
all_both P (x ∷ xs) ys h = let rest = all_both P xs ys h.1 in ((h.0, rest.0), rest.1)

-- if each element passes a test or none does, the filter leaves all or none
kept : {A : Type 0} (p : A → Bool) (xs : List A) → AllByRecursion (λ x. p x ≡ true) xs → filter p xs ≡ xs
kept p [] h = refl
kept p (x ∷ xs) h = rw h.0 (ap (λ ys. x ∷ ys) (kept p xs h.1))

dropped : {A : Type 0} (p : A → Bool) (xs : List A) → AllByRecursion (λ x. p x ≡ false) xs → filter p xs ≡ []
dropped p [] h = refl
dropped p (x ∷ xs) h = rw h.0 (dropped p xs h.1)

module _ (tenants : List Tenant) (t : ℕ) where
  -- whether a row's repository is the tenant's
  abbrev pub is_line_of : Line → Bool
  is_line_of l = is_repo_of_tenant tenants t l.0.repo

  -- all of these are the tenant's steps, or none is
  abbrev Agree : Bool → List Step → Type 0
  Agree b steps = AllByRecursion (λ step. is_step_of tenants t step ≡ b) steps

  upload_steps : (r : Text) (n : ℕ) (g : Option ByteRange) (b : Text) (last : HandRecord → Result ℕ Refusal → Step) (f : ℕ → Answer) (answer : Answer) (steps : List Step)
      → ((h : HandRecord) (x : Result ℕ Refusal) → is_step_of tenants t (last h x) ≡ (h.key.0 == t)) → AreUploadSteps r n g b last f answer steps → AllByRecursion (HasOwnReply tenants) steps → Agree (is_repo_of_tenant tenants t r) steps
  upload_steps r n g b last f answer steps ends are told = elim are [
    | inl x ↦ subst (Agree (is_repo_of_tenant tenants t r)) (sym x.1) (refl, tt)
    | inr (inl x) ↦ subst (Agree (is_repo_of_tenant tenants t r)) (sym x.2) (refl, (ends (filled_hand x.0 b) x.1 ∙ owner x.0 (last (filled_hand x.0 b) x.1 ∷ []) x.2, tt))
    | inr (inr x) ↦ subst (Agree (is_repo_of_tenant tenants t r)) (sym x.2) (refl, (owner x.0 (PutBackCall x.0 x.1 ∷ []) x.2, tt))
  ]
    where
      owner : (hand : HandRecord) (rest : List Step) → steps ≡ TakeCall r n g (length b) (Ok hand) ∷ rest → (hand.key.0 == t) ≡ is_repo_of_tenant tenants t r
      owner hand rest is =
          let first : HasOwnReply tenants (TakeCall r n g (length b) (Ok hand)) = (subst (AllByRecursion (HasOwnReply tenants)) is told).0 in
          sym (ap (λ o. option_eq nat_eq o (Some t)) (taken_owner tenants r n g (length b) hand first))

  command_steps : (command : Command) (answer : Answer) (steps : List Step) → AreCommandSteps command answer steps → AllByRecursion (HasOwnReply tenants) steps → Agree (is_repo_of_tenant tenants t (repo_of command)) steps
  command_steps (Append r n g b) answer steps are told = upload_steps r n g b PutBackCall Received answer steps (λ h x. refl) are told
  command_steps (Close r n d g b) answer steps are told = upload_steps r n g b (λ h x. FinishCall h d x) Stored answer steps (λ h x. refl) are told
  command_steps command answer steps are told = subst (Agree (is_repo_of_tenant tenants t (repo_of command))) (sym are.1) (refl, tt)

  -- a row's steps are of the tenant of the row's repository
  spelled_agree : (row : RowView) (o : Result (Option Command) Refusal) (answer : Answer) (steps : List Step) → command_of row ≡ o → AreRowSteps o answer steps → AllByRecursion (HasOwnReply tenants) steps → Agree (is_repo_of_tenant tenants t row.repo) steps
  spelled_agree row (Ok (Some command)) answer steps spells are told =
      subst (λ r. Agree (is_repo_of_tenant tenants t r) steps) (repo_spelled row command spells) (command_steps command answer steps are told)
  spelled_agree row (Ok None) answer steps spells are told = absurd are
  spelled_agree row (Err e) answer steps spells are told = subst (Agree (is_repo_of_tenant tenants t row.repo)) (sym are.1) tt

  module _ (l : Line) (lines : List Line) (steps first rest : List Step) (are : AreRowSteps (command_of l.0) l.1 first) (answered : l.1 ≢ Refused Memory) (is : steps ≡ first ++ rest)
      (told : AllByRecursion (HasOwnReply tenants) first) (after : AreLineSteps (filter is_line_of lines) (filter (is_step_of tenants t) rest)) where
    agree : Agree (is_line_of l) first
    agree = spelled_agree l.0 (command_of l.0) l.1 first refl are told

    parts : (xs : List Step) → filter (is_step_of tenants t) first ≡ xs → filter (is_step_of tenants t) steps ≡ xs ++ filter (is_step_of tenants t) rest
    parts xs same = ap (filter (is_step_of tenants t)) is ∙ filter-append (is_step_of tenants t) first rest ∙ ap (λ ys. ys ++ filter (is_step_of tenants t) rest) same

    one_more : (b : Bool) → is_line_of l ≡ b → AreLineSteps (cond b (l ∷ filter is_line_of lines) (filter is_line_of lines)) (filter (is_step_of tenants t) steps)
    one_more true own = (first, filter (is_step_of tenants t) rest, are, answered, after, parts first (kept (is_step_of tenants t) first (subst (λ b. Agree b first) own agree)))
    one_more false other = subst (AreLineSteps (filter is_line_of lines)) (sym (parts [] (dropped (is_step_of tenants t) first (subst (λ b. Agree b first) other agree)))) after

  -- the tenant's steps are those of its rows
  pub tenant_steps : (lines : List Line) (steps : List Step) → AreLineSteps lines steps → AllByRecursion (HasOwnReply tenants) steps → AreLineSteps (filter is_line_of lines) (filter (is_step_of tenants t) steps)
  tenant_steps [] steps are told = ap (filter (is_step_of tenants t)) are
  tenant_steps (l ∷ lines) steps are told =
      let both = all_both (HasOwnReply tenants) are.0 are.1 (subst (AllByRecursion (HasOwnReply tenants)) are.5 told) in
      one_more l lines steps are.0 are.1 are.2 are.3 are.5 both.0 (tenant_steps lines are.1 are.4 both.1) (is_line_of l) refl
