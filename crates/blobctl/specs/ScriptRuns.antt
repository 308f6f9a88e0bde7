-- The replies and the book of a script are those of a run of commands and sweeps, so the book depends only on each tenant's rows.
use Rattle.std.specs.Prelude.{◌≡◌, ◌≢◌, ◌⊎◌, ℕ, ◌&&◌, false, if◌then◌else◌, List, [], ◌∷◌, Some, Result, Ok, Err, length}
use Rattle.std.specs.List.{AllByRecursion}
use Rattle.spec_lib.specs.Texts.{Text}
use Rattle.blob_digest.specs.Tenants.{Tenant, is_repo_of_tenant}
use Rattle.blob_digest.specs.declared.refusal.Refusal.{Refusal}
use Rattle.store_model.specs.Noninterference.{IsUnaffectedByOthers, NoCollision, uploads_of_run}
use Rattle.store_model.specs.BookText.{book_text}
use Rattle.store_model.specs.Runs as runs
use Rattle.store_api.specs.Answers.{Answer, Leased, NameTaken, Swept, Refused}
use Rattle.store_api.specs.Commands.{Command, Lease, uses_repo}
use Rattle.script_player.specs.RowCommands.{command_of}
use Rattle.script_player.specs.Rows.{RowView}
use Rattle.store_api.specs.declared.verb.Verb.TheVariants as verb
use Rattle.blobctl.specs.Played.{Played}
use Rattle.store_api.specs.CommandAnswers.{command_answer}

-- ---- the events of rows

-- the reply of a row to a command's reply: for a lease, the size of its blob
abbrev pub shown_answer : Command → runs.Answer → Answer
shown_answer (Lease repo digest) (runs.Bytes bytes) = Leased (length bytes)
shown_answer command answer = command_answer command answer

abbrev pub shown_reply : Command → Result runs.Answer Refusal → Answer
shown_reply command (Ok answer) = shown_answer command answer
shown_reply command (Err refusal) = Refused refusal

-- a row fails because a field is malformed
abbrev pub HasMalformedField : RowView → Answer → Type 0
HasMalformedField row answer = (refusal : Refusal) × (command_of row ≡ Err refusal) × (answer ≡ Refused refusal)

-- a row is no event: a field is malformed, the name of its lease is taken, or it uses a lease that the lane has
abbrev pub IsNoEvent : RowView → Answer → Type 0
IsNoEvent row answer = HasMalformedField row answer ⊎ ((row.verb ≡ verb.Lease) × (answer ≡ NameTaken)) ⊎ ((uses_repo row.verb ≡ false) × (row.verb ≢ verb.Sweep))

-- a row with its reply is this event: its command with the reply, or a sweep with its counts, which a script makes at once
abbrev pub IsEvent : RowView → Answer → runs.Event → Type 0
IsEvent row answer (runs.CommandEvent command reply) = (command_of row ≡ Ok (Some command)) × (answer ≡ shown_reply command reply)
IsEvent row answer (runs.SweepEvent swept) = (row.verb ≡ verb.Sweep) × (answer ≡ Swept swept)
IsEvent row answer (runs.SweepPartEvent swept) = ⊥

-- the events of rows with these replies, in their order
abbrev pub AreEventsOf : List RowView → List Answer → List runs.Event → Type 0
AreEventsOf [] [] events = events ≡ []
AreEventsOf (row ∷ rows) (answer ∷ answers) events =
    (IsNoEvent row answer × AreEventsOf rows answers events)
    ⊎ ((event : runs.Event) × (rest : List runs.Event) × (events ≡ event ∷ rest) × IsEvent row answer event × AreEventsOf rows answers rest)
AreEventsOf rows answers events = ⊥

-- the rows and replies of a script are these events, which lead from its first catalog to its last
pub record IsRunOf {tenants : List Tenant} {slots max_blob : ℕ} {script text : Text} (one : Played tenants slots max_blob script text) (events : List runs.Event) : Type 0 where
  pub told : AreEventsOf one.rows one.answers events
  pub run : runs.IsRun one.first events one.last

-- each played script is a run of its commands and sweeps
abbrev pub ScriptsAreRuns : Type 0
ScriptsAreRuns = (tenants : List Tenant) (slots max_blob : ℕ) (script text : Text) (one : Played tenants slots max_blob script text) → (events : List runs.Event) × IsRunOf one events

-- ---- tenants

-- the rows that name a tenant's repository first
abbrev pub rows_of : List Tenant → ℕ → List RowView → List RowView
rows_of tenants t [] = []
rows_of tenants t (row ∷ rows) = if uses_repo row.verb && is_repo_of_tenant tenants t row.repo then row ∷ rows_of tenants t rows else rows_of tenants t rows

-- no two closes supply different contents with one digest, and no reply is one that other tenants' rows can cause:
-- no slot is free, or the name is taken
pub record IsUndisturbed {tenants : List Tenant} {slots max_blob : ℕ} {script text : Text} (one : Played tenants slots max_blob script text) : Type 0 where
  pub events : List runs.Event
  pub is_run : IsRunOf one events
  pub no_collision : NoCollision (uploads_of_run events one.first one.last is_run.run)
  pub uncrowded : AllByRecursion IsUnaffectedByOthers events
  pub unnamed : AllByRecursion (λ answer. answer ≢ NameTaken) one.answers

-- two scripts with the same rows in the same order for each tenant leave books of one text,
-- for each order of different tenants' rows and of sweeps
abbrev pub BooksFollowRows : Type 0
BooksFollowRows = (tenants : List Tenant) (slots max_blob : ℕ) (script text other written : Text) (one : Played tenants slots max_blob script text) (two : Played tenants slots max_blob other written) →
    IsUndisturbed one → IsUndisturbed two → ((t : ℕ) → rows_of one.first.tenants t one.rows ≡ rows_of one.first.tenants t two.rows) → book_text one.last ≡ book_text two.last
