-- Rows write the same text for each number of workers.
use Rattle.std.specs.Prelude.{◌≡◌, ◌<◌, ℕ, true, List, [], ◌∷◌, length}
use Rattle.std.specs.List.{AllByRecursion, Contains}
use Rattle.locked_book.specs.History.{steps_of}
use Rattle.store_model.specs.BookText.{book_text}
use Rattle.store_model.specs.Catalog.{Catalog, Tenant, is_repo_of_tenant, opening, ContentRules}
use Rattle.store_model.specs.Histories.{AreSteps, State, Step, initial_state}
use Rattle.store_model.specs.HistoryIsolation.{IsCollisionFreeHistory, IsOwnReply}
use Rattle.store_api.specs.Answers.{Answer}
use Rattle.store_api.specs.Commands.{is_command}
use Rattle.script_player.specs.Rows.{RowView}
use Rattle.blob_store.specs.Workers.{IsInterleaved}

-- ---- the premises

-- no two rows of different lanes name repositories of one tenant
abbrev pub ShareNoTenant : List Tenant → List RowView → Type 0
ShareNoTenant tenants rows = (t : ℕ) (one two : RowView) → Contains rows one → Contains rows two →
    is_repo_of_tenant tenants t one.repo ≡ true → is_repo_of_tenant tenants t two.repo ≡ true → one.lane ≡ two.lane

-- no row is about a lease, and none sweeps
abbrev pub NeitherLeaseNorSweep : List RowView → Type 0
NeitherLeaseNorSweep rows = AllByRecursion (λ row. is_command row.verb ≡ true) rows

-- no reply of these steps is one that other tenants can cause
abbrev pub AreAllOwnReplies : (s : State) (steps : List Step) (s' : State) → AreSteps s steps s' → Type 0
AreAllOwnReplies s [] s' run = Unit {0}
AreAllOwnReplies s (step ∷ steps) s' run = IsOwnReply s step × AreAllOwnReplies run.0 steps s' run.2

-- the history has no reply that other tenants can cause, and no digest with two contents
pub record MeetsNoLimit (tenants : List Tenant) (slots : ℕ) (contents : ContentRules) (steps : List Step) (s : State) : Type 0 where
  pub fair : IsCollisionFreeHistory tenants slots contents steps s
  pub own : AreAllOwnReplies (initial_state (opening tenants slots contents)) steps s fair.run

-- ---- the law

-- some workers played the rows on a store of these tenants and limits, with these replies and this last catalog, and met no shared limit
pub record PlayedWithinLimits (tenants : List Tenant) (slots : ℕ) (contents : ContentRules) (workers : ℕ) (rows : List RowView) (answers : List Answer) (last : Catalog) : Type 0 where
  pub some : 0 < workers
  pub one_each : length answers ≡ length rows
  pub run : IsInterleaved (opening tenants slots contents) workers rows answers last
  pub free : MeetsNoLimit tenants slots contents (steps_of run.order) run.state

-- the replies are the same, and the books have one text
pub record WriteTheSame (answers answers' : List Answer) (last last' : Catalog) : Type 0 where
  pub replies : answers ≡ answers'
  pub book : book_text last ≡ book_text last'

-- rows that neither lease nor sweep, and whose lanes share no tenant, write the same text for each number and order of workers
abbrev pub WorkersWriteTheSame : Type 0
WorkersWriteTheSame = (tenants : List Tenant) (slots : ℕ) (contents : ContentRules) (rows : List RowView) → ShareNoTenant tenants rows → NeitherLeaseNorSweep rows →
    (n m : ℕ) (answers answers' : List Answer) (last last' : Catalog) → PlayedWithinLimits tenants slots contents n rows answers last →
    PlayedWithinLimits tenants slots contents m rows answers' last' → WriteTheSame answers answers' last last'
