-- Which rows workers have played, with which replies.
use Rattle.std.specs.Prelude.{◌≡◌, ◌≤◌, ◌<◌, ℕ, List, [], length, get_or}
use Rattle.store_model.specs.Amounts.{zero_amounts}
use Rattle.store_model.specs.Catalog.{Catalog}
use Rattle.store_model.specs.Histories.{LeadsTo, State, Step}
use Rattle.ghost_log.specs.declared.view.Entry.{Entry}
use Rattle.ghost_log.specs.Entries.{events_by}
use Rattle.locked_book.specs.History.{DeskView, IsPart, steps_of}
use Rattle.blob_store.specs.StoreBackends.{Work, WorkActs, work_of}
use Rattle.locked_book.specs.declared.desk.Settled.{Settled}
use Rattle.store_api.specs.Answers.{Answer}
use Rattle.script_player.specs.Counts.{counted_abandons, counted_bytes, counted_closed, counted_commands}
use Rattle.script_player.specs.Leases.{Leases, no_leases}
use Rattle.script_player.specs.Plays.{Plays}
use Rattle.script_player.specs.Rows.{RowView}
use Rattle.script_player.specs.Shares.{AreMergedByRow, own_answers, own_rows}

-- `P` holds of each place of a list and the element there
abbrev pub AllAt : {X : Type 0} → (ℕ → X → Type 0) → List X → Type 0
AllAt {X} P xs = (k : ℕ) (d : X) → k < length xs → P k (get_or xs k d)

-- no amounts and no steps
abbrev pub zero_work : Work
zero_work = record { amounts = zero_amounts; steps = [] }

-- a worker's rows were played in their order with these replies, from no lease on, and gave its desk these amounts and steps
abbrev pub IsPlayed : ℕ → ℕ → List RowView → Work → List Answer → Type 0
IsPlayed workers worker rows work answers = (left : Leases) × Plays WorkActs (zero_work, no_leases) (own_rows workers worker rows) answers (work, left)

-- the worker's desk has the amounts and steps of its rows, and these are its only steps in a legal history of the store
pub record HasPlayed (C : Catalog) (workers worker : ℕ) (rows : List RowView) (desk : DeskView) (answers : List Answer) : Type 0 where
  pub played : IsPlayed workers worker rows (work_of desk) answers
  pub part : IsPart C desk.trace

-- a desk without amounts, without steps, and with nothing seen
abbrev pub empty_desk : DeskView
empty_desk = record { amounts = zero_amounts; trace = record { number = 0; seen = []; own = []; durable = [] } }

-- each worker has played its rows, with its desk and its replies
pub record EachHasReplies (C : Catalog) (workers : ℕ) (rows : List RowView) (desks : List DeskView) (lists : List (List Answer)) : Type 0 where
  pub as_many : length desks ≡ length lists
  pub each : AllAt (λ w answers. HasPlayed C workers w rows (get_or desks w empty_desk) answers) lists

-- the workers of these desks have played all rows, with these replies in the order of the rows
pub record HavePlayed (C : Catalog) (workers : ℕ) (rows : List RowView) (desks : List DeskView) (answers : List Answer) : Type 0 where
  pub size : length desks ≡ workers
  pub lists : List (List Answer)
  pub played : EachHasReplies C workers rows desks lists
  pub together : AreMergedByRow workers rows (λ w. get_or lists w []) answers

-- one legal history leads from the opening catalog to the last one; its steps are those of the workers' rows, with these replies
pub record IsInterleaved (C : Catalog) (workers : ℕ) (rows : List RowView) (answers : List Answer) (last : Catalog) : Type 0 where
  pub order : List (Entry Step)
  pub state : State
  pub legal : LeadsTo C (steps_of order) state
  pub left : state.catalog ≡ last
  pub lanes : (w : ℕ) → w < workers → (work : Work) × (work.steps ≡ events_by w order) × IsPlayed workers w rows work (own_answers workers w rows answers)
  pub others : (n : ℕ) → workers ≤ n → events_by n order ≡ []

-- the settled amounts are the accepted commands, the bytes of their chunks and the closed sizes; nothing is abandoned if no row abandons a session
pub record IsSettledFor (rows : List RowView) (answers : List Answer) (settled : Settled) : Type 0 where
  pub commands : settled.commands ≡ counted_commands rows answers
  pub received : settled.received ≡ counted_bytes rows answers
  pub closed : settled.closed ≡ counted_closed rows answers
  pub abandoned : counted_abandons rows answers ≡ 0 → settled.abandoned ≡ 0
