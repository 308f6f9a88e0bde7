-- The values that workers begin and end with.
use Rattle.std.specs.Prelude.{◌≡◌, ◌≤◌, ◌+◌, ℕ, List, [], length, true, vec_len, vec_capacity}
use Rattle.std.specs.Global.{Vec}
use Rattle.std.specs.declared.thread.PromisedHandle.{PromisedHandle}
use Rattle.store_model.specs.Catalog.{Catalog}
use Rattle.blob_store.specs.StoreBackends.{work_of}
use Rattle.blob_store.specs.Workers.{AllAt, HasPlayed, zero_work}
use Rattle.blob_store.specs.declared.playing.Room.{Room}
use Rattle.blob_store.specs.declared.workers.Job.{Job}
use Rattle.blob_store.specs.declared.workers.WorkerResult.{WorkerResult}
use Rattle.blob_store.specs.declared.workers.PlaysRows.{PlaysRows}
use Rattle.blob_store.specs.declared.workers.Started.{Started}
use Rattle.store_api.specs.Answers.{answers_of}
use Rattle.script_player.specs.Rows.{RowView}
use Rattle.script_player.specs.Shares.{own_rows}
use Rattle.store_api.specs.declared.reply.Reply.{Reply}
use Rattle.script_player.specs.declared.worker.Worker.{Worker}

-- a vector is empty, with room for `n` elements
abbrev pub IsRoomFor : {X : Type 0} → ℕ → Vec X → Type 0
IsRoomFor n items = (vec_len items ≡ 0) × (n ≤ vec_capacity items)

-- a vector is empty, with room for one reply to each row of a worker and for no more
abbrev pub IsRoomOfWorker : ℕ → List RowView → ℕ → Vec Reply → Type 0
IsRoomOfWorker workers rows worker list =
    (list.items ≡ []) × (vec_capacity list ≡ length (own_rows workers worker rows))

-- each worker has such a vector
abbrev pub IsRoomOfEach : ℕ → List RowView → Vec (Vec Reply) → Type 0
IsRoomOfEach workers rows lists =
    (vec_len lists ≡ workers) × AllAt (IsRoomOfWorker workers rows) lists.items

-- room for the values that workers begin and end with
pub record HasRoom {S : Type 0} (workers : ℕ) (rows : List RowView) (room : Room S) : Type 0 where
  pub lists : IsRoomOfEach workers rows room.lists
  pub queues : IsRoomFor workers room.queues
  pub jobs : IsRoomFor workers room.jobs
  pub outcomes : IsRoomFor workers room.outcomes

-- a job's desk is fresh, and its vector is empty with room for the replies to its worker's rows
pub record IsReady {S : Type 0} (rows : List RowView) (job : Job S) : Type 0 where
  pub fresh : work_of job.desk ≡ zero_work
  pub empty : job.replies.items ≡ []
  pub fits : length (own_rows job.worker.workers job.worker.number rows) ≤ vec_capacity job.replies

-- the job at a place of a list, which ends with the first worker's, is its worker's and ready
pub record IsReadyAt {S : Type 0} (workers : ℕ) (rows : List RowView) (place : ℕ) (job : Job S)
    : Type 0 where
  pub among : job.worker.workers ≡ workers
  pub turn : job.worker.number + place + 1 ≡ workers
  pub ready : IsReady rows job

-- the jobs of all workers, the last worker's first, are ready
abbrev pub AreReady : {S : Type 0} → List RowView → Vec (Job S) → Type 0
AreReady rows jobs = AllAt (IsReadyAt (vec_len jobs) rows) jobs.items

-- if the outcome is complete, the worker has played its rows with the outcome's replies
abbrev pub HasPlayedIfComplete : {S : Type 0} → Catalog → ℕ → ℕ → List RowView → WorkerResult S → Type 0
HasPlayedIfComplete C workers worker rows outcome =
    outcome.completed ≡ true
    → HasPlayed C workers worker rows outcome.desk (answers_of outcome.replies.items)

-- a worker keeps its promise with this outcome
abbrev pub KeepsPromise : {S : Type 0} → Catalog → List RowView → Worker → WorkerResult S → Type 0
KeepsPromise C rows worker outcome = HasPlayedIfComplete C worker.workers worker.number rows outcome

-- the outcome at a place of a list, which ends with the first worker's, is its worker's
abbrev pub IsWorkerResultAt : {S : Type 0} → Catalog → ℕ → List RowView → ℕ → WorkerResult S → Type 0
IsWorkerResultAt C workers rows place outcome =
    (w : ℕ) → w + place + 1 ≡ workers → HasPlayedIfComplete C workers w rows outcome

-- the outcomes of all workers, the last worker's first
pub record AreWorkerResults {S : Type 0} (C : Catalog) (workers : ℕ) (rows : List RowView)
    (outcomes : Vec (WorkerResult S)) : Type 0 where
  pub len : vec_len outcomes ≡ workers
  pub each : AllAt (IsWorkerResultAt C workers rows) outcomes.items

-- the thread at a place of a list, which begins with the second worker's, plays its worker's rows
pub record IsThreadOfWorkerAt {S L : Type 0} (workers : ℕ) (rows : L) (place : ℕ)
    (child : PromisedHandle (WorkerResult S) (PlaysRows L)) : Type 0 where
  pub of_rows : child.promise.rows.now ≡ rows
  pub among : child.promise.worker.workers ≡ workers
  pub turn : child.promise.worker.number ≡ place + 1

-- each worker but the first has a thread, or a result if its thread could not be started
pub record AreStarted {S L : Type 0} (C : Catalog) (lines : L → List RowView) (workers : ℕ)
    (rows : L) (started : Started S L) : Type 0 where
  pub all : vec_len started.outcomes + vec_len started.children + 1 ≡ workers
  pub children : AllAt (IsThreadOfWorkerAt workers rows) started.children.items
  pub outcomes : AllAt (IsWorkerResultAt C workers (lines rows)) started.outcomes.items
  pub room : workers ≤ vec_capacity started.outcomes
