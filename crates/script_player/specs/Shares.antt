-- The rows of each worker, and the order of the replies of several workers.
use Rattle.std.specs.Prelude.{◌≡◌, ℕ, ◌%◌, ◌==◌, ◌<◌, Bool, List, [], ◌∷◌, length, map, get_or, set, MatchOption, Option, Some, None}
use Rattle.std.specs.Option.{option_map}
use Rattle.std.specs.List.{filter, zip}
use Rattle.std.specs.declared.collections.VecDeque.{VecDeque}
use Rattle.store_api.specs.Answers.{Answer, answer_of, answers_of}
use Rattle.store_api.specs.declared.reply.Reply.{Reply}
use Rattle.script_player.specs.Rows.{RowView}

-- whether a row's lane belongs to this worker
abbrev pub is_own : ℕ → ℕ → RowView → Bool
is_own workers worker row = row.lane % workers == worker

-- the rows of a worker, in their order
abbrev pub own_rows : ℕ → ℕ → List RowView → List RowView
own_rows workers worker rows = filter (is_own workers worker) rows

-- the count of each worker is the number of its rows
abbrev pub CountsRows : ℕ → List RowView → List ℕ → Type 0
CountsRows workers rows counts = (w : ℕ) → w < workers → get_or counts w 0 ≡ length (own_rows workers w rows)

-- the answers at a worker's rows, in their order
abbrev pub own_answers : ℕ → ℕ → List RowView → List Answer → List Answer
own_answers workers worker rows answers = map (λ p. p.1) (filter (λ p. is_own workers worker p.0) (zip rows answers))

-- each row has one answer, and the answers at a worker's rows are the worker's in its order
pub record AreMergedByRow (workers : ℕ) (rows : List RowView) (of_worker : ℕ → List Answer) (answers : List Answer) : Type 0 where
  pub one_each : length answers ≡ length rows
  pub shares : (w : ℕ) → w < workers → of_worker w ≡ own_answers workers w rows answers

-- the first answer of a list, and the answers that follow from the rest; none if the list is empty
abbrev pub next_and_rest : List Answer → (List Answer → List Answer) → List Answer
next_and_rest [] follows = []
next_and_rest (answer ∷ rest) follows = answer ∷ follows rest

-- the answers of workers in the order of the rows: each row has the next answer of its worker's list
abbrev pub answers_by_row : ℕ → List RowView → List (List Answer) → List Answer
answers_by_row workers [] lists = []
answers_by_row workers (row ∷ rows) lists = next_and_rest (get_or lists (row.lane % workers) []) (λ rest. answers_by_row workers rows (set lists (row.lane % workers) rest))

-- the first answer of a worker's list is removed, if it has one
abbrev pub TakesFirst : List (List Answer) → List (List Answer) → ℕ → Option Answer → Type 0
TakesFirst old new worker None = get_or old worker [] ≡ []
TakesFirst old new worker (Some answer) = (rest : List Answer) × (get_or old worker [] ≡ answer ∷ rest) × (new ≡ set old worker rest)

-- the answers of each worker's queue of replies
abbrev pub queue_answers : {Z : Type 0} → List (VecDeque Reply Z) → List (List Answer)
queue_answers queues = map (λ q. answers_of q.items) queues

-- the answers of workers' queues in the order of the rows
abbrev pub queues_by_row : {Z : Type 0} → List RowView → List (VecDeque Reply Z) → List Answer
queues_by_row rows queues = answers_by_row (length queues) rows (queue_answers queues)

-- the first reply of a worker's queue is removed, if it has one
abbrev pub TakesReply : {Z : Type 0} → List (VecDeque Reply Z) → List (VecDeque Reply Z) → ℕ → Option Reply → Type 0
TakesReply old new worker reply = TakesFirst (queue_answers old) (queue_answers new) worker (option_map answer_of reply)

-- the first answer is removed, if there is one, and it is that of the reply
abbrev pub TakesNext : List Answer → Option Reply → List Answer → Type 0
TakesNext old reply new = MatchOption reply (old ≡ []) (λ r. old ≡ answer_of r ∷ new)
