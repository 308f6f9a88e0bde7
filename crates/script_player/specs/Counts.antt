-- The amounts of the accepted commands of a script.
use Rattle.std.specs.Prelude.{ℕ, List, Bool, true, false, if◌then◌else◌, length, Option, Some, None, Result, Ok, Err}
use Rattle.std.specs.List.{sum_by, zip}
use Rattle.blob_digest.specs.declared.refusal.Refusal.{Refusal}
use Rattle.store_api.specs.Answers.{Answer, NoLease, NameTaken, Refused, Stored}
use Rattle.store_api.specs.Commands.{Command, Abandon, Append, Close, StoreRequest, Calls}
use Rattle.script_player.specs.RowCommands.{command_of}
use Rattle.script_player.specs.Rows.{RowView}

-- whether an answer accepts the request
abbrev pub is_accepted : Answer → Bool
is_accepted NoLease = false
is_accepted NameTaken = false
is_accepted (Refused refusal) = false
is_accepted answer = true

-- ---- the amounts of a command

-- the number of bytes of its chunk
abbrev pub chunk_size : Command → ℕ
chunk_size (Append repo number range bytes) = length bytes
chunk_size (Close repo number digest range bytes) = length bytes
chunk_size command = 0

-- the size of a stored blob, or 0 for another answer
abbrev pub stored_size : Answer → ℕ
stored_size (Stored size) = size
stored_size answer = 0

-- the size of the blob that a close stored, by its answer
abbrev pub closed_size : Command → Answer → ℕ
closed_size (Close repo number digest range bytes) answer = stored_size answer
closed_size command answer = 0

-- 1 for a command that abandons a session
abbrev pub abandon_count : Command → ℕ
abandon_count (Abandon repo number) = 1
abandon_count command = 0

-- the value of an accepted command by its answer, or 0 for another request
abbrev pub request_amount : (Command → Answer → ℕ) → StoreRequest → Answer → ℕ
request_amount value (Calls command) answer = if is_accepted answer then value command answer else 0
request_amount value request answer = 0

-- ---- the amounts of rows

-- the amount of the command that a row spells, or 0 if it spells none
abbrev pub spelled_amount : (Command → Answer → ℕ) → Result (Option Command) Refusal → Answer → ℕ
spelled_amount value (Ok (Some command)) answer = request_amount value (Calls command) answer
spelled_amount value (Ok None) answer = 0
spelled_amount value (Err refusal) answer = 0

-- the amount of a row with its answer
abbrev pub row_amount : (Command → Answer → ℕ) → RowView × Answer → ℕ
row_amount value p = spelled_amount value (command_of p.0) p.1

-- the sum of the amounts of rows with their answers
abbrev pub rows_amount : (Command → Answer → ℕ) → List RowView → List Answer → ℕ
rows_amount value rows answers = sum_by (row_amount value) (zip rows answers)

-- the number of accepted commands of the store
abbrev pub counted_commands : List RowView → List Answer → ℕ
counted_commands rows answers = rows_amount (λ _ _. 1) rows answers

-- the total length of the chunks of accepted rows in bytes
abbrev pub counted_bytes : List RowView → List Answer → ℕ
counted_bytes rows answers = rows_amount (λ command _. chunk_size command) rows answers

-- the total size of the blobs that accepted closes stored
abbrev pub counted_closed : List RowView → List Answer → ℕ
counted_closed rows answers = rows_amount closed_size rows answers

-- the number of sessions that accepted rows abandoned
abbrev pub counted_abandons : List RowView → List Answer → ℕ
counted_abandons rows answers = rows_amount (λ command _. abandon_count command) rows answers
