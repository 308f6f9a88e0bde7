-- The backlog of a store, and what it records.
use Rattle.std.specs.Prelude.{◌≡◌, ℕ, true, List}
use Rattle.content_files.specs.Chunks.{chunk_notes}
use Rattle.spec_lib.specs.Texts.{Text}
use Rattle.durable_log.specs.Views.{BacklogView}
use Rattle.store_model.specs.Histories.{Step}
use Rattle.locked_book.specs.Logging.{chunk_bytes, recorded_bytes, seal_bytes}
use Rattle.locked_book.specs.Names.{StoreNames}
use Rattle.locked_book.specs.declared.policy.LogPolicy.{LogPolicy}

-- these bytes are what the log of a store records of a step
abbrev pub IsRecord : StoreNames → List ℕ → Step → Type 0
IsRecord names bytes step = bytes ≡ recorded_bytes names.policy names.longest step

-- if the log records, these bytes are what it records of a step
abbrev pub IsRecordOf : StoreNames → BacklogView Step → List ℕ → Step → Type 0
IsRecordOf names backlog bytes step = backlog.pending.recording ≡ true → IsRecord names bytes step

-- these bytes are what the log records of each chunk with these notes, whose content lies in a file
abbrev pub RecordsNotedChunk : LogPolicy → Text → ℕ → List ℕ → List ℕ → Type 0
RecordsNotedChunk p tenant number notes bytes = (chunk : Text) → chunk_notes chunk ≡ notes → bytes ≡ chunk_bytes p true tenant number chunk

-- these bytes are what the log records of each close whose last chunk has these notes, and whose content lies in a file
abbrev pub RecordsNotedSeal : LogPolicy → Text → ℕ → Text → List ℕ → List ℕ → Type 0
RecordsNotedSeal p tenant number digest notes bytes = (last : Text) → chunk_notes last ≡ notes → bytes ≡ seal_bytes p true tenant number digest last
