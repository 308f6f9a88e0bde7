-- How a run ends.
use Rattle.std.specs.Prelude.{◌≡◌, ◌≢◌, ◌⊎◌, ◌≤◌, ℕ, List, ◌++◌, Option, IfSome, length, true}
use Rattle.std.specs.Io.KnownBytes.{Appends, Consumes}
use Rattle.spec_lib.specs.Texts.{Text}
use Rattle.blob_digest.specs.Tenants.{Tenant}
use Rattle.locked_book.specs.Names.{setting_of}
use Rattle.blob_store.specs.Workers.{IsInterleaved}
use Rattle.blobctl.specs.Inputs.{IsTooLong, max_script}
use Rattle.blobctl.specs.Played.{Played}
use Rattle.store_api.specs.Answers.{Answer}
use Rattle.script_player.specs.Replies.{replies_text}
use Rattle.script_player.specs.Rows.{RowView}
use Rattle.store_model.specs.Catalog.{Catalog, in_memory}
use Rattle.store_model.specs.Invariant.{Sound}
use Rattle.store_book.specs.Openings.{OpensCatalog, tenants_shown}
use Rattle.store_model.specs.BookText.{book_text}
use Rattle.blobctl.specs.Script.{AreRowsOf, IsFirstBad}
use Rattle.watched_reader.specs.Watching.{HasNotFailed, has_failed, inner_of}
use Rattle.blobctl.specs.declared.options.Options.{Options}
use Rattle.blobctl.specs.declared.fault.Fault.{Fault}
use Rattle.blobctl.specs.declared.fault.Fault.TheVariants.{BadRow, Read, Write, Memory}
use Rattle.watched_reader.specs.declared.watched.Watched.{Watched}

-- the reader was read to its end, no read failed, and it gave these bytes, at most as many as a script may have
pub record IsReadWhole {R : Type 0} (remaining : R → Option (List ℕ)) (old new : Watched R) (script : Text) : Type 0 where
  pub taken : Consumes (remaining (inner_of old)) (remaining (inner_of new)) script
  pub whole : IfSome (remaining (inner_of old)) (λ bytes. script ≡ bytes)
  pub fits : length script ≤ max_script
  pub unfailed : HasNotFailed old new

-- the run has read a script and has written the text of playing it
pub record RunSucceeds {R : Type 0} (remaining : R → Option (List ℕ)) (old new : Watched R) (held holds : Option (List ℕ)) (tenants : List Tenant) (slots max_blob : ℕ) : Type 0 where
  pub script : Text
  pub read : IsReadWhole remaining old new script
  pub text : Text
  pub written : Appends held holds text
  pub played : Played tenants slots max_blob script text

-- workers that play the rows on a store with these tenants and limits write this text: the replies in the order of the rows, and then the book;
-- one legal history of the rows leads to this sound book, which has the opening catalog's tenants and limits
pub record PlayedByWorkers (workers : ℕ) (tenants : List Tenant) (slots max_blob : ℕ) (rows : List RowView) (text : Text) : Type 0 where
  pub answers : List Answer
  pub one_each : length answers ≡ length rows
  pub first : Catalog
  pub opened : OpensCatalog tenants slots (in_memory max_blob) first
  pub last : Catalog
  pub run : IsInterleaved first workers rows answers last
  pub sound : Sound last
  pub same : setting_of last ≡ setting_of first
  pub written : text ≡ replies_text answers ++ book_text last

-- the run has read a script, and workers have written this text for its rows
pub record WorkersRunSucceeds {R : Type 0} (remaining : R → Option (List ℕ)) (old new : Watched R) (held holds : Option (List ℕ)) (workers : ℕ) (tenants : List Tenant) (slots max_blob : ℕ) : Type 0 where
  pub script : Text
  pub read : IsReadWhole remaining old new script
  pub rows : List RowView
  pub all : AreRowsOf script rows
  pub text : Text
  pub written : Appends held holds text
  pub played : PlayedByWorkers workers tenants slots max_blob rows text

-- why a run stops early: the first bad row of a whole script; a failed read or a too long script;
-- a write, after a whole script of good rows; or out of memory, without a failed read
abbrev pub Explains : {R : Type 0} → (R → Option (List ℕ)) → Watched R → Watched R → Fault → Type 0
Explains remaining old new (BadRow n) = (script : Text) × IsReadWhole remaining old new script × IsFirstBad script n
Explains remaining old new Read = (has_failed new ≡ true) ⊎ IsTooLong (remaining (inner_of old)) (remaining (inner_of new))
Explains remaining old new Write = (script : Text) × IsReadWhole remaining old new script × (rows : List RowView) × AreRowsOf script rows
Explains remaining old new Memory = HasNotFailed old new

-- why reading a script and its rows failed, which is never a write fault
abbrev pub ExplainsReading : {R : Type 0} → (R → Option (List ℕ)) → Watched R → Watched R → Fault → Type 0
ExplainsReading remaining old new e = (e ≢ Write) × Explains remaining old new e

-- a script was read whole, and these are its rows
abbrev pub ReadsRows : {R : Type 0} → (R → Option (List ℕ)) → Watched R → Watched R → List RowView → Type 0
ReadsRows remaining old new rows = (script : Text) × IsReadWhole remaining old new script × AreRowsOf script rows

-- a run by one worker with these options succeeds
abbrev pub OneSucceeds : {R W : Type 0} → (R → Option (List ℕ)) → Watched R → Watched R → (W → Option (List ℕ)) → W → W → Options → Type 0
OneSucceeds remaining old new contents before after options =
    RunSucceeds remaining old new (contents before) (contents after) (tenants_shown options.store.tenants.items) options.store.slots options.store.max_blob

-- a run by workers with these options succeeds
abbrev pub AllSucceed : {R W : Type 0} → (R → Option (List ℕ)) → Watched R → Watched R → (W → Option (List ℕ)) → W → W → Options → Type 0
AllSucceed remaining old new contents before after options =
    WorkersRunSucceeds remaining old new (contents before) (contents after) options.workers (tenants_shown options.store.tenants.items) options.store.slots options.store.max_blob
