-- A script writes the same text for each number of workers.
use Rattle.std.specs.Prelude.{◌≡◌, ◌<◌, ℕ, List}
use Rattle.spec_lib.specs.Texts.{Text}
use Rattle.blob_digest.specs.Tenants.{Tenant}
use Rattle.store_model.specs.Catalog.{Catalog, in_memory}
use Rattle.locked_book.specs.History.{steps_of}
use Rattle.blob_store.specs.OneText.{MeetsNoLimit, NeitherLeaseNorSweep, ShareNoTenant}
use Rattle.blob_store.specs.Workers.{IsInterleaved}
use Rattle.store_api.specs.Answers.{Answer}
use Rattle.script_player.specs.Rows.{RowView}
use Rattle.blobctl.specs.Ending.{PlayedByWorkers}
use Rattle.blobctl.specs.Played.{Played}
use Rattle.blobctl.specs.Script.{AreRowsOf}

-- the run met no shared limit: no reply is one that other tenants can cause, and no digest has two contents
abbrev pub MeetNoLimit : (slots max_blob : ℕ) → {first : Catalog} {workers : ℕ} {rows : List RowView} {answers : List Answer} {last : Catalog} → IsInterleaved first workers rows answers last → Type 0
MeetNoLimit slots max_blob {first = C} run = MeetsNoLimit C.tenants slots (in_memory max_blob) (steps_of run.order) run.state

-- the rows neither lease nor sweep, and no two lanes share a tenant
pub record AreApart (tenants : List Tenant) (rows : List RowView) : Type 0 where
  pub share : ShareNoTenant tenants rows
  pub neither : NeitherLeaseNorSweep rows

-- the rows of one worker that neither lease nor sweep are one history with no other steps
abbrev pub OneWorkerHasHistory : Type 0
OneWorkerHasHistory = (tenants : List Tenant) (slots max_blob : ℕ) (script text : Text) (one : Played tenants slots max_blob script text) →
    NeitherLeaseNorSweep one.rows → IsInterleaved one.first 1 one.rows one.answers one.last

-- one worker writes the text for a script that several workers write
abbrev pub OneWritesAsSeveral : Type 0
OneWritesAsSeveral = (tenants : List Tenant) (slots max_blob workers : ℕ) (script text other : Text) (rows : List RowView) (all : AreRowsOf script rows)
    (one : Played tenants slots max_blob script text) (several : PlayedByWorkers workers tenants slots max_blob rows other) → 0 < workers → AreApart several.first.tenants rows →
    (alone : IsInterleaved one.first 1 one.rows one.answers one.last) → MeetNoLimit slots max_blob alone →
    MeetNoLimit slots max_blob several.run → text ≡ other

-- any two runs of workers write one text for the same rows, with the same number of workers or different ones
abbrev pub WorkersWriteOneText : Type 0
WorkersWriteOneText = (tenants : List Tenant) (slots max_blob n m : ℕ) (text other : Text) (rows : List RowView) (one : PlayedByWorkers n tenants slots max_blob rows text)
    (two : PlayedByWorkers m tenants slots max_blob rows other) → 0 < n → 0 < m → AreApart one.first.tenants rows →
    MeetNoLimit slots max_blob one.run → MeetNoLimit slots max_blob two.run → text ≡ other
