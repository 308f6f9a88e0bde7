-- The queries of a connection, and their outcomes.
use Rattle.std.specs.Prelude.{◌≡◌, ◌==◌, ℕ, if◌then◌else◌, Bool, true, Option, Some, None, Result, Ok, Err}
use Rattle.blob_digest.specs.declared.refusal.Refusal.{Refusal}
use Rattle.wire_format.specs.Frames.{digest_of, repo_of}
use Rattle.wire_format.specs.declared.request.Head.{Head}
use Rattle.wire_format.specs.declared.request.RequestFrame.{RequestFrame}
use Rattle.spec_lib.specs.Texts.{Text}
use Rattle.store_api.specs.Answers.{Refused}
use Rattle.store_api.specs.Commands.{digest_in, repo_in}
use Rattle.store_api.specs.declared.query.Query.{Query}
use Rattle.store_api.specs.declared.query.Query.TheVariants.{Stat, StatManifest, FreeSlots, SyncCount, Usage, SlotUse, RepoCount}
use Rattle.store_model.specs.Catalog.{Catalog}
use Rattle.store_model.specs.Queries as queries
use Rattle.store_model.specs.declared.slot_use.SlotUse.{SlotUse as SlotUseView}
use Rattle.store_model.specs.declared.usage.Usage.{Usage as UsageView}
use Rattle.wire_server.specs.Outcomes.{RequestResult, Answered, QueryNumbers, NoCommand}

-- ---- the query of a request

-- the query of a repository and a digest, or the refusal of the first of the two that spells nothing
abbrev pub blob_query : (Text → Text → Query) → Result Text Refusal → Result Text Refusal → Result (Option Query) Refusal
blob_query query (Ok repo) (Ok digest) = Ok (Some (query repo digest))
blob_query query (Ok repo) (Err refusal) = Err refusal
blob_query query (Err refusal) digest = Err refusal

-- the query of a repository, or the refusal of one that spells nothing
abbrev pub repo_query : (Text → Query) → Result Text Refusal → Result (Option Query) Refusal
repo_query query (Ok repo) = Ok (Some (query repo))
repo_query query (Err refusal) = Err refusal

-- the query that a head and its payload spell, or none if no query has the number of the first byte
abbrev pub request_query : Head → Text → Result (Option Query) Refusal
request_query h payload =
    if h.command == 17 then blob_query Stat (repo_in (repo_of h payload)) (digest_in (digest_of h payload))
    else if h.command == 18 then blob_query StatManifest (repo_in (repo_of h payload)) (digest_in (digest_of h payload))
    else if h.command == 19 then Ok (Some FreeSlots)
    else if h.command == 20 then repo_query Usage (repo_in (repo_of h payload))
    else if h.command == 23 then repo_query SlotUse (repo_in (repo_of h payload))
    else if h.command == 24 then repo_query RepoCount (repo_in (repo_of h payload))
    else if h.command == 25 then Ok (Some SyncCount)
    else Ok None

-- the query that a request frame spells
abbrev pub query_in : RequestFrame → Result (Option Query) Refusal
query_in request = request_query request.head request.payload.now

-- whether the number is that of a query with a field to spell
abbrev pub query_has_fields : ℕ → Bool
query_has_fields n = if n == 17 then true else if n == 18 then true else if n == 20 then true else if n == 23 then true else n == 24

-- ---- the result of a query

-- the outcome that reports one number
abbrev pub number_outcome : Result ℕ Refusal → RequestResult
number_outcome (Ok number) = QueryNumbers number 0
number_outcome (Err refusal) = Answered (Refused refusal)

-- the outcome that reports a tenant's use and quota
abbrev pub usage_outcome : Result UsageView Refusal → RequestResult
usage_outcome (Ok usage) = QueryNumbers usage.used usage.quota
usage_outcome (Err refusal) = Answered (Refused refusal)

-- the outcome that reports a tenant's blobs and share
abbrev pub slot_use_outcome : Result SlotUseView Refusal → RequestResult
slot_use_outcome (Ok slot_use) = QueryNumbers slot_use.blobs slot_use.share
slot_use_outcome (Err refusal) = Answered (Refused refusal)

-- ---- steps

-- the outcome is this one of a catalog that the store finds
abbrev pub IsOutcomeFound : {S : Type 0} → (S → Catalog → Type 0) → S → (Catalog → RequestResult) → RequestResult → Type 0
IsOutcomeFound finds store of outcome = (catalog : Catalog) × finds store catalog × (outcome ≡ of catalog)

-- the outcome is that of the query in a catalog that the store finds; no catalog determines the number of syncs
abbrev pub IsQueryOutcome : {S : Type 0} → (S → Catalog → Type 0) → S → Query → RequestResult → Type 0
IsQueryOutcome finds store (Stat repo digest) outcome = IsOutcomeFound finds store (λ C. number_outcome (queries.stat C repo digest)) outcome
IsQueryOutcome finds store (StatManifest repo digest) outcome = IsOutcomeFound finds store (λ C. number_outcome (queries.stat_manifest C repo digest)) outcome
IsQueryOutcome finds store FreeSlots outcome = IsOutcomeFound finds store (λ C. QueryNumbers (queries.free_slots C) 0) outcome
IsQueryOutcome finds store (Usage repo) outcome = IsOutcomeFound finds store (λ C. usage_outcome (queries.usage C repo)) outcome
IsQueryOutcome finds store (SlotUse repo) outcome = IsOutcomeFound finds store (λ C. slot_use_outcome (queries.slot_use C repo)) outcome
IsQueryOutcome finds store (RepoCount repo) outcome = IsOutcomeFound finds store (λ C. number_outcome (queries.repo_count C repo)) outcome
IsQueryOutcome finds store SyncCount outcome = (syncs : ℕ) × (outcome ≡ QueryNumbers syncs 0)

-- the outcome is that of the spelled query, of a refused field, or of a request without a command
abbrev pub QueryStep : {S : Type 0} → (S → Catalog → Type 0) → S → Result (Option Query) Refusal → RequestResult → Type 0
QueryStep finds store (Ok (Some query)) outcome = IsQueryOutcome finds store query outcome
QueryStep finds store (Ok None) outcome = outcome ≡ NoCommand
QueryStep finds store (Err refusal) outcome = outcome ≡ Answered (Refused refusal)
