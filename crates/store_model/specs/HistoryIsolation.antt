-- Isolation of tenants in histories: a tenant's replies, and its view at the end, are those of its own steps alone.
use Rattle.std.specs.Prelude.{◌≡◌, ◌≢◌, ◌==◌, ◌+◌, ℕ, Bool, true, false, Option, Result, Ok, Err, List, [], ◌∷◌, ◌++◌, filter}
use Rattle.std.specs.FinMap as fmap
use Rattle.blob_digest.specs.declared.range.ByteRange.{ByteRange}
use Rattle.blob_digest.specs.declared.refusal.Refusal.{Refusal}
use Rattle.blob_digest.specs.declared.refusal.Refusal.TheVariants.{Memory, StoreFull, TooManyReaders}
use Rattle.spec_lib.specs.Texts.{Text}
use Rattle.store_model.specs.BookText.{book_text}
use Rattle.store_model.specs.Catalog.{Catalog, HandRecord, Tenant, is_repo_of_tenant, opening, ContentRules}
use Rattle.store_model.specs.Commands.{Outcome, after_cancel, finish, put_back, take}
use Rattle.store_model.specs.Histories.{AreSteps, SweepCall, SweepPartCall, FinishCall, IsUncountable, LeadsTo, CommandCall, PutBackCall, State, Step, TakeCall, initial_state}
use Rattle.store_model.specs.Noninterference.{AreTenantsAlike, NoCollision, uploads_of_command, catalog_after, uploaded_pair, isolated_outcome, tenant_view, reply_of}
use Rattle.store_model.specs.Runs.{Command, repo_of}
use Rattle.store_model.specs.Sessions.{hand_content}

-- ---- a tenant's steps and requests

-- whether a step is a tenant's: its repository or its hand belongs to the tenant
abbrev pub is_step_of : List Tenant → ℕ → Step → Bool
is_step_of tenants t (CommandCall command reply) = is_repo_of_tenant tenants t (repo_of command)
is_step_of tenants t (SweepCall swept) = false
is_step_of tenants t (SweepPartCall swept) = false
is_step_of tenants t (TakeCall r n g len reply) = is_repo_of_tenant tenants t r
is_step_of tenants t (PutBackCall h reply) = h.key.0 == t
is_step_of tenants t (FinishCall h d reply) = h.key.0 == t

-- a tenant's steps
abbrev pub steps_of : List Tenant → ℕ → List Step → List Step
steps_of tenants t steps = filter (is_step_of tenants t) steps

-- a step without its reply: a command, or a check-out, check-in or finish of a session
pub data StepRequest : Type 0 where
  Perform : Command → StepRequest
  Take : Text → ℕ → Option ByteRange → ℕ → StepRequest
  Return : HandRecord → StepRequest
  Finish : HandRecord → Text → StepRequest

-- the requests of a list of steps, of which a sweep and a part of one have none
abbrev pub requests_of : List Step → List StepRequest
requests_of [] = []
requests_of (CommandCall command reply ∷ steps) = Perform command ∷ requests_of steps
requests_of (SweepCall swept ∷ steps) = requests_of steps
requests_of (SweepPartCall swept ∷ steps) = requests_of steps
requests_of (TakeCall r n g len reply ∷ steps) = Take r n g len ∷ requests_of steps
requests_of (PutBackCall h reply ∷ steps) = Return h ∷ requests_of steps
requests_of (FinishCall h d reply ∷ steps) = Finish h d ∷ requests_of steps

-- ---- a tenant's isolated history

-- the catalog with one free slot
abbrev pub with_slot : Catalog → Catalog
with_slot C = record C { slots = fmap.len C.residents + C.retired + 1 }

-- the reply of an outcome
abbrev pub reply_of_outcome : {A : Type 0} → Outcome A → Result A Refusal
reply_of_outcome (Ok x) = Ok x.0
reply_of_outcome (Err e) = Err e

-- the catalog after an outcome, or C if it failed
abbrev pub catalog_after_or : {A : Type 0} → Catalog → Outcome A → Catalog
catalog_after_or C (Ok x) = x.1
catalog_after_or C (Err e) = C

-- the step of a request, without the errors that other tenants may cause
abbrev pub isolated_step : Catalog → StepRequest → Step
isolated_step C (Perform command) = CommandCall command (reply_of (isolated_outcome C command))
isolated_step C (Take r n g len) = TakeCall r n g len (reply_of_outcome (take C r n g len))
isolated_step C (Return h) = PutBackCall h (reply_of_outcome (put_back C h))
isolated_step C (Finish h d) = FinishCall h d (reply_of_outcome (finish (with_slot C) h d))

-- the catalog after a request, without the errors that other tenants may cause
abbrev pub catalog_after_request : Catalog → StepRequest → Catalog
catalog_after_request C (Perform command) = catalog_after C (isolated_outcome C command)
catalog_after_request C (Take r n g len) = catalog_after_or C (take C r n g len)
catalog_after_request C (Return h) = catalog_after_or C (put_back C h)
catalog_after_request C (Finish h d) = catalog_after_or (after_cancel C h) (finish (with_slot C) h d)

-- the steps of requests in an isolated history
abbrev pub isolated_steps : Catalog → List StepRequest → List Step
isolated_steps C [] = []
isolated_steps C (request ∷ requests) = isolated_step C request ∷ isolated_steps (catalog_after_request C request) requests

-- the catalog at the end of an isolated history
abbrev pub catalog_after_requests : Catalog → List StepRequest → Catalog
catalog_after_requests C [] = C
catalog_after_requests C (request ∷ requests) = catalog_after_requests (catalog_after_request C request) requests

-- ---- the premises

-- the error is not one that other tenants may cause: `Memory`, `StoreFull` or `TooManyReaders`
abbrev pub IsOwnRefusal : Refusal → Type 0
IsOwnRefusal e = (e ≢ Memory) × (e ≢ StoreFull) × (e ≢ TooManyReaders)

-- the reply of a step is neither an error that other tenants may cause, nor one because it can't be counted
abbrev pub IsOwnReply : State → Step → Type 0
IsOwnReply s (CommandCall command (Err e)) = IsOwnRefusal e × ¬ (IsUncountable s 0 e)
IsOwnReply s (TakeCall r n g len (Err e)) = IsOwnRefusal e × ¬ (IsUncountable s len e)
IsOwnReply s (PutBackCall h (Err e)) = IsOwnRefusal e
IsOwnReply s (FinishCall h d (Err e)) = IsOwnRefusal e
IsOwnReply s step = Unit {0}

-- no reply to a tenant is an error that other tenants may cause, or one because it can't be counted
abbrev pub AreOwnReplies : List Tenant → ℕ → (s : State) (steps : List Step) (s' : State) → AreSteps s steps s' → Type 0
AreOwnReplies tenants t s [] s' run = Unit {0}
AreOwnReplies tenants t s (step ∷ steps) s' run = (is_step_of tenants t step ≡ true → IsOwnReply s step) × AreOwnReplies tenants t run.0 steps s' run.2

-- the digest and content of a close or a finish, if the content has the digest
abbrev pub uploads_of_step : Catalog → Step → List (Text × Text)
uploads_of_step C (CommandCall command reply) = uploads_of_command C command
uploads_of_step C (FinishCall h d reply) = uploaded_pair C.contents d (Ok (hand_content h))
uploads_of_step C step = []

-- the digests and contents of all closes and finishes of a list of steps
abbrev pub uploads_of_history : (s : State) (steps : List Step) (s' : State) → AreSteps s steps s' → List (Text × Text)
uploads_of_history s [] s' run = []
uploads_of_history s (step ∷ steps) s' run = uploads_of_step s.catalog step ++ uploads_of_history run.0 steps s' run.2

-- ---- the theorems

-- The steps are a legal history of a new store in which no two uploads have different contents with the same digest.
pub record IsCollisionFreeHistory (tenants : List Tenant) (slots : ℕ) (contents : ContentRules) (steps : List Step) (s : State) : Type 0 where
  pub run : LeadsTo (opening tenants slots contents) steps s
  pub no_collision : NoCollision (uploads_of_history (initial_state (opening tenants slots contents)) steps s run)

-- no reply to a tenant in the history is one that others may cause
abbrev pub IsUnaffectedHistory : (tenants : List Tenant) (slots : ℕ) (contents : ContentRules) (t : ℕ) (steps : List Step) (s : State) → IsCollisionFreeHistory tenants slots contents steps s → Type 0
IsUnaffectedHistory tenants slots contents t steps s fair = AreOwnReplies tenants t (initial_state (opening tenants slots contents)) steps s fair.run

-- a tenant's steps and its view at the end are those of its isolated history in a new store with the tenants `others`
pub record IsIsolatedInHistory (tenants others : List Tenant) (slots : ℕ) (contents : ContentRules) (t : ℕ) (steps : List Step) (s : State) : Type 0 where
  pub replies : isolated_steps (opening others slots contents) (requests_of (steps_of tenants t steps)) ≡ steps_of tenants t steps
  pub tenant_view : tenant_view s.catalog t ≡ tenant_view (catalog_after_requests (opening others slots contents) (requests_of (steps_of tenants t steps))) t

-- If no reply to a tenant is one that others may cause, its replies and its view at the end are those of its isolated history, whatever settings the others have in it.
abbrev pub TenantsAreIsolatedInHistories : Type 0
TenantsAreIsolatedInHistories = (tenants others : List Tenant) (slots : ℕ) (contents : ContentRules) (t : ℕ) (steps : List Step) (s : State) → AreTenantsAlike t tenants others →
    (fair : IsCollisionFreeHistory tenants slots contents steps s) → IsUnaffectedHistory tenants slots contents t steps s fair → IsIsolatedInHistory tenants others slots contents t steps s

-- The store's text is the same after two such histories in which each tenant makes the same requests in the same order.
abbrev pub HistoriesLeaveTheSameText : Type 0
HistoriesLeaveTheSameText = (tenants : List Tenant) (slots : ℕ) (contents : ContentRules) (one two : List Step) (s s' : State)
    (fair : IsCollisionFreeHistory tenants slots contents one s) → ((t : ℕ) → IsUnaffectedHistory tenants slots contents t one s fair) →
    (fair' : IsCollisionFreeHistory tenants slots contents two s') → ((t : ℕ) → IsUnaffectedHistory tenants slots contents t two s' fair') →
    ((t : ℕ) → requests_of (steps_of tenants t one) ≡ requests_of (steps_of tenants t two)) → book_text s.catalog ≡ book_text s'.catalog
