-- Several workers do what their rows do in some order, one whole row after another.
use Rattle.std.specs.Prelude.{◌≡◌, ◌<◌, ◌^◌, ℕ, List, length, map, Result}
use Rattle.std.specs.List.{AllByRecursion, filter, sum_by, zip}
use Rattle.std.specs.List.Sorted.{IsPermutation}
use Rattle.blob_digest.specs.Tenants.{Tenant}
use Rattle.blob_digest.specs.declared.refusal.Refusal.{Refusal}
use Rattle.store_model.specs.Catalog.{Catalog, opening, ContentRules}
use Rattle.store_model.specs.Invariant.{Sound}
use Rattle.store_model.specs.Runs as runs
use Rattle.store_model.specs.Sweep.{IsSweep}
use Rattle.store_model.specs.WholeCommands.{IsContentionFree}
use Rattle.store_model.specs.declared.swept.Swept.{Swept as SweptCounts}
use Rattle.store_api.specs.Answers.{Answer, Refused, Swept, Verified, result_answer}
use Rattle.store_api.specs.CommandAnswers.{command_answer}
use Rattle.store_api.specs.Commands.{StoreRequest, Calls, Verifies, Sweeps, SweepsInParts}
use Rattle.script_player.specs.Leases.{Leases, no_leases}
use Rattle.script_player.specs.Plays.{Plays}
use Rattle.script_player.specs.Rows.{RowView}
use Rattle.script_player.specs.Shares.{is_own}
use Rattle.blob_store.specs.Workers.{IsInterleaved}

-- the request leads from one catalog to another in one step: a case of a command, a check of a lease, or a sweep
abbrev pub RequestLeads : Catalog → StoreRequest → Answer → Catalog → Type 0
RequestLeads C (Calls command) answer C' = (reply : Result runs.Answer Refusal) × runs.IsCommandCase C command reply C' × (answer ≡ result_answer (command_answer command) reply)
RequestLeads C (Verifies size) answer C' = (answer ≡ Verified size) × (C' ≡ C)
RequestLeads C Sweeps answer C' = (swept : SweptCounts) × IsSweep C swept C' × (answer ≡ Swept swept)
RequestLeads C SweepsInParts answer C' = ⊥

-- rows with their replies in another order, in which each worker's keep theirs
pub record IsWorkerwiseReordering (workers : ℕ) (rows others : List (RowView × Answer)) : Type 0 where
  pub same : IsPermutation rows others
  pub each : (w : ℕ) → w < workers → filter (λ p. is_own workers w p.0) others ≡ filter (λ p. is_own workers w p.0) rows

-- played one whole row after another in some order that keeps each worker's, from no lease on, the rows lead to this catalog with these replies
pub record HasOrder (C : Catalog) (workers : ℕ) (rows : List RowView) (answers : List Answer) (last : Catalog) : Type 0 where
  pub order : List (RowView × Answer)
  pub reordered : IsWorkerwiseReordering workers (zip rows answers) order
  pub left : Leases
  pub run : Plays RequestLeads (C, no_leases) (map (λ p. p.0) order) (map (λ p. p.1) order) (last, left)

-- ---- the premises

-- the reply is no refusal that a session checked out by another worker can cause
abbrev pub IsContentionFreeAnswer : Answer → Type 0
IsContentionFreeAnswer (Refused e) = IsContentionFree e
IsContentionFreeAnswer answer = Unit {0}

-- fewer than 2^63 rows, with fewer than 2^63 bytes in their bodies, so that each command can be counted
pub record AreCountable (rows : List RowView) : Type 0 where
  pub number : length rows < 2 ^ 63
  pub bytes : sum_by (λ row. length row.body) rows < 2 ^ 63

-- ---- the law

-- if no reply is `Busy` or `Quota`, the rows of several workers have such an order
abbrev pub RowsHaveOrders : Type 0
RowsHaveOrders = (tenants : List Tenant) (slots : ℕ) (contents : ContentRules) (workers : ℕ) (rows : List RowView) (answers : List Answer) (last : Catalog) → Sound (opening tenants slots contents) → 0 < workers → length answers ≡ length rows → AreCountable rows →
    AllByRecursion IsContentionFreeAnswer answers → IsInterleaved (opening tenants slots contents) workers rows answers last → HasOrder (opening tenants slots contents) workers rows answers last
