-- What a start after a crash restores.
use Rattle.std.proofs.Common.{◌≡◌, ◌∙◌, ◌++◌, ℕ, List, ap, subst, sym}
use Rattle.blob_store.specs.Starts.{StartsFrom}
use Rattle.durable_log.specs.Views.{DeviceView}
use Rattle.ghost_log.specs.Entries.{IsPrefix}
use Rattle.locked_book.proofs.CutLogs.{same_logs_restart}
use Rattle.locked_book.specs.Durability.{Survives}
use Rattle.locked_book.specs.History.{DeskView, Trace}
use Rattle.locked_book.specs.Names.{StoreNames}
use Rattle.locked_book.specs.Restoring.{SeesStoreHistory, records_of}
use Rattle.store_model.specs.Histories.{Step}
use Rattle.store_replay.specs.Replays.{HasDurable}
use Rattle.store_replay.specs.Restarts.{HaveLogs, RestartsAs}

-- a store was started on this device, which has these bytes
pub starts_on : (names : StoreNames) (trace : Trace) (d given : DeviceView Step) → StartsFrom names d.written trace d → d ≡ given → StartsFrom names given.written trace d
starts_on names trace d given start same = subst (λ (b : List ℕ). StartsFrom names b trace d) (ap (λ (v : DeviceView Step). v.written) same) start

pub starts_from : (names : StoreNames) (bytes : List ℕ) (trace : Trace) (d given : DeviceView Step) → StartsFrom names given.written trace d → HasDurable bytes given → StartsFrom names bytes trace d
starts_from names bytes trace d given start durable = subst (λ (b : List ℕ). StartsFrom names b trace d) durable.written start

pub all_durable : (bytes : List ℕ) (d : DeviceView Step) → HasDurable bytes d → d.durable ≡ d.written
all_durable bytes d durable = durable.durable ∙ sym durable.written

pub restarts_as : (names other : StoreNames) (was now : DeskView) (left : List ℕ) (again : Trace) (d : DeviceView Step)
    → HaveLogs names other → SeesStoreHistory names was now → Survives names now.trace left → StartsFrom other d.written again d → d.written ≡ left
    → RestartsAs names now.trace other again
restarts_as names other was now left again d logs sees survives start read =
    let records : left ≡ records_of other again.seen = sym read ∙ start.records ∙ ap (λ base. base ++ records_of other again.seen) logs.other_base in
    let begins : IsPrefix (records_of other again.seen) (records_of names now.trace.seen) =
    subst (λ (b : List ℕ). IsPrefix b (records_of names now.trace.seen)) records
    (subst (λ (base : List ℕ). IsPrefix left (base ++ records_of names now.trace.seen)) logs.base survives.in_order) in
    let durable : IsPrefix (records_of names now.trace.durable) (records_of other again.seen) =
    subst (λ (b : List ℕ). IsPrefix (records_of names now.trace.durable) b) records
    (subst (λ (base : List ℕ). IsPrefix (base ++ records_of names now.trace.durable) left) logs.base survives.durable) in
    let s = sees.restores.legal.0 in
    let restored = sees.restores.restores s sees.restores.legal.1 in
    record {
      legal = start.restores.legal;
      each = λ t leads.
          let again_restored = start.restores.restores t leads in
          let restart = same_logs_restart names now.trace.seen s other again.seen t restored again_restored logs.logs logs.other_logs logs.tenants logs.longest begins in
          record { restart = restart; known = restart.restores.complete now.trace.durable survives.known durable };
    }
