-- What a start after a crash restores whose log was rewritten.
use Rattle.std.proofs.Common.{◌≡◌, ◌∙◌, ◌++◌, ℕ, List, ap, subst, sym}
use Rattle.std.specs.FinMap as fmap
use Rattle.blob_store.specs.Starts.{StartsFrom}
use Rattle.durable_log.specs.Views.{DeviceView}
use Rattle.ghost_log.specs.Entries.{IsPrefix}
use Rattle.locked_book.specs.Durability.{Survives}
use Rattle.locked_book.specs.History.{DeskView, Trace, steps_of}
use Rattle.locked_book.specs.Names.{StoreNames}
use Rattle.locked_book.specs.Restoring.{SeesStoreHistory, records_of}
use Rattle.rewritten_logs.specs.Restarts.{RestartsRewritten}
use Rattle.rewritten_logs.specs.Rewritten.{IsRewrittenRestart, IsReplacedBy, names_in}
use Rattle.rewritten_logs.proofs.Restarting.{rewritten_logs_restart}
use Rattle.store_model.specs.Durable.{taken_after_steps}
use Rattle.store_model.specs.Histories.{Step}
use Rattle.store_replay.specs.Restarts.{HaveLogs}

pub restarts_rewritten : (names other : StoreNames) (was now : DeskView) (left written base rest : List ℕ) (again : Trace) (d : DeviceView Step)
    → HaveLogs names other → SeesStoreHistory names was now → Survives names now.trace left → StartsFrom other d.written again d → d.written ≡ base ++ rest
    → left ≡ written ++ rest → IsReplacedBy (names_in names.setting.tenants) written base
    → RestartsRewritten names now.trace left other again
restarts_rewritten names other was now left written base rest again d logs sees survives start read split replaced =
    let records : records_of other again.seen ≡ base ++ rest = sym (ap (λ b. b ++ records_of other again.seen) logs.other_base) ∙ sym start.records ∙ read in
    let begins : IsPrefix left (records_of names now.trace.seen) =
    subst (λ (b : List ℕ). IsPrefix left (b ++ records_of names now.trace.seen)) logs.base survives.in_order in
    let durable : IsPrefix (records_of names now.trace.durable) left =
    subst (λ (b : List ℕ). IsPrefix (b ++ records_of names now.trace.durable) left) logs.base survives.durable in
    let s = sees.restores.legal.0 in
    let restored = sees.restores.restores s sees.restores.legal.1 in
    record {
      legal = start.restores.legal;
      each = λ t leads.
          let again_restored = start.restores.restores t leads in
          let restart = subst (λ (b : List ℕ). IsRewrittenRestart names now.trace.seen b (taken_after_steps fmap.empty (steps_of again.seen)) t) (sym split)
          (rewritten_logs_restart names now.trace.seen s other again.seen t written base rest restored again_restored logs.logs logs.other_logs logs.tenants replaced
          (subst (λ (b : List ℕ). IsPrefix b (records_of names now.trace.seen)) split begins) records) in
          record { restart = restart; known = restart.restores.complete now.trace.durable survives.known durable };
    }
