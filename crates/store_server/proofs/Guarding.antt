-- Desks that are durable, and what a commit keeps.
use Rattle.std.proofs.Common.{◌≡◌, ◌≢◌, ◌∙◌, ◌++◌, [], true, ap, arith, subst, sym}
use Rattle.std.proofs.lemmas.Bool.{false≢true}
use Rattle.ghost_log.specs.Entries.{events_by}
use Rattle.durable_log.specs.Views as durable
use Rattle.store_model.specs.Histories.{Step}
use Rattle.store_api.specs.Answers.{Answer}
use Rattle.store_api.specs.Commands.{StoreRequest}
use Rattle.locked_book.specs.Durability.{OnlyLearns, log_trace}
use Rattle.locked_book.specs.History.{DeskView, Trace}
use Rattle.locked_book.specs.Logging.{promises}
use Rattle.locked_book.specs.Names.{StoreNames}
use Rattle.locked_book.specs.declared.policy.LogPolicy.{LogPolicy}
use Rattle.locked_book.specs.declared.policy.LogPolicy.TheVariants.{NoLog}
use Rattle.blob_store.specs.StoreBackends.{DeskActs, Work, WorkActs, work_of}

-- a desk without steps is durable
pub fresh_durable : (policy : LogPolicy) (t : Trace) → t.own ≡ [] → t.durable ≡ [] → durable.IsCommitted (promises policy) (log_trace t)
fresh_durable policy t none nothing = record {
  rest = [];
  own = none ∙ sym (ap (λ entries. events_by t.number entries ++ []) nothing);
  unpromised = λ k d below. absurd (omega (arith, below));
}

-- a store without a log promises nothing
nothing_promised : (step : Step) → promises NoLog step ≡ true → ⊥
nothing_promised step is = false≢true is

-- a store in which a desk is unconfirmed has a log
pub has_log : (policy : LogPolicy) (t : Trace) → durable.IsUnconfirmed (promises policy) (log_trace t) → policy ≢ NoLog
has_log policy t unconfirmed none = nothing_promised unconfirmed.event (sym (ap (λ (p : LogPolicy). promises p unconfirmed.event) none) ∙ unconfirmed.promised)

-- the steps of a desk that only learns are those that it had
pub acts_kept : (names : StoreNames) (earlier old new : DeskView) (request : StoreRequest) (answer : Answer) → OnlyLearns old new → DeskActs names earlier request answer old → DeskActs names earlier request answer new
acts_kept names earlier old new request answer learns acts = record {
  work = subst (λ (w : Work). WorkActs (work_of earlier) request answer w) (λ i. record { amounts = sym learns.amounts i; steps = sym learns.own i }) acts.work;
  number = learns.number ∙ acts.number;
  finds = acts.finds;
}
