-- Hands come back as they were checked out, also after one more step.
use Rattle.std.proofs.Common.{◌≡◌, ◌∙◌, ◌++◌, ◌∷◌, [], ℕ, List, Option, None, Ok, ap, subst, sym, ⊎_elim}
use Rattle.std.proofs.lemmas.Bool.Decides.{eqb_tells}
use Rattle.std.proofs.lemmas.List.Sums.{fold-append}
use Rattle.ghost_log.specs.Calls as shared
use Rattle.ghost_log.specs.Entries.{entry, events_by}
use Rattle.ghost_log.proofs.Lists.{events_other, events_own}
use Rattle.blob_digest.specs.declared.range.ByteRange.{ByteRange}
use Rattle.spec_lib.specs.Texts.{Text}
use Rattle.store_model.specs.Catalog.{HandRecord}
use Rattle.store_model.specs.Histories.{Step, TakeCall}
use Rattle.store_model.specs.Lanes.{IsHeld, IsPaired, hand_after, held_hand}
use Rattle.store_model.proofs.Durable.Pairing.{IsPaired-append_one}
use Rattle.atomic_table.specs.Seated.{TableId}
use Rattle.durable_log.specs.Views as durable
use Rattle.durable_log.specs.Views.{BacklogView, log_of, writer_of}
use Rattle.std.specs.List.{AllByRecursion}
use Rattle.ghost_log.specs.declared.view.Entry.{Entry}
use Rattle.store_model.specs.Recovery.{IsWellFormedStep}
use Rattle.locked_book.specs.History.{steps_of}
use Rattle.locked_book.specs.Returns.{AreReturned, AreWellFormed, MayReturn}
use Rattle.locked_book.proofs.Additions.{steps_of-push}

-- a writer that may return what the step returns adds it
pub returned_after : (name : TableId) (b : BacklogView Step) (w : durable.Trace Step) (step : Step) → shared.Agrees (log_of name b) (writer_of name w) → AreReturned b.history → MayReturn w.own step → AreReturned (b.history ++ entry w.number step ∷ [])
returned_after name b w step agrees returned may = λ n. ⊎_elim
    (λ same. subst (λ m. IsPaired None (events_by m (b.history ++ entry w.number step ∷ []))) same.1
    (subst (IsPaired None) (sym (events_own w.number b.history (step ∷ [])))
    (IsPaired-append_one None (events_by w.number b.history) step (returned w.number) (subst (λ own. MayReturn own step) (sym agrees.own) may))))
    (λ other. subst (IsPaired None) (sym (events_other w.number n b.history (step ∷ []) other.1)) (returned n))
    (eqb_tells w.number n)

-- a desk holds the hand that it has just checked out, whatever was filled in
pub holds_taken : (own own' : List Step) (repo : Text) (number : ℕ) (range : Option ByteRange) (len : ℕ) (taken hand : HandRecord) (last : Option Text) →
    own' ≡ own ++ TakeCall repo number range len (Ok taken) ∷ [] → hand ≡ record taken { last = last } → IsHeld hand own'
holds_taken own own' repo number range len taken hand last made is = (
  taken,
  ap held_hand made ∙ fold-append hand_after None own (TakeCall repo number range len (Ok taken) ∷ []),
  ap (λ (h : HandRecord). h.key) is,
  ap (λ (h : HandRecord). h.repo) is,
  ap (λ (h : HandRecord). h.chunks) is,
)

-- ---- well-formed steps

all_push : (steps : List Step) (step : Step) → AllByRecursion IsWellFormedStep steps → IsWellFormedStep step → AllByRecursion IsWellFormedStep (steps ++ step ∷ [])
all_push [] step all last = (last, tt)
all_push (s ∷ steps) step all last = (all.0, all_push steps step all.1 last)

-- a well-formed step is added to well-formed ones
pub formed_after : (entries : List (Entry Step)) (number : ℕ) (step : Step) → AreWellFormed entries → IsWellFormedStep step → AreWellFormed (entries ++ entry number step ∷ [])
formed_after entries number step formed last = subst (AllByRecursion IsWellFormedStep) (sym (steps_of-push entries (entry number step))) (all_push (steps_of entries) step formed last)
