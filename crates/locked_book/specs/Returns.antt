-- Hands come back as they were checked out: each desk returns only the hand that it took last.
use Rattle.std.specs.Prelude.{ℕ, List, None}
use Rattle.std.specs.List.{AllByRecursion}
use Rattle.ghost_log.specs.declared.view.Entry.{Entry}
use Rattle.ghost_log.specs.Entries.{events_by}
use Rattle.store_model.specs.Histories.{FinishCall, PutBackCall, Step}
use Rattle.store_model.specs.Lanes.{IsPaired, ReturnsHeldHand, held_hand}
use Rattle.store_model.specs.Recovery.{FillsReserve, IsWellFormedStep}
use Rattle.store_model.specs.Sessions.{HasNoOpenReserve}
use Rattle.locked_book.specs.History.{steps_of}

-- each writer of the log returns only hands that it took last and has not returned
abbrev pub AreReturned : List (Entry Step) → Type 0
AreReturned entries = (n : ℕ) → IsPaired None (events_by n entries)

-- if the step returns a hand, a desk with these steps holds it
abbrev pub MayReturn : List Step → Step → Type 0
MayReturn own step = ReturnsHeldHand (held_hand own) step

-- if the step returns a hand, its chunk has the reserved length, and a finished hand has no open reserve
abbrev pub ReturnsFilledHand : Step → Type 0
ReturnsFilledHand (PutBackCall h reply) = FillsReserve h
ReturnsFilledHand (FinishCall h d reply) = FillsReserve h × HasNoOpenReserve h
ReturnsFilledHand step = Unit {0}

-- every step of the log is well-formed
abbrev pub AreWellFormed : List (Entry Step) → Type 0
AreWellFormed entries = AllByRecursion IsWellFormedStep (steps_of entries)
