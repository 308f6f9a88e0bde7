-- The content that a call through the lock finds. It has no name outside the lock, so contracts speak of some content of the store.
use Rattle.std.specs.Prelude.{◌≡◌, ℕ, List, [], ◌∷◌, length, sum_by}
use Rattle.std.specs.FinMap as fmap
use Rattle.std.specs.List.{AllByRecursion}
use Rattle.locked_book.specs.Counting.{StoreContent, IsBalanced}
use Rattle.locked_book.specs.History.{AddsByNobody, state_of}
use Rattle.locked_book.specs.Names.{StoreNames, setting_of}
use Rattle.locked_book.specs.declared.totals.Totals.{Totals}
use Rattle.store_book.specs.BookState.{BookState}
use Rattle.store_book.specs.SweepParts.{IsPartOfSweep}
use Rattle.store_model.specs.Amounts.{Amounts}
use Rattle.store_model.specs.Catalog.{Catalog}
use Rattle.store_model.specs.Durable.{AreReturnedAsTaken}
use Rattle.store_model.specs.Hands.{received_in_sessions}
use Rattle.store_model.specs.Histories.{SweepCall, Step, LeadsTo}
use Rattle.store_model.specs.Invariant.{Sound}
use Rattle.store_model.specs.Recovery.{IsWellFormedStep}
use Rattle.store_model.specs.Sweep.{IsSweep}
use Rattle.store_model.specs.declared.swept.Swept.{Swept}

-- a legal history leads from an opening catalog to this one, whatever it counted
abbrev pub IsReached : Catalog → Catalog → Type 0
IsReached C C' = (steps : List Step) × (totals : Amounts) × LeadsTo C steps (record { catalog = C'; totals = totals })

-- a legal history of the store leads to this book, which is sound and has the store's slots and setting
pub record IsBookOf (names : StoreNames) (book : BookState) : Type 0 where
  pub reached : IsReached names.opening book.catalog
  pub sound : Sound book.catalog
  pub seen : length book.slots ≡ names.slots
  pub made : setting_of book.catalog ≡ names.setting

-- this is true of some book of the store
abbrev pub InSomeBook : StoreNames → (BookState → Type 0) → Type 0
InSomeBook names P = (book : BookState) × IsBookOf names book × P book

-- ---- the totals

-- One legal history of the store leads to the book and the totals of this content, the book is one of the store's, and the totals are balanced.
-- In the history every hand is returned as it was taken, and every step is well-formed.
pub record IsContentOf (names : StoreNames) (k : StoreContent) : Type 0 where
  pub steps : List Step
  pub leads : LeadsTo names.opening steps (state_of k)
  pub returned : AreReturnedAsTaken fmap.empty steps
  pub formed : AllByRecursion IsWellFormedStep steps
  pub book : IsBookOf names k.book
  pub balanced : IsBalanced k

-- the returned totals are those of this content
pub record AreTotalsOf (k : StoreContent) (totals : Totals) : Type 0 where
  pub commands : totals.commands ≡ k.counts.totals.commands
  pub received : totals.received ≡ k.counts.totals.received
  pub in_sessions : totals.in_sessions ≡ received_in_sessions k.book.catalog
  pub closed : totals.closed ≡ k.counts.totals.closed
  pub abandoned : totals.abandoned ≡ k.counts.totals.abandoned
  pub desks : totals.desks ≡ k.counts.desks

-- the returned totals are those of some content of the store
abbrev pub AreTotalsOfSome : StoreNames → Totals → Type 0
AreTotalsOfSome names totals = (k : StoreContent) × IsContentOf names k × AreTotalsOf k totals

-- ---- a sweep without a desk

-- A sweep with this result leads from one content of a store to another and counts nothing. It is the last step of a legal history, made by a
-- writer of its own.
pub record IsSweepOf (names : StoreNames) (before : StoreContent) (swept : Swept) (after : StoreContent) : Type 0 where
  pub found : IsContentOf names before
  pub sweeps : IsSweep before.book.catalog swept after.book.catalog
  pub counts : after.counts ≡ before.counts
  pub history : AddsByNobody names.opening (state_of before) (SweepCall swept) (state_of after)
  pub left : IsContentOf names after

-- a sweep with this result was made on some content of the store
abbrev pub IsSweepOfSome : StoreNames → Swept → Type 0
IsSweepOfSome names swept = (before after : StoreContent) × IsSweepOf names before swept after

-- ---- a sweep in parts

-- A part of a sweep, over the slots from a place up to another, leads from one content of a store to another and counts nothing.
pub record IsPartOf (names : StoreNames) (from to : ℕ) (before : StoreContent) (swept : Swept) (after : StoreContent) : Type 0 where
  pub found : IsContentOf names before
  pub sweeps : IsPartOfSweep from to before.book swept after.book
  pub counts : after.counts ≡ before.counts

-- parts that follow each other from one place up to another, each made on some content of the store
abbrev pub AreParts : StoreNames → ℕ → ℕ → List Swept → Type 0
AreParts names from to [] = from ≡ to
AreParts names from to (swept ∷ parts) = (mid : ℕ) × (before after : StoreContent) × IsPartOf names from mid before swept after × AreParts names mid to parts

-- the sums of the counts of parts
abbrev pub swept_in_all : List Swept → Swept
swept_in_all parts = record {
  condemned = sum_by (λ s. s.condemned) parts;
  freed = sum_by (λ s. s.freed) parts;
  held = sum_by (λ s. s.held) parts;
  retired = sum_by (λ s. s.retired) parts;
}
