-- The slots and leases of a book whose rows are played.
use Rattle.std.proofs.Common.{◌≡◌, ◌≢◌, ◌⊎◌, ℕ, Bool, List, true, false, Option, Some, None, Result, Ok, Err, ap, arith, inl, inr, length, refl, sym, ◌∙◌}
use Rattle.std.specs.Prelude.{MatchResult, not, slice_get}
use Rattle.std.specs.Option.{ok_or}
use Rattle.std.specs.FinMap as fmap
use Rattle.std.proofs.lemmas.Bool.{cases_lt}
use Rattle.std.proofs.lemmas.Option.{same_Some}
use Rattle.spec_lib.specs.Texts.{Text}
use Rattle.spec_lib.specs.Outcomes.{◌>>=◌, refuse}
use Rattle.blob_digest.specs.declared.refusal.Refusal.{Refusal}
use Rattle.blob_digest.specs.declared.refusal.Refusal.TheVariants.{NameUnknown, BlobUnknown, TooManyReaders}
use Rattle.store_model.specs.Catalog.{Catalog, Resident, holds, tenant_of}
use Rattle.store_model.specs.Runs as runs
use Rattle.store_model.specs.Commands.{Outcome, lease, with_leased}
use Rattle.store_book.specs.BookState.{SlotView}
use Rattle.store_book.specs.SlotSteps as slots
use Rattle.store_api.specs.Answers.{Answer, Bytes, Refused}
use Rattle.store_api.specs.Commands.{Lease}
use Rattle.blobctl.specs.Played.{BookActsCommand, RisesByOne}
use Rattle.store_api.specs.CommandAnswers.{command_answer}

-- ---- slots

each : {R Q : SlotView → SlotView → Type 0} (old new : List SlotView) → ((a b : SlotView) → R a b → Q a b) → slots.EachSlot R old new → slots.EachSlot Q old new
each old new weaker h = (h.0, λ k a b was at. weaker a b (h.1 k a b was at))

lending_rises : (digest : Text) (a b : SlotView) → slots.IsLending digest a b → RisesByOne a b
lending_rises digest a b lending = (
  omega (arith, lending.0),
  elim (cases_lt a.bound b.bound) [
    | inl more ↦ (lending.1 more).1
    | inr none ↦ omega (arith, none)
  ],
)

pub lending_rise : (digest : Text) (old new : List SlotView) → slots.EachSlot (slots.IsLending digest) old new → slots.EachSlot RisesByOne old new
lending_rise digest old new h = each old new (lending_rises digest) h

pub same_rise : (old new : List SlotView) → new ≡ old → slots.EachSlot RisesByOne old new
same_rise old new is = (ap length is, λ k a b was at. let same : a ≡ b = same_Some a b (sym was ∙ sym (ap (λ (s : List SlotView). slice_get s k) is) ∙ at) in (omega (arith, ap (λ (s : SlotView). s.generation) same), omega (arith, ap (λ (s : SlotView). s.bound) same)))

quiet_rises : (a b : SlotView) → slots.KeepsGeneration a b → RisesByOne a b
quiet_rises a b quiet = (omega (arith, quiet.0), omega (arith, quiet.1))

pub quiet_rise : (old new : List SlotView) → slots.EachSlot slots.KeepsGeneration old new → slots.EachSlot RisesByOne old new
quiet_rise old new h = each old new quiet_rises h

-- ---- leases

-- the result of a lease, by the slot that it reads
abbrev lease_outcome : Bool → Catalog → Text → Option ℕ → Bool → Option Resident → Outcome Text
lease_outcome crowded C digest tenant unlinked found = (ok_or tenant NameUnknown) >>= (λ _. ((refuse unlinked BlobUnknown) >>= (λ _. ok_or found BlobUnknown)) >>= (λ b. (refuse crowded TooManyReaders) >>= (λ _. Ok (b.bytes, with_leased C digest b))))

module _ (C : Catalog) (digest : Text) where
  none_where_crowded : (t : Option ℕ) (u : Bool) (f : Option Resident) (x : Text × Catalog) → lease_outcome true C digest t u f ≢ Ok x
  none_where_crowded None u f x e = absurd (let h = e in cc)
  none_where_crowded (Some t) true f x e = absurd (let h = e in cc)
  none_where_crowded (Some t) false None x e = absurd (let h = e in cc)
  none_where_crowded (Some t) false (Some b) x e = absurd (let h = e in cc)

  -- if the slot is crowded, only `TooManyReaders` is a new result
  refused_alike : (t : Option ℕ) (u : Bool) (f : Option Resident) (r : Refusal) → lease_outcome true C digest t u f ≡ Err r → (lease_outcome false C digest t u f ≡ Err r) ⊎ (r ≡ TooManyReaders)
  refused_alike None u f r e = inl e
  refused_alike (Some t) true f r e = inl e
  refused_alike (Some t) false None r e = inl e
  refused_alike (Some t) false (Some b) r e = inr (let h = e in cc)

module _ (C : Catalog) (repo digest : Text) where
  abbrev outcome_of_look : Bool → Outcome Text
  outcome_of_look crowded = lease_outcome crowded C digest (tenant_of C.tenants repo) (not (holds C repo digest)) (fmap.get C.residents digest)

  -- the reply to the row of a lease
  abbrev row_of : Outcome Text → Outcome Answer
  row_of o = runs.map_outcome (command_answer (Lease repo digest)) (runs.map_outcome runs.Bytes o)

  leased_alike : (crowded : Bool) (x : Text × Catalog) → outcome_of_look crowded ≡ Ok x → row_of (lease false C repo digest) ≡ Ok (Bytes x.0, x.1)
  leased_alike true x e = absurd (none_where_crowded C digest (tenant_of C.tenants repo) (not (holds C repo digest)) (fmap.get C.residents digest) x e)
  leased_alike false x e = ap row_of e

  refused_or_crowded : (seen : List SlotView) (r : Refusal) (crowded : Bool) → outcome_of_look crowded ≡ Err r → (crowded ≡ true → slots.IsCrowded digest seen) → (row_of (lease false C repo digest) ≡ Err r) ⊎ ((r ≡ TooManyReaders) × slots.IsCrowded digest seen)
  refused_or_crowded seen r true e look = elim (refused_alike C digest (tenant_of C.tenants repo) (not (holds C repo digest)) (fmap.get C.residents digest) r e) [
    | inl alike ↦ inl (ap row_of alike)
    | inr readers ↦ inr (readers, look refl)
  ]
  refused_or_crowded seen r false e look = inl (ap row_of e)

-- a book's lease as a request of rows
pub lease_acts : {A : Type 0} (view : A → Text) (r : Result A Refusal) (C C' : Catalog) (seen : List SlotView) (repo digest : Text) → slots.Leases view r C C' seen repo digest
    → MatchResult r (λ x. BookActsCommand C seen (Lease repo digest) (Bytes (view x)) C') (λ e. BookActsCommand C seen (Lease repo digest) (Refused e) C')
lease_acts view (Ok x) C C' seen repo digest h = leased_alike C repo digest h.crowded (view x, C') h.does
lease_acts view (Err e) C C' seen repo digest h = ((λ other. refused_or_crowded C repo digest seen e h.crowded (h.does.0 other) h.look), h.does.1)
