-- An accepted abandon keeps a catalog sound.
use Rattle.std.proofs.Common.{◌≡◌, ℕ, Some, Ok, subst, arith, inl, inr}
use Rattle.std.specs.FinMap.{get}
use Rattle.std.proofs.lemmas.Bool.{cases_eq}
use Rattle.blob_digest.specs.declared.refusal.Refusal.TheVariants.{NameUnknown}
use Rattle.spec_lib.specs.Texts.{Text}
use Rattle.store_model.specs.Catalog.{Session, Catalog, charged_length, tenant_of, received_length}
use Rattle.store_model.specs.Commands.{tenant, session, not_busy, abandon, without_session}
use Rattle.store_model.specs.Invariant.{WellFormed, KeepsQuotas, KeepsShares, FitsSlots, Sound}
use Rattle.store_model.proofs.Invariant.Sessions.{WellFormed-gone, used_bytes-gone, used_other-gone}
use Rattle.store_model.proofs.Commands.Hands.{home_charged, home_chunks}
use Rattle.spec_lib.proofs.Outcomes.{bound_ok, some_of_ok}
use Rattle.store_model.proofs.Commands.Accepted.{left_by, answer_by, session_found}

module _ (C C' : Catalog) (repo : Text) (number n : ℕ) (stepped : abandon C repo number ≡ Ok (n, C')) where
  record Abandoned : Type 0 where
    t : ℕ
    known : tenant_of C.tenants repo ≡ Some t
    s : Session
    found : get C.sessions (t, number) ≡ Some s
    counts : charged_length s ≡ received_length s
    answer : received_length s ≡ n
    left : without_session C t number ≡ C'

  abandoned : Abandoned
  abandoned =
      let a = bound_ok (tenant C repo) _ (n, C') stepped in
      let b = bound_ok (session C a.0 repo number) _ (n, C') a.2 in
      let d = bound_ok (not_busy b.0.chunks) _ (n, C') b.2 in
      let home = home_chunks b.0.chunks d.0 d.1 in
      record { t = a.0; known = some_of_ok (tenant_of C.tenants repo) NameUnknown a.0 a.1; s = b.0; found = (session_found _ repo b.0 b.1).0; counts = home_charged b.0 home.0 home.1; answer = answer_by d.2; left = left_by d.2 }

  pub WellFormed-after_abandon : WellFormed C → WellFormed C'
  WellFormed-after_abandon lawful = let p = abandoned in subst (λ (D : Catalog). WellFormed D) p.left (WellFormed-gone C (p.t, number) lawful)

  pub KeepsQuotas-after_abandon : KeepsQuotas C → KeepsQuotas C'
  KeepsQuotas-after_abandon keeps =
      let p = abandoned in
      subst (λ (D : Catalog). KeepsQuotas D) p.left (λ u there.
      let k = keeps u there in
      elim (cases_eq u p.t) [
        | inl e ↦ rw e (let less = used_bytes-gone C (p.t, number) p.s p.found in let k = rw e at k in omega arith)
        | inr other ↦ let same = used_other-gone C (p.t, number) p.s p.found u other in omega arith
      ])

  pub FitsSlots-after_abandon : FitsSlots C → FitsSlots C'
  FitsSlots-after_abandon fits = subst (λ (D : Catalog). FitsSlots D) abandoned.left fits

  pub Sound-after_abandon : Sound C → Sound C'
  Sound-after_abandon sound = record { lawful = WellFormed-after_abandon sound.lawful; quotas = KeepsQuotas-after_abandon sound.quotas; shares = subst (λ (D : Catalog). KeepsShares D) abandoned.left sound.shares; slots = FitsSlots-after_abandon sound.slots }
