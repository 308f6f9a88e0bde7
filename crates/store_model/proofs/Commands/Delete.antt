-- An accepted delete keeps a catalog sound; the tenant's use falls by the blob, unless another of its repositories contains it.
use Rattle.std.proofs.Common.{◌≡◌, ℕ, true, length, Option, Some, None, Ok, refl, subst, arith, inl, inr}
use Rattle.std.proofs.lemmas.Bool.{cases_eq, not-false}
use Rattle.blob_digest.specs.declared.refusal.Refusal.TheVariants.{NameUnknown}
use Rattle.spec_lib.specs.Sets as set
use Rattle.spec_lib.specs.Texts.{Text}
use Rattle.store_model.specs.Catalog.{Catalog, tenant_of, holds, tenant_holds}
use Rattle.store_model.specs.Commands.{tenant, check_link, referrer, check_no_referrer, delete}
use Rattle.store_model.specs.Invariant.{WellFormed, KeepsQuotas, KeepsShares, FitsSlots, Sound}
use Rattle.store_model.proofs.Invariant.Repos.{is_own, is_no_other}
use Rattle.store_model.proofs.Invariant.Links.{WellFormed-unlink, used_bytes-unlink, used_other-unlink}
use Rattle.store_model.proofs.Invariant.Shares.{held_count-unlink}
use Rattle.spec_lib.proofs.Outcomes.{bound_ok, not_refused, some_of_ok}
use Rattle.store_model.proofs.Commands.Accepted.{left_by, not_more}

none_refers : (o : Option Text) → check_no_referrer o ≡ Ok tt → o ≡ None
none_refers None h = refl
none_refers (Some m) h = absurd cc

module _ (C C' : Catalog) (repo digest : Text) (stepped : delete C repo digest ≡ Ok (tt, C')) where
  record Deleted : Type 0 where
    t : ℕ
    known : tenant_of C.tenants repo ≡ Some t
    has : holds C repo digest ≡ true
    free : referrer C repo digest ≡ None
    left : record C { links = set.remove C.links (repo, digest) } ≡ C'

  deleted : Deleted
  deleted =
      let a = bound_ok (tenant C repo) _ (tt, C') stepped in
      let b = bound_ok (check_link C repo digest) _ (tt, C') a.2 in
      let c = bound_ok (check_no_referrer (referrer C repo digest)) _ (tt, C') b.2 in
      record { t = a.0; known = some_of_ok (tenant_of C.tenants repo) NameUnknown a.0 a.1; has = not-false _ (not_refused _ _ _ b.1); free = none_refers _ c.1; left = left_by c.2 }

  pub WellFormed-after_delete : WellFormed C → WellFormed C'
  WellFormed-after_delete lawful = subst (λ (D : Catalog). WellFormed D) deleted.left (WellFormed-unlink C repo digest lawful deleted.free)

  pub KeepsQuotas-after_delete : WellFormed C → KeepsQuotas C → KeepsQuotas C'
  KeepsQuotas-after_delete lawful keeps = subst (λ (D : Catalog). KeepsQuotas D) deleted.left (λ u there.
      let k = keeps u there in
      elim (cases_eq u deleted.t) [
        | inl e ↦ rw e (
            let link = lawful.links (repo, digest) deleted.has in
            let less = used_bytes-unlink C repo digest deleted.has deleted.t link.kept.0 link.repo (is_own C deleted.t repo deleted.known) link.kept.1 in
            let part = not_more (tenant_holds (record C { links = set.remove C.links (repo, digest) }) deleted.t digest) (length link.kept.0.bytes) in
            let k = rw e at k in
            omega arith)
        | inr other ↦ let same = used_other-unlink C repo digest deleted.has u (is_no_other C deleted.t u repo deleted.known other) in omega arith
      ])

  pub KeepsShares-after_delete : KeepsShares C → KeepsShares C'
  KeepsShares-after_delete keeps = subst (λ (D : Catalog). KeepsShares D) deleted.left (λ u there.
      let k = keeps u there in
      let less = held_count-unlink C u repo digest deleted.has in
      omega arith)

  pub FitsSlots-after_delete : FitsSlots C → FitsSlots C'
  FitsSlots-after_delete fits = subst (λ (D : Catalog). FitsSlots D) deleted.left fits

  pub Sound-after_delete : Sound C → Sound C'
  Sound-after_delete sound = record { lawful = WellFormed-after_delete sound.lawful; quotas = KeepsQuotas-after_delete sound.lawful sound.quotas; shares = KeepsShares-after_delete sound.shares; slots = FitsSlots-after_delete sound.slots }
