-- An accepted lease keeps a catalog sound and every use unchanged.
use Rattle.std.proofs.Common.{◌≡◌, Bool, true, length, Some, is_some, Ok, sym, ap, ◌∙◌, subst, arith}
use Rattle.std.specs.FinMap.{get}
use Rattle.std.proofs.lemmas.Bool.{not-false, true≢false}
use Rattle.blob_digest.specs.declared.refusal.Refusal.TheVariants.{BlobUnknown, TooManyReaders}
use Rattle.spec_lib.specs.Texts.{Text}
use Rattle.store_model.specs.Catalog.{Resident, Catalog, holds}
use Rattle.store_model.specs.Commands.{tenant, check_link, linked_blob, with_leased, lease}
use Rattle.spec_lib.specs.Outcomes.{refuse}
use Rattle.store_model.specs.Invariant.{WellFormed, KeepsQuotas, KeepsShares, FitsSlots, Sound}
use Rattle.store_model.proofs.Invariant.Blobs.{WellFormed-put, used_bytes-put, FitsSlots-put}
use Rattle.spec_lib.proofs.Options.{some_same}
use Rattle.spec_lib.proofs.Outcomes.{bound_ok, not_refused, some_of_ok}
use Rattle.store_model.proofs.Commands.Accepted.{left_by}

module _ (C C' : Catalog) (crowded : Bool) (repo digest bytes : Text) (stepped : lease crowded C repo digest ≡ Ok (bytes, C')) where
  record Leased : Type 0 where
    has : holds C repo digest ≡ true
    b : Resident
    found : get C.residents digest ≡ Some b
    left : with_leased C digest b ≡ C'

  leased : Leased
  leased =
      let a = bound_ok (tenant C repo) _ (bytes, C') stepped in
      let b = bound_ok (linked_blob C repo digest) _ (bytes, C') a.2 in
      let c = bound_ok (refuse crowded TooManyReaders) _ (bytes, C') b.2 in
      let held = bound_ok (check_link C repo digest) _ b.0 b.1 in
      record { has = not-false _ (not_refused _ _ _ held.1); b = b.0; found = some_of_ok _ BlobUnknown b.0 held.2; left = left_by c.2 }

  abbrev marked : Resident
  marked = record leased.b { lent = true }

  pub WellFormed-after_lease : WellFormed C → WellFormed C'
  WellFormed-after_lease lawful =
      let link = lawful.links (repo, digest) leased.has in
      let is : link.kept.0 ≡ leased.b = some_same (sym link.kept.1 ∙ leased.found) in
      subst (λ (D : Catalog). WellFormed D) leased.left (WellFormed-put C digest marked (ap (λ (b : Resident). b.condemned) (sym is) ∙ link.kept.2) lawful (lawful.content digest leased.b leased.found))

  pub KeepsQuotas-after_lease : WellFormed C → KeepsQuotas C → KeepsQuotas C'
  KeepsQuotas-after_lease lawful keeps = subst (λ (D : Catalog). KeepsQuotas D) leased.left (λ u there.
      let same = used_bytes-put C digest marked lawful (λ old h. ap (λ (b : Resident). length b.bytes) (some_same (sym h ∙ leased.found))) u in
      let k = keeps u there in
      omega arith)

  pub FitsSlots-after_lease : FitsSlots C → FitsSlots C'
  FitsSlots-after_lease fits = subst (λ (D : Catalog). FitsSlots D) leased.left (FitsSlots-put C digest marked fits (λ none. absurd (true≢false (sym (ap is_some leased.found) ∙ none))))

  pub Sound-after_lease : Sound C → Sound C'
  Sound-after_lease sound = record { lawful = WellFormed-after_lease sound.lawful; quotas = KeepsQuotas-after_lease sound.lawful sound.quotas; shares = subst (λ (D : Catalog). KeepsShares D) leased.left sound.shares; slots = FitsSlots-after_lease sound.slots }
