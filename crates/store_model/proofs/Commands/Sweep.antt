-- A sweep, and each part of one, keeps the catalog well-formed, every use unchanged, and the blobs and retired slots within the slots.
use Rattle.store_model.specs.Commands.{is_named}
use Rattle.std.proofs.Common.{◌≡◌, ℕ, ◌+◌, true, false, cond, length, Option, Some, None, refl, sym, ap, ◌∙◌, subst, arith}
use Rattle.std.specs.Prelude.{◌&&◌, is_none, Bool}
use Rattle.std.specs.List.{sum_by}
use Rattle.std.specs.Cmp.Lexicographic.{nat_list_cmp_total}
use Rattle.std.specs.FinMap.{entries, get, len, len-entries}
use Rattle.std.proofs.lemmas.Bool.{and_parts, true≢false, eqb-true}
use Rattle.std.proofs.lemmas.Map.Lookups.{exact_bytes}
use Rattle.spec_lib.specs.Sets as set
use Rattle.spec_lib.specs.Texts.{Text}
use Rattle.store_model.specs.Catalog.{Link, Resident, Catalog, tenant_holds, link_count, blob_share, used_bytes}
use Rattle.store_model.specs.Invariant.{WellFormed, KeepsQuotas, KeepsShares, FitsSlots, Sound}
use Rattle.store_model.specs.declared.swept.Swept.{Swept}
use Rattle.store_model.specs.Sweep.{is_orphan, IsAfterSweep, IsSweepOf}
use Rattle.store_model.proofs.Commands.SomeSweep.{left_bytes}
use Rattle.spec_lib.proofs.Maps.{sum_alike, term}
use Rattle.spec_lib.proofs.Lists.{sum_by-add, sum_by-ones}
use Rattle.store_model.proofs.Invariant.Links.{uncounted, is_unheld}

one_each : (x : Option Resident) → cond {A = ℕ} (is_none x) 1 0 + cond {A = ℕ} (is_none x) 0 1 ≡ 1
one_each None = omega arith
one_each (Some b) = omega arith

module _ (reached : Text → Bool) (C C' : Catalog) (swept : Swept) (sweep : IsSweepOf reached C swept C') (lawful : WellFormed C) where
  -- whether a blob is an orphan that is reached
  abbrev is_swept : Text → Bool
  is_swept d = reached d && is_orphan C d

  abbrev after : Catalog
  after = record C { residents = C'.residents; retired = C.retired + swept.retired }

  -- a linked blob is unchanged
  pub linked_stays : (l : Link) → set.contains C.links l ≡ true → (b : Resident) → get C.residents l.1 ≡ Some b → get C'.residents l.1 ≡ Some b
  linked_stays l h b found =
      elim (is_swept l.1) as (λ o. is_swept l.1 ≡ o → IsAfterSweep o b (get C'.residents l.1) → get C'.residents l.1 ≡ Some b) [
        | true ↦ λ o _. absurd (true≢false (sym h ∙ uncounted C lawful l.1 (eqb-true (link_count C l.1) 0 (and_parts (reached l.1) (is_orphan C l.1) o).1) l.0))
        | false ↦ λ o left. left
      ] refl (sweep.orphans l.1 b found)

  content_from : (d : Text) (now : Resident) (x : Option Resident) → get C.residents d ≡ x → get C'.residents d ≡ Some now → is_named C.contents d now.bytes ≡ true
  content_from d now None none h = absurd (let e : Some now ≡ None = sym h ∙ sweep.no_others d none in cc)
  content_from d now (Some b) found h =
      let same = left_bytes (is_swept d) b now (subst (λ (x : Option Resident). IsAfterSweep (is_swept d) b x) h (sweep.orphans d b found)) in
      ap (is_named C.contents d) (sym same) ∙ lawful.content d b found

  lawful_after : WellFormed after
  lawful_after = record {
    content = λ d now h. content_from d now (get C.residents d) refl h;
    links = λ l h. let k = lawful.links l h in record { repo = k.repo; kept = (k.kept.0, linked_stays l h k.kept.0 k.kept.1, k.kept.2) };
    manifests = lawful.manifests;
    sessions = lawful.sessions;
    repositories = lawful.repositories;
    numbering = lawful.numbering;
    limits = lawful.limits;
    few_sessions = lawful.few_sessions;
    few_manifests = lawful.few_manifests;
  }

  pub WellFormed-sweep : WellFormed C'
  WellFormed-sweep = subst (λ (D : Catalog). WellFormed D) (sym sweep.rest) lawful_after

  unheld : (u : ℕ) (d : Text) → is_orphan C d ≡ true → tenant_holds C u d ≡ false
  unheld u d o = is_unheld C u d (uncounted C lawful d (eqb-true (link_count C d) 0 o))

  share_alike : (u : ℕ) (d : Text) (x : Option Resident) → get C.residents d ≡ x → term (blob_share C u) d x ≡ term (blob_share C u) d (get C'.residents d)
  share_alike u d None none = sym (ap (term (blob_share C u) d) (sweep.no_others d none))
  share_alike u d (Some b) found =
      elim (is_swept d) as (λ o. is_swept d ≡ o → IsAfterSweep o b (get C'.residents d) → blob_share C u (d, b) ≡ term (blob_share C u) d (get C'.residents d)) [
        | true ↦ λ o _. let orphan = (and_parts (reached d) (is_orphan C d) o).1 in nothing orphan b ∙ sym (at orphan (get C'.residents d))
        | false ↦ λ o left. sym (ap (term (blob_share C u) d) left)
      ] refl (sweep.orphans d b found)
    where
      nothing : is_orphan C d ≡ true → (y : Resident) → blob_share C u (d, y) ≡ 0
      nothing o y = ap (λ h. cond h (length y.bytes) 0) (unheld u d o)

      at : is_orphan C d ≡ true → (y : Option Resident) → term (blob_share C u) d y ≡ 0
      at o None = refl
      at o (Some y) = nothing o y

  pub used_bytes-sweep : (u : ℕ) → used_bytes C' u ≡ used_bytes C u
  used_bytes-sweep u =
      let blobs : sum_by (blob_share C u) (entries C.residents) ≡ sum_by (blob_share C u) (entries C'.residents) = sum_alike nat_list_cmp_total exact_bytes (blob_share C u) (blob_share C u) C.residents C'.residents (λ d. share_alike u d (get C.residents d) refl) in
      let same : used_bytes C' u ≡ used_bytes after u = ap (λ D. used_bytes D u) sweep.rest in
      omega arith

  pub KeepsQuotas-sweep : KeepsQuotas C → KeepsQuotas C'
  KeepsQuotas-sweep keeps = subst (λ (D : Catalog). KeepsQuotas D) (sym sweep.rest) (λ u there.
      let same : used_bytes C' u ≡ used_bytes after u = ap (λ D. used_bytes D u) sweep.rest in
      let alike = used_bytes-sweep u in
      let before = keeps u there in
      omega arith)

  stays : (d : Text) (x : Option Resident) → get C.residents d ≡ x → term (λ (e : Text × Resident). cond (is_none (get C'.residents e.0)) 0 1) d x ≡ term (λ (e : Text × Resident). 1) d (get C'.residents d)
  stays d None none = sym (ap (term (λ (e : Text × Resident). 1) d) (sweep.no_others d none))
  stays d (Some b) found = at (get C'.residents d)
    where
      at : (y : Option Resident) → cond {A = ℕ} (is_none y) 0 1 ≡ term (λ (e : Text × Resident). 1) d y
      at None = refl
      at (Some y) = refl

  -- each blob stays or is removed
  pub len-sweep : len C.residents ≡ swept.freed + swept.retired + len C'.residents
  len-sweep =
      let gone : Text × Resident → ℕ = λ e. cond (is_none (get C'.residents e.0)) 1 0 in
      let left : Text × Resident → ℕ = λ e. cond (is_none (get C'.residents e.0)) 0 1 in
      let one : Text × Resident → ℕ = λ _. 1 in
      let parts : sum_by one (entries C.residents) ≡ sum_by gone (entries C.residents) + sum_by left (entries C.residents) = sum_by-add gone left one (λ e. sym (one_each (get C'.residents e.0))) (entries C.residents) in
      let same : sum_by left (entries C.residents) ≡ sum_by one (entries C'.residents) = sum_alike nat_list_cmp_total exact_bytes left one C.residents C'.residents (λ d. stays d (get C.residents d) refl) in
      let before : sum_by one (entries C.residents) ≡ len C.residents = sum_by-ones (entries C.residents) ∙ sym (len-entries C.residents) in
      let now : sum_by one (entries C'.residents) ≡ len C'.residents = sum_by-ones (entries C'.residents) ∙ sym (len-entries C'.residents) in
      let counted : swept.freed + swept.retired ≡ sum_by gone (entries C.residents) = sweep.gone in
      omega arith

  pub FitsSlots-sweep : FitsSlots C → FitsSlots C'
  FitsSlots-sweep fits = subst (λ (D : Catalog). FitsSlots D) (sym sweep.rest) (record {
    some = fits.some;
    few = fits.few;
    fit = let fit = fits.fit in let parts = len-sweep in omega arith;
  })

  pub Sound-sweep : KeepsQuotas C → KeepsShares C → FitsSlots C → Sound C'
  Sound-sweep keeps shares fits = record { lawful = WellFormed-sweep; quotas = KeepsQuotas-sweep keeps; shares = subst (λ (D : Catalog). KeepsShares D) (sym sweep.rest) shares; slots = FitsSlots-sweep fits }
