-- The result of a sweep is determined, except for blobs that were ever leased.
use Rattle.std.proofs.Common.{◌≡◌, ℕ, ◌+◌, Bool, false, cond, Option, Some, None, refl, ap, ◌∙◌, subst, arith}
use Rattle.std.specs.Prelude.{◌&&◌, not, is_none}
use Rattle.std.specs.Cmp.Lexicographic.{nat_list_cmp_total}
use Rattle.std.specs.List.{count_by}
use Rattle.std.specs.FinMap.{entries, get, same_map}
use Rattle.std.proofs.lemmas.Map.Lookups.{exact_bytes}
use Rattle.spec_lib.specs.Texts.{Text}
use Rattle.store_model.specs.Catalog.{Resident, Catalog}
use Rattle.store_model.specs.declared.swept.Swept.{Swept}
use Rattle.store_model.specs.Sweep.{is_orphan, IsAfterSweep, IsSweep}
use Rattle.spec_lib.proofs.Maps.{term, sum_zero}

module _ (C C' : Catalog) (swept : Swept) (sweep : IsSweep C swept C') where
  -- whether a blob was removed
  abbrev is_gone : Text → Bool
  is_gone d = is_none (get C'.residents d)

  module _ (linked : (d : Text) (b : Resident) → get C.residents d ≡ Some b → (is_orphan C d ≡ false) × (b.condemned ≡ false)) where
    stays : (d : Text) (o : Option Resident) → get C.residents d ≡ o → get C'.residents d ≡ o
    stays d None none = sweep.no_others d none
    stays d (Some b) found = subst (λ o. IsAfterSweep o b (get C'.residents d)) (linked d b found).0 (sweep.orphans d b found)

    residents_stay : C'.residents ≡ C.residents
    residents_stay = same_map nat_list_cmp_total exact_bytes C'.residents C.residents (λ d. stays d (get C.residents d) refl)

    none_condemned : swept.condemned ≡ 0
    none_condemned = sweep.condemned ∙ sum_zero nat_list_cmp_total exact_bytes (λ e. cond (is_orphan C e.0 && not e.1.condemned) 1 0) C.residents (λ d. at d (get C.residents d) refl)
      where
        at : (d : Text) (o : Option Resident) → get C.residents d ≡ o → term (λ (e : Text × Resident). cond {A = ℕ} (is_orphan C e.0 && not e.1.condemned) 1 0) d o ≡ 0
        at d None none = refl
        at d (Some b) found = ap (λ o. cond {A = ℕ} (o && not b.condemned) 1 0) (linked d b found).0

    none_gone : swept.freed + swept.retired ≡ 0
    none_gone = sweep.gone ∙ sum_zero nat_list_cmp_total exact_bytes (λ e. cond (is_gone e.0) 1 0) C.residents (λ d. at d (get C.residents d) refl)
      where
        at : (d : Text) (o : Option Resident) → get C.residents d ≡ o → term (λ (e : Text × Resident). cond {A = ℕ} (is_gone e.0) 1 0) d o ≡ 0
        at d None none = refl
        at d (Some b) found = ap (λ o. cond {A = ℕ} (is_none o) 1 0) (stays d (Some b) found)

    none_held : swept.held ≡ 0
    none_held = sweep.held ∙ ap (λ m. count_by (λ e. e.1.condemned) (entries m)) residents_stay ∙ sum_zero nat_list_cmp_total exact_bytes (λ e. cond e.1.condemned 1 0) C.residents (λ d. at d (get C.residents d) refl)
      where
        at : (d : Text) (o : Option Resident) → get C.residents d ≡ o → term (λ (e : Text × Resident). cond {A = ℕ} e.1.condemned 1 0) d o ≡ 0
        at d None none = refl
        at d (Some b) found = ap (λ c. cond {A = ℕ} c 1 0) (linked d b found).1

    -- if each blob is linked, a sweep does nothing
    pub idle_sweep : (swept ≡ record { condemned = 0; freed = 0; held = 0; retired = 0 }) × (C' ≡ C)
    idle_sweep =
        let freed : swept.freed ≡ 0 = (let g = none_gone in omega arith) in
        let retired : swept.retired ≡ 0 = (let g = none_gone in omega arith) in
        let same : C.retired + swept.retired ≡ C.retired = omega arith in
        ((λ i. record { condemned = none_condemned i; freed = freed i; held = none_held i; retired = retired i }), sweep.rest ∙ (λ i. record C { residents = residents_stay i; retired = same i }))
