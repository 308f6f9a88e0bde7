-- A part of a sweep that reaches every stored blob is a sweep.
use Rattle.std.proofs.Common.{◌≡◌, ℕ, Bool, true, cond, not, Option, Some, None, refl, sym, ap, ◌∙◌, subst}
use Rattle.std.specs.Prelude.{◌&&◌}
use Rattle.std.specs.List.{count_by}
use Rattle.std.specs.Cmp.Lexicographic.{nat_list_cmp_total}
use Rattle.std.specs.FinMap.{entries, get}
use Rattle.std.proofs.lemmas.Map.Lookups.{exact_bytes}
use Rattle.spec_lib.specs.Texts.{Text}
use Rattle.spec_lib.proofs.Maps.{sum_alike, term}
use Rattle.store_model.specs.Catalog.{Resident, Catalog}
use Rattle.store_model.specs.declared.swept.Swept.{Swept}
use Rattle.store_model.specs.Sweep.{is_orphan, IsAfterSweep, IsSweep, IsSweepOf}

module _ (reached : Text → Bool) (C C' : Catalog) (swept : Swept) (part : IsSweepOf reached C swept C') where
  -- ---- every blob is reached

  module _ (all : (d : Text) (b : Resident) → get C.residents d ≡ Some b → reached d ≡ true) where
    -- a remaining blob is reached
    still : (d : Text) (o : Option Resident) (b : Resident) → get C.residents d ≡ o → get C'.residents d ≡ Some b → reached d ≡ true
    still d None b none found = absurd (let gone = part.no_others d none in cc)
    still d (Some a) b was found = all d a was

    condemned : count_by (λ e. reached e.0 && is_orphan C e.0 && not e.1.condemned) (entries C.residents) ≡ count_by (λ e. is_orphan C e.0 && not e.1.condemned) (entries C.residents)
    condemned = sum_alike nat_list_cmp_total exact_bytes (λ (e : Text × Resident). cond (reached e.0 && is_orphan C e.0 && not e.1.condemned) 1 0) (λ (e : Text × Resident). cond (is_orphan C e.0 && not e.1.condemned) 1 0) C.residents C.residents (λ d. at d (get C.residents d) refl)
      where
        at : (d : Text) (o : Option Resident) → get C.residents d ≡ o → term (λ (e : Text × Resident). cond {A = ℕ} (reached e.0 && is_orphan C e.0 && not e.1.condemned) 1 0) d o ≡ term (λ (e : Text × Resident). cond {A = ℕ} (is_orphan C e.0 && not e.1.condemned) 1 0) d (get C.residents d)
        at d None none = sym (ap (term (λ (e : Text × Resident). cond {A = ℕ} (is_orphan C e.0 && not e.1.condemned) 1 0) d) none)
        at d (Some b) found = ap (λ r. cond {A = ℕ} (r && is_orphan C d && not b.condemned) 1 0) (all d b found) ∙ sym (ap (term (λ (e : Text × Resident). cond {A = ℕ} (is_orphan C e.0 && not e.1.condemned) 1 0) d) found)

    held : count_by (λ e. reached e.0 && e.1.condemned) (entries C'.residents) ≡ count_by (λ e. e.1.condemned) (entries C'.residents)
    held = sum_alike nat_list_cmp_total exact_bytes (λ (e : Text × Resident). cond (reached e.0 && e.1.condemned) 1 0) (λ (e : Text × Resident). cond e.1.condemned 1 0) C'.residents C'.residents (λ d. at d (get C'.residents d) refl)
      where
        at : (d : Text) (o : Option Resident) → get C'.residents d ≡ o → term (λ (e : Text × Resident). cond {A = ℕ} (reached e.0 && e.1.condemned) 1 0) d o ≡ term (λ (e : Text × Resident). cond {A = ℕ} e.1.condemned 1 0) d (get C'.residents d)
        at d None none = sym (ap (term (λ (e : Text × Resident). cond {A = ℕ} e.1.condemned 1 0) d) none)
        at d (Some b) found = ap (λ r. cond {A = ℕ} (r && b.condemned) 1 0) (still d (get C.residents d) b refl found) ∙ sym (ap (term (λ (e : Text × Resident). cond {A = ℕ} e.1.condemned 1 0) d) found)

    pub IsSweep-all : IsSweep C swept C'
    IsSweep-all = record {
      orphans = λ d b found. subst (λ r. IsAfterSweep (r && is_orphan C d) b (get C'.residents d)) (all d b found) (part.orphans d b found);
      no_others = part.no_others;
      rest = part.rest;
      condemned = part.condemned ∙ condemned;
      gone = part.gone;
      held = part.held ∙ held;
    }
