-- A sweep can always happen: one that frees each orphan is a sweep.
use Rattle.std.proofs.Common.{◌≡◌, ◌+◌, Bool, true, false, cond, not, Option, Some, None, refl, sym, ap, ◌∙◌, subst, arith}
use Rattle.std.specs.Prelude.{◌&&◌, is_none}
use Rattle.std.specs.List.{count_by}
use Rattle.std.specs.FinMap.{FinMap, entries, get, retain_keys, get-retain_keys}
use Rattle.std.proofs.lemmas.Map.Lookups.{exact_bytes}
use Rattle.spec_lib.proofs.Options.{some_same}
use Rattle.spec_lib.specs.Texts.{Text, text_cmp}
use Rattle.store_model.specs.Catalog.{Resident, Catalog}
use Rattle.store_model.specs.declared.swept.Swept.{Swept}
use Rattle.store_model.specs.Sweep.{is_orphan, IsAfterSweep, IsSweep}

-- each resident blob after a sweep has the bytes of one before it
pub left_bytes : (orphan : Bool) (b now : Resident) → IsAfterSweep orphan b (Some now) → b.bytes ≡ now.bytes
left_bytes true b now left = sym (ap (λ (x : Resident). x.bytes) left.1)
left_bytes false b now left = ap (λ (x : Resident). x.bytes) (sym (some_same left))

module _ (C : Catalog) where
  abbrev pub kept : FinMap text_cmp Resident
  kept = retain_keys C.residents (λ d. not (is_orphan C d))

  abbrev pub swept : Swept
  swept = record {
    condemned = count_by (λ e. is_orphan C e.0 && not e.1.condemned) (entries C.residents);
    freed = count_by (λ e. is_none (get kept e.0)) (entries C.residents);
    held = count_by (λ e. e.1.condemned) (entries kept);
    retired = 0;
  }

  abbrev pub after : Catalog
  after = record C { residents = kept; retired = C.retired + 0 }

  at : (d : Text) → get kept d ≡ cond (not (is_orphan C d)) (get C.residents d) None
  at d = get-retain_keys C.residents (λ d. not (is_orphan C d)) d (λ x tie. ap (λ (q : Text). not (is_orphan C q)) (sym (exact_bytes d x tie)))

  left : (o : Bool) (b : Resident) → IsAfterSweep o b (cond (not o) (Some b) None)
  left true b = tt
  left false b = refl

  nothing : (o : Bool) → cond {A = Option Resident} o None None ≡ None
  nothing true = refl
  nothing false = refl

  pub some_sweep : IsSweep C swept after
  some_sweep = record {
    orphans = λ d b found. subst (λ (x : Option Resident). IsAfterSweep (is_orphan C d) b x) (sym (at d ∙ ap (λ x. cond (not (is_orphan C d)) x None) found)) (left (is_orphan C d) b);
    no_others = λ d none. at d ∙ ap (λ x. cond (not (is_orphan C d)) x None) none ∙ nothing (not (is_orphan C d));
    rest = refl;
    condemned = refl;
    gone = omega arith;
    held = refl;
  }
