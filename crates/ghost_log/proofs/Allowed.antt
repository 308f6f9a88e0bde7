-- The conditions of the table on each step, by equations on the seats' views.
use Rattle.std.proofs.Common.{◌≡◌, ℕ, List, [], Some, None, refl, sym, subst}
use mathlib.Core.Option.{none}
use Rattle.atomic_table.specs.Table.{State, Me, step, keeps, Allows, Splits, Joins}
use Rattle.ghost_log.specs.declared.view.WriterView.{WriterView}
use Rattle.ghost_log.specs.declared.view.View.{View}
use Rattle.ghost_log.specs.declared.view.View.TheVariants.{Owner, OfWriter, Empty}
use Rattle.ghost_log.specs.Entries.{Entry}
use Rattle.ghost_log.specs.Rule.{contents, FollowsRule}
use Rattle.ghost_log.specs.Steps.{without_transit, transit_view, view_taken_in, view_with_writer, new_writer_view, appended_contents, appends}
use Rattle.ghost_log.proofs.Keeps as rule

module _ {E : Type 0} where
  abbrev pub holds : State (Unit {0}) (View E) → Type 0
  holds s = FollowsRule s.views

  pub append_allowed : (slots id : ℕ) (me : Me (Unit {0}) (View E)) (log : List (Entry E)) (writers : ℕ) (k : WriterView E) (events : List E) → id ≡ 0 → me ≡ (Owner (contents log writers (Some k)), [])
      → Allows holds slots id me 0 (λ n. n) (appends events (step slots 0 0 0 none) me)
  append_allowed slots id me log writers k events z is =
      subst (λ i. Allows holds slots i me 0 (λ n. n) (appends events (step slots 0 0 0 none) me)) (sym z)
      (subst (λ (x : Me (Unit {0}) (View E)). Allows holds slots 0 x 0 (λ n. n) (appends events (step slots 0 0 0 none) x)) (sym is)
      (λ st r homes at fits. (Owner (appended_contents events (contents log writers (Some k)) (Some k)), keeps, tt, rule.appends log writers k events st.views r at, (rule.tells (contents log writers (Some k)) st.views r at, refl))))

  -- with no writer in transit
  pub look_allowed : (slots id : ℕ) (me : Me (Unit {0}) (View E)) (log : List (Entry E)) (writers : ℕ) (events : List E) → id ≡ 0 → me ≡ (Owner (contents log writers None), [])
      → Allows holds slots id me 0 (λ n. n) (appends events (step slots 0 0 0 none) me)
  look_allowed slots id me log writers events z is =
      subst (λ i. Allows holds slots i me 0 (λ n. n) (appends events (step slots 0 0 0 none) me)) (sym z)
      (subst (λ (x : Me (Unit {0}) (View E)). Allows holds slots 0 x 0 (λ n. n) (appends events (step slots 0 0 0 none) x)) (sym is)
      (λ st r homes at fits. (Owner (contents log writers None), keeps, tt, rule.stays log writers st.views r at, (rule.tells (contents log writers None) st.views r at, refl))))

  pub transit_allowed : (id : ℕ) (v : View E) (log : List (Entry E)) (writers : ℕ) (k : WriterView E) → id ≡ 0 → v ≡ Owner (contents log writers (Some k)) → Splits holds id v (without_transit v) (transit_view v)
  transit_allowed id v log writers k z is =
      subst (λ i. Splits holds i v (without_transit v) (transit_view v)) (sym z)
      (subst (λ (x : View E). Splits holds 0 x (without_transit x) (transit_view x)) (sym is)
      (λ st r at. rule.gives log writers k st.views r at))

  pub take_allowed : (id : ℕ) (v : View E) (log : List (Entry E)) (writers other : ℕ) (u : View E) (k : WriterView E) → id ≡ 0 → v ≡ Owner (contents log writers None) → u ≡ OfWriter k → Joins holds id v other u (view_taken_in v u) Empty
  take_allowed id v log writers other u k z is held =
      subst (λ i. Joins holds i v other u (view_taken_in v u) Empty) (sym z)
      (subst (λ (x : View E). Joins holds 0 x other u (view_taken_in x u) Empty) (sym is)
      (subst (λ (y : View E). Joins holds 0 (Owner (contents log writers None)) other y (view_taken_in (Owner (contents log writers None)) y) Empty) (sym held)
      (λ st r at ne there. rule.takes log writers k st.views other r at ne there)))

  pub cut_allowed : (id : ℕ) (v : View E) (log : List (Entry E)) (writers : ℕ) → id ≡ 0 → v ≡ Owner (contents log writers None) → Splits holds id v (view_with_writer v) (new_writer_view v)
  cut_allowed id v log writers z is =
      subst (λ i. Splits holds i v (view_with_writer v) (new_writer_view v)) (sym z)
      (subst (λ (x : View E). Splits holds 0 x (view_with_writer x) (new_writer_view x)) (sym is)
      (λ st r at. rule.cuts log writers st.views r at))
