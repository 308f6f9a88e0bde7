-- A book as contracts see it: its catalog, the table of its slots' words, and a view of each slot.
use Rattle.std.specs.Prelude.{ℕ, Option, List, ◌≡◌, ◌==◌, cond}
use Rattle.std.proofs.Common.{refl}
use Rattle.std.specs.Coded.{Coded, code_by, coded×, coded_ℕ, coded_list, coded_option}
use Rattle.atomic_table.specs.Seated.{TableId, table_id_coded}
use Rattle.spec_lib.specs.Texts.{Text, coded_text}
use Rattle.slot_table.specs.declared.phase.Phase.{Phase}
use Rattle.slot_table.specs.declared.phase.Phase.TheVariants as phase
use Rattle.store_model.specs.Catalog.{Catalog, coded_catalog}

-- A slot as its keeper sees it: its generation, its phase, the digest of its blob if it is used, a bound on the sum of its readers' weights,
-- and the number of looks at its word. The bound is the sum at the last look, plus the weights of the pins made since.
pub record SlotView : Type 0 where
  pub generation : ℕ
  pub phase : Phase
  pub digest : Option Text
  pub bound : ℕ
  pub looks : ℕ

-- the catalog, the name of the pin table, and the view of each slot
pub record BookState : Type 0 where
  pub catalog : Catalog
  pub table : TableId
  pub slots : List SlotView

-- ---- the coding by which proofs decide equality of states

-- the number of a phase
abbrev pub phase_number : Phase → ℕ
phase_number phase.Free = 0
phase_number phase.Live = 1
phase_number phase.Condemned = 2
phase_number phase.Retired = 3

-- the phase with this number
abbrev pub phase_of_number : ℕ → Phase
phase_of_number n = cond (n == 0) phase.Free (cond (n == 1) phase.Live (cond (n == 2) phase.Condemned phase.Retired))

-- the number of a phase determines it
abbrev pub phase_of_number-phase_number : (p : Phase) → phase_of_number (phase_number p) ≡ p
phase_of_number-phase_number phase.Free = refl
phase_of_number-phase_number phase.Live = refl
phase_of_number-phase_number phase.Condemned = refl
phase_of_number-phase_number phase.Retired = refl

-- the code of a phase
abbrev pub coded_phase : Coded Phase
coded_phase = code_by ℕ coded_ℕ phase_number phase_of_number phase_of_number-phase_number

-- the code of a slot's view
abbrev pub coded_slot : Coded SlotView
coded_slot =
    code_by (ℕ × (Phase × (Option Text × (ℕ × ℕ)))) (coded× coded_ℕ (coded× coded_phase (coded× (coded_option coded_text) (coded× coded_ℕ coded_ℕ))))
    (λ s. (s.generation, (s.phase, (s.digest, (s.bound, s.looks))))) (λ p. record { generation = p.0; phase = p.1.0; digest = p.1.1.0; bound = p.1.1.1.0; looks = p.1.1.1.1 }) (λ _. refl)

-- the code of a book's state
abbrev pub coded_state : Coded BookState
coded_state =
    code_by (Catalog × (TableId × List SlotView)) (coded× coded_catalog (coded× table_id_coded (coded_list coded_slot)))
    (λ s. (s.catalog, (s.table, s.slots))) (λ p. record { catalog = p.0; table = p.1.0; slots = p.1.1 }) (λ _. refl)
