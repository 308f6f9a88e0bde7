-- Facts that follow from the rule at any moment.
use Rattle.std.proofs.Common.{◌≡◌, ℕ, ◌≤◌, List, ap, ◌∙◌, subst, arith}
use Rattle.std.specs.Prelude.{slice_index}
use mathlib.Core.Option.{some}
use lib.ListN.{get_elem?}
use Rattle.pin_core.specs.declared.world.PinRecord.{PinRecord}
use Rattle.pin_core.specs.World.{PinWorld, IsValidPin, holds_of, max_weight, initial_world, row, row_word, weight_at, weight_on}
use Rattle.pin_core.specs.Events.{after_all}
use Rattle.pin_core.proofs.Spans.{reclamation}
use Rattle.pin_table.specs.declared.view.KeeperView.{KeeperView}
use Rattle.pin_table.specs.declared.view.View.{View}
use Rattle.pin_table.specs.declared.view.View.TheVariants.{Keeper, Pin}
use Rattle.pin_table.specs.Rule.{Agrees}
use Rattle.pin_table.specs.Laws.{RunningWords}
use Rattle.pin_table.proofs.Holds.{sum_at, weight_same}
use Rattle.pin_table.proofs.Agreement.{is_keeper}
use Rattle.pin_table.proofs.PinSeats.{pinned, seat_sums}

module _ (words : List ℕ) (views : List View) (p : PinWorld) (a : Agrees words views p) (v : KeeperView) (id : ℕ) (h : PinRecord) (first : get_elem? views 0 ≡ some (Keeper v)) (at : get_elem? views id ≡ some (Pin h)) where
  same_rows : p.rows ≡ v.rows
  same_rows = a.rows ∙ ap (λ (x : KeeperView). x.rows) (is_keeper a v first)

  keeper_view : IsValidPin v.rows h
  keeper_view = subst (λ rs. IsValidPin rs h) same_rows (pinned a id h at).keeps

  counted : (weight : ℕ) × (slice_index words h.slot ≡ row_word (row v.rows h.slot) weight) × (h.weight ≤ weight) × (weight ≤ max_weight)
  counted =
      let c = pinned a id h at in
      let w : ℕ = weight_on h.slot (holds_of p) in
      (w, a.at_words h.slot c.keeps.there ∙ ap (λ rs. row_word (row rs h.slot) w) same_rows, omega (arith, seat_sums c.agrees (weight_at h.slot), sum_at (weight_at h.slot) c.agrees.others c.place h c.at, weight_same h), a.state.fits h.slot)

pub running_words : RunningWords
running_words n g words views r =
    let p : PinWorld = after_all (initial_world n g) r.events in record {
      events = r.events;
      happen = r.happen;
      reclaims = reclamation.from_opening n g r.events r.happen;
      agrees = r.agrees;
      keeps = λ v id h first at. keeper_view words views p r.agrees v id h first at;
      counts = λ v id h first at. counted words views p r.agrees v id h first at;
    }
