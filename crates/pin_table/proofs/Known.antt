-- The rule for a known list of seats.
use Rattle.std.proofs.Common.{◌≡◌, ℕ, ◌+◌, ◌<◌, List, ◌∷◌, length, drop, sum_by, sym, ap, ◌∙◌, subst, refl}
use Rattle.std.specs.Prelude.{slice_index}
use Rattle.pin_core.specs.declared.world.PinRecord.{PinRecord}
use Rattle.pin_core.specs.World.{PinWorld, holds_of, row, row_word, weight_on}
use Rattle.pin_table.specs.declared.view.KeeperView.{KeeperView}
use Rattle.pin_table.specs.declared.view.View.{View}
use Rattle.pin_table.specs.declared.view.View.TheVariants.{Keeper}
use Rattle.pin_table.specs.Rule.{Accounts, Agrees, all_holds, in_transit}
use Rattle.pin_table.proofs.Agreement.{is_keeper}
use Rattle.pin_table.proofs.PinSeats.{seat_sums}

-- the world that agrees with the words and a known list of seats
pub record Known (ws : List ℕ) (v : KeeperView) (others : List View) (p : PinWorld) : Type 0 where
  pub rows : p.rows ≡ v.rows
  pub words : (k : ℕ) → k < length p.rows → slice_index ws k ≡ row_word (row v.rows k) (weight_on k (holds_of p))
  pub sums : (f : PinRecord → ℕ) → sum_by f (holds_of p) ≡ sum_by f (in_transit v.transit) + sum_by f (all_holds others)
  pub accounts : Accounts (length p.rows) v.bounds v.looks v.lent others (holds_of p)

pub known : {ws : List ℕ} {v : KeeperView} {others : List View} {p : PinWorld} → Agrees ws (Keeper v ∷ others) p → Known ws v others p
known {ws} {v} {others} {p} a =
    let same = is_keeper a v refl in
    let rest : a.others ≡ others = ap (λ l. drop 1 l) (sym a.seats) in
    let rows : p.rows ≡ v.rows = a.rows ∙ ap (λ (x : KeeperView). x.rows) same in record {
      rows = rows;
      words = λ k l. a.at_words k l ∙ ap (λ rs. row_word (row rs k) (weight_on k (holds_of p))) rows;
      sums = λ f. seat_sums a f ∙ ap (λ (x : KeeperView). sum_by f (in_transit x.transit) + sum_by f (all_holds a.others)) same ∙ ap (λ l. sum_by f (in_transit v.transit) + sum_by f (all_holds l)) rest;
      accounts = subst (λ l. Accounts (length p.rows) v.bounds v.looks v.lent l (holds_of p)) rest (subst (λ (x : KeeperView). Accounts (length p.rows) x.bounds x.looks x.lent a.others (holds_of p)) same a.accounts);
    }
