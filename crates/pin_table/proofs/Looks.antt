-- A step of any kind that counts a look found the word.
use Rattle.std.proofs.Common.{◌≡◌, ℕ, suc, ◌+◌, ◌<◌, List, ◌∷◌, length, set, sym, ap, ◌∙◌, subst, arith, pow_pos}
use Rattle.std.specs.Prelude.{slice_index}
use mathlib.Core.Option.{some}
use lib.ListN.{get_elem?}
use Rattle.pin_core.specs.declared.world.PinRecord.{PinRecord}
use Rattle.pin_core.specs.World.{PinWorld, holds_of, row, row_word, weight_at, weight_on}
use Rattle.pin_table.specs.declared.view.KeeperView.{KeeperView}
use Rattle.pin_table.specs.declared.view.View.{View}
use Rattle.pin_table.specs.declared.view.View.TheVariants.{Keeper, Left, Pin}
use Rattle.pin_table.specs.Rule.{Accounts, Agrees, released_pin}
use Rattle.pin_table.specs.Looks.{LooksAreTrue}
use Rattle.pin_table.proofs.Holds.{sum_one, sum_set, weight_same}
use Rattle.pin_table.proofs.Accounts.{left_now, told_true}
use Rattle.pin_table.proofs.PinSeats.{pinned}
use Rattle.pin_table.proofs.Found.{ended_by_call, found_by_call}
use Rattle.pin_table.proofs.Known.{known}

found_true : {ws ws' : List ℕ} {v u : KeeperView} {others : List View} {p q : PinWorld} → Agrees ws (Keeper v ∷ others) p → Agrees ws' (Keeper u ∷ others) q → (k : ℕ) → k < length u.rows → slice_index u.looks k ≡ slice_index v.looks k + 1
    → slice_index ws' k ≡ row_word (row u.rows k) (slice_index u.bounds k)
found_true {v = v} {u = u} {others = others} {p = p} {q = q} a b k l one =
    let x = known a in
    let y = known b in
    let long = ap (λ rs. length rs) y.rows in
    let there : k < length q.rows = omega arith in
    y.words k there ∙ ap (λ w. row_word (row u.rows k) w) (sym (told_true _ _ v.bounds v.looks v.lent u.bounds u.looks u.lent others (holds_of p) (holds_of q) k there x.accounts y.accounts one))

left_counts : {ws ws' : List ℕ} {v : KeeperView} {others : List View} {p q : PinWorld} (place : ℕ) (h : PinRecord) (look : ℕ) → get_elem? others place ≡ some (Pin h) → Agrees ws (Keeper v ∷ others) p → Agrees ws' (Keeper v ∷ set others place (Left (released_pin h look))) q
    → look ≡ slice_index v.looks h.slot
left_counts {v = v} {others = others} {p = p} {q = q} place h look at a b =
    let x = known a in
    let y = known b in
    let c = pinned a (suc place) h at in
    let power = pow_pos c.weighs.0 in
    let weight = c.weighs.2 in
    let f = weight_at h.slot in
    let less : weight_on h.slot (holds_of q) + h.weight ≡ weight_on h.slot (holds_of p) = omega (arith, x.sums f, y.sums f, sum_set f others place (Pin h) (Left (released_pin h look)) at, sum_one f h, weight_same h) in
    let same : q.rows ≡ p.rows = y.rows ∙ sym x.rows in
    left_now (length p.rows) v.bounds v.looks v.lent others place (holds_of p) (holds_of q) h look at c.keeps.there less (omega arith) x.accounts
    (subst (λ rs. Accounts (length rs) v.bounds v.looks v.lent (set others place (Left (released_pin h look))) (holds_of q)) same y.accounts)

pub looks : LooksAreTrue
looks = record {
  found = λ n g ws ws' v u others k r t l one. found_true r.agrees t.agrees k l one;
  left = λ n g ws ws' v others place h look at r t. left_counts place h look at r.agrees t.agrees;
  called = found_by_call;
  ended = ended_by_call;
}
