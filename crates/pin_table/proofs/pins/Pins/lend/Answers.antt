use Rattle.std.proofs.Common.{◌≡◌, ◌+◌, ap, sym, ◌∙◌, arith}
use Rattle.pin_core.specs.World.{row}
use Rattle.pin_core.specs.Events.{new_weight}
use Rattle.pin_table.specs.Calls.{KeeperValue, after_lend, lent_pin}
use Rattle.pin_table.proofs.Bits.{one_sum}
use Rattle.pin_table.proofs.pins.Pins.lend.Goals as goal

pub returns : goal.returns
returns c =
    let k = c.args.slot in
    let s : KeeperValue = c.args.keeper.now in
    let l = c.look.ensures in
    let u = c.unpack-sum.ensures in
    let r = row s.rows k in
    let sum : c.unpack-sum.result.weight ≡ l.weight = one_sum c.unpack-sum.result.generation r.generation c.unpack-sum.result.weight l.weight c.unpack-sum.result.phase r.phase u.weight l.fits (sym u.inverse ∙ l.word) in
    let most = c.if-sum.false in record {
      weight = l.weight;
      within = l.within;
      room = omega arith;
      after = c.add_pin.ensures.bound ∙ ap (λ n. after_lend k (n + new_weight) c.look.new.keeper) l.bound ∙ ap (after_lend k (l.weight + new_weight)) l.after;
      pin = c.add_pin.ensures.pin ∙ ap (lent_pin k) l.after;
      digest = ap (λ (x : KeeperValue). (row x.rows k).digest) (sym l.after) ∙ c.add_pin.ensures.digest;
    }
