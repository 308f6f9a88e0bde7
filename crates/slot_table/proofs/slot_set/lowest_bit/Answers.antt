use Rattle.std.proofs.Common.{w64, arith}
use Rattle.std.proofs.lemmas.Nat.Bits.{bit_at-trailing_zeros}
use Rattle.std.proofs.Math.Nat.{pos_of_ne-zero}
use Rattle.slot_table.proofs.slot_set.lowest_bit.Goals as goal

pub returns : goal.returns
returns c =
    let low = bit_at-trailing_zeros w64 c.args.word (pos_of_ne-zero c.requires) (omega arith) in
    record { within = low.0; there = low.1; below = low.2 }
