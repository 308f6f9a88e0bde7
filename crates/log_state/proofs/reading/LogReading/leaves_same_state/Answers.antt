use Rattle.std.proofs.Common.{◌≡◌, [], arith, sym}
use Rattle.std.proofs.lemmas.Grind.{common_steps}
use Rattle.log_state.proofs.Records.{same_left}
use Rattle.log_state.proofs.reading.LogReading.leaves_same_state.Goals as goal

pub returns : goal.returns
returns c = λ h.
    let none : c.args.self.now.left.items ≡ [] = grind (arith, common_steps) in
    let none_other : c.args.other.now.left.items ≡ [] = grind (arith, common_steps) in
    same_left c.args.self.now c.args.other.now (sym (c.has_same_tenants.ensures c.if-not-has_same_tenants.false)) none none_other (c.is_same.ensures h)
