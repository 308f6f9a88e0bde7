use Rattle.std.proofs.Common.{◌++◌, ◌∙◌, take, arith}
use Rattle.std.proofs.lemmas.List.{length-append, length-take}
use Rattle.std.proofs.KnownBytes.{Consumes-trans}
use Rattle.wire_format.proofs.fill.skip.Goals as goal

pub loop-left-preserved : goal.loop-left-preserved
loop-left-preserved g c =
    let before = c.loop-left.invariant in
    (before.0 ++ take c.min-len.result c.fill_front.new.buffer, omega (arith, before.1, length-append before.0 (take c.min-len.result c.fill_front.new.buffer), c.in_ok-fill_front.ensures.length, length-take c.min-len.result c.fill_front.new.buffer, c.min-len.ensures), Consumes-trans _ _ _ _ _ before.2 c.in_ok-fill_front.ensures.filled, c.in_ok-fill_front.ensures.failed ∙ before.3)
