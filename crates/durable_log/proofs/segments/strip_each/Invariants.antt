use Rattle.std.proofs.Common.{◌≡◌, ◌++◌, flat_map, take}
use Rattle.durable_log.proofs.segments.strip_each.Given as goal

abbrev pub invariant-loop-segment : goal.invariant-loop-segment
invariant-loop-segment l =
    l.fn.bytes ≡ flat_map (λ v. v.items) (take l.segment-index l.segments) ++ l.rest
