use Rattle.std.proofs.Common.{◌≡◌, ◌++◌, flat_map, take}
use Rattle.durable_log.proofs.segments.write_each.Given as goal

abbrev pub invariant-loop-segment : goal.invariant-loop-segment
invariant-loop-segment g l =
    (g.D.Disk.written l.disk ≡ g.D.Disk.written l.initial.disk ++ flat_map (λ v. v.items) (take l.segment-index l.segments)) × (g.D.Disk.synced l.disk ≡ g.D.Disk.synced l.initial.disk)
