use Rattle.std.proofs.Common.{refl}
use Rattle.segmented_disk.proofs.Segments.{next_published, still_published}
use Rattle.segmented_disk.proofs.segmented_disk.SegmentedDisk.start_next.Goals as goal

pub invariant_of-self : goal.invariant_of-self
invariant_of-self g c = still_published _ _ _ _ _ _ _ c.self.invariant refl c.end.ensures.kept

pub invariant_of-self-in_err-next : goal.invariant_of-self-in_err-next
invariant_of-self-in_err-next g c = still_published _ _ _ _ _ _ _ c.self.invariant c.in_err-next.ensures.kept c.end.ensures.kept

pub invariant_of-self-2 : goal.invariant_of-self-2
invariant_of-self-2 g c = next_published _ _ _ _ _ _ _ _ c.self.invariant c.end.ensures.kept c.in_ok-end.ensures.ended c.in_ok-next.ensures.published
