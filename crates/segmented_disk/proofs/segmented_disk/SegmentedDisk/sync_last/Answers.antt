use Rattle.std.proofs.Common.{◌∙◌, ap}
use Rattle.log_frames.specs.Frames.{payloads}
use Rattle.segmented_disk.proofs.Segments.{confirmed_published, synced_published}
use Rattle.segmented_disk.proofs.segmented_disk.SegmentedDisk.sync_last.Goals as goal

pub invariant_of-self-in_err-confirm : goal.invariant_of-self-in_err-confirm
invariant_of-self-in_err-confirm g c =
    synced_published _ _ _ _ _ _ _ c.self.invariant c.reveal_invariant.ensures.synced_of c.in_err-confirm.ensures.err c.sync.ensures.unwritten c.in_ok-sync.ensures.ok

pub invariant_of-self-2 : goal.invariant_of-self-2
invariant_of-self-2 g c =
    confirmed_published _ (g.F.SegmentFolder.published c.self.inside.folder) _ _ _ (c.sync.ensures.unwritten.id ∙ c.self.invariant.last) (ap payloads c.in_ok-sync.ensures.frames) c.in_ok-confirm.ensures.ok
