-- What holds of a disk of segments at all times.
use Rattle.std.specs.Prelude.{◌≡◌}
use mathlib.Core.List.{IsPrefix}
use Rattle.segmented_disk.specs.Views.{SegmentedView, all_durable}

-- the synced payloads are durable, with perhaps more after them
abbrev pub KeepsSynced : SegmentedView → Type 0
KeepsSynced v = IsPrefix v.synced (all_durable v)

-- the synced payloads are durable, and the last segment is the one that the folder has published last
pub record IsPublished (v : SegmentedView) : Type 0 where
  pub keeps : KeepsSynced v
  pub last : v.segment.id ≡ v.folder.last_id
