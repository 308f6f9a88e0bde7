-- The calls on a framed disk, and its frames after them.
use Rattle.std.specs.Prelude.{List, [], ◌∷◌, ◌++◌, Option, Some, None}
use Rattle.ghost_log.specs.declared.view.Entry.{Entry}
use Rattle.log_frames.specs.Frames.{Frame}

-- the frames that were added and those that are synced, after frames were added or all frames were synced
abbrev pub after_deed : List Frame × List Frame → Option (List Frame) → List Frame × List Frame
after_deed at (Some frames) = (at.0 ++ frames, at.1)
after_deed at None = (at.0, at.0)

-- the same after several calls
abbrev pub after_deeds : List Frame × List Frame → List (Entry (Option (List Frame))) → List Frame × List Frame
after_deeds at [] = at
after_deeds at (e ∷ es) = after_deeds (after_deed at e.event) es
