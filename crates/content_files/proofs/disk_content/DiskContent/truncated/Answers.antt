use Rattle.std.proofs.Common.{◌∙◌, arith, sym}
use Rattle.content_files.proofs.Held.{held_front}
use Rattle.content_files.proofs.disk_content.DiskContent.truncated.Goals as goal

pub returns-clause-front : goal.returns-clause-front
returns-clause-front c =
    c.truncate-2.ensures.items ∙ sym (held_front c.content.inside.front.items c.content.inside.len c.content.inside.pieces (omega arith)) ∙ c.content.view_is ∙ c.truncate.ensures
