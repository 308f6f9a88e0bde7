use Rattle.std.proofs.Common.{arith, subst, sym}
use Rattle.content_files.proofs.Held.{held_cut}
use Rattle.content_files.specs.Held.{IsHeld}
use Rattle.content_files.proofs.disk_content.DiskContent.truncate.Goals as goal

pub invariant_of-self : goal.invariant_of-self
invariant_of-self c =
    subst (IsHeld c.self.inside.front.items c.args.len c.self.inside.pieces) (sym c.first_before-self-inside.ensures)
    (held_cut c.self.inside.front.items c.self.inside.len c.self.inside.pieces c.self.inside.first_unread c.args.len (omega arith) c.self.invariant).0
