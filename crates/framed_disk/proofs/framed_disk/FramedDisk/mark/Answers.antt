use Rattle.std.proofs.Common.{◌∙◌, ap, not, subst}
use Rattle.framed_disk.specs.Views.{FramedView, IsMarked}
use Rattle.framed_disk.proofs.Steps.{marked}
use Rattle.framed_disk.proofs.framed_disk.FramedDisk.mark.Goals as goal

pub returns-then-self-clause-marked : goal.returns-then-self-clause-marked
returns-then-self-clause-marked g c =
    let d = c.self.inside in
    subst IsMarked c.self.view_is (marked _ d.cursor d.synced d.stated c.self.invariant.2 (c.is_none.ensures ∙ ap not c.if-is_none.true) c.if-self.true)
