use Rattle.std.proofs.Common.{subst}
use Rattle.framed_disk.specs.Invariants.{IsFramed}
use Rattle.framed_disk.specs.Views.{FramedView}
use Rattle.framed_disk.proofs.Survivors.{leaves_cut_behind, preserves_behind, readable_behind}
use Rattle.framed_disk.proofs.framed_disk.FramedDisk.reveal_survivors_before.Goals as goal

pub returns-clause-readable : goal.returns-clause-readable
returns-clause-readable g c =
    let d = c.self.inside in
    readable_behind c.args.self.now d.cursor d.synced d.stated c.args.left.now c.args.behind.now (subst (λ (v : FramedView). IsFramed v d.cursor d.synced d.stated) c.self.view_is c.self.invariant.2) c.requires.left c.requires.behind

pub returns-clause-preserved : goal.returns-clause-preserved
returns-clause-preserved g c =
    let d = c.self.inside in
    preserves_behind c.args.self.now d.cursor d.synced d.stated c.args.left.now c.args.behind.now (subst (λ (v : FramedView). IsFramed v d.cursor d.synced d.stated) c.self.view_is c.self.invariant.2) c.requires.left c.requires.behind

pub returns-clause-cut : goal.returns-clause-cut
returns-clause-cut g c =
    let d = c.self.inside in
    leaves_cut_behind c.args.self.now d.cursor d.synced d.stated c.args.left.now c.args.behind.now (subst (λ (v : FramedView). IsFramed v d.cursor d.synced d.stated) c.self.view_is c.self.invariant.2) c.requires.left c.requires.behind
