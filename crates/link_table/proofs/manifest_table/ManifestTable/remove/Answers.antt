use Rattle.std.proofs.Common.{ap, ◌∙◌}
use Rattle.std.specs.FinMap.{remove}
use Rattle.link_table.specs.ManifestTable.{ManifestBytes}
use Rattle.link_table.proofs.Groups.{group_of, written, removed, removed_none}
use Rattle.link_table.proofs.manifest_table.ManifestTable.remove.Goals.{in-Some, in-None}
use Rattle.link_table.proofs.manifest_table.ManifestTable.remove.Goals as goal

pub returns : goal.returns
returns c =
    let rows = c.self.inside.rows in
    let r = c.args.repo.now in
    let d = c.args.digest.now in
    let seen = ap (λ (m : ManifestBytes). remove m (r, d)) c.self.view_is in
    elim c.match-get_mut.branch [
      | in-Some w ↦
          let m = w.in-Some.group.now in
          rw w.self-inside-is (removed rows r (c.get_mut.follows.lender w.remove.new.self) m w.remove.new.self d (group_of rows r m w.in-Some.ensures.value)
          (written rows r (c.get_mut.follows.lender w.remove.new.self) m w.remove.new.self w.in-Some.ensures.value (c.get_mut.follows.holds w.remove.new.self).3) w.remove.ensures ∙ seen)
      | in-None w ↦ rw w.self-inside-is (removed_none rows r c.get_mut.follows.lender-at-none d w.in-None.ensures.value c.get_mut.follows.holds-at-none ∙ seen)
    ]
