use Rattle.std.proofs.Common.{sym, ap, ◌∙◌, is_some, not}
use Rattle.std.proofs.Math.Bool.{not-not}
use Rattle.std.specs.FinMap.{contains_key, insert}
use Rattle.spec_lib.proofs.Trees.{get_is, insert_is}
use Rattle.link_table.specs.Rows.{Sizes}
use Rattle.link_table.proofs.repo_blobs.RepoBlobs.insert.Goals as goal

pub returns-clause-new : goal.returns-clause-new
returns-clause-new c =
    sym (not-not c.is_none.result) ∙ sym (ap not c.is_none.ensures)
    ∙ ap (λ o. not (is_some o)) (c.in_ok-old.ensures.old ∙ get_is c.self.inside.sizes c.args.digest.now) ∙ ap (λ (m : Sizes). not (contains_key m c.args.digest.now)) c.self.view_is

pub returns-clause-ok : goal.returns-clause-ok
returns-clause-ok c = insert_is c.self.inside.sizes c.insert.new.self c.args.digest.now c.args.size c.in_ok-old.ensures.updates.0 ∙ ap (λ (m : Sizes). insert m c.args.digest.now c.args.size) c.self.view_is
