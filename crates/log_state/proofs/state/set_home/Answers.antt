use Rattle.std.proofs.Common.{◌∙◌, ap, sym}
use Rattle.std.specs.FinMap as fmap
use Rattle.std.specs.Prelude.{if◌then◌else◌}
use Rattle.spec_lib.specs.Texts.{text_cmp}
use Rattle.spec_lib.specs.Trees.{tree_map}
use Rattle.log_state.proofs.States.{text_put, text_removed}
use Rattle.log_state.proofs.state.set_home.Goals as goal

pub returns-in_ok-insert : goal.returns-in_ok-insert
returns-in_ok-insert c =
    text_put c.args.homes.now c.insert.new.self c.args.digest c.args.key c.in_ok-insert.ensures.updates.0
    ∙ sym (ap (λ b. if b then fmap.insert (tree_map text_cmp c.args.homes.now) c.args.digest c.args.key else fmap.remove (tree_map text_cmp c.args.homes.now) c.args.digest) c.if-is_noted.true)

pub returns-else-is_noted : goal.returns-else-is_noted
returns-else-is_noted c =
    text_removed c.args.homes.now c.remove.new.self c.args.digest c.remove.ensures.updates.0
    ∙ sym (ap (λ b. if b then fmap.insert (tree_map text_cmp c.args.homes.now) c.args.digest c.args.key else fmap.remove (tree_map text_cmp c.args.homes.now) c.args.digest) c.if-is_noted.false)
