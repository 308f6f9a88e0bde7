use Rattle.std.proofs.Common.{refl}
use Rattle.script_player.specs.RowViews.{borrowed_view}
use Rattle.script_player.proofs.RowPlaces.{begins_through, row_added}
use Rattle.script_player.proofs.packed_rows.add_fields.Goals as goal

pub returns-clause-kept : goal.returns-clause-kept
returns-clause-kept c =
    let key = begins_through _ _ _ c.add_field.ensures.kept c.add_field-2.ensures.kept in
    let digest = begins_through _ _ _ key c.add_field-3.ensures.kept in
    let range = begins_through _ _ _ digest c.add_field-4.ensures.kept in
    begins_through _ _ _ range c.add_field-5.ensures.kept

pub returns-clause-added : goal.returns-clause-added
returns-clause-added c =
    let repo = c.in_ok-add_field.ensures.added in
    let key = c.in_ok-add_field-2.ensures.added in
    let digest = c.in_ok-add_field-3.ensures.added in
    let range = c.in_ok-add_field-4.ensures.added in
    let body = c.in_ok-add_field-5.ensures.added in
    row_added _ (borrowed_view c.args.row.now) _ _ _ _ _ _ refl refl c.args.row.now.fit repo.0 key.0 digest.0 range.0 body.0 c.in_ok-end_of.ensures repo.1 key.1 digest.1 range.1 body.1
