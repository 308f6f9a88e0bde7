use Rattle.std.proofs.Common.{◌∙◌, ◌++◌, ◌∷◌, [], ap}
use Rattle.std.proofs.lemmas.Result.{err_from_is_err_and}
use Rattle.std.proofs.lemmas.List.Elements.{All-push}
use Rattle.spec_lib.proofs.Lists.{map-push}
use Rattle.script_player.specs.RowPlaces.{ArePlacesWithin, row_at_places}
use Rattle.script_player.proofs.RowPlaces.{all_kept, rows_kept}
use Rattle.script_player.proofs.packed_rows.PackedRows.push.Goals as goal

pub returns-in_err-places-clause-same : goal.returns-in_err-places-clause-same
returns-in_err-places-clause-same c =
    let p = err_from_is_err_and c.from_residual.result c.from_residual.ensures.1 in
    rw p.1 (rows_kept _ _ c.in_err-places.ensures.kept c.self.inside.places.items c.self.invariant ∙ c.self.view_is)

pub invariant_of-self-in_err-push : goal.invariant_of-self-in_err-push
invariant_of-self-in_err-push c = rw c.in_err-push.ensures.items (all_kept _ _ c.in_ok-places.ensures.kept c.self.inside.places.items c.self.invariant)

pub returns-in_err-push-clause-same : goal.returns-in_err-push-clause-same
returns-in_err-push-clause-same c =
    let p = err_from_is_err_and c.from_residual-in_err-push.result c.from_residual-in_err-push.ensures.1 in
    rw (p.1, c.in_err-push.ensures.items) (rows_kept _ _ c.in_ok-places.ensures.kept c.self.inside.places.items c.self.invariant ∙ c.self.view_is)

pub invariant_of-self-2 : goal.invariant_of-self-2
invariant_of-self-2 c =
    let text = c.add_fields.new.text.items in
    let places = c.self.inside.places.items in
    rw c.in_ok-push.ensures.items (All-push (ArePlacesWithin text) places c.in_ok-places.places (all_kept _ text c.in_ok-places.ensures.kept places c.self.invariant) c.in_ok-places.ensures.added.0)

pub returns-clause-added : goal.returns-clause-added
returns-clause-added c =
    let text = c.add_fields.new.text.items in
    let places = c.self.inside.places.items in
    let before = rows_kept _ text c.in_ok-places.ensures.kept places c.self.invariant ∙ c.self.view_is in
    rw c.in_ok-push.ensures.items (map-push (row_at_places text) places c.in_ok-places.places ∙ ap (λ rows. rows ++ row_at_places text c.in_ok-places.places ∷ []) before ∙ ap (λ row. c.args.self.now ++ row ∷ []) c.in_ok-places.ensures.added.1)
