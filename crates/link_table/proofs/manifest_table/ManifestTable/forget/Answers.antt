use Rattle.std.proofs.Common.{◌∙◌, ap, sym}
use Rattle.std.specs.Prelude.{not}
use Rattle.std.specs.Borrow.{Bor}
use Rattle.spec_lib.specs.Texts.{Text}
use Rattle.spec_lib.specs.Trees.{map_of}
use Rattle.link_table.specs.ManifestTable.{ManifestBytes, manifests_on}
use Rattle.link_table.proofs.Groups.{nothing_left, forgotten, group, on-ungrouped}
use Rattle.link_table.proofs.ManifestTableRows.{none_next}
use Rattle.link_table.proofs.manifest_table.ManifestTable.forget.Goals.{in-Some-1, in-None-1}
use Rattle.link_table.proofs.manifest_table.ManifestTable.forget.Goals as goal

pub returns-then-is_none : goal.returns-then-is_none
returns-then-is_none c =
    let r = c.args.repo.now in
    let none = ap (λ (m : ManifestBytes). manifests_on m r) c.self.view_is ∙ sym c.manifests.ensures ∙ none_next (λ (x : Text × Bor Text). (x.0, x.1.now)) (λ s. s) c.manifests.result c.next.new.self c.next.result c.next.ensures.steps (c.is_none.ensures ∙ ap not c.if-is_none.true) in
    let same = forgotten c.self.inside.rows r c.remove.new.self (nothing_left (group (map_of c.self.inside.rows) r) (sym (on-ungrouped (map_of c.self.inside.rows) r) ∙ none)) c.remove.ensures.updates.0 ∙ c.self.view_is in
    elim c.match-remove.branch [
      | in-Some-1 w ↦ w.self-is ∙ same
      | in-None-1 w ↦ w.self-is ∙ same
    ]
