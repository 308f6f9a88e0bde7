use Rattle.std.proofs.Common.{◌≡◌, ◌≤◌, ◌<◌, ◌+◌, ◌∙◌, [], arith, length, rules, subst, sym}
use Rattle.std.specs.Arc.{arc_value}
use Rattle.spec_lib.specs.Texts.{Text}
use Rattle.content_files.specs.Parts.{IsPart}
use Rattle.store_api.specs.LeaseViews.{Extent, IsPieceRead, extent}
use Rattle.store_api.proofs.Extents.{read_behind, read_in_memory, read_part}
use Rattle.store_api.proofs.extent.Extent.read.Goals as goal

pub returns-then-is_some-clause-read : goal.returns-then-is_some-clause-read
returns-then-is_some-clause-read g c =
    subst (λ (x : Extent). IsPieceRead g.F.ContentStore.on_disk x c.shared.result) c.self.view_is
    (read_in_memory g.F.ContentStore.on_disk (extent (arc_value c.self.inside.blob).1 c.self.inside.start c.self.inside.end) c.shared.result c.shared.ensures)

pub returns-then-start-len-clause-read : goal.returns-then-start-len-clause-read
returns-then-start-len-clause-read g c =
    let size : c.len-len.result ≡ length (arc_value c.self.inside.blob).1 = search rules in
    subst (λ (x : Extent). IsPieceRead g.F.ContentStore.on_disk x c.owned.result) c.self.view_is
    (read_behind g.F.ContentStore.on_disk (extent (arc_value c.self.inside.blob).1 c.self.inside.start c.self.inside.end) c.owned.result (omega (arith, c.if-start-len.true, size)) (c.owned.ensures ∙ c.new.ensures.items))

pub returns-in-Ok-clause-read : goal.returns-in-Ok-clause-read
returns-in-Ok-clause-read g c =
    let content : Text = (arc_value c.self.inside.blob).1 in
    let size : c.len-len.result ≡ length content = search rules in
    let of : c.content.result.now ≡ content = search rules in
    let read = rw of at c.in-Ok.ensures in
    let part : IsPart g.F.ContentStore.on_disk content c.self.inside.start c.min-last.result c.owned-in-Ok.result = subst (λ (piece : Text). IsPart g.F.ContentStore.on_disk content c.self.inside.start c.min-last.result piece) (sym c.owned-in-Ok.ensures) read in
    subst (λ (x : Extent). IsPieceRead g.F.ContentStore.on_disk x c.owned-in-Ok.result) c.self.view_is
    (read_part g.F.ContentStore.on_disk (extent content c.self.inside.start c.self.inside.end) c.min-last.result c.owned-in-Ok.result (omega (arith, c.self.invariant.0))
    (λ within. omega (arith, within, size, c.min-last.ensures)) (λ behind. omega (arith, behind, size, c.min-last.ensures)) part)
