use Rattle.std.proofs.Common.{◌≡◌, ◌∙◌, ap, sym}
use Rattle.std.proofs.lemmas.Result.{IfOk-weaker}
use Rattle.content_files.specs.Parts.{between}
use Rattle.content_files.specs.Places.{content_shown}
use Rattle.content_files.proofs.Parts.{part_in_memory}
use Rattle.content_files.proofs.content.Content.read_between.Goals as goal

pub returns-else-end-len : goal.returns-else-end-len
returns-else-end-len g c =
    let bytes_are : c.as_slice.result.now ≡ c.args.self.now = c.as_slice.ensures.value ∙ sym (sym c.self.view_is ∙ ap content_shown c.in-Resident.is) in
    IfOk-weaker c.part_of.result _ _ (λ v is. part_in_memory g.F.ContentStore.on_disk c.args.self.now c.args.start c.args.end v.items (is ∙ ap (λ l. between l c.args.start c.args.end) bytes_are)) c.part_of.ensures
