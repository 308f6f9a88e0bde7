use Rattle.std.proofs.Common.{Some, ap, ◌∙◌, ◌++◌}
use Rattle.std.specs.Vec.{vec_capacity}
use Rattle.content_files.specs.Chunks.{read_notes}
use Rattle.store_model.specs.Sessions.{HandRecord}
use Rattle.upload_table.specs.Rows.{hand_shown}
use Rattle.upload_table.specs.declared.upload.ChunkBuffer.{ChunkBuffer}
use Rattle.upload_table.proofs.HandChunks.{hand_fill}
use Rattle.upload_table.proofs.hand.Hand.fill_noted.Goals as goal

pub returns-in-Ok-clause-ok : goal.returns-in-Ok-clause-ok
returns-in-Ok-clause-ok c =
    let chunk = read_notes c.args.notes.now in
    let empty = ap (λ (h : HandRecord). h.last) c.self.view_is ∙ c.requires.empty in
    ap (λ w. hand_shown c.self.inside.repo.value c.self.inside.tenant c.self.inside.number c.self.inside.received c.self.inside.reserved c.extend_noted-filled.new.pieces w) c.in-Ok.ensures.hash.1
    ∙ hand_fill c.self.inside.received c.self.inside.reserved c.self.inside.pieces.value (vec_capacity c.self.inside.pieces.value.lens) c.self.inside.pieces.value.whole c.self.invariant
    c.self.inside.repo.value c.self.inside.tenant c.self.inside.number c.extend_noted-filled.new.pieces c.in-Ok.ensures.hash.0 chunk empty (c.extend_noted-filled.ensures.lens ∙ ap (λ (p : ChunkBuffer). p.lens.items) c.deref_mut.ensures.value) (c.in-Ok.ensures.bytes ∙ ap (λ (p : ChunkBuffer). p.bytes ++ chunk) c.deref_mut.ensures.value)
    ∙ ap (λ (h : HandRecord). record h { last = Some chunk }) c.self.view_is
