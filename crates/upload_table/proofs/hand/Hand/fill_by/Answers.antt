use Rattle.std.proofs.Common.{◌≡◌, Some, ap, length, ◌∙◌, ◌+◌, ◌++◌}
use Rattle.std.specs.List.{sum_by}
use Rattle.content_files.specs.Chunks.{is_in_file}
use Rattle.std.specs.Vec.{vec_capacity}
use Rattle.store_model.specs.Sessions.{HandRecord}
use Rattle.upload_table.specs.Rows.{hand_shown}
use Rattle.upload_table.specs.declared.upload.ChunkBuffer.{ChunkBuffer}
use Rattle.upload_table.proofs.HandChunks.{hand_fill, unfilled_long}
use Rattle.upload_table.proofs.hand.Hand.fill_by.Goals as goal

pub returns-in-Ok-clause-ok : goal.returns-in-Ok-clause-ok
returns-in-Ok-clause-ok g c =
    let empty = ap (λ (h : HandRecord). h.last) c.self.view_is ∙ c.requires.empty in
    ap (λ w. hand_shown c.self.inside.repo.value c.self.inside.tenant c.self.inside.number c.self.inside.received c.self.inside.reserved c.extend-filled.new.pieces w) c.in-Ok.ensures.hash.1
    ∙ hand_fill c.self.inside.received c.self.inside.reserved c.self.inside.pieces.value (vec_capacity c.self.inside.pieces.value.lens) c.self.inside.pieces.value.whole c.self.invariant
    c.self.inside.repo.value c.self.inside.tenant c.self.inside.number c.extend-filled.new.pieces c.in-Ok.ensures.hash.0 c.args.bytes.now empty (c.extend-filled.ensures.lens ∙ ap (λ (p : ChunkBuffer). p.lens.items) c.deref_mut.ensures.value) (c.in-Ok.ensures.bytes ∙ ap (λ (p : ChunkBuffer). p.bytes ++ c.args.bytes.now) c.deref_mut.ensures.value)
    ∙ ap (λ (h : HandRecord). record h { last = Some c.args.bytes.now }) c.self.view_is

pub returns-in-Ok-clause-noted : goal.returns-in-Ok-clause-noted
returns-in-Ok-clause-noted g c = λ inside.
    let empty = ap (λ (h : HandRecord). h.last) c.self.view_is ∙ c.requires.empty in
    let long : length c.deref_mut.result.now.bytes ≡ sum_by length c.args.self.chunks =
    ap (λ (p : ChunkBuffer). length p.bytes) c.deref_mut.ensures.value
    ∙ unfilled_long c.self.inside.received c.self.inside.reserved c.self.inside.pieces.value (vec_capacity c.self.inside.pieces.value.lens) c.self.inside.pieces.value.whole c.self.invariant c.self.inside.repo.value c.self.inside.tenant c.self.inside.number empty
    ∙ ap (λ (h : HandRecord). sum_by length h.chunks) c.self.view_is in
    c.in-Ok.ensures.noted ((λ i. is_in_file c.args.home (long i + c.requires.len i)) ∙ inside)
