use Rattle.std.proofs.Common.{ap, subst, ◌∙◌, ◌+◌, ◌≤◌, length}
use Rattle.std.specs.Prelude.{if◌then◌else◌, is_some}
use Rattle.std.specs.List.{sum_by}
use Rattle.std.specs.Vec.{vec_capacity}
use Rattle.store_model.specs.Sessions.{HandRecord, chunks_of}
use Rattle.upload_table.specs.Uploaded.{cut_chunks}
use Rattle.upload_table.specs.Rows.{with_length}
use Rattle.upload_table.specs.declared.upload.ChunkBuffer.{ChunkBuffer}
use Rattle.upload_table.proofs.HandChunks.{hand_chunks, hand_fits}
use Rattle.upload_table.proofs.hand.Hand.into_pieces.Goals as goal

pub returns-clause-chunks : goal.returns-clause-chunks
returns-clause-chunks c =
    (λ i. cut_chunks (c.add_last.ensures.lens i) (c.add_last.ensures.bytes i))
    ∙ ap (λ (p : ChunkBuffer). cut_chunks (if is_some p.whole then with_length p.lens.items c.self.inside.reserved else p.lens.items) p.bytes) c.deref_mut.ensures.value
    ∙ hand_chunks c.self.inside.received c.self.inside.reserved c.self.inside.pieces.value (vec_capacity c.self.inside.pieces.value.lens) c.self.inside.pieces.value.whole c.self.invariant
    c.self.inside.repo.value c.self.inside.tenant c.self.inside.number
    ∙ ap (λ (h : HandRecord). chunks_of h) c.self.view_is

pub returns-clause-fits : goal.returns-clause-fits
returns-clause-fits c =
    subst (λ (h : HandRecord). sum_by length (chunks_of h) ≤ sum_by length h.chunks + h.reserved) c.self.view_is
    (hand_fits c.self.inside.repo.value c.self.inside.tenant c.self.inside.number c.self.inside.received c.self.inside.reserved c.self.inside.pieces.value (vec_capacity c.self.inside.pieces.value.lens) c.self.inside.pieces.value.whole c.self.invariant)
