use Rattle.std.proofs.Common.{◌≡◌, None, ap, sym, take, ◌∙◌}
use Rattle.std.specs.Vec.{vec_capacity}
use Rattle.store_model.specs.Sessions.{HandRecord}
use Rattle.upload_table.specs.Uploaded.{cut_chunks}
use Rattle.upload_table.specs.declared.upload.ChunkBuffer.{ChunkBuffer}
use Rattle.upload_table.proofs.Cuts.{cut_chunks-take}
use Rattle.upload_table.proofs.HandChunks.{chunks_within}
use Rattle.upload_table.proofs.hand.Hand.unfill.Goals as goal

pub returns : goal.returns
returns c =
    let p = c.self.inside.pieces.value in
    let q = c.deref_mut-2.result.now in
    let lens : q.lens.items ≡ p.lens.items = ap (λ (b : ChunkBuffer). b.lens.items) c.deref_mut-2.ensures.value ∙ ap (λ (b : ChunkBuffer). b.lens.items) c.deref_mut.ensures.value in
    let bytes : q.bytes ≡ take c.self.inside.received p.bytes =
    ap (λ (b : ChunkBuffer). b.bytes) c.deref_mut-2.ensures.value ∙ c.truncate.ensures ∙ ap (λ (b : ChunkBuffer). take c.self.inside.received b.bytes) c.deref_mut.ensures.value in
    let within = chunks_within c.self.inside.received c.self.inside.reserved p (vec_capacity p.lens) p.whole c.self.invariant in
    let chunks : cut_chunks q.lens.items q.bytes ≡ cut_chunks p.lens.items p.bytes =
    (λ i. cut_chunks (lens i) (bytes i)) ∙ ap (λ n. cut_chunks p.lens.items (take n p.bytes)) (sym c.self.invariant.lengths) ∙ cut_chunks-take p.lens.items p.bytes within in
    (λ i. record { repo = c.self.inside.repo.value; key = (c.self.inside.tenant, c.self.inside.number); chunks = chunks i; reserved = c.self.inside.reserved; last = None })
    ∙ ap (λ (h : HandRecord). record h { last = None }) c.self.view_is
