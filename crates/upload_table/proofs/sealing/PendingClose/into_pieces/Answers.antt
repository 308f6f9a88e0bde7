use Rattle.std.proofs.Common.{◌≡◌, ap, take, ◌∙◌}
use Rattle.std.specs.Prelude.{sum}
use Rattle.upload_table.specs.Uploaded.{HandRemainder, cut_chunks}
use Rattle.upload_table.specs.declared.upload.ChunkBuffer.{ChunkBuffer}
use Rattle.upload_table.proofs.Cuts.{cut_chunks-take}
use Rattle.upload_table.proofs.sealing.PendingClose.into_pieces.Goals as goal

pub returns-clause-chunks : goal.returns-clause-chunks
returns-clause-chunks c =
    let lens : c.self.inside.pieces.value.lens.items ≡ c.args.self.lens = ap (λ (r : HandRemainder). r.lens) c.self.view_is in
    let len : c.sum_of-received.result ≡ sum c.args.self.lens = c.sum_of-received.ensures ∙ ap sum (c.as_slice.ensures.value ∙ ap (λ (p : ChunkBuffer). p.lens.items) c.deref.ensures ∙ lens) in
    let front = c.truncate.ensures ∙ (λ i. take (len i) (c.into_content-bytes.ensures i)) in
    (λ i. cut_chunks ((ap (λ (p : ChunkBuffer). p.lens.items) c.deref_mut.ensures.value ∙ lens) i) (front i)) ∙ cut_chunks-take c.args.self.lens c.args.blob.1 c.requires.within
