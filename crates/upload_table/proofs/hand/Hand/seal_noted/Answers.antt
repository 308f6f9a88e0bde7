use Rattle.std.proofs.Common.{◌≡◌, ap, sym, ◌∙◌}
use Rattle.std.specs.Vec.{vec_capacity}
use Rattle.spec_lib.specs.Texts.{Text}
use Rattle.blob_digest.specs.Vouched.{has_digest}
use Rattle.store_model.specs.Sessions.{HandRecord, hand_content}
use Rattle.upload_table.specs.declared.upload.ChunkBuffer.{ChunkBuffer}
use Rattle.upload_table.proofs.HandChunks.{hand_whole}
use Rattle.upload_table.proofs.hand.Hand.seal_noted.Goals as goal

pub returns-in-Ok-clause-blob : goal.returns-in-Ok-clause-blob
returns-in-Ok-clause-blob c =
    let bytes : c.replace-bytes.result ≡ c.self.inside.pieces.value.bytes = c.replace-bytes.ensures.value ∙ ap (λ (p : ChunkBuffer). p.bytes) c.deref_mut.ensures.value in
    let whole : c.replace-bytes.result ≡ hand_content c.args.self =
    bytes ∙ sym (hand_whole c.self.inside.received c.self.inside.reserved c.self.inside.pieces.value (vec_capacity c.self.inside.pieces.value.lens) c.self.inside.pieces.value.whole c.self.invariant c.self.inside.repo.value c.self.inside.tenant c.self.inside.number)
    ∙ ap (λ (h : HandRecord). hand_content h) c.self.view_is in
    c.in-Ok.ensures.blob ∙ ap (λ w. (c.args.digest.now, w)) whole

pub returns-in-Ok-clause-agrees : goal.returns-in-Ok-clause-agrees
returns-in-Ok-clause-agrees c =
    let bytes : c.replace-bytes.result ≡ c.self.inside.pieces.value.bytes = c.replace-bytes.ensures.value ∙ ap (λ (p : ChunkBuffer). p.bytes) c.deref_mut.ensures.value in
    let whole : c.replace-bytes.result ≡ hand_content c.args.self =
    bytes ∙ sym (hand_whole c.self.inside.received c.self.inside.reserved c.self.inside.pieces.value (vec_capacity c.self.inside.pieces.value.lens) c.self.inside.pieces.value.whole c.self.invariant c.self.inside.repo.value c.self.inside.tenant c.self.inside.number)
    ∙ ap (λ (h : HandRecord). hand_content h) c.self.view_is in
    ap (λ (b : Text × Text). has_digest b.0 b.1) (sym (c.in-Ok.ensures.blob ∙ ap (λ w. (c.args.digest.now, w)) whole)) ∙ c.in-Ok.ensures.agrees
