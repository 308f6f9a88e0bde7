use Rattle.std.proofs.Common.{◌≡◌, ap, refl, sym, take, true, ◌∙◌}
use Rattle.std.proofs.lemmas.Bool.{false≢true}
use Rattle.std.specs.Vec.{vec_capacity}
use Rattle.blob_digest.specs.Digests.{is_digest_of}
use Rattle.content_files.specs.Notes.{is_read}
use Rattle.store_model.specs.Sessions.{HandRecord, hand_content}
use Rattle.upload_table.specs.Uploaded.{cut_chunks}
use Rattle.upload_table.specs.declared.upload.ChunkBuffer.{ChunkBuffer}
use Rattle.upload_table.proofs.Cuts.{cut_chunks-take}
use Rattle.upload_table.proofs.HandChunks.{chunks_within, hand_whole, is_false}
use Rattle.upload_table.proofs.hand.Hand.seal.Goals as goal

pub returns-in-Ok-clause-blob : goal.returns-in-Ok-clause-blob
returns-in-Ok-clause-blob c =
    let bytes : c.replace-bytes.result ≡ c.self.inside.pieces.value.bytes =
    c.replace-bytes.ensures.value ∙ ap (λ (p : ChunkBuffer). p.bytes) c.deref_mut-2.ensures.value ∙ c.whole_digest.ensures.kept.0 ∙ ap (λ (p : ChunkBuffer). p.bytes) c.deref_mut.ensures.value in
    let whole : c.replace-bytes.result ≡ hand_content c.args.self =
    bytes ∙ sym (hand_whole c.self.inside.received c.self.inside.reserved c.self.inside.pieces.value (vec_capacity c.self.inside.pieces.value.lens) c.self.inside.pieces.value.whole c.self.invariant c.self.inside.repo.value c.self.inside.tenant c.self.inside.number)
    ∙ ap (λ (h : HandRecord). hand_content h) c.self.view_is in
    c.in-Ok.ensures.blob ∙ ap (λ w. (c.args.digest.now, w)) whole

pub returns-in-Ok-clause-agrees : goal.returns-in-Ok-clause-agrees
returns-in-Ok-clause-agrees c =
    let bytes : c.replace-bytes.result ≡ c.self.inside.pieces.value.bytes =
    c.replace-bytes.ensures.value ∙ ap (λ (p : ChunkBuffer). p.bytes) c.deref_mut-2.ensures.value ∙ c.whole_digest.ensures.kept.0 ∙ ap (λ (p : ChunkBuffer). p.bytes) c.deref_mut.ensures.value in
    let whole : c.replace-bytes.result ≡ hand_content c.args.self =
    bytes ∙ sym (hand_whole c.self.inside.received c.self.inside.reserved c.self.inside.pieces.value (vec_capacity c.self.inside.pieces.value.lens) c.self.inside.pieces.value.whole c.self.invariant c.self.inside.repo.value c.self.inside.tenant c.self.inside.number)
    ∙ ap (λ (h : HandRecord). hand_content h) c.self.view_is in
    rw (← whole) (c.in-Ok.ensures.agrees.0 refl)

pub returns-in-Ok-clause-read : goal.returns-in-Ok-clause-read
returns-in-Ok-clause-read c =
    let bytes : c.replace-bytes.result ≡ c.self.inside.pieces.value.bytes =
    c.replace-bytes.ensures.value ∙ ap (λ (p : ChunkBuffer). p.bytes) c.deref_mut-2.ensures.value ∙ c.whole_digest.ensures.kept.0 ∙ ap (λ (p : ChunkBuffer). p.bytes) c.deref_mut.ensures.value in
    let whole : c.replace-bytes.result ≡ hand_content c.args.self =
    bytes ∙ sym (hand_whole c.self.inside.received c.self.inside.reserved c.self.inside.pieces.value (vec_capacity c.self.inside.pieces.value.lens) c.self.inside.pieces.value.whole c.self.invariant c.self.inside.repo.value c.self.inside.tenant c.self.inside.number)
    ∙ ap (λ (h : HandRecord). hand_content h) c.self.view_is in
    let read : is_read c.replace-bytes.result ≡ true =
    ap is_read (c.replace-bytes.ensures.value ∙ ap (λ (p : ChunkBuffer). p.bytes) c.deref_mut-2.ensures.value ∙ c.whole_digest.ensures.kept.0) ∙ c.in-Some.ensures.read in
    rw (← whole) read

pub returns-in-Err-clause-other : goal.returns-in-Err-clause-other
returns-in-Err-clause-other c =
    let bytes : c.replace-bytes.result ≡ c.self.inside.pieces.value.bytes =
    c.replace-bytes.ensures.value ∙ ap (λ (p : ChunkBuffer). p.bytes) c.deref_mut-2.ensures.value ∙ c.whole_digest.ensures.kept.0 ∙ ap (λ (p : ChunkBuffer). p.bytes) c.deref_mut.ensures.value in
    let whole : c.replace-bytes.result ≡ hand_content c.args.self =
    bytes ∙ sym (hand_whole c.self.inside.received c.self.inside.reserved c.self.inside.pieces.value (vec_capacity c.self.inside.pieces.value.lens) c.self.inside.pieces.value.whole c.self.invariant c.self.inside.repo.value c.self.inside.tenant c.self.inside.number)
    ∙ ap (λ (h : HandRecord). hand_content h) c.self.view_is in
    let read : is_read c.replace-bytes.result ≡ true =
    ap is_read (c.replace-bytes.ensures.value ∙ ap (λ (p : ChunkBuffer). p.bytes) c.deref_mut-2.ensures.value ∙ c.whole_digest.ensures.kept.0) ∙ c.in-Some.ensures.read in
    λ _. rw (← whole) (is_false (is_digest_of c.args.digest.now c.replace-bytes.result) (λ h. false≢true (c.in-Err.ensures.agrees.1 h)), read)

pub returns-in-Err-clause-chunks : goal.returns-in-Err-clause-chunks
returns-in-Err-clause-chunks c =
    let bytes : c.replace-bytes.result ≡ c.self.inside.pieces.value.bytes =
    c.replace-bytes.ensures.value ∙ ap (λ (p : ChunkBuffer). p.bytes) c.deref_mut-2.ensures.value ∙ c.whole_digest.ensures.kept.0 ∙ ap (λ (p : ChunkBuffer). p.bytes) c.deref_mut.ensures.value in
    let p = c.self.inside.pieces.value in
    let lens : c.deref_mut-in-Err.result.now.lens.items ≡ p.lens.items =
    ap (λ (q : ChunkBuffer). q.lens.items) c.deref_mut-in-Err.ensures.value ∙ ap (λ (q : ChunkBuffer). q.lens.items) c.deref_mut-2.ensures.value ∙ ap (λ v. v.items) c.whole_digest.ensures.kept.1 ∙ ap (λ (q : ChunkBuffer). q.lens.items) c.deref_mut.ensures.value in
    let within = chunks_within c.self.inside.received c.self.inside.reserved p (vec_capacity p.lens) c.self.inside.pieces.value.whole c.self.invariant in
    ap (λ ns. cut_chunks ns c.truncate-in-Err.new.self) lens
    ∙ ap (cut_chunks p.lens.items) (c.truncate-in-Err.ensures ∙ (λ i. take (sym c.self.invariant.lengths i) ((c.in-Err.ensures.back ∙ bytes) i)))
    ∙ cut_chunks-take p.lens.items p.bytes within ∙ ap (λ (h : HandRecord). h.chunks) c.self.view_is

pub returns-in_default-clause-chunks : goal.returns-in_default-clause-chunks
returns-in_default-clause-chunks c =
    let p = c.self.inside.pieces.value in
    let bytes : c.deref_mut-in_default.result.now.bytes ≡ p.bytes =
    ap (λ (q : ChunkBuffer). q.bytes) c.deref_mut-in_default.ensures.value ∙ c.whole_digest.ensures.kept.0 ∙ ap (λ (q : ChunkBuffer). q.bytes) c.deref_mut.ensures.value in
    let lens : c.deref_mut-in_default.result.now.lens.items ≡ p.lens.items =
    ap (λ (q : ChunkBuffer). q.lens.items) c.deref_mut-in_default.ensures.value ∙ ap (λ v. v.items) c.whole_digest.ensures.kept.1 ∙ ap (λ (q : ChunkBuffer). q.lens.items) c.deref_mut.ensures.value in
    let within = chunks_within c.self.inside.received c.self.inside.reserved p (vec_capacity p.lens) c.self.inside.pieces.value.whole c.self.invariant in
    ap (λ ns. cut_chunks ns c.truncate.new.self) lens
    ∙ ap (cut_chunks p.lens.items) (c.truncate.ensures ∙ (λ i. take (sym c.self.invariant.lengths i) (bytes i)))
    ∙ cut_chunks-take p.lens.items p.bytes within ∙ ap (λ (h : HandRecord). h.chunks) c.self.view_is
