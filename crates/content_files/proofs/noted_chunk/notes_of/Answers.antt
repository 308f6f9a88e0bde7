use Rattle.std.proofs.Common.{◌∙◌, ◌++◌, [], ap, arith}
use Rattle.content_files.proofs.Chunks.{noted_last, noted_one, note_written}
use Rattle.content_files.proofs.noted_chunk.notes_of.Goals as goal

pub loop-rest-preserved : goal.loop-rest-preserved
loop-rest-preserved c =
    noted_one [] c.args.bytes.now c.loop-rest.notes.items c.loop-rest.rest.now c.split_at.result.0.now c.split_at.result.1.now c.write.new.out.items (omega arith) c.split_at.ensures.front c.split_at.ensures.back
    (c.in_ok-write.ensures.written ∙ ap (λ l. c.loop-rest.notes.items ++ l) (note_written c.of.result c.split_at.result.0.now (omega arith) c.of.ensures)) c.loop-rest.invariant

pub returns : goal.returns
returns c =
    noted_last [] c.args.bytes.now c.loop-rest.notes.items c.loop-rest.rest.now c.write-2.new.out.items (omega arith)
    (c.in_ok-write-2.ensures.written ∙ ap (λ l. c.loop-rest.notes.items ++ l) (note_written c.of-2.result c.loop-rest.rest.now (omega arith) c.of-2.ensures)) c.loop-rest.invariant
