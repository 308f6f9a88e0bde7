use Rattle.std.proofs.Common.{◌≡◌, ◌∙◌, ap, refl, subst, length-take-le, take, drop, List, ℕ, vec_len}
use Rattle.log_frames.specs.Reads.{frame_in, payload_in}
use Rattle.log_frames.proofs.NextFrames.{room_then}
use Rattle.log_frames.proofs.Taking.{judged_sink}
use Rattle.log_frames.proofs.reading.take_next_frame.Goals as goal

pub returns-in-Ok-clause-taken : goal.returns-in-Ok-clause-taken
returns-in-Ok-clause-taken g c =
    let head = c.in-Ok-Frame.head in
    let buffer = c.read_next_frame.new.buffer.items in
    let next = rw c.in-Ok-Frame.field-0-is at c.in-Ok-Frame.ensures.next in
    let payload : c.split_at-in-Ok-Frame.result.0.now ≡ payload_in head buffer = c.split_at-in-Ok-Frame.ensures.front ∙ ap (take head.length) (c.split_at.ensures.back ∙ ap (drop 32) c.as_slice.ensures.value) in
    let taken = subst (λ (p : List ℕ). g.S.FrameSink.takes c.args.sink.now p c.take.new.self) payload c.in-Ok.ensures.ok in
    record { frame = frame_in head buffer; fits = next.fits; taken = taken; given = next.read; synced = refl; next = next.after }

pub returns-in-Err-clause-ended : goal.returns-in-Err-clause-ended
returns-in-Err-clause-ended g c =
    let head = c.in-Ok-Frame.head in
    let buffer = c.read_next_frame.new.buffer.items in
    let next = rw c.in-Ok-Frame.field-0-is at c.in-Ok-Frame.ensures.next in
    let payload : c.split_at-in-Ok-Frame.result.0.now ≡ payload_in head buffer = c.split_at-in-Ok-Frame.ensures.front ∙ ap (take head.length) (c.split_at.ensures.back ∙ ap (drop 32) c.as_slice.ensures.value) in
    let refused = subst (λ (p : List ℕ). g.S.FrameSink.refuses c.args.sink.now p c.take.new.self) payload c.in-Err.ensures.err in
    (tt, record { frame = frame_in head buffer; fits = next.fits; refused = refused; behind = g.R.Read.remaining c.read_next_frame.new.input; given = next.read })

pub returns-in-Ok-NoFrame-clause-ended : goal.returns-in-Ok-NoFrame-clause-ended
returns-in-Ok-NoFrame-clause-ended g c =
    let next = rw c.in-Ok-NoFrame.field-0-is at c.in-Ok-NoFrame.ensures.next in
    judged_sink g.S.FrameSink.refuses _ c.args.id c.args.cursor _ _ _ c.in-Ok-NoFrame.count c.judge_rest.result next.0 next.1 c.judge_rest.ensures.rest

pub returns-in-Ok-NoFrame-clause-memory : goal.returns-in-Ok-NoFrame-clause-memory
returns-in-Ok-NoFrame-clause-memory g c =
    let next = rw c.in-Ok-NoFrame.field-0-is at c.in-Ok-NoFrame.ensures.next in
    let buffer = c.read_next_frame.new.buffer.items in
    room_then c.in-Ok-NoFrame.count (g.R.Read.remaining c.args.input.now) (g.R.Read.remaining c.read_next_frame.new.input) (take c.in-Ok-NoFrame.count buffer) (vec_len c.args.buffer.now) (vec_len c.read_next_frame.new.buffer) (vec_len c.judge_rest.new.buffer) next.0.read (length-take-le c.in-Ok-NoFrame.count buffer next.0.held) c.read_next_frame.ensures.memory c.judge_rest.ensures.memory
