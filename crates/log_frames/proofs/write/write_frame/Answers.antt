use Rattle.std.proofs.Common.{◌≡◌, ◌++◌, ◌∙◌, ap, List, ℕ}
use Rattle.std.proofs.lemmas.Result.{err_from_is_err_and}
use Rattle.log_frames.specs.Frames.{frame_of, frame_sum}
use Rattle.log_frames.specs.Sums.{sum_words}
use Rattle.log_frames.proofs.Puts.{err_puts, part_of_more, tagged_after, then_part}
use Rattle.std.proofs.KnownBytes.{Appends-trans}
use Rattle.log_frames.proofs.write.write_frame.Goals as goal

pub returns-in_err-put-clause-bytes : goal.returns-in_err-put-clause-bytes
returns-in_err-put-clause-bytes g c =
    let p = err_from_is_err_and c.from_residual.result c.from_residual.ensures.1 in
    let head = rw c.frame_head-head.ensures at c.in_err-put.ensures in
    err_puts _ p.0 _ _ _ p.1 (rw (← tagged_after _ _ _) (part_of_more _ _ _ _ head))

pub returns-in_err-put_tagged-clause-bytes : goal.returns-in_err-put_tagged-clause-bytes
returns-in_err-put_tagged-clause-bytes g c =
    let p = err_from_is_err_and c.from_residual-in_err-put_tagged.result c.from_residual-in_err-put_tagged.ensures.1 in
    let sum : c.frame_sum-sum.result ≡ frame_sum c.args.id c.args.cursor (frame_of c.args.synced c.args.payload.now) = c.frame_sum-sum.ensures ∙ ap (λ (t : List ℕ). sum_words c.args.cursor.sum (t ++ c.args.payload.now)) c.frame_head-head.ensures in
    let head = rw c.frame_head-head.ensures at c.in_ok-put.ensures in
    let rest = rw sum at c.in_err-put_tagged.ensures in
    err_puts _ p.0 _ _ _ p.1 (rw (← tagged_after _ _ _) (then_part _ _ _ _ _ head rest))

pub returns-clause-bytes : goal.returns-clause-bytes
returns-clause-bytes g c =
    let sum : c.frame_sum-sum.result ≡ frame_sum c.args.id c.args.cursor (frame_of c.args.synced c.args.payload.now) = c.frame_sum-sum.ensures ∙ ap (λ (t : List ℕ). sum_words c.args.cursor.sum (t ++ c.args.payload.now)) c.frame_head-head.ensures in
    let head = rw c.frame_head-head.ensures at c.in_ok-put.ensures in
    let rest = rw sum at c.in_ok-put_tagged.ensures in
    rw (← tagged_after _ _ _) (Appends-trans _ _ _ _ _ head rest)
