use Rattle.std.proofs.Common.{◌≡◌, ◌∙◌, ap, sym, arith, take}
use Rattle.std.specs.Int.{w64, from_le_bytes}
use Rattle.log_frames.specs.Sums.{word_step}
use Rattle.log_frames.proofs.Sums.{words_end, words_step}
use Rattle.log_frames.proofs.sum.sum_words.Goals as goal

pub loop-rest-preserved : goal.loop-rest-preserved
loop-rest-preserved c =
    let rest = c.loop-rest.rest.now in
    let step = words_step c.loop-rest.sum_so_far rest (omega arith) in
    let word : c.word_step-sum_so_far.result ≡ word_step c.loop-rest.sum_so_far (from_le_bytes w64 (take 8 rest)) =
    c.word_step-sum_so_far.ensures ∙ ap (word_step c.loop-rest.sum_so_far) (c.word_of.ensures ∙ ap (from_le_bytes w64) c.split_at.ensures.front) in
    rw (word, c.split_at.ensures.back) (sym step ∙ c.loop-rest.invariant)

pub returns : goal.returns
returns c = c.sum_from.ensures ∙ sym (words_end c.loop-rest.sum_so_far c.loop-rest.rest.now (omega arith)) ∙ c.loop-rest.invariant
