use Rattle.std.proofs.Common.{◌++◌, ◌∙◌, ap}
use Rattle.std.specs.Int.{w64, to_le_bytes}
use Rattle.log_frames.specs.Headers.{header_front}
use Rattle.log_frames.specs.Sums.{basis, sum_words, tagged}
use Rattle.log_frames.proofs.header.header_bytes.Goals as goal

pub returns : goal.returns
unfolding tagged header_front
returns c = c.four_words.ensures ∙ ap (λ s. header_front c.args.id ++ to_le_bytes w64 s) (c.sum_words-sum.ensures ∙ ap (sum_words basis) c.header_front.ensures)
