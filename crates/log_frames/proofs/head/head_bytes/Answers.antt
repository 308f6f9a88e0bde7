use Rattle.std.proofs.Common.{◌++◌, ◌∙◌, ap}
use Rattle.std.specs.Int.{w64, to_le_bytes}
use Rattle.log_frames.specs.Frames.{head_fields}
use Rattle.log_frames.specs.Sums.{sum_words, tagged}
use Rattle.log_frames.proofs.head.head_bytes.Goals as goal

pub returns : goal.returns
unfolding tagged head_fields
returns c = c.four_words.ensures ∙ ap (λ s. head_fields c.args.head.now ++ to_le_bytes w64 s) (c.sum_words-sum.ensures ∙ ap (sum_words c.args.id) c.head_fields-fields.ensures)
