use Rattle.log_frames.proofs.Cuts.{past_the_cut, what_is_whole}
use Rattle.log_frames.proofs.laws.cuts.Goals as goal

pub returns-clause-whole : goal.returns-clause-whole
returns-clause-whole c = what_is_whole

pub returns-clause-past : goal.returns-clause-past
returns-clause-past c = past_the_cut
