use Rattle.ghost_log.proofs.Keeps.{opens}
use Rattle.ghost_log.proofs.log.SharedLog.new.Goals as goal

pub of_words-requires : goal.of_words-requires
of_words-requires g c = opens
