use Rattle.log_frames.proofs.Damage.{damage_told, one_byte, start_sums}
use Rattle.log_frames.proofs.laws.damage.Goals as goal

pub returns-clause-one_byte : goal.returns-clause-one_byte
returns-clause-one_byte c = one_byte

pub returns-clause-told : goal.returns-clause-told
returns-clause-told c = damage_told

pub returns-clause-start : goal.returns-clause-start
returns-clause-start c = start_sums
