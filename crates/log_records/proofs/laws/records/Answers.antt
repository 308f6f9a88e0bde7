use Rattle.log_records.proofs.Apart.{records_apart}
use Rattle.log_records.proofs.Nexts.{one_next, read_back}
use Rattle.log_records.proofs.laws.records.Goals as goal

pub returns-clause-apart : goal.returns-clause-apart
returns-clause-apart c = records_apart

pub returns-clause-one_next : goal.returns-clause-one_next
returns-clause-one_next c = one_next

pub returns-clause-read_back : goal.returns-clause-read_back
returns-clause-read_back c = read_back
