use Rattle.log_records.proofs.Cuts.{one_way, read_back}
use Rattle.log_records.proofs.laws.lists.Goals as goal

pub returns-clause-read_back : goal.returns-clause-read_back
returns-clause-read_back c = read_back

pub returns-clause-one_way : goal.returns-clause-one_way
returns-clause-one_way c = one_way
