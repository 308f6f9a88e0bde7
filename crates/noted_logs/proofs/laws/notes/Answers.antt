use Rattle.noted_logs.proofs.Noting.{notes_determine, notes_step}
use Rattle.noted_logs.proofs.ReadBack.{notes_are_read_back}
use Rattle.noted_logs.proofs.laws.notes.Goals as goal

pub returns-clause-step : goal.returns-clause-step
returns-clause-step c = notes_step

pub returns-clause-determine : goal.returns-clause-determine
returns-clause-determine c = notes_determine

pub returns-clause-read_back : goal.returns-clause-read_back
returns-clause-read_back c = notes_are_read_back
