use Rattle.std.proofs.Common.{◌∙◌, ℕ}
use Rattle.std.specs.FinMap.{entries}
use Rattle.spec_lib.proofs.Iterators.{next_is_some}
use Rattle.store_model.specs.Sessions.{is_of_repo, number_and_length}
use Rattle.upload_table.proofs.uploads.Uploads.has_sessions.Goals as goal

pub returns : goal.returns
returns c = c.is_some.ensures ∙ next_is_some (λ (x : ℕ × ℕ). x) (λ s. s) (is_of_repo c.args.tenant c.args.repo.now) number_and_length (entries c.args.self.now.sessions) c.sessions.result c.next.result c.next.new.self c.next.ensures.steps c.sessions.ensures
