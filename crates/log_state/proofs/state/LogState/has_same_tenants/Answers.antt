use Rattle.std.proofs.Common.{sym, ◌∙◌}
use Rattle.std.specs.Prelude.{bytes_eq}
use Rattle.log_state.proofs.Comparisons.{exact_list, exact_text}
use Rattle.log_state.proofs.state.LogState.has_same_tenants.Goals as goal

pub returns : goal.returns
returns c = λ h. exact_list bytes_eq exact_text c.args.self.now.tenants.now c.args.other.now.tenants.now (sym c.eq.ensures ∙ h)
