use Rattle.std.proofs.Common.{◌&&◌, sym, ◌∙◌}
use Rattle.std.specs.Prelude.{nat_eq}
use Rattle.blob_digest.specs.Keys.{SessionNumber}
use Rattle.spec_lib.proofs.Trees.{get_is}
use Rattle.log_state.proofs.Comparisons.{exact_session_number, same_found}
use Rattle.log_state.proofs.state.LogState.has_same_home.Goals as goal

pub returns : goal.returns
returns c = λ h. same_found (λ (p q : SessionNumber). nat_eq p.0 q.0 && nat_eq p.1 q.1) exact_session_number _ _ _ _ (c.get.ensures.value ∙ get_is c.args.self.now.homes c.args.digest.now)
    (c.get-2.ensures.value ∙ get_is c.args.other.now.homes c.args.digest.now) (sym c.eq.ensures ∙ h)
