use Rattle.std.proofs.Common.{sym, ◌∙◌}
use Rattle.std.specs.Prelude.{bytes_eq}
use Rattle.spec_lib.proofs.Trees.{get_is}
use Rattle.log_state.proofs.Comparisons.{exact_text, same_found}
use Rattle.log_state.proofs.state.LogState.has_same_notes.Goals as goal

pub returns : goal.returns
returns c = λ h. same_found bytes_eq exact_text _ _ _ _ (c.get.ensures.value ∙ get_is c.args.self.now.contents c.args.digest.now)
    (c.get-2.ensures.value ∙ get_is c.args.other.now.contents c.args.digest.now) (sym c.eq.ensures ∙ h)
