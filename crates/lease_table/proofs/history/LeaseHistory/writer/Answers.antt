use Rattle.std.proofs.Common.{◌∙◌, ap, subst, sym}
use Rattle.lease_table.specs.Histories.{IsLegal, events_of}
use Rattle.lease_table.proofs.history.LeaseHistory.writer.Goals as goal

pub invariant_of-result : goal.invariant_of-result
invariant_of-result g c =
    let made = c.writer-writer.ensures.writer in record {
      named = ap (λ w. w.name) made ∙ c.self.invariant;
      legal = subst (λ w. IsLegal (events_of w.seen)) (sym made) (subst (λ es. IsLegal (events_of es)) (sym c.self.view_is) c.requires);
      own = c.reveal_invariant.ensures;
    }
