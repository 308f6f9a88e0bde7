use Rattle.std.proofs.Common.{subst}
use Rattle.pin_core.specs.Events.{IsNew}
use Rattle.pin_table.proofs.RuleKept.{give_allowed}
use Rattle.pin_table.proofs.pins.give_as.Goals as goal

pub fetch_or-requires : goal.fetch_or-requires
fetch_or-requires g c =
    let k = c.requires.keeper in
    (c.requires.table, c.requires.within, give_allowed _ _ _ g.D.Given.digest _ _ _ k.0 k.1 k.2 k.3 k.4 (subst (λ d. IsNew d k.0.rows) c.requires.digest k.5))
