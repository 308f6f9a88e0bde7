use Rattle.link_table.proofs.HolderCounts.{none_zero}
use Rattle.link_table.proofs.holders.Holders.new.Goals as goal

pub invariant_of-result : goal.invariant_of-result
invariant_of-result c = none_zero c.new.result c.new.ensures.empty
