use Rattle.std.proofs.Common.{sym, ◌∙◌}
use Rattle.link_table.proofs.Shares.{len-rising}
use Rattle.link_table.proofs.holders.digest_count.Goals as goal

pub returns-clause-count : goal.returns-clause-count
returns-clause-count c = rw (← c.holders.view_is) (c.len.ensures.len ∙ sym (len-rising c.holders.inside.counts.entries c.len.ensures.ordered))
