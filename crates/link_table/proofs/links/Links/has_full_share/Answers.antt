use Rattle.std.proofs.Common.{◌∙◌}
use Rattle.std.specs.Prelude.{nat_le}
use Rattle.link_table.proofs.links.Links.has_full_share.Goals as goal

pub returns : goal.returns
returns c = λ i. nat_le ((c.from.ensures ∙ c.share.ensures) i) (c.blob_count.ensures i)
