use Rattle.link_table.proofs.Groups.{ungrouped-new}
use Rattle.link_table.proofs.manifest_table.ManifestTable.new.Goals as goal

pub returns : goal.returns
returns c = ungrouped-new c.new.result c.new.ensures.empty
