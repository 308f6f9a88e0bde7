use Rattle.std.proofs.Common.{◌∙◌, ap, not}
use Rattle.oci_manifest.proofs.Layers.{not_empty}
use Rattle.oci_manifest.proofs.references.is_filled.Goals as goal

pub returns : goal.returns
returns c = ap not c.is_empty.ensures ∙ not_empty c.args.list.now.items _ c.args.list.now.ok.0
