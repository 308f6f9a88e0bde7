use Rattle.std.proofs.Common.{◌≡◌, drop}
use Rattle.serde_json.specs.View.{items_view}
use Rattle.oci_manifest.proofs.Layers.{after}
use Rattle.oci_manifest.specs.Manifests.{layer_refs}
use Rattle.oci_manifest.proofs.references.layer_refs.Given as goal

-- the digests so far and those of the remaining layers are those of all layers
abbrev pub invariant-loop-layer : goal.invariant-loop-layer
invariant-loop-layer l = after l.digests.items (layer_refs (items_view (drop l.layer-index l.layers))) ≡ layer_refs (items_view l.fn.layers)
