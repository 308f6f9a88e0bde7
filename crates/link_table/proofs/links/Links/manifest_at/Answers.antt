use Rattle.std.proofs.Common.{ap, ◌∙◌, slice_get}
use Rattle.spec_lib.proofs.Iterators.{nth_is}
use Rattle.link_table.proofs.links.Links.manifest_at.Goals as goal

pub returns : goal.returns
returns c = nth_is (λ x. (x.0, x.1.now)) (λ s. s) c.manifests.result c.args.i c.nth.result c.nth.new.self c.nth.ensures.ran ∙ ap (λ xs. slice_get xs c.args.i) c.manifests.ensures
