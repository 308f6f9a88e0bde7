use Rattle.std.proofs.Common.{sym, ap, ◌∙◌, slice_get}
use Rattle.spec_lib.proofs.Iterators.{nth_is}
use Rattle.spec_lib.proofs.Options.{option_map-itself}
use Rattle.link_table.proofs.links.Links.blob_at.Goals as goal

pub returns : goal.returns
returns c = sym (option_map-itself c.nth.result) ∙ nth_is (λ x. x) (λ s. s) c.blobs.result c.args.i c.nth.result c.nth.new.self c.nth.ensures.ran ∙ ap (λ xs. slice_get xs c.args.i) c.blobs.ensures
