use Rattle.std.proofs.Common.{ap, ◌∙◌, slice_get}
use Rattle.spec_lib.proofs.Iterators.{nth_is}
use Rattle.link_table.proofs.links.Links.repo_at.Goals as goal

pub returns : goal.returns
returns c = nth_is (λ x. x.now) (λ s. s) c.repos.result c.args.i c.nth.result c.nth.new.self c.nth.ensures.ran ∙ ap (λ xs. slice_get xs c.args.i) c.repos.ensures
