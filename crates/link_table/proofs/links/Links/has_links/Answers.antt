use Rattle.std.proofs.Common.{◌∙◌, ℕ, sym}
use Rattle.std.specs.FinMap.{entries}
use Rattle.spec_lib.specs.Texts.{Text, same_text}
use Rattle.spec_lib.proofs.Iterators.{next_is_some}
use Rattle.blob_digest.specs.Keys.{Link}
use Rattle.link_table.proofs.LinkKeys.{any_key}
use Rattle.link_table.proofs.links.Links.has_links.Goals as goal

pub returns : goal.returns
returns c =
    c.is_some.ensures
    ∙ next_is_some (λ (x : Text × ℕ). x) (λ s. s) (λ (e : Link × ℕ). same_text e.0.0 c.args.repo.now) (λ e. (e.0.1, e.1)) (entries c.args.self.now.links) c.blobs.result c.next.result c.next.new.self c.next.ensures.steps c.blobs.ensures
    ∙ sym (any_key (λ (k : Link). same_text k.0 c.args.repo.now) c.args.self.now.links)
