use Rattle.std.proofs.Common.{ap, refl, ◌∙◌}
use Rattle.std.specs.FinMap as fmap
use Rattle.std.proofs.lemmas.Simd.{splat_is_map}
use Rattle.blob_digest.specs.Keys.{link_cmp, session_number_cmp}
use Rattle.spec_lib.specs.Texts.{text_cmp}
use Rattle.log_state.proofs.state.LogState.new.Goals as goal

pub returns-clause-empty : goal.returns-clause-empty
returns-clause-empty c = λ i. record {
  repos = ap (λ es. fmap.from_entries {R = text_cmp} es) c.new.ensures.empty i;
  links = ap (λ es. fmap.from_entries {R = link_cmp} es) c.new-2.ensures.empty i;
  manifests = ap (λ es. fmap.from_entries {R = link_cmp} es) c.new-3.ensures.empty i;
  sessions = ap (λ es. fmap.from_entries {R = session_number_cmp} es) c.new-4.ensures.empty i;
  next = (c.in_ok-from_elem.ensures.items_if_clones_equal (λ y h. h) ∙ splat_is_map c.args.tenants.now _ 1 refl) i;
  contents = ap (λ es. fmap.from_entries {R = text_cmp} es) c.new-5.ensures.empty i;
  homes = ap (λ es. fmap.from_entries {R = text_cmp} es) c.new-6.ensures.empty i;
}
