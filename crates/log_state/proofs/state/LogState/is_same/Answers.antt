use Rattle.std.proofs.Common.{true, sym, ◌∙◌, ◌&&◌}
use Rattle.std.specs.Prelude.{bytes_eq, nat_eq}
use Rattle.blob_digest.specs.Keys.{Link, SessionNumber, link_cmp, session_number_cmp}
use Rattle.spec_lib.specs.Texts.{text_cmp}
use Rattle.log_state.specs.Equality.{same_session}
use Rattle.log_state.proofs.Comparisons.{exact_link_eq, exact_list, exact_nat, exact_nothing, exact_session, exact_session_number, exact_text, exact_trees, not_differs}
use Rattle.log_state.proofs.state.LogState.is_same.Goals as goal

pub returns : goal.returns
returns c = λ h. record {
  repos = exact_trees text_cmp bytes_eq (λ _ _. true) exact_text exact_nothing c.args.self.now.repos c.args.other.now.repos
      (not_differs _ _ c.ne-2.ensures c.if-ne-2.false);
  links = exact_trees link_cmp (λ (p q : Link). bytes_eq p.0 q.0 && bytes_eq p.1 q.1) (λ _ _. true) exact_link_eq exact_nothing c.args.self.now.links
      c.args.other.now.links (not_differs _ _ c.ne-3.ensures c.if-ne-3.false);
  manifests = exact_trees link_cmp (λ (p q : Link). bytes_eq p.0 q.0 && bytes_eq p.1 q.1) bytes_eq exact_link_eq exact_text c.args.self.now.manifests
      c.args.other.now.manifests (not_differs _ _ c.ne-4.ensures c.if-ne-4.false);
  sessions = exact_trees session_number_cmp (λ (p q : SessionNumber). nat_eq p.0 q.0 && nat_eq p.1 q.1) same_session exact_session_number exact_session
      c.args.self.now.sessions c.args.other.now.sessions (not_differs _ _ c.ne-5.ensures c.if-ne-5.false);
  next = sym c.as_slice.ensures.value ∙ exact_list nat_eq exact_nat _ _ (not_differs _ _ c.ne.ensures c.if-ne.false) ∙ c.as_slice-2.ensures.value;
  contents = c.has_same_contents.ensures h;
}
