use Rattle.std.proofs.Common.{refl, ◌∙◌}
use Rattle.log_state.specs.LoggedStates.{state_in}
use Rattle.log_state.proofs.States.{manifest_absent, manifest_added, manifest_known, manifest_there, repo_added}
use Rattle.log_state.proofs.state.LogState.put_manifest.Goals as goal

pub returns-then-contains_key : goal.returns-then-contains_key
returns-then-contains_key c = record {
  tenants = refl;
  state = manifest_there (state_in c.args.self.now) c.args.repo.now c.args.bytes.now
      (manifest_known c.args.self.now.manifests _ _ _ _ _ _ (c.in_ok-clone.ensures.cases ∙ c.in_ok-name.ensures) c.of.ensures c.contains_key.ensures
      c.if-contains_key.true);
}

pub returns : goal.returns
returns c = record {
  tenants = refl;
  state = manifest_absent (state_in c.args.self.now) _ c.args.repo.now c.args.bytes.now
      (manifest_known c.args.self.now.manifests _ _ _ _ _ _ (c.in_ok-clone.ensures.cases ∙ c.in_ok-name.ensures) c.of.ensures c.contains_key.ensures
      c.if-contains_key.false)
      (λ i. record (state_in c.args.self.now) {
        repos = repo_added c.args.self.now.repos c.insert.new.self _ _ c.in_ok-name.ensures c.in_ok-insert.ensures.updates.0 i;
        manifests = manifest_added c.args.self.now.manifests c.insert-2.new.self _ _ _ _ _ _ (c.in_ok-clone.ensures.cases ∙ c.in_ok-name.ensures)
            c.of.ensures c.in_ok-copy.ensures c.in_ok-insert-2.ensures.updates.0 i;
      });
}
