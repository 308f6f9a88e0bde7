use Rattle.std.proofs.Common.{◌≡◌, ◌+◌, [], slice_set, ap, refl, ◌∙◌, rules}
use Rattle.blob_digest.specs.Names.{tenant_name}
use Rattle.log_state.specs.LoggedStates.{place_in, state_in}
use Rattle.log_state.proofs.States.{opened, repo_added, session_opened}
use Rattle.log_state.proofs.state.LogState.open.Goals as goal

pub returns : goal.returns
returns c =
    let names = c.args.self.now.tenants.now in
    let place : c.in_ok-tenant.tenant ≡ place_in names (tenant_name c.args.repo.now) =
    c.in_ok-tenant.ensures ∙ ap (place_in names) (c.as_bytes.ensures.value ∙ c.tenant.ensures.value ∙ ap tenant_name c.in_ok-name.ensures) in
    let after : c.in-Some.after ≡ c.args.number + 1 = search rules in
    record {
      tenants = refl;
      state = λ i. record (state_in c.args.self.now) {
        repos = repo_added c.args.self.now.repos c.insert.new.self _ _ c.in_ok-name.ensures c.in_ok-insert.ensures.updates.0 i;
        sessions = session_opened c.args.self.now.sessions c.insert-2.new.self _ _ c.args.number _ place (record { repo = c.args.repo.now; chunks = [] })
            (c.new-session.ensures ∙ opened _ _ (c.in_ok-clone.ensures.cases ∙ c.in_ok-name.ensures)) c.in_ok-insert-2.ensures.updates.0 i;
        next = slice_set c.args.self.now.next.items (place i) (after i);
      };
    }
