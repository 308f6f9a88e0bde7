use Rattle.std.proofs.Common.{◌≡◌, ◌==◌, ◌∙◌, ap, rules, ℕ}
use Rattle.std.specs.List.{after_first}
use Rattle.spec_lib.proofs.Options.{some_same}
use Rattle.tenant_args.specs.Tenants.{Numbers, settings_of}
use Rattle.tenant_args.proofs.tenants.read_tenant.Goals as goal

pub returns-in_err-limits : goal.returns-in_err-limits
returns-in_err-limits c = rw c.from_residual-in_err-limits.ensures (λ tenant argument.
    let text : c.in_ok-name.settings.now ≡ after_first (λ b. b == 61) c.args.word.now = search rules in
    let same = some_same (c.in_ok-quota.ensures ∙ ap (settings_of c.args.shares) text ∙ argument.settings) in
    c.in_err-limits.ensures tenant.limits (ap (λ (p : ℕ × (ℕ × Numbers)). p.1.1) same) argument.limits)
