use Rattle.std.proofs.Common.{rules}
use Rattle.std.proofs.lemmas.Fn.{always_returns_same}
use Rattle.std.specs.Ordering.{nat_cmp}
use Rattle.upload_table.proofs.tenant_sessions.place_of.Goals as goal

pub returns-in_default-clause-place : goal.returns-in_default-clause-place
returns-in_default-clause-place c = c.binary_search_by.ensures.position (λ u. nat_cmp u.number c.args.number) (always_returns_same _ _ _ (λ a r f' k. (search rules, λ j. record { 0 = k.met.1 j })))
