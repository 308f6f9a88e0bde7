use Rattle.std.proofs.Common.{◌≡◌, replicate}
use Rattle.upload_table.specs.Tenants.{no_sessions}
use Rattle.upload_table.proofs.uploads.tenants_from.Given as goal

abbrev pub invariant-loop : goal.invariant-loop
invariant-loop l = l.tenants.items ≡ replicate l.counter (no_sessions l.first_number)
