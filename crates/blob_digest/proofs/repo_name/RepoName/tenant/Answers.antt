use Rattle.std.proofs.Common.{◌≤◌, length, string_bytes, arith}
use Rattle.std.proofs.lemmas.Str.{IsCharBoundary-from_ascii}
use Rattle.blob_digest.proofs.NameTexts.{IsAscii-path, tenant_is_component, length-tenant_name}
use Rattle.blob_digest.proofs.repo_name.RepoName.tenant.Goals as goal

pub range-requires-clause-end_boundary : goal.range-requires-clause-end_boundary
range-requires-clause-end_boundary c =
    let text = string_bytes c.self.inside.text in
    let within : c.self.inside.tenant_len ≤ length text = omega (arith, c.self.invariant.tenant, length-tenant_name text) in
    rw c.as_str.ensures.value (IsCharBoundary-from_ascii text c.self.inside.tenant_len (IsAscii-path text c.self.invariant.name.0) within)

pub returns-clause-grammar : goal.returns-clause-grammar
returns-clause-grammar c = rw (← c.self.view_is) (tenant_is_component (string_bytes c.self.inside.text) c.self.invariant.name.0)
