use Rattle.std.proofs.Common.{ℕ, Ok, ap, sym, ◌∙◌}
use Rattle.upload_table.proofs.TenantRows.{received_is}
use Rattle.upload_table.proofs.uploads.Uploads.received.Goals as goal

pub returns : goal.returns
returns c = rw c.in_ok-row.ensures.ok (ap (λ (k : ℕ). Ok k) (c.received_of.ensures ∙ sym (received_is c.in_ok-row.row.now c.in_ok-row.ensures.whole)))
