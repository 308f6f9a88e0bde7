use Rattle.std.proofs.Common.{ℕ, Ok, ap, sym, subst, length, ◌∙◌}
use Rattle.upload_table.specs.Rows.{HasConsistentBuffer}
use Rattle.upload_table.specs.declared.upload.ChunkBuffer.{ChunkBuffer}
use Rattle.upload_table.proofs.HandCalls.{whole_length}
use Rattle.upload_table.proofs.uploads.Uploads.received_home.Goals as goal

pub returns-in-Home-clause-received : goal.returns-in-Home-clause-received
returns-in-Home-clause-received c =
    let len = whole_length c.in-Home.pieces.value (subst HasConsistentBuffer c.in-Home.is c.in_ok-place.ensures.whole) in
    rw (c.in_ok-place.ensures.ok, c.in-Home.is) (ap (λ (k : ℕ). Ok k) (len ∙ sym (c.len.ensures ∙ ap (λ (p : ChunkBuffer). length p.bytes) c.deref.ensures)))
