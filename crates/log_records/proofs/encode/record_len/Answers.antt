use Rattle.std.proofs.Common.{ap, arith}
use Rattle.log_records.specs.Changes.{Parts, change_view}
use Rattle.log_records.specs.Records.{head_of, payload_len}
use Rattle.log_records.proofs.Apart.{record_bytes-length}
use Rattle.log_records.proofs.encode.record_len.Goals as goal

pub returns : goal.returns
returns c = omega (arith, record_bytes-length (change_view c.args.change.now), ap (λ (p : Parts). payload_len (head_of p)) c.parts_of-parts.ensures)
