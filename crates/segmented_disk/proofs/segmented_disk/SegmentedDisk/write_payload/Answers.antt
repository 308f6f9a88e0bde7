use Rattle.std.proofs.Common.{◌∙◌}
use Rattle.std.proofs.lemmas.Result.{err_from_is_err_and}
use Rattle.segmented_disk.proofs.Segments.{nothing_written, prefix_same, still_durable}
use Rattle.segmented_disk.proofs.segmented_disk.SegmentedDisk.write_payload.Goals as goal

pub returns-in_err-start_next-clause-err : goal.returns-in_err-start_next-clause-err
returns-in_err-start_next-clause-err g c =
    let p = err_from_is_err_and c.from_residual.result c.from_residual.ensures.1 in
    rw p.1 (nothing_written _ _ _ c.start_next.ensures.payloads.all)

pub invariant_of-self : goal.invariant_of-self
invariant_of-self g c = record {
  keeps = still_durable _ _ _ _ c.self-2.invariant.keeps (prefix_same _ _ c.write.ensures.kept);
  last = c.write.ensures.id ∙ c.self-2.invariant.last;
}
