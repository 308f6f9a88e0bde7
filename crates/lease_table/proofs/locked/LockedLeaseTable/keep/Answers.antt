use Rattle.std.proofs.Common.{subst, sym}
use Rattle.lease_table.specs.Tables.{IsTableStep, keep_event, lease_view_of}
use Rattle.lease_table.proofs.locked.LockedLeaseTable.keep.Goals as goal

pub add-requires : goal.add-requires
add-requires g c =
    let old = c.self.inside.table in
    let new = c.keep-number.new.self in (
      old,
      new,
      c.self.invariant,
      subst (λ l. IsTableStep old (keep_event (lease_view_of l) c.keep-number.result) new) (sym c.of-given.ensures) c.keep-number.ensures,
    )
