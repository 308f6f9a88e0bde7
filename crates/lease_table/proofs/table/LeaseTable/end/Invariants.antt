use Rattle.std.specs.BTreeMap.{btree_map_len}
use Rattle.lease_table.proofs.table.LeaseTable.end.Given as goal

abbrev pub decreases-loop-lease : goal.decreases-loop-lease
decreases-loop-lease g l = btree_map_len l.leases
