use Rattle.std.specs.BTreeMap.{btree_map_len}
use Rattle.script_player.proofs.leases.Leases.end.Given as goal

abbrev pub decreases-loop-room : goal.decreases-loop-room
decreases-loop-room g l = btree_map_len l.table
