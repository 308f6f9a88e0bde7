use Rattle.std.proofs.Common.{◌≡◌, ◌+◌, length, take}
use Rattle.script_player.specs.JoinedRows.{joined_rows}
use Rattle.script_player.proofs.script_rows.find.Given as goal

-- the place is `rest` rows after the rows of the lists before
abbrev pub invariant-loop-number : goal.invariant-loop-number
invariant-loop-number l = l.place ≡ length (joined_rows (take l.number l.lists.items)) + l.rest
