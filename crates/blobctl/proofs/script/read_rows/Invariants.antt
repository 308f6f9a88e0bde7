use Rattle.std.proofs.Common.{◌≡◌, List, length}
use Rattle.blobctl.specs.Reading.{IsAfter}
use Rattle.blobctl.specs.Records.{Record}
use Rattle.blobctl.specs.Script.{AreGoodRecords}
use Rattle.blobctl.proofs.script.read_rows.Given as goal

-- the records before this place are good, and these are their rows
abbrev pub invariant-loop-place : goal.invariant-loop-place
invariant-loop-place l = (before : List Record) × IsAfter l.fn.script before l.reader × AreGoodRecords before l.rows × (length before ≡ l.place)
