-- The command that a row spells.
use Rattle.std.specs.Prelude.{Option, None, [], ◌∷◌, Result, Ok}
use Rattle.blob_digest.specs.Ranges.{range_of}
use Rattle.blob_digest.specs.declared.range.ByteRange.{ByteRange}
use Rattle.blob_digest.specs.declared.refusal.Refusal.{Refusal}
use Rattle.spec_lib.specs.Texts.{Text}
use Rattle.script_player.specs.Rows.{RowView, session_number}
use Rattle.store_api.specs.Commands.{Command, command_from, range_of_ends}

-- the range of a chunk, or none if the field is empty
abbrev pub range_in : Text → Result (Option ByteRange) Refusal
range_in [] = Ok None
range_in (c ∷ cs) = range_of_ends (range_of (c ∷ cs))

-- the command that a row spells; a sweep and a row about a lease of its lane spell none
abbrev pub command_of : RowView → Result (Option Command) Refusal
command_of row = command_from row.verb row.repo row.key row.digest (range_in row.range) (session_number row.key) row.body
