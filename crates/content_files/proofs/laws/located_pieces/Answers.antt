use Rattle.content_files.proofs.LocatedNotes.{noted_pieces_are_part}
use Rattle.content_files.proofs.laws.located_pieces.Goals as goal

pub returns : goal.returns
returns c = noted_pieces_are_part
