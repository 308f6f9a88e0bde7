use Rattle.std.proofs.Common.{List, ℕ}
use Rattle.std.specs.List.{flat_map}
use Rattle.std.specs.Io.KnownBytes.{Appends}
use Rattle.std.specs.Prelude.{Option}
use Rattle.link_table.specs.Linked.{blobs_in}
use Rattle.store_book.specs.Internal.Lines.{blob_row}
use Rattle.store_book.proofs.print.print_blobs.Given as goal

-- after the remaining blobs are written, all are written
abbrev pub invariant-loop-blob : goal.invariant-loop-blob
invariant-loop-blob g l = (whole : Option (List ℕ)) → Appends (g.W.Write.contents l.writer) whole (flat_map (blob_row l.slots) l.blob-iterator) → Appends (g.W.Write.contents l.fn.writer) whole (flat_map (blob_row l.slots) (blobs_in l.links l.repo))
