use Rattle.std.proofs.Common.{List, ℕ}
use Rattle.std.specs.List.{flat_map}
use Rattle.std.specs.Io.KnownBytes.{Appends}
use Rattle.std.specs.Prelude.{Option}
use Rattle.link_table.specs.ManifestTable.{manifests_on}
use Rattle.store_model.specs.BookText.{manifest_row}
use Rattle.store_book.proofs.print.print_manifests.Given as goal

-- after the remaining manifests are written, all are written
abbrev pub invariant-loop-digest : goal.invariant-loop-digest
invariant-loop-digest g l = (whole : Option (List ℕ)) → Appends (g.W.Write.contents l.writer) whole (flat_map manifest_row l.digest-iterator) → Appends (g.W.Write.contents l.fn.writer) whole (flat_map manifest_row (manifests_on l.links.manifests l.repo))
