use Rattle.std.proofs.Common.{List, ℕ}
use Rattle.std.specs.List.{flat_map}
use Rattle.std.specs.Io.KnownBytes.{Appends}
use Rattle.std.specs.Prelude.{Option}
use Rattle.link_table.specs.Linked.{repos_of}
use Rattle.store_book.specs.Internal.Lines.{repo_rows}
use Rattle.store_book.proofs.print.print_repos.Given as goal

-- after the remaining repositories are written, all are written
abbrev pub invariant-loop-repo : goal.invariant-loop-repo
invariant-loop-repo g l =
    let rows = repo_rows l.tables.links.now l.tables.uploads.now l.tables.slots.now l.tenant in
    (whole : Option (List ℕ)) → Appends (g.W.Write.contents l.writer) whole (flat_map rows l.repo-iterator) → Appends (g.W.Write.contents l.fn.writer) whole (flat_map rows (repos_of l.tables.links.now l.tenant))
