use Rattle.std.proofs.Common.{◌++◌, take}
use Rattle.std.specs.List.{flat_map, enumerate_from}
use Rattle.std.specs.Io.KnownBytes.{Appends}
use Rattle.store_book.specs.Internal.Lines.{tenant_rows}
use Rattle.store_model.specs.BookText.{book_line}
use Rattle.store_book.proofs.print.print_book.Given as goal

abbrev pub invariant-loop-tenant : goal.invariant-loop-tenant
invariant-loop-tenant g l = Appends (g.W.Write.contents l.fn.writer) (g.W.Write.contents l.writer) (book_line ++ flat_map (tenant_rows l.links l.uploads l.slots) (take l.tenant (enumerate_from 0 l.links.tenants)))
