use Rattle.std.proofs.Common.{List, ℕ, ap, ◌∙◌, subst}
use Rattle.std.specs.Prelude.{OnOk}
use Rattle.std.specs.Io.KnownBytes.{Appends}
use Rattle.store_book.specs.BookState.{BookState}
use Rattle.store_model.specs.Invariant.{Sound}
use Rattle.store_book.specs.Internal.Lines.{book_rows}
use Rattle.store_model.specs.BookText.{book_text}
use Rattle.store_book.proofs.Refine.Print.{can_print, text_is}
use Rattle.store_book.specs.BookFields.{layers}
use Rattle.store_book.proofs.book.Book.print.Goals as goal

pub print_book-requires : goal.print_book-requires
print_book-requires g c = can_print (layers c.self.inside) c.self.invariant

pub returns-clause-text : goal.returns-clause-text
returns-clause-text g c =
    let same = ap (λ xs. book_rows c.self.inside.links c.self.inside.uploads xs) c.table.ensures ∙ text_is (layers c.self.inside) c.self.invariant ∙ ap (λ (s : BookState). book_text s.catalog) c.self.view_is in
    subst (λ (t : List ℕ). OnOk c.print_book.result (Appends (g.W.Write.contents c.args.writer.now) (g.W.Write.contents c.print_book.new.writer) t)) same c.print_book.ensures

pub returns-clause-sound : goal.returns-clause-sound
returns-clause-sound g c = subst (λ (s : BookState). Sound s.catalog) c.self.view_is c.self.invariant.sound
