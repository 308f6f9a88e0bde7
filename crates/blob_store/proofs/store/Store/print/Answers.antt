use Rattle.locked_book.proofs.Answered.{some_book}
use Rattle.blob_store.proofs.store.Store.print.Goals as goal

pub returns : goal.returns
returns g c = some_book c.print.result g.S.Naming.names c.deref.result.now.book (g.W.Write.contents c.args.writer.now) (g.W.Write.contents c.print.new.writer) c.print.ensures.found c.print.ensures.text
