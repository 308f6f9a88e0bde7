use Rattle.std.proofs.Common.{◌∙◌, ap, sym, subst}
use Rattle.std.specs.Arc.{arc_value}
use Rattle.store_book.specs.BookState.{BookState}
use Rattle.store_model.specs.Invariant.{Sound}
use Rattle.locked_book.specs.Counting.{StoreContent}
use Rattle.locked_book.proofs.Performing.{found_manifest}
use Rattle.locked_book.proofs.kept.Kept.get_manifest.Goals as goal

pub returns-clause-digest : goal.returns-clause-digest
returns-clause-digest g c = found_manifest arc_value c.args.repo.now c.args.digest.now c.match-room.result c.add_unrecorded_command.ensures.performs (subst Sound (ap (λ (k : StoreContent). k.book.catalog) (sym c.self.view_is) ∙ ap (λ (b : BookState). b.catalog) (sym c.of-before.ensures)) c.room.ensures.sound)
