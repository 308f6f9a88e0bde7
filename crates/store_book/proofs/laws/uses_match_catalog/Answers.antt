use Rattle.store_book.proofs.Refine.Take.{use_is}
use Rattle.store_book.proofs.laws.uses_match_catalog.Goals as goal

pub returns : goal.returns
returns c = λ L book t there. use_is L t book there
