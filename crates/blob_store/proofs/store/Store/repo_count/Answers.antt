use Rattle.std.proofs.Common.{ap, ◌∙◌}
use Rattle.store_book.specs.BookState.{BookState}
use Rattle.store_model.specs.Queries.{repo_count as told}
use Rattle.blob_store.proofs.store.Store.repo_count.Goals as goal

pub returns : goal.returns
returns g c = (c.deref.result.now.book, c.book.ensures.found, c.repo_count.ensures ∙ ap (λ (b : BookState). told b.catalog c.args.repo.now) c.book.ensures.same)
