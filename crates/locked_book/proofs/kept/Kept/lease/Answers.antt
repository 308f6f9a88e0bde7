use Rattle.std.proofs.Common.{◌∙◌, ap, false, rules, sym, subst}
use Rattle.std.specs.Arc.{arc_value}
use Rattle.store_book.specs.BookState.{BookState}
use Rattle.store_book.specs.Pinned.{blob_bytes}
use Rattle.store_model.specs.Catalog.{Catalog}
use Rattle.store_model.specs.Invariant.{Sound}
use Rattle.std.specs.Prelude.{IfOk}
use Rattle.locked_book.specs.Counting.{StoreContent}
use Rattle.locked_book.specs.Results.{HashesTo}
use Rattle.locked_book.proofs.Performing.{leased_content}
use Rattle.locked_book.proofs.kept.Kept.lease.Goals as goal
use Rattle.locked_book.proofs.kept.Kept.lease.Goals.{in-Ok, in-Err}

pub returns-clause-content : goal.returns-clause-content
returns-clause-content g c =
    subst (λ (C : Catalog). IfOk c.match-room.result (λ r. HashesTo C.contents (blob_bytes (arc_value r.1)) c.args.digest.now)) (ap (λ (b : BookState). b.catalog) c.of-before.ensures ∙ ap (λ (k : StoreContent). k.book.catalog) c.self.view_is)
    (leased_content (λ r. blob_bytes (arc_value r.1)) c.args.repo.now c.args.digest.now c.match-room.result c.add_unrecorded_command.ensures.performs (subst Sound (ap (λ (k : StoreContent). k.book.catalog) (sym c.self.view_is) ∙ ap (λ (b : BookState). b.catalog) (sym c.of-before.ensures)) c.room.ensures.sound))

pub add_unrecorded_command-requires-clause-tries : goal.add_unrecorded_command-requires-clause-tries
add_unrecorded_command-requires-clause-tries g c = elim c.match-room.branch [
  | in-Ok w ↦ record { crowded = w.lease-result.ensures.does.crowded; sound = search rules; does = search rules; look = search rules; table = search rules; slots = search rules }
  | in-Err w ↦ record { crowded = false; sound = search rules; does = search rules; look = search rules; table = search rules; slots = search rules }
]
