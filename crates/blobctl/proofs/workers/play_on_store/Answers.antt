use Rattle.std.proofs.Common.{◌++◌, ◌∙◌, ap, refl, subst, sym}
use Rattle.store_book.specs.Openings.{OpensCatalog, tenants_shown}
use Rattle.csv.proofs.WriteFacts.{appends-more}
use Rattle.store_model.specs.BookText.{book_text}
use Rattle.store_model.specs.Catalog.{Catalog}
use Rattle.blob_store.specs.Workers.{IsInterleaved}
use Rattle.locked_book.specs.Names.{StoreNames}
use Rattle.script_player.specs.Replies.{replies_text}
use Rattle.blobctl.proofs.workers.play_on_store.Goals as goal

pub returns-clause-played : goal.returns-clause-played
returns-clause-played g c =
    let store = c.args.options.now.store in
    let answers = c.in-Ok.played.replies in
    let last = c.in-Ok.played.book.book.catalog in
    let lines = c.args.rows.now in
    let wrote = c.in-Ok-write_by_row.ensures in
    let opening = ap (λ (n : StoreNames). n.opening) (sym c.requires.named) in
    let found = c.in-Ok-print.ensures.found in (
      replies_text answers ++ book_text last,
      appends-more _ _ _ _ _ wrote c.in-Ok-print.ensures.text,
      record {
        answers = answers;
        one_each = c.in-Ok.ensures.replies;
        first = c.args.parts.book.catalog;
        opened = subst (λ b. OpensCatalog (tenants_shown store.tenants.items) store.slots (record { max_blob = store.max_blob; on_disk = b }) c.args.parts.book.catalog) c.requires.kept c.requires.opened.catalog;
        last = last;
        run = subst (λ (C : Catalog). IsInterleaved C c.args.options.now.workers lines answers last) opening c.in-Ok.ensures.together;
        sound = found.sound;
        same = found.made ∙ sym (ap (λ (n : StoreNames). n.setting) c.requires.named);
        written = refl;
      },
    )
