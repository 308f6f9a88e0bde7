use Rattle.std.proofs.Common.{◌++◌, refl}
use Rattle.store_model.specs.BookText.{book_text}
use Rattle.store_api.specs.Answers.{answers_of}
use Rattle.script_player.specs.Replies.{replies_text}
use Rattle.blobctl.proofs.run.run_one.Goals as goal

pub returns-clause-played : goal.returns-clause-played
returns-clause-played g c =
    let rows = c.in_ok-rows.ensures.rows in
    let played = c.in-Ok.ensures.played in
    record {
      script = rows.0;
      read = rows.1;
      text = replies_text (answers_of c.in-Ok.replies.items) ++ book_text c.in-Ok.book.catalog;
      written = rw c.as_slice.ensures.value at c.in_ok-write_played.ensures.written;
      played = record {
        first = played.0;
        opened = played.2;
        rows = c.in_ok-rows.rows;
        all = rows.2;
        answers = answers_of c.in-Ok.replies.items;
        last = c.in-Ok.book.catalog;
        left = played.1;
        run = played.3;
        written = refl;
      };
    }
