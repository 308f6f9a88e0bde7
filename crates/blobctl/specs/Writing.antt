-- The bytes that a run adds to a writer.
use Rattle.std.specs.Prelude.{ℕ, List, ◌++◌, Option}
use Rattle.std.specs.Io.KnownBytes.{Appends}
use Rattle.spec_lib.specs.Texts.{Text}
use Rattle.store_model.specs.BookText.{book_text}
use Rattle.store_book.specs.BookState.{BookState}
use Rattle.store_book.specs.Openings.{tenants_shown}
use Rattle.store_api.specs.Answers.{Answer, answer_of, answers_of}
use Rattle.store_api.specs.declared.reply.Reply.{Reply}
use Rattle.script_player.specs.Replies.{replies_text, reply_line}
use Rattle.script_player.specs.Rows.{RowView}
use Rattle.blobctl.specs.Ending.{PlayedByWorkers}
use Rattle.blobctl.specs.declared.options.Options.{Options}

-- the writer's contents grow by the line of a reply to the row of this number
abbrev pub AddsReply : {W : Type 0} → (W → Option (List ℕ)) → W → W → ℕ → Reply → Type 0
AddsReply contents old new number reply = Appends (contents old) (contents new) (reply_line (number, answer_of reply))

-- the writer's contents grow by the lines of these replies
abbrev pub AddsReplies : {W : Type 0} → (W → Option (List ℕ)) → W → W → List Answer → Type 0
AddsReplies contents old new answers = Appends (contents old) (contents new) (replies_text answers)

-- the writer's contents grow by the lines of these replies, and then by the text of the book
abbrev pub AddsPlay : {W : Type 0} → (W → Option (List ℕ)) → W → W → List Reply → BookState → Type 0
AddsPlay contents old new replies book =
    Appends (contents old) (contents new) (replies_text (answers_of replies) ++ book_text book.catalog)

-- the writer's contents grow by a text that workers with these options write for the rows
abbrev pub AddsRunOf : {W : Type 0} → (W → Option (List ℕ)) → W → W → Options → List RowView → Type 0
AddsRunOf contents old new options rows =
    (text : Text)
    × Appends (contents old) (contents new) text
    × PlayedByWorkers options.workers (tenants_shown options.store.tenants.items) options.store.slots options.store.max_blob rows text
