-- The results of the calls that play a script.
use Rattle.std.specs.Prelude.{◌≡◌, ◌<◌, ℕ, Bool, true, List, Option, Some, IfSome, map, vec_len}
use Rattle.std.specs.Global.{Global, Vec}
use Rattle.std.specs.declared.collections.VecDeque.{VecDeque}
use Rattle.store_model.specs.Catalog.{Catalog}
use Rattle.locked_book.specs.Counting.{StoreContent}
use Rattle.locked_book.specs.History.{DeskView}
use Rattle.locked_book.specs.Names.{StoreNames}
use Rattle.store_api.specs.Answers.{Answer, answers_of}
use Rattle.store_api.specs.declared.reply.Reply.{Reply}
use Rattle.script_player.specs.Rows.{RowView}
use Rattle.script_player.specs.Shares.{own_answers}
use Rattle.blob_store.specs.Workers.{EachHasReplies, IsSettledFor, HasPlayed, HavePlayed, IsInterleaved}
use Rattle.blob_store.specs.declared.playing.Played.{Played}
use Rattle.blob_store.specs.declared.playing.PlayedToEnd.{PlayedToEnd}

-- if the flag is set, the workers have played their rows, with these desks and queues of replies
abbrev pub HavePlayedIf : Bool → StoreNames → ℕ → List RowView → Vec DeskView → Vec (VecDeque Reply Global) → Type 0
HavePlayedIf completed names workers rows desks queues =
    completed ≡ true → EachHasReplies names.opening workers rows desks.items (map (λ q. answers_of q.items) queues.items)

-- if there are replies, one worker for each desk has played the rows with them
abbrev pub HavePlayedIfSome : Catalog → List RowView → Vec DeskView → Vec DeskView → Option (List Answer) → Type 0
HavePlayedIfSome C rows old new result = IfSome result (λ replies. HavePlayed C (vec_len old) rows new.items replies)

-- each worker has played its rows, with a desk and its own replies
abbrev pub EachHasPlayed : Catalog → ℕ → List RowView → Played → Type 0
EachHasPlayed C workers rows played =
    (w : ℕ) → w < workers → (desk : DeskView) × HasPlayed C workers w rows desk (own_answers workers w rows (answers_of played.replies.items))

-- the settled amounts are those that the replies to the rows state
abbrev pub SettlesReplies : List RowView → Played → Type 0
SettlesReplies rows played = IsSettledFor rows (answers_of played.replies.items) played.settled

-- the history has only the workers' steps, and these are their replies and the book
abbrev pub IsEndOf : {S L : Type 0} → Bool → Option (List Answer) → StoreContent → PlayedToEnd S L → Type 0
IsEndOf is_whole played book end = (is_whole ≡ true) × (played ≡ Some end.replies) × (end.book ≡ book)

-- the workers' steps are one legal history, with these replies, that leads to the book
abbrev pub IsInterleavedTo : {S L : Type 0} → Catalog → ℕ → List RowView → PlayedToEnd S L → Type 0
IsInterleavedTo C workers rows end = IsInterleaved C workers rows end.replies end.book.book.catalog
