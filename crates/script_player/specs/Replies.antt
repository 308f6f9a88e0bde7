-- The lines of replies.
use Rattle.std.specs.Prelude.{ℕ, List, ◌++◌, codes}
use Rattle.std.specs.Fmt.{decimal}
use Rattle.std.specs.List.{enumerate_from, flat_map}
use Rattle.spec_lib.specs.Texts.{Text}
use Rattle.store_api.specs.Answers.{Answer}
use Rattle.store_api.specs.Replies.{reply_text}

-- a row's number, a space, the reply, and a line feed
abbrev pub reply_line : ℕ × Answer → Text
reply_line e = decimal e.0 ++ codes " " ++ reply_text e.1 ++ codes "\n"

-- the lines of all replies, numbered from 1
abbrev pub replies_text : List Answer → Text
replies_text answers = flat_map reply_line (enumerate_from 1 answers)
