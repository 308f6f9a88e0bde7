-- The text of a store's totals.
use Rattle.std.specs.Prelude.{◌++◌, codes}
use Rattle.std.specs.Fmt.{decimal}
use Rattle.spec_lib.specs.Texts.{Text}
use Rattle.locked_book.specs.declared.totals.Totals.{Totals}

-- the line of the accepted commands and of the bytes that were received, closed and abandoned
abbrev pub totals_text : Totals → Text
totals_text t = codes "blobd: " ++ decimal t.commands ++ codes " commands, " ++ decimal t.received ++ codes " bytes received, " ++ decimal t.closed ++ codes " closed, " ++ decimal t.abandoned ++ codes " abandoned\n"
