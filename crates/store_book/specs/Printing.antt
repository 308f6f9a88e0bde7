-- The text that printing a book appends to its writer.
use Rattle.std.specs.Prelude.{ℕ, Option, List, Result, OnOk}
use Rattle.std.specs.Io.KnownBytes.{Appends}
use Rattle.spec_lib.specs.Texts.{Text}
use Rattle.store_model.specs.BookText.{book_text}
use Rattle.store_model.specs.Catalog.{Catalog}

-- if the call succeeds, it has appended this text to the writer's bytes
abbrev pub Prints : {W A E : Type 0} → (W → Option (List ℕ)) → W → W → Result A E → Text → Type 0
Prints contents old new result text = OnOk result (Appends (contents old) (contents new) text)

-- if the call succeeds, it has appended the text of this catalog
abbrev pub PrintsCatalog : {W A E : Type 0} → (W → Option (List ℕ)) → W → W → Result A E → Catalog → Type 0
PrintsCatalog contents old new result C = Prints contents old new result (book_text C)
