-- What is there of a file after one deed more.
use Rattle.std.proofs.Common.{◌≡◌, ℕ, List, [], ◌∷◌, ◌++◌, refl}
use Rattle.std.specs.Prelude.{Option}
use Rattle.ghost_log.specs.declared.view.Entry.{Entry}
use Rattle.ghost_log.specs.Entries.{entry}
use Rattle.log_disk.specs.Deeds.{after_deed, after_deeds}

pub after_deeds-snoc : (at : List ℕ × List ℕ) (es : List (Entry (Option (List ℕ)))) (n : ℕ) (deed : Option (List ℕ)) → after_deeds at (es ++ entry n deed ∷ []) ≡ after_deed (after_deeds at es) deed
after_deeds-snoc at [] n deed = refl
after_deeds-snoc at (e ∷ es) n deed = after_deeds-snoc (after_deed at e.event) es n deed
