-- Texts as keys: their order, their equality, and their code.
use Rattle.std.specs.Prelude.{ℕ, Bool, List, nat_eq}
use Rattle.std.specs.declared.cmp.Ordering.{Ordering}
use Rattle.std.specs.Ordering.{nat_cmp}
use Rattle.std.specs.Cmp.Lexicographic.{slice_cmp, pointwise}
use Rattle.std.specs.Coded.{Coded, coded_ℕ, coded_list}

-- the bytes of a text
abbrev pub Text : Type 0
Text = List ℕ

-- texts are ordered by their bytes
abbrev pub text_cmp : Text → Text → Ordering
text_cmp = slice_cmp nat_cmp

-- whether two texts have the same bytes
abbrev pub same_text : Text → Text → Bool
same_text = pointwise nat_eq

-- the code of a text, which a model with texts as keys needs
abbrev pub coded_text : Coded Text
coded_text = coded_list coded_ℕ
