-- The layers, one more at a time.
use Rattle.std.proofs.Common.{◌≡◌, ◌++◌, ◌∷◌, ◌==◌, [], ℕ, List, not, Option, length, refl, arith}
use Rattle.std.specs.Prelude.{option_map}
use Rattle.std.proofs.lemmas.Bool.Decides.{nat_tests}
use Rattle.serde_json.specs.View.{items_view}
use Rattle.serde_json.specs.declared.value.Value.{Value}
use Rattle.spec_lib.specs.Texts.{Text}
use Rattle.oci_manifest.specs.Manifests.{is_filled}

-- a list has an element if and only if its length is not 0
pub not_empty : (values : List Value) (n : ℕ) → n ≡ length values → not (n == 0) ≡ is_filled (items_view values)
not_empty [] n e = rw e refl
not_empty (v ∷ values) n e = grind (arith, nat_tests)

-- the digests so far, followed by those of the rest
abbrev pub after : List Text → Option (List Text) → Option (List Text)
after front rest = option_map (λ texts. front ++ texts) rest
