-- Texts that compare as equal are the same.
use Rattle.std.proofs.Common.{◌≡◌, true, refl, ap}
use Rattle.std.specs.Ordering.{eq_by_cmp, is_eq}
use Rattle.std.specs.Cmp.{tied_itself}
use Rattle.std.specs.Cmp.Lexicographic.{bytes_decides, nat_list_cmp_total}
use Rattle.std.proofs.lemmas.Map.Lookups.{exact_bytes}
use Rattle.std.proofs.lemmas.Map.Views.{tells_apart}
use Rattle.spec_lib.specs.Texts.{Text, text_cmp, same_text}

pub same_text_is : (x y : Text) → x ≡ y → same_text x y ≡ true
same_text_is x y e = (bytes_decides x y).1 e

pub same_itself : (x : Text) → same_text x x ≡ true
same_itself x = same_text_is x x refl

pub text_is_same : (x y : Text) → same_text x y ≡ true → x ≡ y
text_is_same x y e = (bytes_decides x y).0 e

pub tied_to_itself : (x : Text) → eq_by_cmp text_cmp x x ≡ true
tied_to_itself x = ap is_eq (tied_itself nat_list_cmp_total x)

pub tied_text : (q x : Text) → eq_by_cmp text_cmp q x ≡ true → q ≡ x
tied_text = tells_apart exact_bytes
