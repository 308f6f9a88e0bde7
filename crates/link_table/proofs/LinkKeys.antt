-- Pairs of a repository's name and a digest: their order, and the look-up of equal pairs.
use Rattle.std.proofs.Common.{◌≡◌, Bool, true, false, cond, List, [], ◌∷◌, map, Option, None, refl, sym}
use Rattle.std.specs.Prelude.{◌&&◌, ◌||◌}
use Rattle.std.specs.List.{list_any}
use Rattle.std.specs.FinMap.{FinMap, entries, keys}
use Rattle.std.specs.Ordering.{eq_by_cmp}
use Rattle.std.specs.Cmp.{tied_then}
use Rattle.spec_lib.specs.Texts.{Text, text_cmp}
use Rattle.blob_digest.specs.Keys.{Link, link_cmp}

pub link_tie : (r d s e : Text) → eq_by_cmp link_cmp (r, d) (s, e) ≡ (eq_by_cmp text_cmp r s && eq_by_cmp text_cmp d e)
link_tie r d s e = sym (tied_then (text_cmp r s) (text_cmp d e))

pub both_ties : {X : Type 0} (a b : Bool) (v x : Option X) → cond (a && b) v (cond a x None) ≡ cond a (cond b v x) None
both_ties true b v x = refl
both_ties false b v x = refl

pub none_anyway : {X : Type 0} (b : Bool) → None ≡ cond {A = Option X} b None None
none_anyway true = refl
none_anyway false = refl

any_mapped : {A B : Type 0} (p : B → Bool) (f : A → B) (xs : List A) → list_any p (map f xs) ≡ list_any (λ x. p (f x)) xs
any_mapped p f [] = refl
any_mapped p f (x ∷ xs) = λ i. p (f x) || any_mapped p f xs i

-- a test of the keys is one of the entries
pub any_key : {X : Type 0} (p : Link → Bool) (m : FinMap link_cmp X) → list_any p (keys m) ≡ list_any (λ (e : Link × X). p e.0) (entries m)
any_key {X} p m = any_mapped p (λ (e : Link × X). e.0) (entries m)
