-- Prefixes of lists.
use Rattle.std.proofs.Common.{◌≡◌, ◌≤◌, List, [], ◌∷◌, ◌++◌, length, refl, sym, ap, ◌∙◌, append_assoc, arith}
use Rattle.std.proofs.lemmas.List.{append-nil}
use mathlib.Core.List.{IsPrefix}

module _ {A : Type 0} where
  pub prefix_self : (xs : List A) → IsPrefix xs xs
  prefix_self xs = ([], append-nil xs)

  pub prefix_trans : (xs ys zs : List A) → IsPrefix xs ys → IsPrefix ys zs → IsPrefix xs zs
  prefix_trans xs ys zs p q = (p.0 ++ q.0, sym (append_assoc xs p.0 q.0) ∙ (ap (λ w. w ++ q.0) p.1 ∙ q.1))

  -- the same after a common prefix
  pub prefix_after : (bs xs ys : List A) → IsPrefix xs ys → IsPrefix (bs ++ xs) (bs ++ ys)
  prefix_after bs xs ys p = (p.0, append_assoc bs xs p.0 ∙ ap (λ w. bs ++ w) p.1)

  -- of two prefixes of a list the shorter is a prefix of the longer
  pub prefix_of_longer : (xs ys zs : List A) → IsPrefix xs zs → IsPrefix ys zs → length xs ≤ length ys → IsPrefix xs ys
  prefix_of_longer [] ys zs p q le = (ys, refl)
  prefix_of_longer (x ∷ xs) [] zs p q le = absurd (omega arith)
  prefix_of_longer (x ∷ xs) (y ∷ ys) [] p q le = cc
  prefix_of_longer (x ∷ xs) (y ∷ ys) (z ∷ zs) p q le =
      let xs_of : xs ++ p.0 ≡ zs = cc in
      let ys_of : ys ++ q.0 ≡ zs = cc in
      let t : IsPrefix xs ys = prefix_of_longer xs ys zs (p.0, xs_of) (q.0, ys_of) (omega arith) in
      let tail : xs ++ t.0 ≡ ys = t.1 in (t.0, (cc))
