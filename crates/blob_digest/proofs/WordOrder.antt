-- Bytes are ordered as the big-endian numbers that they encode.
use Rattle.std.proofs.Common.{Ordering, ◌≡◌, ℕ, zero, suc, ◌+◌, ◌*◌, ◌<◌, ◌≤◌, ◌++◌, inl, inr, List, [], ◌∷◌, length, take, drop, refl, sym, ap, ◌∙◌, arith}
use Rattle.std.proofs.lemmas.Bool.{cases_lt}
use Rattle.std.specs.Ordering.{nat_cmp, ordering_then}
use Rattle.std.specs.Cmp.Lexicographic.{slice_cmp}
use Rattle.std.specs.Slice.Scan.{big_endian}
use Rattle.hex.specs.Hex.{IsBytes}
use Rattle.std.proofs.lemmas.List.{length-take-le, take-append-drop}
use Rattle.spec_lib.proofs.Sorted.{nat_cmp-equal, nat_cmp-greater, nat_cmp-less}

-- bytes after a lower number keep it lower
below : (xs ys : List ℕ) (a b : ℕ) → length xs ≡ length ys → IsBytes xs → a < b → big_endian a xs < big_endian b ys
below [] [] a b same small lt = lt
below [] (y ∷ ys) a b same small lt = absurd (omega arith)
below (x ∷ xs) [] a b same small lt = absurd (omega arith)
below (x ∷ xs) (y ∷ ys) a b same small lt =
    let byte : x < 256 = small 0 in
    below xs ys (a * 256 + x) (b * 256 + y) (omega arith) (λ i. small (suc i)) (omega arith)

-- numbers after the same number are ordered as the bytes
big_endian_cmp : (xs ys : List ℕ) (a : ℕ) → length xs ≡ length ys → IsBytes xs → IsBytes ys → nat_cmp (big_endian a xs) (big_endian a ys) ≡ slice_cmp nat_cmp xs ys
big_endian_cmp [] [] a same hx hy = nat_cmp-equal a a refl
big_endian_cmp [] (y ∷ ys) a same hx hy = absurd (omega arith)
big_endian_cmp (x ∷ xs) [] a same hx hy = absurd (omega arith)
big_endian_cmp (x ∷ xs) (y ∷ ys) a same hx hy =
    let sx : IsBytes xs = λ i. hx (suc i) in
    let sy : IsBytes ys = λ i. hy (suc i) in
    elim (cases_lt x y) [
      | inl lt ↦ rw (nat_cmp-less x y lt) (nat_cmp-less _ _ (below xs ys (a * 256 + x) (a * 256 + y) (omega arith) sx (omega arith)))
      | inr ge ↦ elim (cases_lt y x) [
        | inl gt ↦ rw (nat_cmp-greater x y gt) (nat_cmp-greater _ _ (below ys xs (a * 256 + y) (a * 256 + x) (omega arith) sy (omega arith)))
        | inr le ↦
            let e : x ≡ y = omega arith in
            rw (nat_cmp-equal x y e, e) (big_endian_cmp xs ys (a * 256 + y) (omega arith) sx sy)
      ]
    ]

-- the first elements decide before those after them
parts_cmp : (xs ys us vs : List ℕ) → length xs ≡ length ys → slice_cmp nat_cmp (xs ++ us) (ys ++ vs) ≡ ordering_then (slice_cmp nat_cmp xs ys) (slice_cmp nat_cmp us vs)
parts_cmp [] [] us vs same = refl
parts_cmp [] (y ∷ ys) us vs same = absurd (omega arith)
parts_cmp (x ∷ xs) [] us vs same = absurd (omega arith)
parts_cmp (x ∷ xs) (y ∷ ys) us vs same = elim (cases_lt x y) [
  | inl lt ↦ rw (nat_cmp-less x y lt) refl
  | inr ge ↦ elim (cases_lt y x) [
    | inl gt ↦ rw (nat_cmp-greater x y gt) refl
    | inr le ↦ rw (nat_cmp-equal x y (omega arith)) (parts_cmp xs ys us vs (omega arith))
  ]
]

IsBytes-take : (n : ℕ) (xs : List ℕ) → IsBytes xs → IsBytes (take n xs)
IsBytes-take zero xs h i = omega arith
IsBytes-take (suc n) [] h i = omega arith
IsBytes-take (suc n) (x ∷ xs) h zero = h 0
IsBytes-take (suc n) (x ∷ xs) h (suc i) = IsBytes-take n xs (λ j. h (suc j)) i

-- the numbers in the first `n` bytes decide before the bytes after them
pub words_cmp : (n : ℕ) (xs ys : List ℕ) (x y : ℕ) → n ≤ length xs → n ≤ length ys → IsBytes xs → IsBytes ys
    → x ≡ big_endian 0 (take n xs) → y ≡ big_endian 0 (take n ys) → (r : Ordering) → nat_cmp x y ≡ r
    → slice_cmp nat_cmp xs ys ≡ ordering_then r (slice_cmp nat_cmp (drop n xs) (drop n ys))
words_cmp n xs ys x y long_x long_y small_x small_y ex ey r er =
    let size : length (take n xs) ≡ length (take n ys) = length-take-le n xs long_x ∙ sym (length-take-le n ys long_y) in
    let front = big_endian_cmp (take n xs) (take n ys) 0 size (IsBytes-take n xs small_x) (IsBytes-take n ys small_y) in
    (λ i. slice_cmp nat_cmp (sym (take-append-drop n xs) i) (sym (take-append-drop n ys) i))
    ∙ parts_cmp (take n xs) (take n ys) (drop n xs) (drop n ys) size
    ∙ ap (λ o. ordering_then o (slice_cmp nat_cmp (drop n xs) (drop n ys))) (sym (sym er ∙ (λ i. nat_cmp (ex i) (ey i)) ∙ front))
