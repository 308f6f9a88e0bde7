-- The parts of a head.
use Rattle.std.proofs.Common.{◌≡◌, ◌≤◌, ℕ, List, [], ◌∷◌, ◌++◌, ◌∙◌, ap, refl, arith, length, take, drop, slice_index_or, append-nil}
use Rattle.std.proofs.lemmas.List.{nil_from_length, length-append}

-- the first two bytes and those after them
pub two_first : (bytes : List ℕ) → 2 ≤ length bytes → bytes ≡ slice_index_or (take 2 bytes) 0 0 ∷ slice_index_or (take 2 bytes) 1 0 ∷ drop 2 bytes
two_first [] long = absurd (omega (arith, long))
two_first (a ∷ []) long = absurd (omega (arith, long))
two_first (a ∷ b ∷ bytes) long = refl

-- seven fields of 30 bytes in all are all of 30 bytes
pub seven_fields : (bytes a b c d e f g r1 r2 r3 r4 r5 r6 r7 : List ℕ) → length bytes ≡ 30 → length a ≡ 2 → length b ≡ 2 → length c ≡ 2 → length d ≡ 4 → length e ≡ 4 → length f ≡ 8 → length g ≡ 8 → bytes ≡ a ++ r1 → r1 ≡ b ++ r2 → r2 ≡ c ++ r3 → r3 ≡ d ++ r4 → r4 ≡ e ++ r5 → r5 ≡ f ++ r6 → r6 ≡ g ++ r7 → bytes ≡ a ++ (b ++ (c ++ (d ++ (e ++ (f ++ g)))))
seven_fields bytes a b c d e f g r1 r2 r3 r4 r5 r6 r7 whole la lb lc ld le lf lg p1 p2 p3 p4 p5 p6 p7 =
    let n1 = ap length p1 ∙ length-append a r1 in
    let n2 = ap length p2 ∙ length-append b r2 in
    let n3 = ap length p3 ∙ length-append c r3 in
    let n4 = ap length p4 ∙ length-append d r4 in
    let n5 = ap length p5 ∙ length-append e r5 in
    let n6 = ap length p6 ∙ length-append f r6 in
    let n7 = ap length p7 ∙ length-append g r7 in
    let none : r7 ≡ [] = nil_from_length r7 (omega (arith, whole, la, lb, lc, ld, le, lf, lg, n1, n2, n3, n4, n5, n6, n7)) in
    let last : r6 ≡ g = p7 ∙ ap (λ (t : List ℕ). g ++ t) none ∙ append-nil g in
    rw (p1, p2, p3, p4, p5, p6, last) refl
