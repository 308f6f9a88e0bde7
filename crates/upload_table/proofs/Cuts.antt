-- Bytes cut into chunks.
use Rattle.std.proofs.Common.{◌≡◌, ℕ, ◌+◌, ◌≤◌, List, [], ◌∷◌, ◌++◌, length, take, drop, refl, sym, ap, ◌∙◌, arith, length-drop}
use Rattle.std.specs.Prelude.{sum}
use Rattle.std.specs.List.{sum_by, concat}
use Rattle.std.proofs.lemmas.List.{length-take-le, take-append-le, drop-append-le, take-append-drop}
use Rattle.std.proofs.lemmas.List.Sums.{sum_by-cons}
use Rattle.std.proofs.Math.Seq.{take-length, take-append_seam}
use Rattle.upload_table.specs.Uploaded.{cut_chunks}

-- the total length of the cut chunks is the sum of the given lengths
pub sum_by-cut_chunks : (lens bytes : List ℕ) → sum lens ≤ length bytes → sum_by length (cut_chunks lens bytes) ≡ sum lens
sum_by-cut_chunks [] bytes le = refl
sum_by-cut_chunks (n ∷ lens) bytes le =
    let total : sum (n ∷ lens) ≡ n + sum lens = sum_by-cons (λ x. x) n lens in
    let rest : sum lens ≤ length (drop n bytes) = omega (arith, length-drop n bytes) in
    let first : n ≤ length bytes = omega arith in
    sum_by-cons length (take n bytes) (cut_chunks lens (drop n bytes)) ∙ (λ i. length-take-le n bytes first i + sum_by-cut_chunks lens (drop n bytes) rest i) ∙ sym total

no_bytes : (bytes : List ℕ) → 0 ≡ length bytes → bytes ≡ []
no_bytes [] e = refl
no_bytes (b ∷ bytes) e = absurd (omega arith)

-- a chunk at the end
pub cut_chunks-push : (lens bytes b : List ℕ) → sum lens ≡ length bytes → cut_chunks (lens ++ length b ∷ []) (bytes ++ b) ≡ cut_chunks lens bytes ++ b ∷ []
cut_chunks-push [] bytes b whole = rw (no_bytes bytes whole) (ap (λ c. c ∷ []) (take-length b))
cut_chunks-push (n ∷ lens) bytes b whole =
    let total : sum (n ∷ lens) ≡ n + sum lens = sum_by-cons (λ x. x) n lens in
    let rest : sum lens ≡ length (drop n bytes) = omega (arith, length-drop n bytes) in
    let first : n ≤ length bytes = omega arith in
    rw (take-append-le n bytes b first, drop-append-le n bytes b first) (ap (λ cs. take n bytes ∷ cs) (cut_chunks-push lens (drop n bytes) b rest))

-- the chunks joined are the bytes
pub concat-cut_chunks : (lens bytes : List ℕ) → sum lens ≡ length bytes → concat (cut_chunks lens bytes) ≡ bytes
concat-cut_chunks [] bytes whole = sym (no_bytes bytes whole)
concat-cut_chunks (n ∷ lens) bytes whole =
    let total : sum (n ∷ lens) ≡ n + sum lens = sum_by-cons (λ x. x) n lens in
    let rest : sum lens ≡ length (drop n bytes) = omega (arith, length-drop n bytes) in
    ap (λ x. take n bytes ++ x) (concat-cut_chunks lens (drop n bytes) rest) ∙ take-append-drop n bytes

-- bytes past the chunks change none of them
pub cut_chunks-more : (lens bytes more : List ℕ) → sum lens ≤ length bytes → cut_chunks lens (bytes ++ more) ≡ cut_chunks lens bytes
cut_chunks-more [] bytes more within = refl
cut_chunks-more (n ∷ lens) bytes more within =
    let total : sum (n ∷ lens) ≡ n + sum lens = sum_by-cons (λ x. x) n lens in
    let rest : sum lens ≤ length (drop n bytes) = omega (arith, length-drop n bytes) in
    let first : n ≤ length bytes = omega arith in
    rw (take-append-le n bytes more first, drop-append-le n bytes more first) (ap (λ cs. take n bytes ∷ cs) (cut_chunks-more lens (drop n bytes) more rest))

-- bytes truncated after the chunks are cut into the same chunks
pub cut_chunks-take : (lens bytes : List ℕ) → sum lens ≤ length bytes → cut_chunks lens (take (sum lens) bytes) ≡ cut_chunks lens bytes
cut_chunks-take lens bytes within =
    let front : sum lens ≤ length (take (sum lens) bytes) = omega (arith, length-take-le (sum lens) bytes within) in
    sym (cut_chunks-more lens (take (sum lens) bytes) (drop (sum lens) bytes) front) ∙ ap (cut_chunks lens) (take-append-drop (sum lens) bytes)

-- the front that is as long as the first part
pub front : (n : ℕ) (bytes more : List ℕ) → n ≡ length bytes → take n (bytes ++ more) ≡ bytes
front n bytes more e = ap (λ k. take k (bytes ++ more)) e ∙ take-append_seam bytes more
