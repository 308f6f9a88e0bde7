-- A list of which only the front is stored.
use Rattle.std.proofs.Common.{◌≡◌, ℕ, ◌+◌, ◌-◌, ◌<◌, ◌≤◌, false, cond, List, ◌++◌, length, length-append, append_assoc, set, take, Result, Ok, Err, sym, ap, ◌∙◌, arith}
use Rattle.std.specs.Prelude.{replicate}
use Rattle.std.specs.Result.{is_ok, is_err}
use Rattle.std.proofs.Math.ListN.{length-set}
use Rattle.std.proofs.lemmas.List.{length-replicate, replicate-append-replicate, set-append_left, take_all}

-- the list of n elements with this front, and r after it
abbrev pub padded : {X : Type 0} → List X → ℕ → X → List X
padded xs n r = xs ++ replicate (n - length xs) r

-- the number of elements
pub length-padded : {X : Type 0} (xs : List X) (n : ℕ) (r : X) → length xs ≤ n → length (padded xs n r) ≡ n
length-padded xs n r le =
    let long : length (padded xs n r) ≡ length xs + length (replicate (n - length xs) r) = length-append xs (replicate (n - length xs) r) in
    let rest : length (replicate (n - length xs) r) ≡ n - length xs = length-replicate (n - length xs) r in
    omega arith

-- a stored element is written
pub padded-set : {X : Type 0} (xs : List X) (n i : ℕ) (x r : X) → i < length xs → padded (set xs i x) n r ≡ set (padded xs n r) i x
padded-set xs n i x r lt = ap (λ l. set xs i x ++ replicate (n - l) r) (length-set xs i x) ∙ sym (set-append_left xs (replicate (n - length xs) r) i x lt)

-- the front is filled up to the element i
pub padded-grown : {X : Type 0} (xs ys : List X) (n m i : ℕ) (r : X) → m ≡ length xs → m ≤ i → i < n → ys ≡ take (i + 1) xs ++ replicate (i + 1 - m) r → (padded ys n r ≡ padded xs n r) × (i < length ys)
padded-grown xs ys n m i r long le lt is =
    let all : take (i + 1) xs ≡ xs = take_all (i + 1) xs (omega arith) in
    let to : ys ≡ xs ++ replicate (i + 1 - m) r = is ∙ ap (λ f. f ++ replicate (i + 1 - m) r) all in
    let parts : length ys ≡ length xs + length (replicate (i + 1 - m) r) = ap (λ f. length f) to ∙ length-append xs (replicate (i + 1 - m) r) in
    let filled : length (replicate (i + 1 - m) r) ≡ i + 1 - m = length-replicate (i + 1 - m) r in
    let more : (i + 1 - m) + (n - length ys) ≡ n - length xs = omega arith in (
      ap (λ f. f ++ replicate (n - length ys) r) to
          ∙ append_assoc xs (replicate (i + 1 - m) r) (replicate (n - length ys) r)
          ∙ ap (λ f. xs ++ f) (replicate-append-replicate (i + 1 - m) (n - length ys) r)
          ∙ ap (λ k. xs ++ replicate k r) more,
      omega arith,
    )

-- the value if a call did not fail
pub if_ok : {T E X : Type 0} (o : Result T E) (xs ys zs : List X) → is_err o ≡ false → xs ≡ cond (is_ok o) ys zs → xs ≡ ys
if_ok (Ok v) xs ys zs e is = is
if_ok (Err v) xs ys zs e is = absurd cc
