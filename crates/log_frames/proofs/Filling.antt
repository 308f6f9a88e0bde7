-- What a reader gave, and how much it had.
use Rattle.std.proofs.Common.{◌≡◌, ◌≤◌, ◌+◌, ◌*◌, ℕ, List, ◌++◌, ◌∙◌, ap, sym, arith, length, length-take-le, take, drop, Option, Some, None, IfSome, take-append-drop}
use Rattle.std.specs.Prelude.{max}
use Rattle.std.proofs.lemmas.List.{length-append, drop-append-le, take-take}
use Rattle.std.specs.Io.KnownBytes.{Consumes}

-- a buffer that grows to twice what was read and a piece
pub grown : (a b : Option (List ℕ)) (bs : List ℕ) (start old mid new count step : ℕ) → Consumes a b bs → start + length bs ≡ count → step ≤ max count 65536 → new ≤ max mid (count + step) → IfSome a (λ bytes. mid ≤ max old (2 * (start + length bytes) + 65536))
    → IfSome a (λ bytes. new ≤ max old (2 * (start + length bytes) + 65536))
grown None b bs start old mid new count step gave len small long before = tt
grown (Some xs) None bs start old mid new count step gave len small long before = absurd gave
grown (Some xs) (Some ys) bs start old mid new count step gave len small long before = omega (arith, ap length gave, length-append bs ys)

-- what is filled follows what was filled
pub joined : (start a b : ℕ) (before after : List ℕ) → start ≤ a → a ≤ length before → a ≤ b → take a after ≡ take a before → drop start (take a before) ++ drop a (take b after) ≡ drop start (take b after)
joined start a b before after low high le same =
    let front : take a (take b after) ≡ take a before = take-take a b after le ∙ same in
    let whole : take a before ++ drop a (take b after) ≡ take b after = ap (λ t. t ++ drop a (take b after)) (sym front) ∙ take-append-drop a (take b after) in
    sym (drop-append-le start (take a before) (drop a (take b after)) (omega (arith, low, length-take-le a before high))) ∙ ap (drop start) whole
