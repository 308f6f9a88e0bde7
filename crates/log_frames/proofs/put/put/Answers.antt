use Rattle.std.proofs.Common.{◌≡◌, ◌++◌, ◌-◌, ℕ, List, ◌∙◌, ap, sym, arith, length, take, drop, append_assoc, take-append-drop, length-drop}
use Rattle.std.proofs.KnownBytes.{Appends-trans}
use Rattle.std.proofs.lemmas.List.{take_all}
use Rattle.log_frames.proofs.put.put.Goals as goal

gone : (n : ℕ) (bytes before rest : List ℕ) → bytes ≡ before ++ rest → bytes ≡ (before ++ take n rest) ++ take (length rest - n) (drop n rest)
gone n bytes before rest is =
    let all : take (length rest - n) (drop n rest) ≡ drop n rest = take_all _ (drop n rest) (omega (arith, length-drop n rest)) in
    is ∙ ap (λ t. before ++ t) (sym (take-append-drop n rest) ∙ ap (λ t. take n rest ++ t) (sym all)) ∙ sym (append_assoc before (take n rest) _)

pub loop-rest-preserved : goal.loop-rest-preserved
loop-rest-preserved g c =
    let before = c.loop-rest.invariant in
    (before.0 ++ take c.in-Ok.count c.loop-rest.rest.now, gone c.in-Ok.count _ before.0 c.loop-rest.rest.now before.1, Appends-trans _ _ _ _ _ before.2 c.in-Ok.ensures.bytes)
