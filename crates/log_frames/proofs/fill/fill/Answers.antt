use Rattle.std.proofs.Common.{◌≡◌, ℕ, ◌+◌, ◌-◌, ◌≤◌, List, ◌++◌, rules, arith, length, take, drop, sym, ap, ◌∙◌, subst, le_refl, drop_at, length-take-le}
use Rattle.std.proofs.lemmas.Slice.{take-put_mid_below}
use Rattle.std.specs.Io.KnownBytes.{Consumes}
use Rattle.std.proofs.KnownBytes.{Consumes-trans}
use borrow.Rule.Slice.PartMut.{put_mid, post_of}
use lib.Seq.{take-add, take-append-le, drop-append-le}
use Rattle.log_frames.proofs.fill.fill.Goals as goal

mid_of : (a k n : ℕ) (xs ys : List ℕ) → a ≤ length xs → n ≤ length ys → take n (drop a (put_mid a k xs ys)) ≡ take n ys
mid_of a k n xs ys within fits =
    let after = post_of a k xs in
    ap (take n) (drop_at (take a xs) (ys ++ after) a (length-take-le a xs within)) ∙ take-append-le n ys after fits

filled : (start a k n : ℕ) (xs ys : List ℕ) → start ≤ a → a ≤ length xs → n ≤ length ys → drop start (take a xs) ++ take n ys ≡ drop start (take (a + n) (put_mid a k xs ys))
filled start a k n xs ys below within fits =
    let whole : List ℕ = put_mid a k xs ys in
    let taken : take (a + n) whole ≡ take a xs ++ take n ys =
    take-add a n whole ∙ ap (λ t. t ++ take n (drop a whole)) (take-put_mid_below _ _ _ _ _ (le_refl _) within) ∙ ap (λ t. take a xs ++ t) (mid_of a k n xs ys within fits) in
    sym (ap (drop start) taken ∙ drop-append-le start (take a xs) (take n ys) (omega (arith, length-take-le a xs within)))

pub loop-at-preserved : goal.loop-at-preserved
loop-at-preserved g c =
    let from = c.loop-at.at in
    let room = c.args.end - from in
    let same = c.loop-at.invariant.0 in
    let given = c.in-Ok.ensures in
    let below : from ≤ length c.loop-at.buffer = omega (arith, same, c.loop-at.invariant.2, c.requires.1) in
    (search rules, search rules, search rules, take-put_mid_below _ _ _ _ _ c.loop-at.invariant.1 below ∙ c.loop-at.invariant.3, subst (Consumes _ _) (filled c.args.start from room c.in-Ok.count c.loop-at.buffer c.read.new.buf c.loop-at.invariant.1 below given.bound.0) (Consumes-trans _ _ _ _ _ c.loop-at.invariant.4 given.bytes.0))
