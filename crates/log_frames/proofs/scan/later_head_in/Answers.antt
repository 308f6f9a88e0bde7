use Rattle.std.proofs.Common.{◌≡◌, ◌+◌, ◌++◌, ◌∙◌, ap, sym, subst, arith, length, length-take, take, drop, append_assoc, take-append-drop, ℕ, List}
use Rattle.std.proofs.lemmas.List.{length-append}
use Rattle.log_frames.proofs.Scanning.{StandsBehind, found_in, none_in, one_passed}
use Rattle.log_frames.proofs.scan.later_head_in.Goals as goal

pub loop-rest-preserved : goal.loop-rest-preserved
loop-rest-preserved c =
    let inv = c.loop-rest.invariant in
    let rest : List ℕ = c.loop-rest.rest.now in
    let passed : List ℕ = inv.0 ++ take 1 rest in
    let len : length inv.0 + 1 ≡ length passed = omega (arith, length-append inv.0 (take 1 rest), length-take 1 rest) in
    let none = sym c.is_some.ensures ∙ c.if-is_some.false in
    let split : c.args.bytes.now ≡ passed ++ drop 1 rest = inv.1 ∙ ap (λ t. inv.0 ++ t) (sym (take-append-drop 1 rest)) ∙ sym (append_assoc inv.0 (take 1 rest) (drop 1 rest)) in
    let behind = one_passed c.args.id c.args.limit c.args.place c.loop-rest.at c.args.bytes.now inv.0 rest c.later_head_at-found.result inv.1 inv.2 c.later_head_at-found.ensures none inv.3 in
    (passed, split ∙ ap (λ t. passed ++ t) (sym c.split_at.ensures.back), omega (arith, inv.2, len), subst (StandsBehind c.args.id c.args.limit c.args.place c.args.bytes.now) len behind)

pub returns-then-is_some : goal.returns-then-is_some
returns-then-is_some c =
    let inv = c.loop-rest.invariant in
    found_in c.args.id c.args.limit c.args.place c.loop-rest.at c.args.bytes.now inv.0 c.loop-rest.rest.now c.later_head_at-found.result inv.1 inv.2 c.later_head_at-found.ensures (sym c.is_some.ensures ∙ c.if-is_some.true)

pub returns : goal.returns
returns c =
    let inv = c.loop-rest.invariant in
    none_in c.args.id c.args.limit c.args.place c.args.bytes.now inv.0 c.loop-rest.rest.now inv.1 (omega arith) inv.3
