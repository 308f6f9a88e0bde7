use Rattle.std.proofs.Common.{◌≡◌, ◌≤◌, ◌+◌, length, take, arith, inr, refl, rules, length-append, length-take}
use Rattle.blobctl.proofs.Inputs.{few_more, one_more}
use Rattle.blobctl.proofs.input.read_script.Goals as goal

pub returns-in_err-count-clause-most : goal.returns-in_err-count-clause-most
returns-in_err-count-clause-most g c =
    let inv = c.loop-turn.invariant in
    let room : length c.loop-turn.script + length (take c.min-wanted.result c.loop-turn.buffer) ≤ 268435457 = omega (arith, inv.size, inv.fits, length-take c.min-wanted.result c.loop-turn.buffer, c.min-wanted.ensures) in
    few_more _ _ _ c.loop-turn.script _ 268435457 inv.taken c.in_err-count.ensures.most room

pub returns-then-len-gt-MAX_SCRIPT-clause-most : goal.returns-then-len-gt-MAX_SCRIPT-clause-most
returns-then-len-gt-MAX_SCRIPT-clause-most g c =
    let inv = c.loop-turn.invariant in
    let added = c.in_ok-count.ensures.added in
    let piece = take c.in_ok-count.count c.add_one_read.new.buffer in
    let all = one_more _ _ _ c.loop-turn.script piece c.add_one_read.new.script inv.taken c.in_ok-count.ensures.taken added in
    let same : length c.add_one_read.new.buffer ≡ length (take c.min-wanted.result c.loop-turn.buffer) = search rules in
    let size : length c.add_one_read.new.script ≡ length c.loop-turn.script + length piece = rw added (length-append c.loop-turn.script piece) in
    (c.add_one_read.new.script, all, omega (arith, same, size, length-take c.in_ok-count.count c.add_one_read.new.buffer, length-take c.min-wanted.result c.loop-turn.buffer, c.min-wanted.ensures, inv.size, inv.fits))

pub returns-then-len-gt-MAX_SCRIPT-clause-refused : goal.returns-then-len-gt-MAX_SCRIPT-clause-refused
returns-then-len-gt-MAX_SCRIPT-clause-refused g c =
    let inv = c.loop-turn.invariant in
    let added = c.in_ok-count.ensures.added in
    let piece = take c.in_ok-count.count c.add_one_read.new.buffer in
    let all = one_more _ _ _ c.loop-turn.script piece c.add_one_read.new.script inv.taken c.in_ok-count.ensures.taken added in
    let size : length c.add_one_read.new.script ≡ length c.loop-turn.script + length piece = rw added (length-append c.loop-turn.script piece) in
    inr (refl, inr (c.add_one_read.new.script, all, omega (arith, size, length-take c.in_ok-count.count c.add_one_read.new.buffer, c.in_ok-count.ensures.few, inv.size, c.if-len-gt-MAX_SCRIPT.true)))

pub loop-turn-preserved : goal.loop-turn-preserved
loop-turn-preserved g c =
    let inv = c.loop-turn.invariant in
    let added = c.in_ok-count.ensures.added in
    let piece = take c.in_ok-count.count c.add_one_read.new.buffer in
    let all = one_more _ _ _ c.loop-turn.script piece c.add_one_read.new.script inv.taken c.in_ok-count.ensures.taken added in
    let grown : length c.add_one_read.new.script ≡ length c.loop-turn.script + length piece = rw added (length-append c.loop-turn.script piece) in
    let size : c.loop-turn.len + c.in_ok-count.count ≡ length c.add_one_read.new.script = omega (arith, grown, length-take c.in_ok-count.count c.add_one_read.new.buffer, c.in_ok-count.ensures.few, inv.size) in
    record {
      taken = all;
      size = size;
      fits = omega (arith, size, c.if-len-gt-MAX_SCRIPT.false);
      unfailed = rw c.in_ok-count.ensures.unfailed inv.unfailed;
      more = omega (arith, size, inv.size, inv.more, c.if-count-eq0.false);
    }
