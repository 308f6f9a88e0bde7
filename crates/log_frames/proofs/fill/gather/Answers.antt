use Rattle.std.proofs.Common.{◌≡◌, ◌≤◌, ◌+◌, ◌++◌, arith, length, take, drop, sym, ap, ◌∙◌, subst, take_at, length-take-le}
use Rattle.std.proofs.lemmas.List.{length-drop, take-take}
use Rattle.std.specs.Io.KnownBytes.{Consumes}
use Rattle.std.proofs.KnownBytes.{Consumes-trans}
use Rattle.log_frames.proofs.Filling.{grown, joined}
use Rattle.log_frames.proofs.fill.gather.Goals as goal

pub loop-count-preserved : goal.loop-count-preserved
loop-count-preserved g c =
    let inv = c.loop-count.invariant in
    let start = c.args.start in
    let count = c.loop-count.count in
    let place = c.in_ok-place.place in
    let held = c.lengthen.new.buffer.items in
    let now = c.fill.new.buffer in
    let given = c.in_ok-place.ensures in
    let long = c.in_ok-lengthen.ensures in
    let ok : count ≤ length c.loop-count.buffer.items = omega (arith, inv.held, c.loop-count.buffer.ok) in
    let same : take c.lengthen.new.buffer.len (now ++ drop (length now) held) ≡ now = take_at now (drop (length now) held) _ (given.length ∙ c.as_mut_slice.ensures.len) in
    let front : take count now ≡ take count c.loop-count.buffer.items = given.before ∙ ap (take count) c.as_mut_slice.ensures.value ∙ long.same count inv.held in
    let first : take start now ≡ take start c.loop-count.buffer.items = sym (take-take start count now inv.low) ∙ ap (take start) front ∙ take-take start count c.loop-count.buffer.items inv.low in
    let len : start + length (drop start (take count c.loop-count.buffer.items)) ≡ count = omega (arith, inv.low, length-drop start (take count c.loop-count.buffer.items), length-take-le count c.loop-count.buffer.items ok) in
    let read : Consumes (g.R.Read.remaining c.args.input.now) (g.R.Read.remaining c.fill.new.input) (drop start (take place now)) = subst (Consumes _ _) (joined start count place c.loop-count.buffer.items now inv.low ok given.place.0 front) (Consumes-trans _ _ _ _ _ inv.read given.filled) in
    record {
      low = omega (arith, given.place.0, inv.low);
      high = omega (arith, given.place.1, c.min.ensures);
      held = omega (arith, given.place.1, long.long);
      before = rw same (first ∙ inv.before);
      read = rw same read;
      memory = grown _ _ _ start _ _ _ count c.min.result inv.read len (omega (arith, c.min.ensures, c.max.ensures)) long.no_longer inv.memory;
    }

pub returns-then-place-end-clause-gathered : goal.returns-then-place-end-clause-gathered
returns-then-place-end-clause-gathered g c =
    let inv = c.loop-count.invariant in
    let start = c.args.start in
    let count = c.loop-count.count in
    let place = c.in_ok-place.place in
    let held = c.lengthen.new.buffer.items in
    let now = c.fill.new.buffer in
    let given = c.in_ok-place.ensures in
    let long = c.in_ok-lengthen.ensures in
    let ok : count ≤ length c.loop-count.buffer.items = omega (arith, inv.held, c.loop-count.buffer.ok) in
    let same : take c.lengthen.new.buffer.len (now ++ drop (length now) held) ≡ now = take_at now (drop (length now) held) _ (given.length ∙ c.as_mut_slice.ensures.len) in
    let front : take count now ≡ take count c.loop-count.buffer.items = given.before ∙ ap (take count) c.as_mut_slice.ensures.value ∙ long.same count inv.held in
    let read : Consumes (g.R.Read.remaining c.args.input.now) (g.R.Read.remaining c.fill.new.input) (drop start (take place now)) = subst (Consumes _ _) (joined start count place c.loop-count.buffer.items now inv.low ok given.place.0 front) (Consumes-trans _ _ _ _ _ inv.read given.filled) in
    rw same read
