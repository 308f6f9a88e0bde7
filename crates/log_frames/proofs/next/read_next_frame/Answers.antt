use Rattle.std.proofs.Common.{◌≡◌, ◌≤◌, ◌∙◌, ap, refl, sym, subst, arith, List, ℕ, length, length-take, length-take-le, take}
use Rattle.std.proofs.lemmas.Result.{IfOk-weaker}
use Rattle.std.specs.Io.KnownBytes.{Consumes}
use Rattle.log_frames.specs.Heads.{HasNoHead, IsHeadOf}
use Rattle.log_frames.proofs.NextFrames.{cut_head, goes_on, other_head, other_place, room_then}
use Rattle.log_frames.proofs.next.read_next_frame.Goals as goal

pub returns-then-count-lt32-clause-next : goal.returns-then-count-lt32-clause-next
returns-then-count-lt32-clause-next g c =
    let count = c.in_ok-count.count in
    let buffer = c.gather.new.buffer.items in
    let given = c.in_ok-count.ensures in (
      record { some = omega arith; held = omega (arith, given.count.2, c.gather.new.buffer.ok); read = given.gathered },
      cut_head c.args.id c.args.cursor _ _ (take count buffer) given.gathered (given.ended c.if-count-lt32.true) (omega (arith, length-take count buffer, c.if-count-lt32.true)),
    )

pub returns-in-None-clause-next : goal.returns-in-None-clause-next
returns-in-None-clause-next g c =
    let count = c.in_ok-count.count in
    let buffer = c.gather.new.buffer.items in
    let given = c.in_ok-count.ensures in
    let held : count ≤ length buffer = omega (arith, given.count.2, c.gather.new.buffer.ok) in
    let all : count ≡ 32 = omega (arith, given.count.1, c.if-count-lt32.false) in
    let front : c.split_at.result.0.now ≡ take count buffer = c.split_at.ensures.front ∙ ap (take 32) c.as_slice.ensures.value ∙ ap (λ n. take n buffer) (sym all) in (
      record { some = omega arith; held = held; read = given.gathered },
      other_head c.args.id c.args.cursor _ _ (take count buffer) given.gathered (length-take-le count buffer held ∙ all) (subst (HasNoHead c.args.id) front (c.in-None.ensures.none refl)),
    )

pub returns-then-head-cursor-clause-next : goal.returns-then-head-cursor-clause-next
returns-then-head-cursor-clause-next g c =
    let count = c.in_ok-count.count in
    let buffer = c.gather.new.buffer.items in
    let given = c.in_ok-count.ensures in
    let held : count ≤ length buffer = omega (arith, given.count.2, c.gather.new.buffer.ok) in
    let all : count ≡ 32 = omega (arith, given.count.1, c.if-count-lt32.false) in
    let front : c.split_at.result.0.now ≡ take count buffer = c.split_at.ensures.front ∙ ap (take 32) c.as_slice.ensures.value ∙ ap (λ n. take n buffer) (sym all) in (
      record { some = omega arith; held = held; read = given.gathered },
      other_place c.args.id c.args.cursor c.in-Some.head _ _ (take count buffer) given.gathered (subst (λ (t : List ℕ). IsHeadOf c.args.id t c.in-Some.head) front c.in-Some.ensures.head) c.if-head-cursor.true,
    )

pub returns-else-head-cursor-clause-next : goal.returns-else-head-cursor-clause-next
returns-else-head-cursor-clause-next g c =
    let count = c.in_ok-count.count in
    let buffer = c.gather.new.buffer.items in
    let given = c.in_ok-count.ensures in
    let all : count ≡ 32 = omega (arith, given.count.1, c.if-count-lt32.false) in
    let front : c.split_at.result.0.now ≡ take 32 buffer = c.split_at.ensures.front ∙ ap (take 32) c.as_slice.ensures.value in
    let read = subst (λ (n : ℕ). Consumes (g.R.Read.remaining c.args.input.now) (g.R.Read.remaining c.gather.new.input) (take n buffer)) all given.gathered in
    let head = subst (λ (t : List ℕ). IsHeadOf c.args.id t c.in-Some.head) front c.in-Some.ensures.head in
    IfOk-weaker c.read_rest.result _ _ (λ n rest. goes_on c.args.id c.args.cursor c.in-Some.head _ _ _ (take 32 buffer) _ n read head c.if-head-cursor.false rest) c.read_rest.ensures.rest

pub returns-else-head-cursor-clause-memory : goal.returns-else-head-cursor-clause-memory
returns-else-head-cursor-clause-memory g c =
    let count = c.in_ok-count.count in
    let buffer = c.gather.new.buffer.items in
    let given = c.in_ok-count.ensures in
    let held : count ≤ length buffer = omega (arith, given.count.2, c.gather.new.buffer.ok) in
    let all : count ≡ 32 = omega (arith, given.count.1, c.if-count-lt32.false) in
    room_then 32 _ _ (take count buffer) _ _ _ given.gathered (length-take-le count buffer held ∙ all) c.gather.ensures.memory c.read_rest.ensures.memory
