use Rattle.std.proofs.Common.{◌≡◌, arith, take, length-take}
use Rattle.std.proofs.lemmas.List.{take_all}
use Rattle.log_frames.proofs.Headers.{opens, too_short}
use Rattle.log_frames.proofs.header.read_header.Goals as goal

pub returns-then-count-lt32 : goal.returns-then-count-lt32
returns-then-count-lt32 g c =
    let count = c.in_ok-count.count in
    let bytes = c.fill.new.buffer in
    too_short _ _ (take count bytes) c.in_ok-count.ensures.filled (c.in_ok-count.ensures.ended c.if-count-lt32.true) (omega (arith, length-take count bytes, c.if-count-lt32.true))

pub returns : goal.returns
returns g c =
    let bytes = c.fill.new.buffer in
    let all : take c.in_ok-count.count bytes ≡ bytes = take_all _ bytes (omega (arith, c.in_ok-count.ensures.length)) in
    let read = rw all at c.in_ok-count.ensures.filled in
    opens _ _ bytes c.opening_of.result c.in_ok-count.ensures.length read c.opening_of.ensures
