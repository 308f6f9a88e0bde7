use Rattle.std.proofs.Common.{◌≡◌, ◌≤◌, ◌+◌, ◌++◌, ◌∙◌, ap, sym, subst, refl, arith, List, ℕ, length, length-take-le, take, drop}
use Rattle.std.proofs.lemmas.List.{length-drop}
use Rattle.std.specs.Int.{w64, to_le_bytes}
use Rattle.std.specs.Io.KnownBytes.{Consumes}
use Rattle.log_frames.specs.Reads.{rest_sum}
use Rattle.log_frames.specs.Sums.{sum_words}
use Rattle.log_frames.proofs.NextFrames.{behind_len, cut_rest, other_rest, parts, payload_len, summed, whole_rest}
use Rattle.log_frames.proofs.next.read_rest.Goals as goal

pub returns-then-count-summed-clause-rest : goal.returns-then-count-summed-clause-rest
returns-then-count-summed-clause-rest g c =
    let count = c.in_ok-count.count in
    let buffer = c.gather.new.buffer.items in
    let given = c.in_ok-count.ensures in
    let held : count ≤ length buffer = omega (arith, given.count.2, c.gather.new.buffer.ok) in
    let few = c.if-count-summed.true in (
      record { least = given.count.0; held = held; same = given.before; read = given.gathered },
      cut_rest c.args.head c.args.sum _ _ _ (drop 32 (take count buffer)) given.gathered (given.ended few) (omega (arith, few, length-drop 32 (take count buffer), length-take-le count buffer held, given.count.0)),
    )

pub returns-then-not-is_sum-clause-rest : goal.returns-then-not-is_sum-clause-rest
returns-then-not-is_sum-clause-rest g c =
    let count = c.in_ok-count.count in
    let len = c.args.head.length in
    let buffer = c.gather.new.buffer.items in
    let head : List ℕ = take 32 c.args.buffer.now.items in
    let given = c.in_ok-count.ensures in
    let held : count ≤ length buffer = omega (arith, given.count.2, c.gather.new.buffer.ok) in
    let all : count ≡ len + 40 = omega (arith, given.count.1, c.if-count-summed.false) in
    let payload : List ℕ = take len (drop 32 buffer) in
    let back : List ℕ = drop (32 + len) (take count buffer) in
    let slice : c.split_at.result.0.now ≡ take count buffer = c.split_at.ensures.front ∙ ap (take count) c.as_slice.ensures.value in
    let back_is : c.split_at-2.result.1.now ≡ back = c.split_at-2.ensures.back ∙ ap (drop (32 + len)) slice in
    let front_is : c.split_at-2.result.0.now ≡ head ++ payload = c.split_at-2.ensures.front ∙ ap (take (32 + len)) slice ∙ summed len count buffer head all given.before in
    let sum_is : c.sum_words-after.result ≡ rest_sum c.args.sum head payload = c.sum_words-after.ensures ∙ ap (sum_words c.args.sum) front_is in
    let read = subst (λ (t : List ℕ). Consumes (g.R.Read.remaining c.args.input.now) (g.R.Read.remaining c.gather.new.input) t) (parts len count buffer all held) given.gathered in (
      record { least = given.count.0; held = held; same = given.before; read = given.gathered },
      other_rest c.args.head c.args.sum head _ _ payload back read (payload_len len buffer (omega (arith, held, all))) (behind_len len count buffer all held) (λ e. c.is_sum.ensures.no c.if-not-is_sum.true (back_is ∙ e ∙ ap (to_le_bytes w64) (sym sum_is))),
    )

pub returns-clause-rest : goal.returns-clause-rest
returns-clause-rest g c =
    let count = c.in_ok-count.count in
    let len = c.args.head.length in
    let buffer = c.gather.new.buffer.items in
    let head : List ℕ = take 32 c.args.buffer.now.items in
    let given = c.in_ok-count.ensures in
    let held : count ≤ length buffer = omega (arith, given.count.2, c.gather.new.buffer.ok) in
    let all : count ≡ len + 40 = omega (arith, given.count.1, c.if-count-summed.false) in
    let payload : List ℕ = take len (drop 32 buffer) in
    let back : List ℕ = drop (32 + len) (take count buffer) in
    let slice : c.split_at.result.0.now ≡ take count buffer = c.split_at.ensures.front ∙ ap (take count) c.as_slice.ensures.value in
    let back_is : c.split_at-2.result.1.now ≡ back = c.split_at-2.ensures.back ∙ ap (drop (32 + len)) slice in
    let front_is : c.split_at-2.result.0.now ≡ head ++ payload = c.split_at-2.ensures.front ∙ ap (take (32 + len)) slice ∙ summed len count buffer head all given.before in
    let sum_is : c.sum_words-after.result ≡ rest_sum c.args.sum head payload = c.sum_words-after.ensures ∙ ap (sum_words c.args.sum) front_is in
    let read = subst (λ (t : List ℕ). Consumes (g.R.Read.remaining c.args.input.now) (g.R.Read.remaining c.gather.new.input) t) (parts len count buffer all held) given.gathered in
    let sum_there = c.is_sum.ensures.yes c.if-not-is_sum.false in (
      refl,
      record {
        held = omega (arith, held, all);
        same = given.before;
        read = whole_rest c.args.sum head _ _ payload back read (sym back_is ∙ sum_there ∙ ap (to_le_bytes w64) sum_is);
        after = rw sum_is refl;
      },
    )
