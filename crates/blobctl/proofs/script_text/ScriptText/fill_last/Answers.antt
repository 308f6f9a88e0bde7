use Rattle.std.proofs.Common.{◌≡◌, ◌++◌, ◌-◌, ◌∙◌, ap, refl, set, suc, length, take, arith, rules, deque_len}
use Rattle.blobctl.proofs.Pieces.{bytes_in-set, left-more}
use Rattle.blobctl.proofs.script_text.ScriptText.fill_last.Goals as goal

pub returns-clause-added : goal.returns-clause-added
returns-clause-added c =
    let pieces = c.self.inside.pieces in
    let more = take c.min-count.result c.args.bytes.now in
    let size : length pieces.items ≡ deque_len pieces = search rules in
    let last : suc (deque_len pieces - 1) ≡ length pieces.items = omega (arith, size, c.in-Some.ensures.variant.0 refl) in
    let grown : c.extend_from_slice.new.self.items ≡ c.in-Some.last.now.items ++ more = search rules in
    let same = bytes_in-set pieces.items (deque_len pieces - 1) c.in-Some.last.now c.extend_from_slice.new.self more last c.in-Some.ensures.value grown in
    left-more c.self.inside.place pieces.items (set pieces.items (deque_len pieces - 1) c.extend_from_slice.new.self) more c.self.invariant same ∙ ap (λ x. x ++ more) c.self.view_is
