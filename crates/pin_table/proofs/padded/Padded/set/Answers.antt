use Rattle.std.proofs.Common.{◌≡◌, ◌+◌, ◌-◌, ◌<◌, ◌++◌, length, set, take, refl, sym, ap, ◌∙◌, arith}
use Rattle.std.specs.Prelude.{replicate}
use Rattle.std.specs.Vec.{vec_len}
use Rattle.pin_table.proofs.PaddedLists.{padded, length-padded, padded-set, padded-grown, if_ok}
use Rattle.pin_table.proofs.padded.Padded.set.Goals as goal
use Rattle.pin_table.proofs.padded.Padded.set.Goals.{else-index-len-via-then-index-len+else-is_err, else-index-len-via-else-index-len}

pub returns : goal.returns
returns g c =
    let xs = c.self.inside.front.items in
    let n = c.self.inside.len in
    let r = c.self.inside.rest in
    let i = c.args.index in
    let m = vec_len c.self.inside.front in
    let s = c.else-index-len.self-inside in
    let long : length c.args.self.now ≡ n = ap (λ l. length l) (sym c.self.view_is) ∙ length-padded xs n r c.self.invariant.0 in
    let within : i < n = omega arith in
    let kept : (padded s.front.items s.len s.rest ≡ padded xs n r) × (i < length s.front.items) = elim c.else-index-len.branch [
      | else-index-len-via-then-index-len+else-is_err w ↦
          let items = if_ok w.resize.result w.resize.new.self.items (take (i + 1) xs ++ replicate (i + 1 - m) r) xs (sym w.is_err.ensures.value ∙ w.if-is_err.false) w.resize.ensures.items in
          rw w.self-inside-is (padded-grown xs w.resize.new.self.items n m i r (omega arith) (omega arith) within items)
      | else-index-len-via-else-index-len w ↦ rw w.self-inside-is (refl, omega arith)
    ] in
    padded-set s.front.items s.len i c.args.value s.rest kept.1 ∙ ap (λ l. set l i c.args.value) (kept.0 ∙ c.self.view_is)
