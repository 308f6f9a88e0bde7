use Rattle.std.proofs.Common.{◌+◌, ◌∙◌, ap, arith, subst, sym}
use Rattle.locked_book.specs.Counting.{StoreContent}
use Rattle.locked_book.specs.History.{AreFreshDesks}
use Rattle.locked_book.proofs.Sums.{fresh_pushed}
use Rattle.locked_book.proofs.kept.Kept.issue_all.Goals as goal

pub loop-i-preserved : goal.loop-i-preserved
loop-i-preserved g c =
    let was = c.loop-i.invariant in
    let one_more = ap (λ (k : StoreContent). record k { counts = record k.counts { desks = k.counts.desks + 1 } }) was.3 in (
      omega (arith, was.0, c.push_reserved.ensures.len),
      omega (arith, was.1, c.push_reserved.ensures.capacity),
      subst AreFreshDesks (sym c.push_reserved.ensures.items) (fresh_pushed c.loop-i.desks.items c.issue.result was.2 c.issue.ensures.fresh),
      c.issue.ensures.counts ∙ one_more ∙ ap (λ n. record c.args.self.now { counts = record c.args.self.now.counts { desks = n } }) (omega arith),
    )
