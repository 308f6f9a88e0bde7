use Rattle.std.proofs.Common.{◌≡◌, ◌+◌, ◌≤◌, vec_len, vec_capacity}
use Rattle.locked_book.specs.History.{AreFreshDesks}
use Rattle.locked_book.proofs.kept.Kept.issue_all.Given as goal

abbrev pub invariant-loop-i : goal.invariant-loop-i
invariant-loop-i g l =
    (vec_len l.desks ≡ l._i)
    × (l.count ≤ vec_capacity l.desks)
    × AreFreshDesks l.desks.items
    × (l.self ≡ record l.fn.self { counts = record l.fn.self.counts { desks = l.fn.self.counts.desks + l._i } })
