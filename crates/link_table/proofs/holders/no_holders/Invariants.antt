use Rattle.std.proofs.Common.{◌≡◌, length}
use Rattle.std.specs.List.{All}
use Rattle.std.specs.FinMap as fmap
use Rattle.link_table.proofs.holders.no_holders.Given as goal

abbrev pub invariant-loop : goal.invariant-loop
invariant-loop l = record { many : length l.holders.items ≡ l.counter; empty : All (λ h. h ≡ fmap.empty) l.holders.items }
