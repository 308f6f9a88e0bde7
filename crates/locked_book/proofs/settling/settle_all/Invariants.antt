use Rattle.std.proofs.Common.{◌≡◌, ◌+◌, ◌++◌, ◌<◌, ◌≤◌, ℕ, List, [], get_or, true, vec_len}
use Rattle.ghost_log.specs.Entries.{events_by}
use Rattle.store_model.specs.Amounts.{add_amounts, sum_of}
use Rattle.locked_book.specs.History.{DeskView, amounts_of, steps_of_each}
use Rattle.locked_book.proofs.settling.settle_all.Given as goal

abbrev pub invariant-loop-desk : goal.invariant-loop-desk
invariant-loop-desk g l = record {
  totals : l.counters.totals ≡ l.fn.counters.totals;
  history : l.history ≡ l.fn.history;
  writers : l.writers ≡ vec_len l.fn.desks;
  desks : l.counters.desks + vec_len l.fn.desks ≡ l.fn.counters.desks + vec_len l.desks;
  settled : add_amounts l.counters.settled (sum_of (amounts_of l.desks.items)) ≡ add_amounts l.fn.counters.settled (sum_of (amounts_of l.fn.desks.items));
  split : (rest : List DeskView) × (l.fn.desks.items ≡ l.desks.items ++ rest);
  some : l.whole ≡ true → 0 < vec_len l.fn.desks;
  each : l.whole ≡ true → vec_len l.desks < vec_len l.fn.desks → (n : ℕ) → vec_len l.desks ≤ n → events_by n l.fn.history ≡ get_or (steps_of_each l.fn.desks.items) n [];
}

abbrev pub decreases-loop-desk : goal.decreases-loop-desk
decreases-loop-desk g l = vec_len l.desks
