-- The totals and their settled amounts.
use Rattle.std.specs.Prelude.{◌≡◌, ◌+◌, ◌<◌, ◌≤◌, ◌^◌, ◌&&◌, ℕ, Bool, Option, Some, None, nat_lt}
use Rattle.store_model.specs.Amounts.{Amounts, add_amounts, command_amounts_of}

-- the counters: the totals of all accepted commands, the sums of the settled shares, and the number of unsettled desks
pub record Counts : Type 0 where
  pub totals : Amounts
  pub settled : Amounts
  pub desks : ℕ

-- the number of parts of a ledger: one for each desk, and one that no desk gets
abbrev pub ledger_parts : ℕ
ledger_parts = 1025

-- one quantity: its total, its settled amount, and the parts of its ledger that no desk has
pub record CounterView : Type 0 where
  pub total : ℕ
  pub settled : ℕ
  pub parts : ℕ

-- ---- amounts

-- these four amounts are at most those
abbrev pub AreAtMost : Amounts → Amounts → Type 0
AreAtMost a b = (a.commands ≤ b.commands) × (a.received ≤ b.received) × (a.closed ≤ b.closed) × (a.abandoned ≤ b.abandoned)

-- n bytes are in sessions if n, the bytes closed and the bytes abandoned are all that were received
abbrev pub AreInSessions : ℕ → Amounts → Type 0
AreInSessions n totals = n + totals.closed + totals.abandoned ≡ totals.received

-- whether one more command with n bytes can be counted in addition to the checked-out sessions and the bytes reserved for them
abbrev pub fits_totals : Amounts → ℕ → ℕ → ℕ → Bool
fits_totals totals hands reserve n = nat_lt (totals.commands + hands + 1) (2 ^ 64) && nat_lt (totals.received + reserve + n) (2 ^ 64)

-- one more command that abandons n bytes can be counted
abbrev pub CanCount : Amounts → ℕ → Type 0
CanCount totals n = (totals.commands + 1 < 2 ^ 64) × (totals.received < 2 ^ 64) × (totals.closed < 2 ^ 64) × (totals.abandoned + n < 2 ^ 64)

-- ---- what the calls change

-- the counts after a command of these amounts
abbrev pub counts_after : Counts → Amounts → Counts
counts_after c a = record c { totals = add_amounts c.totals a }

-- the counts after a command that abandons these bytes, or that failed
abbrev pub counts_with : Counts → Option ℕ → Counts
counts_with c (Some n) = counts_after c (command_amounts_of 0 0 n)
counts_with c None = c

-- the amounts after a command that abandons these bytes, or that failed
abbrev pub amounts_with : Amounts → Option ℕ → Amounts
amounts_with a (Some n) = add_amounts a (command_amounts_of 0 0 n)
amounts_with a None = a

-- one more part of the ledger is out, and the amounts are unchanged
abbrev pub IssuesPart : CounterView → CounterView → Type 0
IssuesPart old new = (new.total ≡ old.total) × (new.settled ≡ old.settled) × (new.parts + 1 ≡ old.parts)

-- the counter after a share of this amount was settled
abbrev pub counter_after_settling : CounterView → ℕ → CounterView
counter_after_settling c amount = record { total = c.total; settled = c.settled + amount; parts = c.parts + 1 }
