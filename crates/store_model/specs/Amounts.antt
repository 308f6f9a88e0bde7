-- The totals of accepted commands, and of the bytes that they received, closed and abandoned.
use Rattle.std.specs.Prelude.{ℕ, ◌+◌, List, [], ◌∷◌}
use Rattle.std.proofs.Common.{refl}
use Rattle.std.specs.Coded.{Coded, code_by, coded×, coded_ℕ}

-- the number of accepted commands, and the numbers of bytes received, closed and abandoned
pub record Amounts : Type 0 where
  pub commands : ℕ
  pub received : ℕ
  pub closed : ℕ
  pub abandoned : ℕ

-- the encoding of amounts as numbers
abbrev pub coded_amounts : Coded Amounts
coded_amounts = code_by ((ℕ × ℕ) × (ℕ × ℕ)) (coded× (coded× coded_ℕ coded_ℕ) (coded× coded_ℕ coded_ℕ)) (λ a. ((a.commands, a.received), (a.closed, a.abandoned))) (λ p. record { commands = p.0.0; received = p.0.1; closed = p.1.0; abandoned = p.1.1 }) (λ _. refl)

-- the amounts of no command
abbrev pub zero_amounts : Amounts
zero_amounts = record { commands = 0; received = 0; closed = 0; abandoned = 0 }

-- the sum of two amounts
abbrev pub add_amounts : Amounts → Amounts → Amounts
add_amounts a b =
    record { commands = a.commands + b.commands; received = a.received + b.received; closed = a.closed + b.closed; abandoned = a.abandoned + b.abandoned }

-- the amounts of one command that received r, closed c and abandoned a bytes
abbrev pub command_amounts_of : ℕ → ℕ → ℕ → Amounts
command_amounts_of r c a = record { commands = 1; received = r; closed = c; abandoned = a }

-- the sum of a list of amounts
abbrev pub sum_of : List Amounts → Amounts
sum_of [] = zero_amounts
sum_of (a ∷ rest) = add_amounts a (sum_of rest)
