-- The stored form of a lease's name: its bytes, padded with zeros to 32.
use Rattle.std.specs.Prelude.{◌≡◌, ℕ, ◌-◌, ◌≤◌, List, ◌++◌, length, take, replicate}
use Rattle.std.specs.Cmp.{IsTotalOrder, nat_cmp_total, on_total, then_total}
use Rattle.std.specs.Cmp.Lexicographic.{nat_list_cmp_total}
use Rattle.spec_lib.specs.Texts.{Text}
use Rattle.script_player.specs.Leases.{name_cmp}

-- the 32 bytes that a name is stored in
abbrev pub padded_name : Text → List ℕ
padded_name text = text ++ replicate (32 - length text) 0

-- the first `len` bytes are a name, and the others are zeros
pub record IsPadded (len : ℕ) (bytes : List ℕ) : Type 0 where
  pub within : len ≤ 32
  pub whole : length bytes ≡ 32
  pub padding : padded_name (take len bytes) ≡ bytes

-- names are in a total order
pub name_cmp_total : IsTotalOrder name_cmp
name_cmp_total = then_total (on_total (λ p. p.0) nat_cmp_total) (on_total (λ p. p.1) nat_list_cmp_total)
