-- Pairs of places that are no range.
use Rattle.std.proofs.Common.{◌≡◌, ◌^◌, ◌<◌, ◌≤◌, ℕ, Bool, true, false, Some, Err, refl}
use Rattle.std.specs.Prelude.{nat_le, nat_lt}
use Rattle.std.proofs.lemmas.Bool.{leb-true, ltb-true}
use Rattle.blob_digest.specs.declared.refusal.Refusal.TheVariants.{SizeInvalid}
use Rattle.store_api.specs.Commands.{range_of_tests, range_of_ends}

-- a start past its end, or an end above the limit, is no range
pub range_of_ends-err : (s e : ℕ) → (s ≤ e → e < 2 ^ 63 → ⊥) → range_of_ends (Some (s, e)) ≡ Err SizeInvalid
range_of_ends-err s e apart = go (nat_le s e) (nat_lt e (2 ^ 63)) refl refl
  where
    go : (o t : Bool) (p : nat_le s e ≡ o) (q : nat_lt e (2 ^ 63) ≡ t) → range_of_tests s e o t p q ≡ Err SizeInvalid
    go true true p q = absurd (apart (leb-true s e p) (ltb-true e (2 ^ 63) q))
    go true false p q = refl
    go false t p q = refl
