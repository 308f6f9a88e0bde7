-- Facts that hold if one more command can be counted.
use Rattle.std.proofs.Common.{◌≡◌, ℕ, ◌+◌, ◌^◌, ◌<◌, Bool, true, false, not, Result, Ok, refl, subst, sym}
use Rattle.std.specs.Prelude.{nat_lt}
use Rattle.std.proofs.lemmas.Bool.{and_parts, ltb-true}
use Rattle.blob_digest.specs.declared.refusal.Refusal.{Refusal}
use Rattle.blob_digest.specs.declared.refusal.Refusal.TheVariants.{LimitReached}
use Rattle.spec_lib.specs.Outcomes.{refuse}
use Rattle.store_model.specs.Hands.{checked_out_count, reserved_bytes}
use Rattle.locked_book.specs.Counting.{StoreContent, has_room}
use Rattle.store_model.specs.Amounts.{Amounts, add_amounts}
use Rattle.locked_book.specs.Totals.{Counts}

passed : (b : Bool) (e : Refusal) (u : Unit {0}) → ◌≡◌ {A = Result (Unit {0}) Refusal} (Ok u) (refuse (not b) e) → b ≡ true
passed true e u h = refl
passed false e u h = absurd cc

pub room_given : (k seen : StoreContent) (n : ℕ) (u : Unit {0}) → k ≡ seen → ◌≡◌ {A = Result (Unit {0}) Refusal} (Ok u) (refuse (not (has_room seen n)) LimitReached) →
    (k.counts.totals.commands + checked_out_count k.book.catalog + 1 < 2 ^ 64) × (k.counts.totals.received + reserved_bytes k.book.catalog + n < 2 ^ 64)
room_given k seen n u same h =
    let both = and_parts (nat_lt (k.counts.totals.commands + checked_out_count k.book.catalog + 1) (2 ^ 64)) (nat_lt (k.counts.totals.received + reserved_bytes k.book.catalog + n) (2 ^ 64))
    (passed (has_room k n) LimitReached u (subst (λ (x : StoreContent). ◌≡◌ {A = Result (Unit {0}) Refusal} (Ok u) (refuse (not (has_room x n)) LimitReached)) (sym same) h)) in
    (ltb-true _ _ both.0, ltb-true _ _ both.1)

-- the totals after a command of these amounts
pub record Added (k k' : Counts) (a : Amounts) : Type 0 where
  pub commands : k'.totals.commands ≡ k.totals.commands + a.commands
  pub received : k'.totals.received ≡ k.totals.received + a.received
  pub closed : k'.totals.closed ≡ k.totals.closed + a.closed
  pub abandoned : k'.totals.abandoned ≡ k.totals.abandoned + a.abandoned

pub added : (k k' : Counts) (a : Amounts) → k' ≡ record k { totals = add_amounts k.totals a } → Added k k' a
added k k' a is = record {
  commands = λ i. (is i).totals.commands;
  received = λ i. (is i).totals.received;
  closed = λ i. (is i).totals.closed;
  abandoned = λ i. (is i).totals.abandoned;
}
