-- What is left of bytes that are written by several calls.
use Rattle.std.proofs.Common.{◌≡◌, ℕ, List, [], ◌++◌, ◌∙◌, ap, refl, sym, append_assoc, append-nil}
use mathlib.Core.List.{IsPrefix}
use Rattle.log_disk.specs.Torn.{IsTorn}

pub torn_first : (old a b new : List ℕ) → IsTorn old a new → IsTorn old (a ++ b) new
torn_first old a b new t = record { part = t.part; of = (t.of.0 ++ b, sym (append_assoc t.part t.of.0 b) ∙ ap (λ w. w ++ b) t.of.1); ends = t.ends }

pub torn_second : (old a b mid new : List ℕ) → mid ≡ old ++ a → IsTorn mid b new → IsTorn old (a ++ b) new
torn_second old a b mid new first t = record {
  part = a ++ t.part;
  of = (t.of.0, append_assoc a t.part t.of.0 ∙ ap (λ w. a ++ w) t.of.1);
  ends = t.ends ∙ ap (λ w. w ++ t.part) first ∙ append_assoc old a t.part;
}
