-- Lists of segments as bytes.
use Rattle.std.proofs.Common.{◌≡◌, ℕ, zero, suc, ◌<◌, List, [], ◌∷◌, ◌++◌, length, get_or, take, drop, flat_map, refl, sym, ap, ◌∙◌, append_assoc, arith}
use Rattle.std.proofs.lemmas.List.{append-nil, append_cancel_left}
use Rattle.std.specs.Prelude.{Bool, Decides}
use Rattle.log_disk.specs.Torn.{IsTorn}
use Rattle.durable_log.specs.Views.{BeginsNot}

module _ {X A : Type 0} (f : X → List A) where
  -- the bytes in front of a segment, its own, and those after it
  pub flat_split : (xs : List X) (i : ℕ) (d : X) → i < length xs → flat_map f (take i xs) ++ (f (get_or xs i d) ++ flat_map f (drop (suc i) xs)) ≡ flat_map f xs
  flat_split [] i d lt = absurd (omega arith)
  flat_split (x ∷ xs) zero d lt = refl
  flat_split (x ∷ xs) (suc i) d lt = append_assoc (f x) (flat_map f (take i xs)) (f (get_or xs i d) ++ flat_map f (drop (suc i) xs)) ∙ ap (λ w. f x ++ w) (flat_split xs i d (omega arith))

-- a write that fails after some segments
pub torn_after : {X : Type 0} (f : X → List ℕ) (xs : List X) (i : ℕ) (d : X) (old mid new : List ℕ) → i < length xs → mid ≡ old ++ flat_map f (take i xs) → IsTorn mid (f (get_or xs i d)) new
    → IsTorn old (flat_map f xs) new
torn_after f xs i d old mid new lt at t =
    let front = flat_map f (take i xs) in
    let rest = flat_map f (drop (suc i) xs) in record {
      part = front ++ t.part;
      of = (t.of.0 ++ rest, append_assoc front t.part (t.of.0 ++ rest) ∙ (ap (λ w. front ++ w) (sym (append_assoc t.part t.of.0 rest) ∙ ap (λ w. w ++ rest) t.of.1) ∙ flat_split f xs i d lt));
      ends = t.ends ∙ (ap (λ w. w ++ t.part) at ∙ append_assoc old front t.part);
    }

-- a write that fails at the first of two parts, or at the second
pub torn_first : (old bytes more new : List ℕ) → IsTorn old bytes new → IsTorn old (bytes ++ more) new
torn_first old bytes more new t = record { part = t.part; of = (t.of.0 ++ more, sym (append_assoc t.part t.of.0 more) ∙ ap (λ w. w ++ more) t.of.1); ends = t.ends }

pub torn_second : (old mid bytes more new : List ℕ) → mid ≡ old ++ bytes → IsTorn mid more new → IsTorn old (bytes ++ more) new
torn_second old mid bytes more new at t = record {
  part = bytes ++ t.part;
  of = (t.of.0, append_assoc bytes t.part t.of.0 ∙ ap (λ w. bytes ++ w) t.of.1);
  ends = t.ends ∙ (ap (λ w. w ++ t.part) at ∙ append_assoc old bytes t.part);
}

-- ---- segments and bytes

-- the last segment decides if the others are at the front
pub last_decides : (front rest last bytes whole : List ℕ) (r : Bool) → whole ≡ front ++ last → bytes ≡ front ++ rest → Decides r (rest ≡ last) → Decides r (whole ≡ bytes)
last_decides front rest last bytes whole r w b d = (
  λ yes. w ∙ (ap (λ k. front ++ k) (sym (d.0 yes)) ∙ sym b),
  λ same. d.1 (append_cancel_left front rest last (sym b ∙ (sym same ∙ w))),
)

module _ {X : Type 0} (f : X → List ℕ) where
  -- one segment more is at the front
  pub front_longer : (xs : List X) (i : ℕ) (d : X) (bytes rest after : List ℕ) → i < length xs → bytes ≡ flat_map f (take i xs) ++ rest → rest ≡ f (get_or xs i d) ++ after
      → bytes ≡ flat_map f (take (suc i) xs) ++ after
  front_longer [] i d bytes rest after lt at more = absurd (omega arith)
  front_longer (x ∷ xs) zero d bytes rest after lt at more = at ∙ (more ∙ ap (λ w. w ++ after) (sym (append-nil (f x))))
  front_longer (x ∷ xs) (suc i) d bytes rest after lt at more =
      at ∙ (append_assoc (f x) (flat_map f (take i xs)) rest
      ∙ (ap (λ w. f x ++ w) (front_longer xs i d (flat_map f (take i xs) ++ rest) rest after (omega arith) refl more) ∙ sym (append_assoc (f x) (flat_map f (take (suc i) xs)) after)))

  -- a segment is not next, so the bytes do not begin with all of them
  pub begins_not : (xs : List X) (i : ℕ) (d : X) (bytes rest : List ℕ) → i < length xs → bytes ≡ flat_map f (take i xs) ++ rest → BeginsNot rest (f (get_or xs i d)) → BeginsNot bytes (flat_map f xs)
  begins_not xs i d bytes rest lt at not = λ after. λ whole.
      let front = flat_map f (take i xs) in
      let later = flat_map f (drop (suc i) xs) in
      let next = f (get_or xs i d) in
      let split : flat_map f xs ++ after ≡ front ++ (next ++ (later ++ after)) =
      ap (λ w. w ++ after) (sym (flat_split f xs i d lt)) ∙ (append_assoc front (next ++ later) after ∙ ap (λ w. front ++ w) (append_assoc next later after)) in
      not (later ++ after) (append_cancel_left front rest (next ++ (later ++ after)) (sym at ∙ (whole ∙ split)))
