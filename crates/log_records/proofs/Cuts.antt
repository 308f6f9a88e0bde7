-- Records that are cut off anywhere.
use Rattle.std.proofs.Common.{◌≡◌, ◌⊎◌, ◌<◌, ◌≤◌, ◌+◌, ◌-◌, ℕ, zero, suc, List, [], ◌∷◌, ◌++◌, ◌∙◌, ap, refl, sym, arith, inl, inr, length, length-drop, take, drop, append_assoc, append-nil}
use Rattle.std.proofs.lemmas.Bool.{cases_lt}
use Rattle.std.proofs.lemmas.List.{length-append, length-take, nil_from_length, take-append-drop, take-append-le}
use Rattle.std.proofs.lemmas.List.Concat.{flat_map-cons}
use Rattle.std.proofs.Math.Seq.{take-append-add}
use Rattle.std.specs.List.{AllByRecursion}
use Rattle.log_records.specs.Changes.{Change, IsChange}
use Rattle.log_records.specs.Decoding.{IsCutOff}
use Rattle.log_records.specs.Laws.{AreChangesIn, ChangesAreReadInOneWay, CutsKeepFirstChanges, KeepsFirstChanges, ListsAreReadBack}
use Rattle.log_records.specs.Records.{record_bytes, records_bytes}
use Rattle.log_records.proofs.Apart.{record_bytes-length, records_apart}
use Rattle.log_records.proofs.Nexts.{cut_off-no_record, nothing-no_record}

more_records : (c : Change) (cs : List Change) (rest : List ℕ) → records_bytes (c ∷ cs) ++ rest ≡ record_bytes c ++ (records_bytes cs ++ rest)
more_records c cs rest = ap (λ t. t ++ rest) (flat_map-cons record_bytes c cs) ∙ append_assoc (record_bytes c) (records_bytes cs) rest

-- ---- one way

pub one_way : ChangesAreReadInOneWay
one_way bytes [] [] rest left a b = (refl, sym a.whole ∙ b.whole)
one_way bytes [] (o ∷ os) rest left a b = absurd (a.longest o (records_bytes os ++ left) b.fit.0 (sym a.whole ∙ b.whole ∙ more_records o os left))
one_way bytes (c ∷ cs) [] rest left a b = absurd (b.longest c (records_bytes cs ++ rest) a.fit.0 (sym b.whole ∙ a.whole ∙ more_records c cs rest))
one_way bytes (c ∷ cs) (o ∷ os) rest left a b =
    let both = records_apart c o (records_bytes cs ++ rest) (records_bytes os ++ left) a.fit.0 b.fit.0 (sym (more_records c cs rest) ∙ sym a.whole ∙ b.whole ∙ more_records o os left) in
    let behind = one_way (records_bytes cs ++ rest) cs os rest left (record { fit = a.fit.1; whole = refl; longest = a.longest }) (record { fit = b.fit.1; whole = both.1; longest = b.longest }) in
    (rw (both.0, behind.0) refl, behind.1)

pub read_back : ListsAreReadBack
read_back changes fit = record { fit = fit; whole = sym (append-nil (records_bytes changes)); longest = nothing-no_record }

-- ---- cuts

-- the first bytes of a record: none, or less than the record
first_bytes : (c : Change) (n : ℕ) → IsChange c → n < length (record_bytes c) → (take n (record_bytes c) ≡ []) ⊎ IsCutOff (take n (record_bytes c))
first_bytes c zero is short = inl refl
first_bytes c (suc n) is short =
    let bytes : List ℕ = record_bytes c in
    inr (record {
      some = omega (arith, short, length-take (suc n) bytes);
      part = inr (record { change = c; missing = drop (suc n) bytes; fits = is; some_missing = omega (arith, short, length-drop (suc n) bytes); whole = take-append-drop (suc n) bytes });
    })

left_over : (bytes : List ℕ) → (bytes ≡ []) ⊎ IsCutOff bytes → (d : Change) (more : List ℕ) → IsChange d → bytes ≡ record_bytes d ++ more → ⊥
left_over bytes (inl none) d more is e = nothing-no_record d more is (sym none ∙ e)
left_over bytes (inr cut) d more is e = cut_off-no_record bytes cut d more is e

cut_none : (n : ℕ) → KeepsFirstChanges [] n
cut_none n = record {
  count = 0;
  rest = [];
  at_most = omega arith;
  read = record { fit = tt; whole = nil_from_length _ (omega (arith, length-take n (records_bytes []))); longest = nothing-no_record };
  complete = λ k le fits. le;
  left = inl refl;
}

too_many : (c : Change) (cs : List Change) (n : ℕ) → n < length (record_bytes c) → (k : ℕ) → k ≤ length (c ∷ cs) → length (records_bytes (take k (c ∷ cs))) ≤ n → k ≤ 0
too_many c cs n short zero le fits = omega arith
too_many c cs n short (suc k) le fits = omega (arith, short, fits, ap length (flat_map-cons record_bytes c (take k cs)), length-append (record_bytes c) (records_bytes (take k cs)))

-- the first record is cut off
cut_first : (c : Change) (cs : List Change) (n : ℕ) → IsChange c → n < length (record_bytes c) → KeepsFirstChanges (c ∷ cs) n
cut_first c cs n is short =
    let left = first_bytes c n is short in
    let taken : take n (records_bytes (c ∷ cs)) ≡ take n (record_bytes c) = ap (take n) (flat_map-cons record_bytes c cs) ∙ take-append-le n (record_bytes c) (records_bytes cs) (omega (arith, short)) in
    record {
      count = 0;
      rest = take n (record_bytes c);
      at_most = omega arith;
      read = record { fit = tt; whole = taken; longest = left_over (take n (record_bytes c)) left };
      complete = too_many c cs n short;
      left = left;
    }

one_more : (c : Change) (cs : List Change) (n count : ℕ) → ((k : ℕ) → k ≤ length cs → length (records_bytes (take k cs)) ≤ n - length (record_bytes c) → k ≤ count) → (k : ℕ) → k ≤ length (c ∷ cs) → length (records_bytes (take k (c ∷ cs))) ≤ n → k ≤ suc count
one_more c cs n count all zero le fits = omega arith
one_more c cs n count all (suc k) le fits =
    let behind = all k (omega (arith, le)) (omega (arith, fits, ap length (flat_map-cons record_bytes c (take k cs)), length-append (record_bytes c) (records_bytes (take k cs)))) in
    omega (arith, behind)

-- the first record is complete
cut_later : (c : Change) (cs : List Change) (n : ℕ) → IsChange c → length (record_bytes c) ≤ n → KeepsFirstChanges cs (n - length (record_bytes c)) → KeepsFirstChanges (c ∷ cs) n
cut_later c cs n is long behind =
    let first : List ℕ = record_bytes c in
    let place : n ≡ length first + (n - length first) = omega (arith, long) in
    let taken : take n (records_bytes (c ∷ cs)) ≡ first ++ take (n - length first) (records_bytes cs) =
    ap (take n) (flat_map-cons record_bytes c cs) ∙ ap (λ k. take k (first ++ records_bytes cs)) place ∙ take-append-add first (records_bytes cs) (n - length first) in
    record {
      count = suc behind.count;
      rest = behind.rest;
      at_most = omega (arith, behind.at_most);
      read = record { fit = (is, behind.read.fit); whole = taken ∙ ap (λ t. first ++ t) behind.read.whole ∙ sym (more_records c (take behind.count cs) behind.rest); longest = behind.read.longest };
      complete = one_more c cs n behind.count behind.complete;
      left = behind.left;
    }

pub cuts : CutsKeepFirstChanges
cuts [] n fit = cut_none n
cuts (c ∷ cs) n fit =
    elim (cases_lt n (length (record_bytes c))) [
      | inl short ↦ cut_first c cs n fit.0 short
      | inr long ↦ cut_later c cs n fit.0 long (cuts cs (n - length (record_bytes c)) fit.1)
    ]
