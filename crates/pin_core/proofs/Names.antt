-- Pins by their names.
use Rattle.std.proofs.Common.{◌≡◌, ◌≢◌, ℕ, List, [], ◌∷◌, ◌++◌, map, Bool, true, false, cond, not, Option, Some, None, refl, sym, ap, ◌∙◌, subst, eq-eqb, ne_eqb, take, drop, length, get_or, ◌<◌, zero, suc, arith}
use Rattle.std.specs.Prelude.{◌==◌, ◌||◌}
use Rattle.std.proofs.lemmas.List.{map-append}
use Rattle.std.specs.List.{All, filter, list_any}
use Rattle.std.proofs.lemmas.List.Elements.{All-nil, All-cons, All-head, All-tail}
use mathlib.Core.Logic.{dite}
use native.Mathlib.Decide.{ℕ_discrete}
use Rattle.pin_core.specs.declared.world.PinRecord.{PinRecord}
use Rattle.pin_core.specs.declared.world.PinEntry.{PinEntry}
use Rattle.pin_core.specs.World.{hold_named, HasDistinctNames}
use Rattle.pin_core.specs.Events.{half, half_if_named, second, named_entry}

abbrev pub hold_in : PinEntry → PinRecord
hold_in e = e.hold

-- a named pin has what all have
pub all_named : (P : PinRecord → Type 0) (es : List PinEntry) (n : ℕ) (h : PinRecord) → hold_named n es ≡ Some h → All P (map hold_in es) → P h
all_named P [] n h e a = absurd (cc)
all_named P (x ∷ es) n h e a = by_name (x.name == n) e (λ f. all_named P es n h f (All-tail P x.hold (map hold_in es) a))
  where
    by_name : (b : Bool) → cond b (Some x.hold) (hold_named n es) ≡ Some h → (hold_named n es ≡ Some h → P h) → P h
    by_name true e rest = let same : x.hold ≡ h = cc in subst P same (All-head P x.hold (map hold_in es) a)
    by_name false e rest = rest e

pub all_map : (P : PinRecord → Type 0) (f : PinEntry → PinEntry) → ((e : PinEntry) → P e.hold → P (f e).hold) → (es : List PinEntry) → All P (map hold_in es) → All P (map hold_in (map f es))
all_map P f law [] a = All-nil P
all_map P f law (x ∷ es) a = All-cons P (f x).hold (map hold_in (map f es)) (law x (All-head P x.hold (map hold_in es) a)) (all_map P f law es (All-tail P x.hold (map hold_in es) a))

pub all_filter : (P : PinRecord → Type 0) (p : PinEntry → Bool) → (es : List PinEntry) → All P (map hold_in es) → All P (map hold_in (filter p es))
all_filter P p [] a = All-nil P
all_filter P p (x ∷ es) a = by_test (p x) (all_filter P p es (All-tail P x.hold (map hold_in es) a))
  where
    by_test : (b : Bool) → All P (map hold_in (filter p es)) → All P (map hold_in (cond b (x ∷ filter p es) (filter p es)))
    by_test true rest = All-cons P x.hold (map hold_in (filter p es)) (All-head P x.hold (map hold_in es) a) rest
    by_test false rest = rest

pub all_push : (P : PinRecord → Type 0) (es : List PinEntry) (fs : List PinEntry) → All P (map hold_in es) → All P (map hold_in fs) → All P (map hold_in (es ++ fs))
all_push P [] fs a b = b
all_push P (x ∷ es) fs a b = All-cons P x.hold (map hold_in (es ++ fs)) (All-head P x.hold (map hold_in es) a) (all_push P es fs (All-tail P x.hold (map hold_in es) a) b)

-- the pin n is on the slot k
pub record IsOn (es : List PinEntry) (n k : ℕ) : Type 0 where
  pub hold : PinRecord
  pub there : hold_named n es ≡ Some hold
  pub slot : hold.slot ≡ k

found_push : (es fs : List PinEntry) (n : ℕ) (h : PinRecord) → hold_named n es ≡ Some h → hold_named n (es ++ fs) ≡ Some h
found_push [] fs n h e = absurd (cc)
found_push (x ∷ es) fs n h e = by_name (x.name == n) e (found_push es fs n h)
  where
    by_name : (b : Bool) → cond b (Some x.hold) (hold_named n es) ≡ Some h → (hold_named n es ≡ Some h → hold_named n (es ++ fs) ≡ Some h) → cond b (Some x.hold) (hold_named n (es ++ fs)) ≡ Some h
    by_name true e rest = e
    by_name false e rest = rest e

pub on_push : (es fs : List PinEntry) (n k : ℕ) → IsOn es n k → IsOn (es ++ fs) n k
on_push es fs n k on = record { hold = on.hold; there = found_push es fs n on.hold on.there; slot = on.slot }

-- a new name at the end
pub named_last : (es : List PinEntry) (n : ℕ) (h : PinRecord) → hold_named n es ≡ None → hold_named n (es ++ named_entry n h ∷ []) ≡ Some h
named_last [] n h e = ap (λ b. cond b (Some h) None) (eq-eqb n n refl)
named_last (x ∷ es) n h e = by_name (x.name == n) e (named_last es n h)
  where
    by_name : (b : Bool) → cond b (Some x.hold) (hold_named n es) ≡ None → (hold_named n es ≡ None → hold_named n (es ++ named_entry n h ∷ []) ≡ Some h) → cond b (Some x.hold) (hold_named n (es ++ named_entry n h ∷ [])) ≡ Some h
    by_name true e rest = absurd (cc)
    by_name false e rest = rest e

pub halved_hold : (m : ℕ) (e : PinEntry) → (half_if_named m e).name ≡ e.name
halved_hold m e = by_name (e.name == m)
  where
    by_name : (b : Bool) → (cond b (named_entry e.name (half e.hold)) e).name ≡ e.name
    by_name true = refl
    by_name false = refl

pub halved_slot : (m : ℕ) (e : PinEntry) → (half_if_named m e).hold.slot ≡ e.hold.slot
halved_slot m e = by_name (e.name == m)
  where
    by_name : (b : Bool) → (cond b (named_entry e.name (half e.hold)) e).hold.slot ≡ e.hold.slot
    by_name true = refl
    by_name false = refl

pub on_halved : (m : ℕ) (es : List PinEntry) (n k : ℕ) → IsOn es n k → IsOn (map (half_if_named m) es) n k
on_halved m [] n k on = let t = on.there in absurd (cc)
on_halved m (x ∷ es) n k on = by_name (x.name == n) refl on.there (λ t. on_halved m es n k (record { hold = on.hold; there = t; slot = on.slot }))
  where
    by_name : (b : Bool) → (x.name == n) ≡ b → cond b (Some x.hold) (hold_named n es) ≡ Some on.hold → (hold_named n es ≡ Some on.hold → IsOn (map (half_if_named m) es) n k) → IsOn (half_if_named m x ∷ map (half_if_named m) es) n k
    by_name true is e rest = let same : x.hold ≡ on.hold = cc in
        record { hold = (half_if_named m x).hold; there = ap (λ i. cond (i == n) (Some (half_if_named m x).hold) (hold_named n (map (half_if_named m) es))) (halved_hold m x) ∙ ap (λ b. cond b (Some (half_if_named m x).hold) (hold_named n (map (half_if_named m) es))) is; slot = halved_slot m x ∙ ap (λ (h : PinRecord). h.slot) same ∙ on.slot }
    by_name false is e rest = let r = rest e in
        record { hold = r.hold; there = ap (λ i. cond (i == n) (Some (half_if_named m x).hold) (hold_named n (map (half_if_named m) es))) (halved_hold m x) ∙ ap (λ b. cond b (Some (half_if_named m x).hold) (hold_named n (map (half_if_named m) es))) is ∙ r.there; slot = r.slot }

pub on_filter : (m : ℕ) (es : List PinEntry) (n k : ℕ) → n ≢ m → IsOn es n k → IsOn (filter (λ e. not (e.name == m)) es) n k
on_filter m [] n k ne on = let t = on.there in absurd (cc)
on_filter m (x ∷ es) n k ne on = dite (ℕ_discrete x.name m)
    (λ (e : x.name ≡ m).
    let gone : (x.name == m) ≡ true = eq-eqb x.name m e in
    let other : (x.name == n) ≡ false = ne_eqb x.name n (λ f. ne (sym f ∙ e)) in
    let there : hold_named n es ≡ Some on.hold = sym (ap (λ b. cond b (Some x.hold) (hold_named n es)) other) ∙ on.there in
    subst (λ b. IsOn (cond (not b) (x ∷ filter (λ e. not (e.name == m)) es) (filter (λ e. not (e.name == m)) es)) n k) (sym gone) (on_filter m es n k ne (record { hold = on.hold; there = there; slot = on.slot })))
    (λ (apart : x.name ≢ m).
    let stays : (x.name == m) ≡ false = ne_eqb x.name m apart in
    subst (λ b. IsOn (cond (not b) (x ∷ filter (λ e. not (e.name == m)) es) (filter (λ e. not (e.name == m)) es)) n k) (sym stays) (by_name (x.name == n) refl on.there (λ t. on_filter m es n k ne (record { hold = on.hold; there = t; slot = on.slot }))))
  where
    by_name : (b : Bool) → (x.name == n) ≡ b → cond b (Some x.hold) (hold_named n es) ≡ Some on.hold → (hold_named n es ≡ Some on.hold → IsOn (filter (λ e. not (e.name == m)) es) n k) → IsOn (x ∷ filter (λ e. not (e.name == m)) es) n k
    by_name true is e rest = record { hold = x.hold; there = ap (λ b. cond b (Some x.hold) (hold_named n (filter (λ e. not (e.name == m)) es))) is; slot = (let same : x.hold ≡ on.hold = cc in ap (λ (h : PinRecord). h.slot) same) ∙ on.slot }
    by_name false is e rest = let r = rest e in record { hold = r.hold; there = ap (λ b. cond b (Some x.hold) (hold_named n (filter (λ e. not (e.name == m)) es))) is ∙ r.there; slot = r.slot }

pub none_halved : (m : ℕ) (es : List PinEntry) (n : ℕ) → hold_named n es ≡ None → hold_named n (map (half_if_named m) es) ≡ None
none_halved m [] n e = refl
none_halved m (x ∷ es) n e = by_name (x.name == n) refl e (none_halved m es n)
  where
    by_name : (b : Bool) → (x.name == n) ≡ b → cond b (Some x.hold) (hold_named n es) ≡ None → (hold_named n es ≡ None → hold_named n (map (half_if_named m) es) ≡ None) → hold_named n (half_if_named m x ∷ map (half_if_named m) es) ≡ None
    by_name true is e rest = absurd (cc)
    by_name false is e rest = ap (λ i. cond (i == n) (Some (half_if_named m x).hold) (hold_named n (map (half_if_named m) es))) (halved_hold m x) ∙ ap (λ b. cond b (Some (half_if_named m x).hold) (hold_named n (map (half_if_named m) es))) is ∙ rest e

-- ---- names of their own

-- a name that is absent from a list is absent from the rest of it
pub none_push : (es : List PinEntry) (a n : ℕ) (h : PinRecord) → hold_named a es ≡ None → n ≢ a → hold_named a (es ++ named_entry n h ∷ []) ≡ None
none_push [] a n h e ne = ap (λ b. cond b (Some h) None) (ne_eqb n a ne)
none_push (x ∷ es) a n h e ne = by_name (x.name == a) e (λ f. none_push es a n h f ne)
  where
    by_name : (b : Bool) → cond b (Some x.hold) (hold_named a es) ≡ None → (hold_named a es ≡ None → hold_named a (es ++ named_entry n h ∷ []) ≡ None) → cond b (Some x.hold) (hold_named a (es ++ named_entry n h ∷ [])) ≡ None
    by_name true e rest = absurd (cc)
    by_name false e rest = rest e

-- a name that is absent from a list is neither the first one nor in the rest
pub none_cons : (x : PinEntry) (es : List PinEntry) (n : ℕ) → hold_named n (x ∷ es) ≡ None → (x.name ≢ n) × (hold_named n es ≡ None)
none_cons x es n e = by_name (x.name == n) refl e
  where
    by_name : (b : Bool) → (x.name == n) ≡ b → cond b (Some x.hold) (hold_named n es) ≡ None → (x.name ≢ n) × (hold_named n es ≡ None)
    by_name true is e = absurd (cc)
    by_name false is e = (λ same. let t = eq-eqb x.name n same in absurd cc, e)

-- a pin of a new name
pub named_push : (es : List PinEntry) (n : ℕ) (h : PinRecord) → HasDistinctNames es → hold_named n es ≡ None → HasDistinctNames (es ++ named_entry n h ∷ [])
named_push [] n h all none = (refl, tt)
named_push (x ∷ es) n h all none =
    let c = none_cons x es n none in
    (none_push es x.name n h all.0 (λ e. c.0 (sym e)), named_push es n h all.1 c.1)

-- a pin that isn't there isn't among some of them
none_filter : (p : PinEntry → Bool) (es : List PinEntry) (n : ℕ) → hold_named n es ≡ None → hold_named n (filter p es) ≡ None
none_filter p [] n e = refl
none_filter p (x ∷ es) n e =
    let c = none_cons x es n e in
    by_test (p x) (none_filter p es n c.1) (ne_eqb x.name n c.0)
  where
    by_test : (b : Bool) → hold_named n (filter p es) ≡ None → (x.name == n) ≡ false → hold_named n (cond b (x ∷ filter p es) (filter p es)) ≡ None
    by_test true rest other = ap (λ b. cond b (Some x.hold) (hold_named n (filter p es))) other ∙ rest
    by_test false rest other = rest

-- some of the pins
pub named_filter : (p : PinEntry → Bool) (es : List PinEntry) → HasDistinctNames es → HasDistinctNames (filter p es)
named_filter p [] all = tt
named_filter p (x ∷ es) all = by_test (p x) (none_filter p es x.name all.0) (named_filter p es all.1)
  where
    by_test : (b : Bool) → hold_named x.name (filter p es) ≡ None → HasDistinctNames (filter p es) → HasDistinctNames (cond b (x ∷ filter p es) (filter p es))
    by_test true none rest = (none, rest)
    by_test false none rest = rest

named_halved : (m : ℕ) (es : List PinEntry) → HasDistinctNames es → HasDistinctNames (map (half_if_named m) es)
named_halved m [] all = tt
named_halved m (x ∷ es) all = (ap (λ n. hold_named n (map (half_if_named m) es)) (halved_hold m x) ∙ none_halved m es x.name all.0, named_halved m es all.1)

append_nil : (es : List PinEntry) → es ++ [] ≡ es
append_nil [] = refl
append_nil (x ∷ es) = ap (λ l. x ∷ l) (append_nil es)

-- a shared pin under a new name
pub named_shared : (es : List PinEntry) (n m : ℕ) → HasDistinctNames es → hold_named m es ≡ None → HasDistinctNames (map (half_if_named n) es ++ second m (hold_named n es))
named_shared es n m all none = by_hold (hold_named n es)
  where
    by_hold : (o : Option PinRecord) → HasDistinctNames (map (half_if_named n) es ++ second m o)
    by_hold None = subst (λ l. HasDistinctNames l) (sym (append_nil (map (half_if_named n) es))) (named_halved n es all)
    by_hold (Some h) = named_push (map (half_if_named n) es) m (half h) (named_halved n es all) (none_halved n es m none)

-- no pin is on the slot, names apart
pub clear_holds : (k : ℕ) (es : List PinEntry) → All (λ e. e.hold.slot ≢ k) es → All (λ h. h.slot ≢ k) (map hold_in es)
clear_holds k [] a = All-nil (λ h. h.slot ≢ k)
clear_holds k (x ∷ es) a = All-cons (λ h. h.slot ≢ k) x.hold (map hold_in es) (All-head (λ e. e.hold.slot ≢ k) x es a) (clear_holds k es (All-tail (λ e. e.hold.slot ≢ k) x es a))

-- ---- a pin goes

-- a pin that isn't there is none of them
pub none_any : (es : List PinEntry) (n : ℕ) → hold_named n es ≡ None → list_any (λ e. e.name == n) es ≡ false
none_any [] n e = refl
none_any (x ∷ es) n e = let c = none_cons x es n e in ap (λ b. b || list_any (λ y. y.name == n) es) (ne_eqb x.name n c.0) ∙ none_any es n c.1

-- if no pin has the name, removing that name leaves all pins
pub others_all : (es : List PinEntry) (n : ℕ) → list_any (λ e. e.name == n) es ≡ false → filter (λ e. not (e.name == n)) es ≡ es
others_all [] n e = refl
others_all (x ∷ es) n e = by_name (x.name == n) e (others_all es n)
  where
    by_name : (b : Bool) → (b || list_any (λ y. y.name == n) es) ≡ false → (list_any (λ y. y.name == n) es ≡ false → filter (λ y. not (y.name == n)) es ≡ es)
        → cond (not b) (x ∷ filter (λ y. not (y.name == n)) es) (filter (λ y. not (y.name == n)) es) ≡ x ∷ es
    by_name true e rest = absurd cc
    by_name false e rest = ap (λ l. x ∷ l) (rest e)

-- a list with the name at some place has a pin of that name
there_named : (es : List PinEntry) (i : ℕ) (x : PinEntry) → i < length es → x ≡ get_or es i x → hold_named x.name es ≡ None → ⊥
there_named [] i x lt is none = absurd (omega arith)
there_named (y ∷ es) zero x lt is none = let c = none_cons y es x.name none in c.0 (ap (λ (e : PinEntry). e.name) (sym is))
there_named (y ∷ es) (suc i) x lt is none = let c = none_cons y es x.name none in there_named es i x (omega arith) is c.1

-- the other pins, if the pin with the name is at a given place
pub removed : (es : List PinEntry) (i n : ℕ) (x : PinEntry) → i < length es → x ≡ get_or es i x → x.name ≡ n → HasDistinctNames es → take i es ++ drop (suc i) es ≡ filter (λ e. not (e.name == n)) es
removed [] i n x lt is name all = absurd (omega arith)
removed (y ∷ es) zero n x lt is name all =
    let same : y.name ≡ n = ap (λ (e : PinEntry). e.name) (sym is) ∙ name in
    let gone : hold_named n es ≡ None = ap (λ m. hold_named m es) (sym same) ∙ all.0 in
    sym (ap (λ b. cond (not b) (y ∷ filter (λ e. not (e.name == n)) es) (filter (λ e. not (e.name == n)) es)) (eq-eqb y.name n same) ∙ others_all es n (none_any es n gone))
removed (y ∷ es) (suc i) n x lt is name all =
    let other : y.name ≢ n = λ same. there_named es i x (omega arith) is (ap (λ m. hold_named m es) (name ∙ sym same) ∙ all.0) in
    ap (λ l. y ∷ l) (removed es i n x (omega arith) is name all.1)
    ∙ sym (ap (λ b. cond (not b) (y ∷ filter (λ e. not (e.name == n)) es) (filter (λ e. not (e.name == n)) es)) (ne_eqb y.name n other))

-- the other half isn't halved again
pub second_kept : (es : List PinEntry) (n m : ℕ) (h g : PinRecord) → hold_named n es ≡ Some h → hold_named m es ≡ None → map (half_if_named n) (es ++ named_entry m g ∷ []) ≡ map (half_if_named n) es ++ named_entry m g ∷ []
second_kept es n m h g there none =
    let other : m ≢ n = λ same. let e = ap (λ i. hold_named i es) same in absurd cc in
    map-append (half_if_named n) es (named_entry m g ∷ []) ∙ ap (λ e. map (half_if_named n) es ++ e ∷ []) (ap (λ b. cond b (named_entry m (half g)) (named_entry m g)) (ne_eqb m n other))
