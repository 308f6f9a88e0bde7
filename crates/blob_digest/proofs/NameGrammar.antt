-- The state machine for names accepts exactly the grammar.
use Rattle.std.proofs.Common.{◌≡◌, ◌<◌, ◌++◌, ◌∷◌, ◌==◌, [], ◌∙◌, inl, inr, ℕ, List, true, false, ap, sym, refl, arith, length, codes, subst}
use Rattle.std.proofs.lemmas.Bool.{and_from, eqb-true, false_from_ne_true, leb-true, le-leb, and_parts, cases_Bool}
use Rattle.std.proofs.lemmas.Bool.Decides.{nat_tests}
use Rattle.std.proofs.lemmas.List.{length-append, append_assoc, append-nil}
use Rattle.std.specs.Prelude.{if◌then◌else◌}
use Rattle.std.specs.List.{list_all}
use Rattle.blob_digest.specs.Names.{IsComponent, IsPath, IsRepoName, IsNameRun, IsSeparator, component, is_alnum, is_dash, joined, run, slashed}
use Rattle.blob_digest.specs.NameMachine.{next_state, is_accepted_from, alnum_or_dead, is_repo_name}
use Rattle.blob_digest.specs.declared.name.State.{State}
use Rattle.blob_digest.specs.declared.name.State.TheVariants.{Start as at_start, InRun as in_run, Dot as at_dot, Underscore as at_low, Underscores as at_lows, Dash as at_dash, Dead as dead}

-- one byte
goes : (s t : State) (c : ℕ) (x : List ℕ) → next_state s c ≡ t → is_accepted_from s (c ∷ x) ≡ is_accepted_from t x
goes s t c x e = ap (λ (u : State). is_accepted_from u x) e

stays_in_run : (c : ℕ) → is_alnum c ≡ true → next_state in_run c ≡ in_run
stays_in_run c h = rw h refl

-- a run after its first letter
in_run_goes : (r x : List ℕ) → list_all is_alnum r ≡ true → is_accepted_from in_run (r ++ x) ≡ is_accepted_from in_run x
in_run_goes [] x h = refl
in_run_goes (c ∷ r) x h =
    let parts = and_parts (is_alnum c) (list_all is_alnum r) h in
    goes in_run in_run c (r ++ x) (stays_in_run c parts.0) ∙ in_run_goes r x parts.1

-- a state that a run may follow
abbrev pub MayRun : State → Type 0
MayRun s = (c : ℕ) → is_alnum c ≡ true → next_state s c ≡ in_run

run_goes : (s : State) → MayRun s → (r x : List ℕ) → IsNameRun r → is_accepted_from s (r ++ x) ≡ is_accepted_from in_run x
run_goes s may [] x h = absurd (omega (arith, h.0))
run_goes s may (c ∷ r) x h =
    let parts = and_parts (is_alnum c) (list_all is_alnum r) h.1 in
    goes s in_run c (r ++ x) (may c parts.0) ∙ in_run_goes r x parts.1

may_start : MayRun at_start
may_start c h = rw h refl

may_dot : MayRun at_dot
may_dot c h = rw h refl

not_low : (c : ℕ) → is_alnum c ≡ true → (c == 95) ≡ false
not_low c h = grind (arith, nat_tests)

not_dash : (c : ℕ) → is_alnum c ≡ true → (c == 45) ≡ false
not_dash c h = grind (arith, nat_tests)

may_low : MayRun at_low
may_low c h = rw (not_low c h, h) refl

may_lows : MayRun at_lows
may_lows c h = rw h refl

may_dash : MayRun at_dash
may_dash c h = rw (not_dash c h, h) refl

stays_at_dash : (c : ℕ) → is_dash c ≡ true → next_state at_dash c ≡ at_dash
stays_at_dash c h = rw h refl

dashes_go : (s x : List ℕ) → list_all is_dash s ≡ true → is_accepted_from at_dash (s ++ x) ≡ is_accepted_from at_dash x
dashes_go [] x h = refl
dashes_go (c ∷ s) x h =
    let parts = and_parts (is_dash c) (list_all is_dash s) h in
    goes at_dash at_dash c (s ++ x) (stays_at_dash c parts.0) ∙ dashes_go s x parts.1

dash_is : (c : ℕ) → is_dash c ≡ true → c ≡ 45
dash_is c h = eqb-true c 45 h

-- the state after a separator
pub after_separator : (s : List ℕ) → IsSeparator s → (t : State) × MayRun t × ((x : List ℕ) → is_accepted_from in_run (s ++ x) ≡ is_accepted_from t x)
after_separator s (inl dot) = (at_dot, may_dot, λ x. rw dot refl)
after_separator s (inr (inl low)) = (at_low, may_low, λ x. rw low refl)
after_separator s (inr (inr (inl lows))) = (at_lows, may_lows, λ x. rw lows refl)
after_separator [] (inr (inr (inr dashes))) = absurd (omega (arith, dashes.0))
after_separator (c ∷ s) (inr (inr (inr dashes))) =
    let parts = and_parts (is_dash c) (list_all is_dash s) dashes.1 in
    (at_dash, may_dash, λ x. rw (dash_is c parts.0) (dashes_go s x parts.1))

component_goes : (t : State) → MayRun t → (c : List ℕ) → IsComponent c → (x : List ℕ) → is_accepted_from t (c ++ x) ≡ is_accepted_from in_run x
component_goes t may c (run r h) x = run_goes t may r x h
component_goes t may c (joined r s d h sep rest) x =
    let next = after_separator s sep in
    ap (is_accepted_from t) (append_assoc r (s ++ d) x) ∙ run_goes t may r ((s ++ d) ++ x) h
    ∙ ap (is_accepted_from in_run) (append_assoc s d x) ∙ next.2 (d ++ x) ∙ component_goes next.0 next.1 d rest x

-- each name of the grammar is accepted
pub path_accepted : (p : List ℕ) → IsPath p → is_accepted_from at_start p ≡ true
path_accepted p (component c h) = ap (is_accepted_from at_start) (sym (append-nil c)) ∙ component_goes at_start may_start c h []
path_accepted p (slashed c q h rest) = component_goes at_start may_start c h (47 ∷ q) ∙ path_accepted q rest

-- ---- each text that is accepted has the grammar

run_one : (c : ℕ) → is_alnum c ≡ true → IsNameRun (c ∷ [])
run_one c h = (omega arith, rw h refl)

all_more : (r : List ℕ) (c : ℕ) → list_all is_alnum r ≡ true → is_alnum c ≡ true → list_all is_alnum (r ++ c ∷ []) ≡ true
all_more [] c h one = rw one refl
all_more (b ∷ r) c h one =
    let parts = and_parts (is_alnum b) (list_all is_alnum r) h in
    rw (parts.0, all_more r c parts.1 one) refl

run_more : (r : List ℕ) (c : ℕ) → IsNameRun r → is_alnum c ≡ true → IsNameRun (r ++ c ∷ [])
run_more r c h one = (omega (arith, length-append r (c ∷ [])), all_more r c h.1 one)

-- a run and a separator in front of a path
join : (r s p : List ℕ) → IsNameRun r → IsSeparator s → IsPath p → IsPath (r ++ (s ++ p))
join r s p h sep (component c d) = component (r ++ (s ++ c)) (joined r s c h sep d)
join r s p h sep (slashed c q d rest) =
    let whole : (r ++ (s ++ c)) ++ (47 ∷ q) ≡ r ++ (s ++ (c ++ (47 ∷ q))) = simp append_assoc in
    let P : List ℕ → Type 0 = IsPath in
    subst P whole (slashed (r ++ (s ++ c)) q (joined r s c h sep d) rest)

-- the form of the rest of an accepted text, for each state
abbrev pub Completes : State → List ℕ → Type 0
Completes at_start x = IsPath x
Completes in_run x = (r : List ℕ) → IsNameRun r → IsPath (r ++ x)
Completes at_dot x = (r : List ℕ) → IsNameRun r → IsPath (r ++ (codes "." ++ x))
Completes at_low x = (r : List ℕ) → IsNameRun r → IsPath (r ++ (codes "_" ++ x))
Completes at_lows x = (r : List ℕ) → IsNameRun r → IsPath (r ++ (codes "__" ++ x))
Completes at_dash x = (r s : List ℕ) → IsNameRun r → (0 < length s) × (list_all is_dash s ≡ true) → IsPath (r ++ (s ++ x))
Completes dead x = ⊥

dead_stays : (x : List ℕ) → is_accepted_from dead x ≡ true → ⊥
dead_stays [] h = cc h
dead_stays (c ∷ x) h = dead_stays x h

dashes_one : (c : ℕ) → is_dash c ≡ true → (0 < length (c ∷ [])) × (list_all is_dash (c ∷ []) ≡ true)
dashes_one c h = (omega arith, rw h refl)

all_dashes_more : (s : List ℕ) (c : ℕ) → list_all is_dash s ≡ true → is_dash c ≡ true → list_all is_dash (s ++ c ∷ []) ≡ true
all_dashes_more [] c h one = rw one refl
all_dashes_more (b ∷ s) c h one =
    let parts = and_parts (is_dash b) (list_all is_dash s) h in
    rw (parts.0, all_dashes_more s c parts.1 one) refl

dashes_more : (s : List ℕ) (c : ℕ) → (0 < length s) × (list_all is_dash s ≡ true) → is_dash c ≡ true → (0 < length (s ++ c ∷ [])) × (list_all is_dash (s ++ c ∷ []) ≡ true)
dashes_more s c h one = (omega (arith, length-append s (c ∷ [])), all_dashes_more s c h.1 one)

told : (s t : State) (c : ℕ) (x : List ℕ) → next_state s c ≡ t → is_accepted_from s (c ∷ x) ≡ true → is_accepted_from t x ≡ true
told s t c x e h = sym (goes s t c x e) ∙ h

-- a state that only a run may follow
alnum_next : (s : State) (c : ℕ) (x : List ℕ) → next_state s c ≡ alnum_or_dead c → is_accepted_from s (c ∷ x) ≡ true → (is_alnum c ≡ true) × (is_accepted_from in_run x ≡ true)
alnum_next s c x e h = elim (cases_Bool (is_alnum c)) [
  | inl letter ↦ (letter, told s in_run c x (e ∙ ap (λ b. if b then in_run else dead) letter) h)
  | inr other ↦ absurd (dead_stays x (told s dead c x (e ∙ ap (λ b. if b then in_run else dead) other) h))
]

low_other : (c : ℕ) → (c == 95) ≡ false → next_state at_low c ≡ alnum_or_dead c
low_other c h = rw h refl

low_same : (c : ℕ) → (c == 95) ≡ true → next_state at_low c ≡ at_lows
low_same c h = rw h refl

dash_other : (c : ℕ) → (c == 45) ≡ false → next_state at_dash c ≡ alnum_or_dead c
dash_other c h = rw h refl

to_dot : (c : ℕ) → is_alnum c ≡ false → (c == 46) ≡ true → next_state in_run c ≡ at_dot
to_dot c a b = rw (a, b) refl

to_low : (c : ℕ) → is_alnum c ≡ false → (c == 46) ≡ false → (c == 95) ≡ true → next_state in_run c ≡ at_low
to_low c a b d = rw (a, b, d) refl

to_dash : (c : ℕ) → is_alnum c ≡ false → (c == 46) ≡ false → (c == 95) ≡ false → (c == 45) ≡ true → next_state in_run c ≡ at_dash
to_dash c a b d e = rw (a, b, d, e) refl

to_start : (c : ℕ) → is_alnum c ≡ false → (c == 46) ≡ false → (c == 95) ≡ false → (c == 45) ≡ false → (c == 47) ≡ true → next_state in_run c ≡ at_start
to_start c a b d e f = rw (a, b, d, e, f) refl

to_dead : (c : ℕ) → is_alnum c ≡ false → (c == 46) ≡ false → (c == 95) ≡ false → (c == 45) ≡ false → (c == 47) ≡ false → next_state in_run c ≡ dead
to_dead c a b d e f = rw (a, b, d, e, f) refl

path_by : (a b : List ℕ) → a ≡ b → IsPath a → IsPath b
path_by a b e h = let P : List ℕ → Type 0 = IsPath in subst P e h

completes : (x : List ℕ) (s : State) → is_accepted_from s x ≡ true → Completes s x
completes [] at_start h = cc h
completes [] in_run h = λ r good. path_by r (r ++ []) (sym (append-nil r)) (component r (run r good))
completes [] at_dot h = cc h
completes [] at_low h = cc h
completes [] at_lows h = cc h
completes [] at_dash h = cc h
completes [] dead h = cc h
completes (c ∷ x) at_start h =
    let next = alnum_next at_start c x refl h in
    completes x in_run next.1 (c ∷ []) (run_one c next.0)
completes (c ∷ x) at_dot h =
    let next = alnum_next at_dot c x refl h in
    λ r good. join r (codes ".") (c ∷ x) good (inl refl) (completes x in_run next.1 (c ∷ []) (run_one c next.0))
completes (c ∷ x) at_lows h =
    let next = alnum_next at_lows c x refl h in
    λ r good. join r (codes "__") (c ∷ x) good (inr (inr (inl refl))) (completes x in_run next.1 (c ∷ []) (run_one c next.0))
completes (c ∷ x) at_low h = elim (cases_Bool (c == 95)) [
  | inl same ↦ λ r good. path_by (r ++ (codes "__" ++ x)) (r ++ (codes "_" ++ (c ∷ x))) (ap (λ b. r ++ (95 ∷ b ∷ x)) (sym (eqb-true c 95 same))) (completes x at_lows (told at_low at_lows c x (low_same c same) h) r good)
  | inr other ↦
      let next = alnum_next at_low c x (low_other c other) h in
      λ r good. join r (codes "_") (c ∷ x) good (inr (inl refl)) (completes x in_run next.1 (c ∷ []) (run_one c next.0))
]
completes (c ∷ x) at_dash h = elim (cases_Bool (c == 45)) [
  | inl same ↦ λ r s good dashes. path_by (r ++ ((s ++ c ∷ []) ++ x)) (r ++ (s ++ (c ∷ x))) (ap (λ y. r ++ y) (append_assoc s (c ∷ []) x))
      (completes x at_dash (told at_dash at_dash c x (stays_at_dash c same) h) r (s ++ c ∷ []) good (dashes_more s c dashes same))
  | inr other ↦
      let next = alnum_next at_dash c x (dash_other c other) h in
      λ r s good dashes. join r s (c ∷ x) good (inr (inr (inr dashes))) (completes x in_run next.1 (c ∷ []) (run_one c next.0))
]
completes (c ∷ x) in_run h = elim (cases_Bool (is_alnum c)) [
  | inl letter ↦ λ r good. path_by ((r ++ c ∷ []) ++ x) (r ++ (c ∷ x)) (append_assoc r (c ∷ []) x) (completes x in_run (told in_run in_run c x (stays_in_run c letter) h) (r ++ c ∷ []) (run_more r c good letter))
  | inr a ↦ elim (cases_Bool (c == 46)) [
    | inl dot ↦ λ r good. path_by (r ++ (codes "." ++ x)) (r ++ (c ∷ x)) (ap (λ b. r ++ (b ∷ x)) (sym (eqb-true c 46 dot))) (completes x at_dot (told in_run at_dot c x (to_dot c a dot) h) r good)
    | inr b ↦ elim (cases_Bool (c == 95)) [
      | inl low ↦ λ r good. path_by (r ++ (codes "_" ++ x)) (r ++ (c ∷ x)) (ap (λ b. r ++ (b ∷ x)) (sym (eqb-true c 95 low))) (completes x at_low (told in_run at_low c x (to_low c a b low) h) r good)
      | inr d ↦ elim (cases_Bool (c == 45)) [
        | inl dash ↦ λ r good. completes x at_dash (told in_run at_dash c x (to_dash c a b d dash) h) r (c ∷ []) good (dashes_one c dash)
        | inr e ↦ elim (cases_Bool (c == 47)) [
          | inl slash ↦ λ r good. path_by (r ++ (47 ∷ x)) (r ++ (c ∷ x)) (ap (λ b. r ++ (b ∷ x)) (sym (eqb-true c 47 slash))) (slashed r x (run r good) (completes x at_start (told in_run at_start c x (to_start c a b d e slash) h)))
          | inr f ↦ absurd (dead_stays x (told in_run dead c x (to_dead c a b d e f) h))
        ]
      ]
    ]
  ]
]
completes (c ∷ x) dead h = dead_stays x h

-- each text that is accepted has the grammar
pub accepted_path : (p : List ℕ) → is_accepted_from at_start p ≡ true → IsPath p
accepted_path p h = completes p at_start h

-- ---- the grammar of repositories' names, and its test

pub name_passes : (text : List ℕ) → IsRepoName text → is_repo_name text ≡ true
name_passes text h = and_from _ _ (path_accepted text h.0) (le-leb (length text) 255 h.1)

pub no_name_fails : (text : List ℕ) → ¬ IsRepoName text → is_repo_name text ≡ false
no_name_fails text none = false_from_ne_true (is_repo_name text) (λ h. let p = and_parts _ _ h in none (accepted_path text p.0, leb-true (length text) 255 p.1))
