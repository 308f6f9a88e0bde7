-- Sets of sessions that grow.
use Rattle.std.proofs.Common.{arith, ◌≡◌, ℕ, Bool, true, false, List, [], ◌∷◌, ◌++◌, rules}
use Rattle.std.specs.Prelude.{if◌then◌else◌, map}
use Rattle.std.specs.BTreeSet.{BTreeSet}
use Rattle.std.proofs.lemmas.List.{map-append}
use Rattle.std.proofs.lemmas.List.Folds.{list_all-append}
use Rattle.std.proofs.lemmas.List.Sums.{AllPass-from_list_all, list_all-from_AllPass}
use Rattle.std.specs.BTreeSet.{contains}
use Rattle.log_rewriting.specs.Keeping.{HasSession, HasSessions, KeepsSessions, session_cmp}

-- what holds after an insertion, if it held before
pub kept-after_insert : (b x y : Bool) → y ≡ (if b then true else x) → x ≡ true → y ≡ true
kept-after_insert true x y e h = e
kept-after_insert false x y e h = search rules

-- a set that grows keeps its sessions
pub HasSessions-grows : (s t : BTreeSet (ℕ × ℕ)) (ks : List (ℕ × ℕ)) → KeepsSessions s t → HasSessions s ks → HasSessions t ks
HasSessions-grows s t ks g h =
    list_all-from_AllPass (contains session_cmp t) ks
    (λ i d lt. g _ (AllPass-from_list_all (contains session_cmp s) ks h i d lt))

-- a set that grows by one session has the earlier ones, and it
pub HasSessions-snoc : {Y : Type 0} (f : Y → ℕ × ℕ) (s t : BTreeSet (ℕ × ℕ)) (ys : List Y) (y : Y)
    → HasSessions s (map f ys) → KeepsSessions s t → HasSession t (f y) → HasSessions t (map f (ys ++ y ∷ []))
HasSessions-snoc f s t ys y h g e =
    grind (arith, map-append f ys (y ∷ []), list_all-append (contains session_cmp t) (map f ys) (f y ∷ []), HasSessions-grows s t (map f ys) g h, e)

-- the same of values that are behind references
pub HasSessions-snoc_behind : {Y Z : Type 0} (f : Y → ℕ × ℕ) (now : Z → Y) (s t : BTreeSet (ℕ × ℕ)) (zs : List Z) (z : Z)
    → HasSessions s (map f (map now zs)) → KeepsSessions s t → HasSession t (f (now z))
    → HasSessions t (map f (map now (zs ++ z ∷ [])))
HasSessions-snoc_behind f now s t zs z h g e =
    grind (arith, map-append now zs (z ∷ []), HasSessions-snoc f s t (map now zs) (now z) h g e)
