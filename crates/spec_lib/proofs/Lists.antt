-- Lists: properties of all elements, tests that some element passes, and maps with filters and removals.
use Rattle.std.proofs.Common.{◌≡◌, ℕ, ◌+◌, ◌<◌, Bool, true, false, cond, List, [], ◌∷◌, length, map, Some, refl, ap, ◌∙◌, arith, T, ◌++◌, get_or, sym, zero-add, zero, suc, set}
use Rattle.std.specs.Prelude.{◌||◌, filter, slice_get, zero, suc, ◌<◌, nat_lt}
use Rattle.std.specs.List.{AllByRecursion, count_by, list_any, remove, flat_map, sum_by}
use Rattle.std.proofs.lemmas.Bool.{false≢true, lt-ltb, or_right}
use Rattle.std.proofs.lemmas.List.Sums.{sum_by-cons}
use Prim.Native.Nat.{zero, suc}
use Rattle.std.proofs.lemmas.List.Concat.{flat_map-cons}

pub all_weaker : {A : Type 0} (P Q : A → Type 0) → ((x : A) → P x → Q x) → (xs : List A) → AllByRecursion P xs → AllByRecursion Q xs
all_weaker P Q gives [] all = tt
all_weaker P Q gives (x ∷ xs) all = (gives x all.0, all_weaker P Q gives xs all.1)

-- an item that passes, if some item does
pub witness : {A : Type 0} (p : A → Bool) (xs : List A) → list_any p xs ≡ true → (x : A) × (p x ≡ true)
witness p [] h = absurd (false≢true h)
witness p (x ∷ xs) h = elim (p x) as (λ b. p x ≡ b → (b || list_any p xs) ≡ true → (x : _) × (p x ≡ true)) [
  | true ↦ λ is _. (x, is)
  | false ↦ λ _ h. witness p xs h
] refl h

-- a test that no item passes counts none
pub count_by-none : {A : Type 0} (p : A → Bool) → ((x : A) → p x ≡ false) → (xs : List A) → count_by p xs ≡ 0
count_by-none p fails [] = refl
count_by-none p fails (x ∷ xs) = sum_by-cons (λ y. cond (p y) 1 0) x xs ∙ (λ i. cond {A = ℕ} (fails x i) 1 0 + count_by-none p fails xs i)

pub there_at : {A : Type 0} (xs : List A) (i : ℕ) → i < length xs → (x : A) × (slice_get xs i ≡ Some x)
there_at [] i lt = absurd (omega arith)
there_at (y ∷ xs) zero lt = (y, refl)
there_at (y ∷ xs) (suc i) lt = there_at xs i (omega arith)

pub map-remove : {A B : Type 0} (f : A → B) (xs : List A) (i : ℕ) → map f (remove xs i) ≡ remove (map f xs) i
map-remove f [] zero = refl
map-remove f [] (suc i) = refl
map-remove f (x ∷ xs) zero = refl
map-remove f (x ∷ xs) (suc i) = ap (λ ys. f x ∷ ys) (map-remove f xs i)

pub filter-map : {A B : Type 0} (p : B → Bool) (f : A → B) (xs : List A) → filter p (map f xs) ≡ map f (filter (λ x. p (f x)) xs)
filter-map p f [] = refl
filter-map p f (x ∷ xs) = elim (p (f x)) as (λ b. cond b (f x ∷ filter p (map f xs)) (filter p (map f xs)) ≡ map f (cond b (x ∷ filter (λ y. p (f y)) xs) (filter (λ y. p (f y)) xs))) [
  | true ↦ ap (λ ys. f x ∷ ys) (filter-map p f xs)
  | false ↦ filter-map p f xs
]

-- ---- tests

pub is_true : {b : Bool} → T b → b ≡ true
is_true {b = true} p = refl
is_true {b = false} p = absurd p

-- ---- lists

pub sum_by-add : {A : Type 0} (f g h : A → ℕ) → ((x : A) → h x ≡ f x + g x) → (xs : List A) → sum_by h xs ≡ sum_by f xs + sum_by g xs
sum_by-add f g h parts [] = refl
sum_by-add f g h parts (x ∷ xs) =
    let rest = sum_by-add f g h parts xs in
    let head = parts x in
    let a : sum_by h (x ∷ xs) ≡ h x + sum_by h xs = sum_by-cons h x xs in
    let b : sum_by f (x ∷ xs) ≡ f x + sum_by f xs = sum_by-cons f x xs in
    let c : sum_by g (x ∷ xs) ≡ g x + sum_by g xs = sum_by-cons g x xs in
    omega arith

pub sum_by-ones : {A : Type 0} (xs : List A) → sum_by (λ _. 1) xs ≡ length xs
sum_by-ones [] = refl
sum_by-ones {A} (x ∷ xs) =
    let rest = sum_by-ones xs in
    let one : A → ℕ = λ _. 1 in
    let a : sum_by one (x ∷ xs) ≡ 1 + sum_by one xs = sum_by-cons one x xs in
    omega arith

pub list_any_none : {A : Type 0} (p : A → Bool) → ((x : A) → p x ≡ false) → (xs : List A) → list_any p xs ≡ false
list_any_none p none [] = refl
list_any_none p none (x ∷ xs) = rw (none x) (list_any_none p none xs)

more_than : (n : ℕ) → nat_lt 0 (1 + n) ≡ true
more_than n = lt-ltb 0 (1 + n) (omega arith)

-- some item passes if and only if the number of those that pass is not 0
pub list_any_count : {A : Type 0} (p : A → Bool) (xs : List A) → list_any p xs ≡ nat_lt 0 (count_by p xs)
list_any_count p [] = refl
list_any_count {A} p (x ∷ xs) =
    elim (p x) as (λ b. p x ≡ b → (b || list_any p xs) ≡ nat_lt 0 (count_by p (x ∷ xs))) [
      | true ↦ λ is. sym (ap (nat_lt 0) (sum_by-cons (λ (y : A). cond {A = ℕ} (p y) 1 0) x xs ∙ ap (λ b. cond {A = ℕ} b 1 0 + count_by p xs) is) ∙ more_than (count_by p xs))
      | false ↦ λ is. list_any_count p xs ∙ sym (ap (nat_lt 0) (sum_by-cons (λ (y : A). cond {A = ℕ} (p y) 1 0) x xs ∙ ap (λ b. cond {A = ℕ} b 1 0 + count_by p xs) is ∙ zero-add (count_by p xs)))
    ] refl

-- two lists of texts are the same if their texts are the same, one by one
pub flat_map-same : {X : Type 0} (f g : X → List ℕ) (xs : List X) → AllByRecursion (λ x. f x ≡ g x) xs → flat_map f xs ≡ flat_map g xs
flat_map-same f g [] same = refl
flat_map-same f g (x ∷ xs) same = flat_map-cons f x xs ∙ (λ i. same.0 i ++ flat_map-same f g xs same.1 i) ∙ sym (flat_map-cons g x xs)

pub all_same : {X : Type 0} (P : X → Type 0) → ((x : X) → P x) → (xs : List X) → AllByRecursion P xs
all_same P each [] = tt
all_same P each (x ∷ xs) = (each x, all_same P each xs)

pub all_by_index : {X : Type 0} (P : X → Type 0) (d : X) (xs : List X) → ((i : ℕ) → i < length xs → P (get_or xs i d)) → AllByRecursion P xs
all_by_index P d [] each = tt
all_by_index P d (x ∷ xs) each = (each 0 (omega arith), all_by_index P d xs (λ i lt. each (suc i) (omega arith)))

pub list_any_weaker : {A : Type 0} (p q : A → Bool) → ((x : A) → p x ≡ true → q x ≡ true) → (xs : List A) → list_any p xs ≡ true → list_any q xs ≡ true
list_any_weaker p q gives [] h = h
list_any_weaker p q gives (x ∷ xs) h =
    elim (p x) as (λ b. p x ≡ b → (b || list_any p xs) ≡ true → (q x || list_any q xs) ≡ true) [
      | true ↦ λ is _. ap (λ b. b || list_any q xs) (gives x is)
      | false ↦ λ _ h. or_right (q x) (list_any q xs) (list_any_weaker p q gives xs h)
    ] refl h

pub list_any_same : {A : Type 0} (p q : A → Bool) → ((x : A) → p x ≡ q x) → (xs : List A) → list_any p xs ≡ list_any q xs
list_any_same p q same [] = refl
list_any_same p q same (x ∷ xs) = λ i. same x i || list_any_same p q same xs i

pub all-push : {A : Type 0} (P : A → Type 0) (xs : List A) (x : A) → AllByRecursion P xs → P x → AllByRecursion P (xs ++ x ∷ [])
all-push P [] x all here = (here, tt)
all-push P (y ∷ xs) x all here = (all.0, all-push P xs x all.1 here)

pub all-remove : {A : Type 0} (P : A → Type 0) (xs : List A) (i : ℕ) → AllByRecursion P xs → AllByRecursion P (remove xs i)
all-remove P [] zero all = tt
all-remove P [] (suc i) all = tt
all-remove P (x ∷ xs) zero all = all.1
all-remove P (x ∷ xs) (suc i) all = (all.0, all-remove P xs i all.1)

pub all-set : {A : Type 0} (P : A → Type 0) (xs : List A) (i : ℕ) (x : A) → AllByRecursion P xs → P x → AllByRecursion P (set xs i x)
all-set P [] i x all here = tt
all-set P (y ∷ xs) zero x all here = (here, all.1)
all-set P (y ∷ xs) (suc i) x all here = (all.0, all-set P xs i x all.1 here)

pub all_at : {A : Type 0} (P : A → Type 0) (xs : List A) (i : ℕ) (d : A) → i < length xs → AllByRecursion P xs → P (get_or xs i d)
all_at P [] i d lt all = absurd (omega arith)
all_at P (x ∷ xs) zero d lt all = all.0
all_at P (x ∷ xs) (suc i) d lt all = all_at P xs i d (omega arith) all.1

pub map-push : {A B : Type 0} (f : A → B) (xs : List A) (x : A) → map f (xs ++ x ∷ []) ≡ map f xs ++ f x ∷ []
map-push f [] x = refl
map-push f (y ∷ xs) x = ap (λ ys. f y ∷ ys) (map-push f xs x)

-- ---- an order of keys

pub sum_by-alike : {A : Type 0} (P : A → Type 0) (f g : A → ℕ) → ((x : A) → P x → f x ≡ g x) → (xs : List A) → AllByRecursion P xs → sum_by f xs ≡ sum_by g xs
sum_by-alike P f g alike [] all = refl
sum_by-alike P f g alike (x ∷ xs) all = sum_by-cons f x xs ∙ (λ i. alike x all.0 i + sum_by-alike P f g alike xs all.1 i) ∙ sym (sum_by-cons g x xs)
