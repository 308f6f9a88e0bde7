-- The bytes of a name, and the end of its first component.
use Rattle.std.proofs.Common.{◌≡◌, ◌<◌, ◌≤◌, ◌++◌, ◌∷◌, ◌==◌, [], ◌∙◌, inl, inr, ℕ, List, Bool, true, false, cond, Some, None, not, ap, sym, refl, arith, length, take, nat_lt}
use Rattle.std.proofs.Math.Seq.{take-append_seam}
use Rattle.std.proofs.lemmas.Bool.{and_from, and_parts, ltb-false}
use Rattle.std.proofs.lemmas.Bool.Decides.{nat_tests}
use Rattle.std.proofs.lemmas.List.{length-take, length-take-le, take_all}
use Rattle.std.proofs.lemmas.List.Folds.{list_all-append}
use Rattle.std.proofs.lemmas.List.Quantifiers.{position-Some}
use Rattle.std.proofs.lemmas.List.Sums.{position_or_len_is}
use Rattle.std.specs.List.{list_all, before_first, position, position_or_len, prefix_len}
use Rattle.std.specs.Str.{IsAscii}
use Rattle.blob_digest.proofs.Ascii.{IsAscii-from_test}
use Rattle.blob_digest.specs.Names.{IsComponent, IsPath, IsSeparator, component, is_alnum, is_dash, joined, run, slashed, tenant_name}

-- each byte of a component passes a test
record Passes (p : ℕ → Bool) : Type 0 where
  letters : (c : ℕ) → is_alnum c ≡ true → p c ≡ true
  dot : p 46 ≡ true
  dash : p 45 ≡ true
  low : p 95 ≡ true

run_all : (p : ℕ → Bool) → Passes p → (r : List ℕ) → list_all is_alnum r ≡ true → list_all p r ≡ true
run_all p may [] h = refl
run_all p may (c ∷ r) h =
    let parts = and_parts (is_alnum c) (list_all is_alnum r) h in
    and_from (p c) (list_all p r) (may.letters c parts.0) (run_all p may r parts.1)

dashes_all : (p : ℕ → Bool) → Passes p → (s : List ℕ) → list_all is_dash s ≡ true → list_all p s ≡ true
dashes_all p may [] h = refl
dashes_all p may (c ∷ s) h =
    let parts = and_parts (is_dash c) (list_all is_dash s) h in
    let is : c ≡ 45 = grind (arith, nat_tests, parts.0) in
    and_from (p c) (list_all p s) (ap p is ∙ may.dash) (dashes_all p may s parts.1)

separator_all : (p : ℕ → Bool) → Passes p → (s : List ℕ) → IsSeparator s → list_all p s ≡ true
separator_all p may s (inl dot) = rw (dot, may.dot) refl
separator_all p may s (inr (inl low)) = rw (low, may.low) refl
separator_all p may s (inr (inr (inl lows))) = rw (lows, may.low) refl
separator_all p may s (inr (inr (inr dashes))) = dashes_all p may s dashes.1

component_all : (p : ℕ → Bool) → Passes p → (c : List ℕ) → IsComponent c → list_all p c ≡ true
component_all p may c (run r h) = run_all p may r h.1
component_all p may c (joined r s d h sep rest) =
    list_all-append p r (s ++ d)
    ∙ and_from (list_all p r) (list_all p (s ++ d)) (run_all p may r h.1)
    (list_all-append p s d ∙ and_from (list_all p s) (list_all p d) (separator_all p may s sep) (component_all p may d rest))

path_all : (p : ℕ → Bool) → Passes p → p 47 ≡ true → (text : List ℕ) → IsPath text → list_all p text ≡ true
path_all p may slash text (component c h) = component_all p may c h
path_all p may slash text (slashed c q h rest) =
    list_all-append p c (47 ∷ q)
    ∙ and_from (list_all p c) (list_all p (47 ∷ q)) (component_all p may c h) (and_from (p 47) (list_all p q) slash (path_all p may slash q rest))

small : Passes (λ b. nat_lt b 128)
small = record {
  letters = λ c h. grind (arith, nat_tests);
  dot = refl;
  dash = refl;
  low = refl;
}

-- a name is ASCII
pub IsAscii-path : (text : List ℕ) → IsPath text → IsAscii text
IsAscii-path text h = IsAscii-from_test text (path_all (λ b. nat_lt b 128) small refl text h)

no_slash : Passes (λ b. not (b == 47))
no_slash = record {
  letters = λ c h. grind (arith, nat_tests);
  dot = refl;
  dash = refl;
  low = refl;
}

-- a component has no slash
pub component_no_slash : (c : List ℕ) → IsComponent c → list_all (λ b. not (b == 47)) c ≡ true
component_no_slash c h = component_all (λ b. not (b == 47)) no_slash c h

-- a name without a slash is one component
pub component_of_path : (text : List ℕ) → IsPath text → list_all (λ b. not (b == 47)) text ≡ true → IsComponent text
component_of_path text (component c h) none = h
component_of_path text (slashed c q h rest) none =
    let parts = and_parts (list_all (λ b. not (b == 47)) c) false (sym (list_all-append (λ b. not (b == 47)) c (47 ∷ q)) ∙ none) in
    absurd (cc (parts.1))

prefix_all : (p : ℕ → Bool) (xs : List ℕ) → list_all p xs ≡ true → prefix_len p xs ≡ length xs
prefix_all p [] h = refl
prefix_all p (x ∷ xs) h =
    let parts = and_parts (p x) (list_all p xs) h in
    rw (parts.0, prefix_all p xs parts.1) (omega arith)

pub prefix_seam : (p : ℕ → Bool) (xs : List ℕ) (y : ℕ) (ys : List ℕ) → list_all p xs ≡ true → p y ≡ false → prefix_len p (xs ++ (y ∷ ys)) ≡ length xs
prefix_seam p [] y ys h fails = rw fails refl
prefix_seam p (x ∷ xs) y ys h fails =
    let parts = and_parts (p x) (list_all p xs) h in
    rw (parts.0, prefix_seam p xs y ys parts.1 fails) (omega arith)

-- a name's tenant is a component
pub tenant_is_component : (text : List ℕ) → IsPath text → IsComponent (tenant_name text)
tenant_is_component text (component c h) =
    let whole : tenant_name c ≡ c = ap (λ n. take n c) (prefix_all (λ b. not (b == 47)) c (component_no_slash c h)) ∙ take_all (length c) c (omega arith) in
    rw whole h
tenant_is_component text (slashed c q h rest) =
    let front : tenant_name (c ++ (47 ∷ q)) ≡ c =
    ap (λ n. take n (c ++ (47 ∷ q))) (prefix_seam (λ b. not (b == 47)) c 47 q (component_no_slash c h) refl) ∙ take-append_seam c (47 ∷ q) in
    rw front h

-- the length of the bytes before the first byte that passes
pub length-before_first : (p : ℕ → Bool) (xs : List ℕ) (i : ℕ) → position p xs ≡ Some i → i ≡ length (before_first p xs)
length-before_first p xs i found =
    let at = position-Some p xs i 0 found in
    let within : i < length xs = at.0 in
    let is : position_or_len p xs ≡ i = position_or_len_is p xs i 0 (omega arith) at.2 (λ _. at.1) in
    sym (ap (λ n. length (take n xs)) is ∙ length-take-le i xs (omega arith))

none_is : (b : Bool) (n : ℕ) → cond b (Some n) None ≡ None → b ≡ false
none_is true n h = cc
none_is false n h = refl

-- the same if no byte passes
pub length-before_none : (p : ℕ → Bool) (xs : List ℕ) → position p xs ≡ None → length xs ≡ length (before_first p xs)
length-before_none p xs absent =
    let over : length xs ≤ position_or_len p xs = ltb-false (position_or_len p xs) (length xs) (none_is (nat_lt (position_or_len p xs) (length xs)) (position_or_len p xs) absent) in
    sym (ap length (take_all (position_or_len p xs) xs over))

-- a tenant's name is no longer than the whole
pub length-tenant_name : (text : List ℕ) → length (tenant_name text) ≤ length text
length-tenant_name text = omega (arith, length-take (position_or_len (λ b. b == 47) text) text)
