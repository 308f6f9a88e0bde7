-- A sum changes with each byte.
use Rattle.std.proofs.Common.{◌≡◌, ◌≢◌, ◌<◌, ◌≤◌, ◌+◌, ◌-◌, ◌*◌, ◌/◌, ◌%◌, ◌^◌, ℕ, zero, suc, List, [], ◌∷◌, ◌++◌, ◌∙◌, ap, refl, sym, subst, arith, length, length-take-le, get_or, take, drop, take-append-drop, inl, inr}
use Rattle.std.specs.Int.{w64, byte_at, bytes_low_first, from_be_bytes, from_le_bytes, swap_bytes, to_be_bytes, to_le_bytes}
use Rattle.std.specs.Int.Bits.{bit_xor, xor_assoc, xor_self, xor_zero_r}
use Rattle.std.proofs.lemmas.Bool.{cases_lt}
use Rattle.std.proofs.lemmas.List.{length-append}
use Rattle.std.proofs.lemmas.Nat.{be_bytes_8, from_le_bytes-to_le_bytes_8, le_bytes_8, mod_below, mul-mod_first, xor_comm, xor_lt}
use Rattle.std.proofs.Math.Nat.{add-mul-mod_self_right, mod-eq_of_lt}
use Rattle.log_frames.specs.Laws.{AreBytes}
use Rattle.log_frames.specs.Sums.{sum_from, sum_step, sum_words, tagged, word_step}
use Rattle.log_frames.proofs.Apart.{apart, tagged_len}
use Rattle.log_frames.proofs.Scanning.{cut_front}
use Rattle.log_frames.proofs.Sums.{words_end, words_step}

-- ---- one step

xor_back : (a c : ℕ) → bit_xor (bit_xor a c) c ≡ a
xor_back a c = xor_assoc a c c ∙ ap (bit_xor a) (xor_self c) ∙ xor_zero_r a

same_left : (a b c : ℕ) → bit_xor a c ≡ bit_xor b c → a ≡ b
same_left a b c e = sym (xor_back a c) ∙ ap (λ n. bit_xor n c) e ∙ xor_back b c

same_right : (a b c : ℕ) → bit_xor c a ≡ bit_xor c b → a ≡ b
same_right a b c e = same_left a b c (xor_comm a c ∙ e ∙ xor_comm c b)

-- the prime has an inverse below 2^64
undone : (x : ℕ) → x < 2 ^ 64 → ((x * 1099511628211) % 2 ^ 64 * 14886173955864302971) % 2 ^ 64 ≡ x
undone x small =
    let product : x * 1099511628211 * 14886173955864302971 ≡ x + x * 887285111055 * 2 ^ 64 = omega arith in
    mul-mod_first (x * 1099511628211) 14886173955864302971 (2 ^ 64) ∙ ap (λ n. n % 2 ^ 64) product ∙ add-mul-mod_self_right x (x * 887285111055) (2 ^ 64) ∙ mod-eq_of_lt small

same_product : (x y : ℕ) → x < 2 ^ 64 → y < 2 ^ 64 → (x * 1099511628211) % 2 ^ 64 ≡ (y * 1099511628211) % 2 ^ 64 → x ≡ y
same_product x y lx ly e = sym (undone x lx) ∙ ap (λ n. (n * 14886173955864302971) % 2 ^ 64) e ∙ undone y ly

step_below : (s b : ℕ) → sum_step s b < 2 ^ 64
step_below s b = mod_below (bit_xor s b * 1099511628211) (2 ^ 64) (omega arith)

same_sum : (s t b : ℕ) → s < 2 ^ 64 → t < 2 ^ 64 → b < 256 → sum_step s b ≡ sum_step t b → s ≡ t
same_sum s t b ls lt lb e = same_left s t b (same_product _ _ (xor_lt 64 s b ls (omega (arith, lb))) (xor_lt 64 t b lt (omega (arith, lb))) e)

same_byte : (s a b : ℕ) → s < 2 ^ 64 → a < 256 → b < 256 → sum_step s a ≡ sum_step s b → a ≡ b
same_byte s a b ls la lb e = same_right a b s (same_product _ _ (xor_lt 64 s a ls (omega (arith, la))) (xor_lt 64 s b ls (omega (arith, lb))) e)

below_be : (bytes : List ℕ) → ((i : ℕ) → get_or bytes i 0 < 256) → from_be_bytes w64 bytes < 2 ^ 64
below_be bytes fits = omega (arith, fits 0, fits 1, fits 2, fits 3, fits 4, fits 5, fits 6, fits 7)

-- ---- many steps

below : (s : ℕ) (bytes : List ℕ) → s < 2 ^ 64 → sum_from s bytes < 2 ^ 64
unfolding sum_from
below s [] small = small
below s (b ∷ bytes) small = below (sum_step s b) bytes (step_below s b)

same_start : (s t : ℕ) (bytes : List ℕ) → s < 2 ^ 64 → t < 2 ^ 64 → AreBytes bytes → sum_from s bytes ≡ sum_from t bytes → s ≡ t
unfolding sum_from
same_start s t [] ls lt are e = e
same_start s t (b ∷ bytes) ls lt are e = same_sum s t b ls lt are.0 (same_start (sum_step s b) (sum_step t b) bytes (step_below s b) (step_below t b) are.1 e)

-- one byte is another
changed : (s : ℕ) (front back : List ℕ) (x y : ℕ) → s < 2 ^ 64 → AreBytes (front ++ (x ∷ back)) → y < 256 → x ≢ y → sum_from s (front ++ (x ∷ back)) ≡ sum_from s (front ++ (y ∷ back)) → ⊥
unfolding sum_from
changed s [] back x y ls are ly other e = other (same_byte s x y ls are.0 ly (same_start (sum_step s x) (sum_step s y) back (step_below s x) (step_below s y) are.1 e))
changed s (f ∷ front) back x y ls are ly other e = changed (sum_step s f) front back x y (step_below s f) are.1 ly other e

same_bytes : (m n : ℕ) → m < 2 ^ 64 → n < 2 ^ 64 → to_le_bytes w64 m ≡ to_le_bytes w64 n → m ≡ n
same_bytes m n lm ln e = sym (from_le_bytes-to_le_bytes_8 m lm) ∙ ap (from_le_bytes w64) e ∙ from_le_bytes-to_le_bytes_8 n ln

-- ---- where the byte stands

-- a place within the first of two lists
record Within (xs rest front : List ℕ) (x : ℕ) (back : List ℕ) : Type 0 where
  behind : List ℕ
  here : xs ≡ front ++ (x ∷ behind)
  there : behind ++ rest ≡ back

within : (xs rest front back : List ℕ) (x : ℕ) → length front < length xs → xs ++ rest ≡ front ++ (x ∷ back) → Within xs rest front x back
within [] rest front back x short e = absurd (omega (arith, short))
within (z ∷ xs) rest [] back x short e =
    let first : z ≡ x = cc in
    record { behind = xs; here = rw first refl; there = cc }
within (z ∷ xs) rest (f ∷ front) back x short e =
    let first : z ≡ f = cc in
    let more = within xs rest front back x (omega (arith, short)) cc in
    record { behind = more.behind; here = λ j. first j ∷ more.here j; there = more.there }

same_behind : (xs ys front us vs : List ℕ) (x y : ℕ) → length xs ≡ length ys → xs ≡ front ++ (x ∷ us) → ys ≡ front ++ (y ∷ vs) → length us ≡ length vs
same_behind xs ys front us vs x y len ex ey = omega (arith, len, ap length ex, ap length ey, length-append front (x ∷ us), length-append front (y ∷ vs))

pub are_front : (xs ys : List ℕ) → AreBytes (xs ++ ys) → AreBytes xs
are_front [] ys are = tt
are_front (x ∷ xs) ys are = (are.0, are_front xs ys are.1)

pub are_rest : (xs ys : List ℕ) → AreBytes (xs ++ ys) → AreBytes ys
are_rest [] ys are = are
are_rest (x ∷ xs) ys are = are_rest xs ys are.1

pub are_append : (xs ys : List ℕ) → AreBytes xs → AreBytes ys → AreBytes (xs ++ ys)
are_append [] ys a b = b
are_append (x ∷ xs) ys a b = (a.0, are_append xs ys a.1 b)

byte_of : (front back : List ℕ) (y : ℕ) → AreBytes (front ++ (y ∷ back)) → y < 256
byte_of [] back y are = are.0
byte_of (f ∷ front) back y are = byte_of front back y are.1

byte_low : (i n : ℕ) → byte_at i n < 256
byte_low zero n = mod_below n 256 (omega arith)
byte_low (suc i) n = mod_below (n / 256 ^ suc i) 256 (omega arith)

pub are_low : (i k n : ℕ) → AreBytes (bytes_low_first i k n)
are_low i zero n = tt
are_low i (suc k) n = (byte_low i n, are_low (suc i) k n)

-- ---- words

index_byte : (bytes : List ℕ) (i : ℕ) → AreBytes bytes → get_or bytes i 0 < 256
index_byte [] i are = omega arith
index_byte (b ∷ bytes) zero are = are.0
index_byte (b ∷ bytes) (suc i) are = index_byte bytes i are.1

word_below : (bytes : List ℕ) → AreBytes bytes → from_le_bytes w64 bytes < 2 ^ 64
word_below bytes are =
    let fits = λ (i : ℕ). index_byte bytes i are in
    omega (arith, fits 0, fits 1, fits 2, fits 3, fits 4, fits 5, fits 6, fits 7)

swap_below : (n : ℕ) → swap_bytes w64 n < 2 ^ 64
swap_below n =
    let fits = λ (i : ℕ). index_byte (to_le_bytes w64 n) i (are_low 0 8 n) in
    below_be (to_le_bytes w64 n) fits

same_swap : (m n : ℕ) → m < 2 ^ 64 → n < 2 ^ 64 → swap_bytes w64 m ≡ swap_bytes w64 n → m ≡ n
same_swap m n lm ln e =
    let fm = λ (i : ℕ). index_byte (to_le_bytes w64 m) i (are_low 0 8 m) in
    let fn = λ (i : ℕ). index_byte (to_le_bytes w64 n) i (are_low 0 8 n) in
    let bm = be_bytes_8 (to_le_bytes w64 m) (swap_bytes w64 m) refl fm refl in
    let bn = be_bytes_8 (to_le_bytes w64 n) (swap_bytes w64 n) refl fn refl in
    same_bytes m n lm ln (sym bm ∙ ap (to_be_bytes w64) e ∙ bn)

same_product_swap : (x y : ℕ) → x < 2 ^ 64 → y < 2 ^ 64 → swap_bytes w64 ((x * 1099511628211) % 2 ^ 64) ≡ swap_bytes w64 ((y * 1099511628211) % 2 ^ 64) → x ≡ y
same_product_swap x y lx ly e = same_product x y lx ly (same_swap _ _ (mod_below (x * 1099511628211) (2 ^ 64) (omega arith)) (mod_below (y * 1099511628211) (2 ^ 64) (omega arith)) e)

same_word_start : (s t w : ℕ) → s < 2 ^ 64 → t < 2 ^ 64 → w < 2 ^ 64 → word_step s w ≡ word_step t w → s ≡ t
same_word_start s t w ls lt lw e = same_left s t w (same_product_swap _ _ (xor_lt 64 s w ls lw) (xor_lt 64 t w lt lw) e)

same_word : (s v w : ℕ) → s < 2 ^ 64 → v < 2 ^ 64 → w < 2 ^ 64 → word_step s v ≡ word_step s w → v ≡ w
same_word s v w ls lv lw e = same_right v w s (same_product_swap _ _ (xor_lt 64 s v ls lv) (xor_lt 64 s w ls lw) e)

pub words_below : (s : ℕ) (bytes : List ℕ) → s < 2 ^ 64 → sum_words s bytes < 2 ^ 64
unfolding sum_words
words_below s (a ∷ b ∷ c ∷ d ∷ e ∷ f ∷ g ∷ h ∷ bytes) ls = words_below (word_step s (from_le_bytes w64 (a ∷ b ∷ c ∷ d ∷ e ∷ f ∷ g ∷ h ∷ []))) bytes (swap_below _)
words_below s bytes ls = below s bytes ls

same_words_start : (s t : ℕ) (bytes : List ℕ) → s < 2 ^ 64 → t < 2 ^ 64 → AreBytes bytes → sum_words s bytes ≡ sum_words t bytes → s ≡ t
unfolding sum_words
same_words_start s t (a ∷ b ∷ c ∷ d ∷ e ∷ f ∷ g ∷ h ∷ bytes) ls lt are is =
    let word : List ℕ = a ∷ b ∷ c ∷ d ∷ e ∷ f ∷ g ∷ h ∷ [] in
    let small = word_below word (are_front word bytes are) in
    same_word_start s t (from_le_bytes w64 word) ls lt small (same_words_start (word_step s (from_le_bytes w64 word)) (word_step t (from_le_bytes w64 word)) bytes (swap_below _) (swap_below _) (are_rest word bytes are) is)
same_words_start s t bytes ls lt are is = same_start s t bytes ls lt are is

-- behind a place, and up to it
drop_past : (front back : List ℕ) (x y n : ℕ) → length front < n → drop n (front ++ (x ∷ back)) ≡ drop n (front ++ (y ∷ back))
drop_past front back x y zero short = absurd (omega (arith, short))
drop_past [] back x y (suc n) short = refl
drop_past (f ∷ front) back x y (suc n) short = drop_past front back x y n (omega (arith, short))

take_past : (front back : List ℕ) (x n : ℕ) → length front < n → take n (front ++ (x ∷ back)) ≡ front ++ (x ∷ take (n - (length front + 1)) back)
take_past front back x zero short = absurd (omega (arith, short))
take_past [] back x (suc n) short =
    let less : suc n - (0 + 1) ≡ n = omega arith in
    ap (λ k. x ∷ take k back) (sym less)
take_past (f ∷ front) back x (suc n) short =
    let less : suc n - (suc (length front) + 1) ≡ n - (length front + 1) = omega arith in
    ap (λ t. f ∷ t) (take_past front back x n (omega (arith, short)) ∙ ap (λ k. front ++ (x ∷ take k back)) (sym less))

same_place : (front us vs : List ℕ) (x y : ℕ) → front ++ (x ∷ us) ≡ front ++ (y ∷ vs) → x ≡ y
same_place front us vs x y e =
    let behind = (apart front front (x ∷ us) (y ∷ vs) refl e).1 in
    cc

-- one byte is another, in the first word or behind whole words
changed_few : (s : ℕ) (front back : List ℕ) (x y : ℕ) → s < 2 ^ 64 → length front < 8 → AreBytes (front ++ (x ∷ back)) → AreBytes (front ++ (y ∷ back)) → x ≢ y → sum_words s (front ++ (x ∷ back)) ≡ sum_words s (front ++ (y ∷ back)) → ⊥
changed_few s front back x y ls few ax ay other e =
    let same : length (front ++ (x ∷ back)) ≡ length (front ++ (y ∷ back)) = length-append front (x ∷ back) ∙ sym (length-append front (y ∷ back)) in
    elim (cases_lt (length (front ++ (x ∷ back))) 8) [
      | inl short ↦ changed s front back x y ls ax (byte_of front back y ay) other (sym (words_end s (front ++ (x ∷ back)) short) ∙ e ∙ words_end s (front ++ (y ∷ back)) (omega (arith, short, same)))
      | inr long ↦
          let sx = words_step s (front ++ (x ∷ back)) long in
          let sy = words_step s (front ++ (y ∷ back)) (omega (arith, long, same)) in
          let behind = drop_past front back x y 8 few in
          let bx = are_front (take 8 (front ++ (x ∷ back))) (drop 8 (front ++ (x ∷ back))) (subst AreBytes (sym (take-append-drop 8 (front ++ (x ∷ back)))) ax) in
          let by = are_front (take 8 (front ++ (y ∷ back))) (drop 8 (front ++ (y ∷ back))) (subst AreBytes (sym (take-append-drop 8 (front ++ (y ∷ back)))) ay) in
          let rest = are_rest (take 8 (front ++ (x ∷ back))) (drop 8 (front ++ (x ∷ back))) (subst AreBytes (sym (take-append-drop 8 (front ++ (x ∷ back)))) ax) in
          let steps = same_words_start _ _ (drop 8 (front ++ (x ∷ back))) (swap_below _) (swap_below _) rest (sym sx ∙ e ∙ sy ∙ ap (sum_words (word_step s (from_le_bytes w64 (take 8 (front ++ (y ∷ back)))))) (sym behind)) in
          let words = same_word s _ _ ls (word_below _ bx) (word_below _ by) steps in
          let lx = length-take-le 8 (front ++ (x ∷ back)) long in
          let ly = length-take-le 8 (front ++ (y ∷ back)) (omega (arith, long, same)) in
          let bytes : take 8 (front ++ (x ∷ back)) ≡ take 8 (front ++ (y ∷ back)) = sym (le_bytes_8 _ _ lx (λ i. index_byte _ i bx) refl) ∙ ap (to_le_bytes w64) words ∙ le_bytes_8 _ _ ly (λ i. index_byte _ i by) refl in
          other (same_place front _ _ x y (sym (take_past front back x 8 few) ∙ bytes ∙ take_past front back y 8 few))
    ]

changed_words : (s : ℕ) (front back : List ℕ) (x y : ℕ) → s < 2 ^ 64 → AreBytes (front ++ (x ∷ back)) → AreBytes (front ++ (y ∷ back)) → x ≢ y → sum_words s (front ++ (x ∷ back)) ≡ sum_words s (front ++ (y ∷ back)) → ⊥
unfolding sum_words
changed_words s (a ∷ b ∷ c ∷ d ∷ e ∷ f ∷ g ∷ h ∷ front) back x y ls ax ay other is =
    let word : List ℕ = a ∷ b ∷ c ∷ d ∷ e ∷ f ∷ g ∷ h ∷ [] in
    changed_words (word_step s (from_le_bytes w64 word)) front back x y (swap_below _) (are_rest word (front ++ (x ∷ back)) ax) (are_rest word (front ++ (y ∷ back)) ay) other is
changed_words s front back x y ls ax ay other is = changed_few s front back x y ls (omega arith) ax ay other is

-- ---- bytes with their sum

-- a sum that changes with each byte
pub record ChangesWithEach (f : List ℕ → ℕ) : Type 0 where
  pub small : (bytes : List ℕ) → f bytes < 2 ^ 64
  pub changes : (front back : List ℕ) (x y : ℕ) → AreBytes (front ++ (x ∷ back)) → AreBytes (front ++ (y ∷ back)) → x ≢ y → f (front ++ (x ∷ back)) ≡ f (front ++ (y ∷ back)) → ⊥

pub of_seed : (s : ℕ) → s < 2 ^ 64 → ChangesWithEach (sum_words s)
of_seed s low = record { small = λ bytes. words_below s bytes low; changes = λ front back x y ax ay other e. changed_words s front back x y low ax ay other e }

-- Of two texts of one length with their sums, none is the other with one byte changed: in the text,
changed_text : (f : List ℕ → ℕ) (xs ys us vs front left right : List ℕ) (x y : ℕ) → ChangesWithEach f → length xs ≡ length ys → AreBytes xs → AreBytes ys → length front < length xs → x ≢ y → left ≡ right
    → xs ++ us ≡ front ++ (x ∷ left) → ys ++ vs ≡ front ++ (y ∷ right) → us ≡ to_le_bytes w64 (f xs) → vs ≡ to_le_bytes w64 (f ys) → ⊥
changed_text f xs ys us vs front left right x y ls len ax ay place other same ex ey is ks =
    let qx = within xs us front left x place ex in
    let qy = within ys vs front right y (omega (arith, place, len)) ey in
    let tails = apart qx.behind qy.behind us vs (same_behind xs ys front qx.behind qy.behind x y len qx.here qy.here) (qx.there ∙ same ∙ sym qy.there) in
    let sums = same_bytes (f xs) (f ys) (ls.small xs) (ls.small ys) (sym is ∙ tails.1 ∙ ks) in
    let there : ys ≡ front ++ (y ∷ qx.behind) = qy.here ∙ ap (λ t. front ++ (y ∷ t)) (sym tails.0) in
    ls.changes front qx.behind x y (subst AreBytes qx.here ax) (subst AreBytes there ay) other (sym (ap f qx.here) ∙ sums ∙ ap f there)

-- or in its sum
changed_sum : (f : List ℕ → ℕ) (xs ys us vs front left right : List ℕ) (x y : ℕ) → length xs ≡ length ys → length xs ≤ length front → x ≢ y
    → xs ++ us ≡ front ++ (x ∷ left) → ys ++ vs ≡ front ++ (y ∷ right) → us ≡ to_le_bytes w64 (f xs) → vs ≡ to_le_bytes w64 (f ys) → ⊥
changed_sum f xs ys us vs front left right x y len place other ex ey is ks =
    let cx = cut_front xs us front (x ∷ left) place ex in
    let cy = cut_front ys vs front (y ∷ right) (omega (arith, place, len)) ey in
    let same : xs ≡ ys = cx.0 ∙ ap (λ n. take n front) len ∙ sym cy.0 in
    let all : xs ++ us ≡ ys ++ vs = ap (λ t. t ++ us) same ∙ ap (λ t. ys ++ t) (is ∙ ap (λ t. to_le_bytes w64 (f t)) same ∙ sym ks) in
    let byte = (apart front front (x ∷ left) (y ∷ right) refl (sym ex ∙ all ∙ ey)).1 in
    other cc

pub one_apart : (f : List ℕ → ℕ) (xs ys rest more front back : List ℕ) (x y : ℕ) → ChangesWithEach f → length xs ≡ length ys → AreBytes xs → AreBytes ys → length front < length xs + 8 → x ≢ y
    → tagged (f xs) xs ++ rest ≡ front ++ (x ∷ back) → tagged (f ys) ys ++ more ≡ front ++ (y ∷ back) → ⊥
unfolding tagged
one_apart f xs ys rest more front back x y ls len ax ay place other ex ey =
    let px = within (tagged (f xs) xs) rest front back x (omega (arith, place, tagged_len (f xs) xs)) ex in
    let py = within (tagged (f ys) ys) more front back y (omega (arith, place, len, tagged_len (f ys) ys)) ey in
    let lens : length (tagged (f xs) xs) ≡ length (tagged (f ys) ys) = omega (arith, len, tagged_len (f xs) xs, tagged_len (f ys) ys) in
    let same = (apart px.behind py.behind rest more (same_behind (tagged (f xs) xs) (tagged (f ys) ys) front px.behind py.behind x y lens px.here py.here) (px.there ∙ sym py.there)).0 in
    elim (cases_lt (length front) (length xs)) [
      | inl short ↦ changed_text f xs ys (to_le_bytes w64 (f xs)) (to_le_bytes w64 (f ys)) front px.behind py.behind x y ls len ax ay short other same px.here py.here refl refl
      | inr long ↦ changed_sum f xs ys (to_le_bytes w64 (f xs)) (to_le_bytes w64 (f ys)) front px.behind py.behind x y len long other px.here py.here refl refl
    ]
