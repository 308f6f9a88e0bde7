-- Bytes begin with one frame at most.
use Rattle.std.proofs.Common.{◌≡◌, ◌<◌, ◌+◌, ◌^◌, ℕ, List, [], ◌∷◌, ◌++◌, ◌∙◌, ap, refl, sym, arith, length, take, take_at, append_assoc}
use Rattle.std.proofs.lemmas.List.{length-append}
use Rattle.std.proofs.lemmas.Nat.{from_le_bytes-to_le_bytes_8}
use Rattle.std.specs.Int.{w64, from_le_bytes, to_le_bytes}
use Rattle.log_frames.specs.declared.cursor.Cursor.{Cursor}
use Rattle.log_frames.specs.declared.head.FrameHead.{FrameHead}
use Rattle.log_frames.specs.Frames.{Frame, IsFrame, IsHead, frame_bytes, frame_sum, head_at, head_bytes, head_fields, head_sum, summed_bytes}
use Rattle.log_frames.specs.Sums.{tagged}

-- fronts of one length are the same, and so is what follows
pub apart : (xs ys us vs : List ℕ) → length xs ≡ length ys → xs ++ us ≡ ys ++ vs → (xs ≡ ys) × (us ≡ vs)
apart [] [] us vs n e = (refl, e)
apart [] (y ∷ ys) us vs n e = absurd (omega (arith, n))
apart (x ∷ xs) [] us vs n e = absurd (omega (arith, n))
apart (x ∷ xs) (y ∷ ys) us vs n e =
    let first : x ≡ y = cc in
    let rest = apart xs ys us vs (omega (arith, n)) cc in
    (rw (first, rest.0) refl, rest.1)

-- numbers of eight bytes
pub field : (m n : ℕ) (us vs : List ℕ) → m < 2 ^ 64 → n < 2 ^ 64 → to_le_bytes w64 m ++ us ≡ to_le_bytes w64 n ++ vs → (m ≡ n) × (us ≡ vs)
field m n us vs lm ln e =
    let both = apart (to_le_bytes w64 m) (to_le_bytes w64 n) us vs refl e in
    (sym (from_le_bytes-to_le_bytes_8 m lm) ∙ ap (from_le_bytes w64) both.0 ∙ from_le_bytes-to_le_bytes_8 n ln, both.1)

-- ---- bytes with their sum

pub fields_len : (h : FrameHead) → length (head_fields h) ≡ 24
unfolding head_fields
fields_len h = refl

pub tagged_len : (sum : ℕ) (bytes : List ℕ) → length (tagged sum bytes) ≡ length bytes + 8
unfolding tagged
tagged_len sum bytes = length-append bytes (to_le_bytes w64 sum)

pub head_len : (id : ℕ) (h : FrameHead) → length (head_bytes id h) ≡ 32
head_len id h = omega (arith, tagged_len (head_sum id h) (head_fields h), fields_len h)

pub tagged_apart : (s t : ℕ) (xs ys us vs : List ℕ) → length xs ≡ length ys → tagged s xs ++ us ≡ tagged t ys ++ vs → (xs ≡ ys) × (us ≡ vs)
unfolding tagged
tagged_apart s t xs ys us vs n e =
    let whole = apart (tagged s xs) (tagged t ys) us vs (omega (arith, n, tagged_len s xs, tagged_len t ys)) e in
    let part = apart xs ys (to_le_bytes w64 s) (to_le_bytes w64 t) n whole.0 in
    (part.0, whole.1)

-- bytes without their sum
pub not_tagged : (f : List ℕ → ℕ) (xs tail rest ys more : List ℕ) → length xs ≡ length ys → length tail ≡ 8 → (tail ≡ to_le_bytes w64 (f xs) → ⊥) → (xs ++ tail) ++ rest ≡ tagged (f ys) ys ++ more → ⊥
unfolding tagged
not_tagged f xs tail rest ys more n eight other e =
    let whole = apart (xs ++ tail) (tagged (f ys) ys) rest more (omega (arith, n, eight, length-append xs tail, tagged_len (f ys) ys)) e in
    let part = apart xs ys tail (to_le_bytes w64 (f ys)) n whole.0 in
    other (part.1 ∙ ap (λ t. to_le_bytes w64 (f t)) (sym part.0))

-- ---- heads

-- a head whose numbers fit
pub record Fits (h : FrameHead) : Type 0 where
  pub place : h.place < 2 ^ 64
  pub synced : h.synced < 2 ^ 64
  pub length : h.length < 2 ^ 64

pub fits_of : (h : FrameHead) → IsHead h → Fits h
fits_of h is = record { place = omega (arith, is.room); synced = omega (arith, is.synced, is.room); length = omega (arith, is.room) }

pub fields_apart : (a b : FrameHead) (x y : List ℕ) → Fits a → Fits b → head_fields a ++ x ≡ head_fields b ++ y → (a ≡ b) × (x ≡ y)
unfolding head_fields
fields_apart a b x y fa fb e =
    let p1 = field a.place b.place _ _ fa.place fb.place e in
    let p2 = field a.synced b.synced _ _ fa.synced fb.synced p1.1 in
    let p3 = field a.length b.length x y fa.length fb.length p2.1 in
    (rw (p1.0, p2.0, p3.0) refl, p3.1)

pub heads_apart : (id : ℕ) (a b : FrameHead) (x y : List ℕ) → IsHead a → IsHead b → head_bytes id a ++ x ≡ head_bytes id b ++ y → (a ≡ b) × (x ≡ y)
heads_apart id a b x y fa fb e =
    let both = tagged_apart (head_sum id a) (head_sum id b) (head_fields a) (head_fields b) x y (fields_len a ∙ sym (fields_len b)) e in
    let heads = fields_apart a b [] [] (fits_of a fa) (fits_of b fb) (ap (λ t. t ++ []) both.0) in
    (heads.0, both.1)

-- fields of no head
pub no_fields : (id : ℕ) (h k : FrameHead) (bytes : List ℕ) → Fits k → take 24 bytes ≡ head_fields k → (IsHead k → ⊥) → IsHead h → bytes ≡ head_bytes id h → ⊥
unfolding tagged
no_fields id h k bytes fits front none is e =
    let same : head_fields k ≡ head_fields h = sym front ∙ ap (take 24) e ∙ take_at (head_fields h) _ 24 (fields_len h) in
    let one = fields_apart k h [] [] fits (fits_of h is) (ap (λ t. t ++ []) same) in
    none (rw one.0 is)

-- ---- frames

pub summed_len : (id : ℕ) (c : Cursor) (f : Frame) → length (summed_bytes id c f) ≡ length f.payload + 32
summed_len id c f = omega (arith, length-append (head_bytes id (head_at c f)) f.payload, head_len id (head_at c f))

pub frame_len : (id : ℕ) (c : Cursor) (f : Frame) → length (frame_bytes id c f) ≡ length f.payload + 40
frame_len id c f = omega (arith, tagged_len (frame_sum id c f) (summed_bytes id c f), summed_len id c f)

-- a frame, and what follows it: its head, and what follows that
pub frame_split : (id : ℕ) (c : Cursor) (f : Frame) (rest : List ℕ) → frame_bytes id c f ++ rest ≡ head_bytes id (head_at c f) ++ (tagged (frame_sum id c f) f.payload ++ rest)
unfolding tagged
frame_split id c f rest =
    let head : List ℕ = head_bytes id (head_at c f) in
    let sum : List ℕ = to_le_bytes w64 (frame_sum id c f) in
    ap (λ t. t ++ rest) (append_assoc head f.payload sum) ∙ append_assoc head (f.payload ++ sum) rest

pub frames_apart : (id : ℕ) (c : Cursor) (a b : Frame) (x y : List ℕ) → IsFrame c a → IsFrame c b → frame_bytes id c a ++ x ≡ frame_bytes id c b ++ y → (a ≡ b) × (x ≡ y)
frames_apart id c a b x y fa fb e =
    let heads = heads_apart id (head_at c a) (head_at c b) _ _ fa fb (sym (frame_split id c a x) ∙ e ∙ frame_split id c b y) in
    let synced : a.synced ≡ b.synced = ap (λ (h : FrameHead). h.synced) heads.0 in
    let lengths : length a.payload ≡ length b.payload = ap (λ (h : FrameHead). h.length) heads.0 in
    let rest = tagged_apart (frame_sum id c a) (frame_sum id c b) a.payload b.payload x y lengths heads.1 in
    (rw (synced, rest.0) refl, rest.1)
