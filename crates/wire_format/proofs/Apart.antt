-- Bytes begin with at most one frame.
use Rattle.std.proofs.Common.{◌≡◌, ◌<◌, ◌^◌, ℕ, List, [], ◌∷◌, ◌++◌, ◌∙◌, ap, refl, sym, arith, inl, inr, length, append_assoc}
use Rattle.std.proofs.lemmas.List.{length-append}
use Rattle.std.proofs.lemmas.Nat.{from_le_bytes-to_le_bytes_2, from_le_bytes-to_le_bytes_4, from_le_bytes-to_le_bytes_8}
use Rattle.std.specs.Int.{Width, w16, w32, w64, byte_len, from_le_bytes, to_le_bytes}
use Rattle.wire_format.specs.declared.request.Head.{Head}
use Rattle.wire_format.specs.Frames.{head_bytes, payload_len, request_bytes}
use Rattle.wire_format.specs.Laws.{PartsAreNoFrames, RepliesAreApart, RequestsAreApart}
use Rattle.wire_format.specs.Connections.{IsHead}
use Rattle.wire_format.specs.Replies.{reply_bytes}

-- prefixes of the same length are the same, and so are the rests
apart : (xs ys us vs : List ℕ) → length xs ≡ length ys → xs ++ us ≡ ys ++ vs → (xs ≡ ys) × (us ≡ vs)
apart [] [] us vs n e = (refl, e)
apart [] (y ∷ ys) us vs n e = absurd (omega (arith, n))
apart (x ∷ xs) [] us vs n e = absurd (omega (arith, n))
apart (x ∷ xs) (y ∷ ys) us vs n e =
    let first : x ≡ y = cc in
    let rest = apart xs ys us vs (omega (arith, n)) cc in
    (rw (first, rest.0) refl, rest.1)

byte : (m n : ℕ) (us vs : List ℕ) → m ∷ us ≡ n ∷ vs → (m ≡ n) × (us ≡ vs)
byte m n us vs e = (cc, cc)

-- the numbers below a limit have one width in bytes, and are decoded again
record IsWide (w : Width) (limit : ℕ) : Type 0 where
  len : (n : ℕ) → length (to_le_bytes w n) ≡ byte_len w
  again : (n : ℕ) → n < limit → from_le_bytes w (to_le_bytes w n) ≡ n

wide16 : IsWide w16 (2 ^ 16)
wide16 = record { len = λ n. refl; again = from_le_bytes-to_le_bytes_2 }

wide32 : IsWide w32 (2 ^ 32)
wide32 = record { len = λ n. refl; again = from_le_bytes-to_le_bytes_4 }

wide64 : IsWide w64 (2 ^ 64)
wide64 = record { len = λ n. refl; again = from_le_bytes-to_le_bytes_8 }

field : (w : Width) (limit : ℕ) (wide : IsWide w limit) (m n : ℕ) (us vs : List ℕ) → m < limit → n < limit → to_le_bytes w m ++ us ≡ to_le_bytes w n ++ vs → (m ≡ n) × (us ≡ vs)
field w limit wide m n us vs lm ln e =
    let both = apart (to_le_bytes w m) (to_le_bytes w n) us vs (wide.len m ∙ sym (wide.len n)) e in
    (sym (wide.again m lm) ∙ ap (from_le_bytes w) both.0 ∙ wide.again n ln, both.1)

head_len : (h : Head) → length (head_bytes h) ≡ 32
unfolding head_bytes
head_len h = refl

heads_apart : (a b : Head) (x y : List ℕ) → IsHead a → IsHead b → head_bytes a ++ x ≡ head_bytes b ++ y → (a ≡ b) × (x ≡ y)
unfolding head_bytes
heads_apart a b x y fa fb e =
    let p1 = byte a.command b.command _ _ e in
    let p2 = byte a.flags b.flags _ _ p1.1 in
    let p3 = field w16 _ wide16 a.repo_len b.repo_len _ _ fa.repo_len fb.repo_len p2.1 in
    let p4 = field w16 _ wide16 a.digest_len b.digest_len _ _ fa.digest_len fb.digest_len p3.1 in
    let p5 = field w16 _ wide16 a.source_len b.source_len _ _ fa.source_len fb.source_len p4.1 in
    let p6 = field w32 _ wide32 a.number b.number _ _ fa.number fb.number p5.1 in
    let p7 = field w32 _ wide32 a.body_len b.body_len _ _ fa.body_len fb.body_len p6.1 in
    let p8 = field w64 _ wide64 a.start b.start _ _ fa.start fb.start p7.1 in
    let p9 = field w64 _ wide64 a.end b.end x y fa.end fb.end p8.1 in
    (rw (p1.0, p2.0, p3.0, p4.0, p5.0, p6.0, p7.0, p8.0, p9.0) refl, p9.1)

pub requests_apart : RequestsAreApart
requests_apart a b p q x y fa fb e =
    let regrouped : head_bytes a ++ (p ++ x) ≡ head_bytes b ++ (q ++ y) = sym (append_assoc (head_bytes a) p x) ∙ e ∙ append_assoc (head_bytes b) q y in
    let heads = heads_apart a b (p ++ x) (q ++ y) fa.head fb.head regrouped in
    let payloads = apart p q x y (fa.whole ∙ ap payload_len heads.0 ∙ sym fb.whole) heads.1 in
    (heads.0, payloads.0, payloads.1)

pub replies_apart : RepliesAreApart
unfolding reply_bytes
replies_apart a b x y fa fb e =
    let p1 = field w32 _ wide32 a.status b.status _ _ fa.status fb.status e in
    let p2 = field w32 _ wide32 (length a.digest) (length b.digest) _ _ fa.digest fb.digest p1.1 in
    let p3 = field w64 _ wide64 a.first b.first _ _ fa.first fb.first p2.1 in
    let p4 = field w64 _ wide64 a.second b.second _ _ fa.second fb.second p3.1 in
    let p5 = field w64 _ wide64 (length a.body) (length b.body) ((a.digest ++ a.body) ++ x) ((b.digest ++ b.body) ++ y) fa.body fb.body p4.1 in
    let regrouped : a.digest ++ (a.body ++ x) ≡ b.digest ++ (b.body ++ y) = sym (append_assoc a.digest a.body x) ∙ p5.1 ∙ append_assoc b.digest b.body y in
    let digests = apart a.digest b.digest _ _ p2.0 regrouped in
    let bodies = apart a.body b.body x y p5.0 digests.1 in
    (rw (p1.0, p3.0, p4.0, digests.0, bodies.0) refl, bodies.1)

pub parts_are_no_frames : PartsAreNoFrames
parts_are_no_frames bytes h p x (inl short) f e =
    omega (arith, short.1, ap length e, length-append (request_bytes h p) x, length-append (head_bytes h) p, head_len h)
parts_are_no_frames bytes h p x (inr part) f e =
    let rest = part.1 in
    let regrouped : head_bytes part.0 ++ rest ≡ head_bytes h ++ (p ++ x) = sym part.3 ∙ e ∙ append_assoc (head_bytes h) p x in
    let heads = heads_apart part.0 h rest (p ++ x) part.2 f.head regrouped in
    let lengths : length p ≡ payload_len part.0 = f.whole ∙ sym (ap payload_len heads.0) in
    omega (arith, part.4, ap length heads.1, length-append p x, lengths)
