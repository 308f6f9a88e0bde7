-- Bytes begin with one record at most.
use Rattle.std.proofs.Common.{◌≡◌, ◌<◌, ◌≤◌, ◌+◌, ◌^◌, ℕ, List, [], ◌∷◌, ◌++◌, ◌∙◌, ap, refl, sym, arith, inl, inr, length, append_assoc, append-nil, get_or}
use Rattle.std.proofs.lemmas.List.{length-append, append_cancel_left}
use Rattle.std.proofs.lemmas.Nat.{from_le_bytes-to_le_bytes_2, from_le_bytes-to_le_bytes_4, from_le_bytes-to_le_bytes_8}
use Rattle.std.specs.Int.{Width, w16, w32, w64, byte_len, from_le_bytes, to_le_bytes}
use Rattle.log_records.specs.declared.head.Head.{Head}
use Rattle.log_records.specs.declared.kind.Kind.{Kind}
use Rattle.log_records.specs.declared.kind.Kind.TheVariants as kind
use Rattle.log_records.specs.Kinds.{IsUnknown, kind_number}
use Rattle.log_records.specs.Changes.{Change, HaveRoom, IsChange, Parts, change_of, max_body, parts_of, RepoAdded, SessionOpened, ChunkReceived, SessionSealed, SessionDropped, BlobLinked, BlobUnlinked, ManifestPut, ManifestDeleted, NumberSet, BlobStored, RepoRemoved, ChunkNoted, SealNoted, BlobNoted}
use Rattle.log_records.specs.Records.{IsHead, head_bytes, head_for, head_of, payload_len, payload_of, record_bytes}
use Rattle.log_records.specs.Laws.{RecordsAreApart}

-- prefixes of the same length are the same, and so are the rests
pub apart : (xs ys us vs : List ℕ) → length xs ≡ length ys → xs ++ us ≡ ys ++ vs → (xs ≡ ys) × (us ≡ vs)
apart [] [] us vs n e = (refl, e)
apart [] (y ∷ ys) us vs n e = absurd (omega (arith, n))
apart (x ∷ xs) [] us vs n e = absurd (omega (arith, n))
apart (x ∷ xs) (y ∷ ys) us vs n e =
    let first : x ≡ y = cc in
    let rest = apart xs ys us vs (omega (arith, n)) cc in
    (rw (first, rest.0) refl, rest.1)

-- the numbers below a limit have one width in bytes, and are decoded again
record IsWide (w : Width) (limit : ℕ) : Type 0 where
  len : (n : ℕ) → length (to_le_bytes w n) ≡ byte_len w
  again : (n : ℕ) → n < limit → from_le_bytes w (to_le_bytes w n) ≡ n

wide16 : IsWide w16 (2 ^ 16)
wide16 = record { len = λ n. refl; again = from_le_bytes-to_le_bytes_2 }

wide32 : IsWide w32 (2 ^ 32)
wide32 = record { len = λ n. refl; again = from_le_bytes-to_le_bytes_4 }

wide64 : IsWide w64 (2 ^ 64)
wide64 = record { len = λ n. refl; again = from_le_bytes-to_le_bytes_8 }

field : (w : Width) (limit : ℕ) (wide : IsWide w limit) (m n : ℕ) (us vs : List ℕ) → m < limit → n < limit → to_le_bytes w m ++ us ≡ to_le_bytes w n ++ vs → (m ≡ n) × (us ≡ vs)
field w limit wide m n us vs lm ln e =
    let both = apart (to_le_bytes w m) (to_le_bytes w n) us vs (wide.len m ∙ sym (wide.len n)) e in
    (sym (wide.again m lm) ∙ ap (from_le_bytes w) both.0 ∙ wide.again n ln, both.1)

-- ---- heads

pub head_len : (h : Head) → length (head_bytes h) ≡ 24
unfolding head_bytes
head_len h = refl

pub heads_apart : (a b : Head) (x y : List ℕ) → IsHead a → IsHead b → head_bytes a ++ x ≡ head_bytes b ++ y → (a ≡ b) × (x ≡ y)
unfolding head_bytes
heads_apart a b x y fa fb e =
    let p1 = field w32 _ wide32 a.kind b.kind _ _ fa.kind fb.kind e in
    let p2 = field w16 _ wide16 a.name_len b.name_len _ _ fa.name_len fb.name_len p1.1 in
    let p3 = field w16 _ wide16 a.digest_len b.digest_len _ _ fa.digest_len fb.digest_len p2.1 in
    let p4 = field w64 _ wide64 a.number b.number _ _ fa.number fb.number p3.1 in
    let p5 = field w64 _ wide64 a.body_len b.body_len x y fa.body_len fb.body_len p4.1 in
    (rw (p1.0, p2.0, p3.0, p4.0, p5.0) refl, p5.1)

-- ---- kinds

pub kind_small : (k : Kind) → kind_number k ≤ 15
kind_small kind.RepoAdded = omega arith
kind_small kind.SessionOpened = omega arith
kind_small kind.ChunkReceived = omega arith
kind_small kind.SessionSealed = omega arith
kind_small kind.SessionDropped = omega arith
kind_small kind.BlobLinked = omega arith
kind_small kind.BlobUnlinked = omega arith
kind_small kind.ManifestPut = omega arith
kind_small kind.ManifestDeleted = omega arith
kind_small kind.NumberSet = omega arith
kind_small kind.BlobStored = omega arith
kind_small kind.RepoRemoved = omega arith
kind_small kind.ChunkNoted = omega arith
kind_small kind.SealNoted = omega arith
kind_small kind.BlobNoted = omega arith

kind_positive : (k : Kind) → 0 < kind_number k
kind_positive kind.RepoAdded = omega arith
kind_positive kind.SessionOpened = omega arith
kind_positive kind.ChunkReceived = omega arith
kind_positive kind.SessionSealed = omega arith
kind_positive kind.SessionDropped = omega arith
kind_positive kind.BlobLinked = omega arith
kind_positive kind.BlobUnlinked = omega arith
kind_positive kind.ManifestPut = omega arith
kind_positive kind.ManifestDeleted = omega arith
kind_positive kind.NumberSet = omega arith
kind_positive kind.BlobStored = omega arith
kind_positive kind.RepoRemoved = omega arith
kind_positive kind.ChunkNoted = omega arith
kind_positive kind.SealNoted = omega arith
kind_positive kind.BlobNoted = omega arith

pub known : (k : Kind) → IsUnknown (kind_number k) → ⊥
known k (inl zero) = omega (arith, zero, kind_positive k)
known k (inr large) = omega (arith, large, kind_small k)

-- the kinds in the order of their numbers
kinds : List Kind
kinds = kind.RepoAdded ∷ kind.RepoAdded ∷ kind.SessionOpened ∷ kind.ChunkReceived ∷ kind.SessionSealed ∷ kind.SessionDropped ∷ kind.BlobLinked ∷ kind.BlobUnlinked ∷ kind.ManifestPut ∷ kind.ManifestDeleted ∷ kind.NumberSet ∷ kind.BlobStored ∷ kind.RepoRemoved ∷ kind.ChunkNoted ∷ kind.SealNoted ∷ kind.BlobNoted ∷ []

kind_at : ℕ → Kind
kind_at n = get_or kinds n kind.RepoAdded

again : (k : Kind) → kind_at (kind_number k) ≡ k
unfolding kind_at kinds
again kind.RepoAdded = refl
again kind.SessionOpened = refl
again kind.ChunkReceived = refl
again kind.SessionSealed = refl
again kind.SessionDropped = refl
again kind.BlobLinked = refl
again kind.BlobUnlinked = refl
again kind.ManifestPut = refl
again kind.ManifestDeleted = refl
again kind.NumberSet = refl
again kind.BlobStored = refl
again kind.RepoRemoved = refl
again kind.ChunkNoted = refl
again kind.SealNoted = refl
again kind.BlobNoted = refl

pub kinds_apart : (a b : Kind) → kind_number a ≡ kind_number b → a ≡ b
kinds_apart a b e = sym (again a) ∙ ap kind_at e ∙ again b

-- ---- records

change_again : (c : Change) → change_of (parts_of c) ≡ c
change_again (RepoAdded repo) = refl
change_again (SessionOpened repo number) = refl
change_again (ChunkReceived tenant number bytes) = refl
change_again (SessionSealed tenant number digest last) = refl
change_again (SessionDropped tenant number) = refl
change_again (BlobLinked repo digest) = refl
change_again (BlobUnlinked repo digest) = refl
change_again (ManifestPut repo bytes) = refl
change_again (ManifestDeleted repo digest) = refl
change_again (NumberSet tenant number) = refl
change_again (BlobStored digest bytes) = refl
change_again (RepoRemoved repo) = refl
change_again (ChunkNoted tenant number notes) = refl
change_again (SealNoted tenant number digest notes) = refl
change_again (BlobNoted tenant number digest notes) = refl

pub head_fits : (p : Parts) → HaveRoom p → IsHead (head_of p)
head_fits p room = record {
  kind = omega (arith, kind_small p.kind);
  name_len = room.name;
  digest_len = room.digest;
  number = room.number;
  body_len = omega (arith, room.body);
}

-- a record and the bytes after it: its head, and the bytes after that
pub record_split : (c : Change) (rest : List ℕ) → record_bytes c ++ rest ≡ head_bytes (head_for c) ++ (payload_of (parts_of c) ++ rest)
record_split c rest = append_assoc (head_bytes (head_for c)) (payload_of (parts_of c)) rest

pub payload_of-length : (p : Parts) → length (payload_of p) ≡ payload_len (head_of p)
payload_of-length p = omega (arith, length-append (p.name ++ p.digest) p.body, length-append p.name p.digest)

pub record_bytes-length : (c : Change) → length (record_bytes c) ≡ 24 + payload_len (head_for c)
record_bytes-length c = omega (arith, length-append (head_bytes (head_for c)) (payload_of (parts_of c)), head_len (head_for c), payload_of-length (parts_of c))

parts_apart : (p q : Parts) (x y : List ℕ) → head_of p ≡ head_of q → payload_of p ++ x ≡ payload_of q ++ y → (p ≡ q) × (x ≡ y)
parts_apart p q x y heads e =
    let kind = kinds_apart p.kind q.kind (ap (λ (h : Head). h.kind) heads) in
    let number : p.number ≡ q.number = ap (λ (h : Head). h.number) heads in
    let payload : (r : Parts) (z : List ℕ) → payload_of r ++ z ≡ r.name ++ (r.digest ++ (r.body ++ z)) = λ r z. append_assoc (r.name ++ r.digest) r.body z ∙ append_assoc r.name r.digest (r.body ++ z) in
    let names = apart p.name q.name _ _ (ap (λ (h : Head). h.name_len) heads) (sym (payload p x) ∙ e ∙ payload q y) in
    let digests = apart p.digest q.digest _ _ (ap (λ (h : Head). h.digest_len) heads) names.1 in
    let bodies = apart p.body q.body x y (ap (λ (h : Head). h.body_len) heads) digests.1 in
    (rw (kind, names.0, digests.0, number, bodies.0) refl, bodies.1)

pub records_apart : RecordsAreApart
records_apart a b x y fa fb e =
    let heads = heads_apart (head_for a) (head_for b) _ _ (head_fits (parts_of a) fa) (head_fits (parts_of b) fb) (sym (record_split a x) ∙ e ∙ record_split b y) in
    let all = parts_apart (parts_of a) (parts_of b) x y heads.0 heads.1 in
    (sym (change_again a) ∙ ap change_of all.0 ∙ change_again b, all.1)
