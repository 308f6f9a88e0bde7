-- The change that a head and the bytes after it describe.
use Rattle.std.proofs.Common.{◌≡◌, ◌<◌, ◌+◌, ◌-◌, ℕ, List, [], ◌++◌, ◌∙◌, ap, refl, sym, subst, arith, inr, length, take, drop, append_assoc, append-nil, length-take-le, length-drop, replicate, false}
use Rattle.std.proofs.lemmas.List.{drop-drop, length-append, length-replicate, nil_from_length, take-append-drop}
use Rattle.log_records.specs.declared.head.Head.{Head}
use Rattle.log_records.specs.declared.kind.Kind.{Kind}
use Rattle.log_records.specs.declared.kind.Kind.TheVariants as kind
use Rattle.log_records.specs.Changes.{BlobLinked, BlobNoted, BlobStored, BlobUnlinked, Change, ChunkNoted, ChunkReceived, HaveRoom, ManifestDeleted, ManifestPut, NumberSet, RepoAdded, RepoRemoved, SealNoted, SessionDropped, SessionOpened, SessionSealed, IsChange, Parts, change_of, change_with, parts, parts_of}
use Rattle.log_records.specs.Decoding.{AnnouncesRecord, IsCutOff, IsMalformed, IsNext, IsOfUnknownKind, Record}
use Rattle.log_records.specs.Kinds.{IsUnknown, kind_number, uses_body, uses_digest, uses_name, uses_number}
use Rattle.log_records.specs.Records.{IsHead, IsPlain, head_bytes, head_for, head_of, parts_in, payload_len, payload_of, record_bytes}
use Rattle.log_records.proofs.Apart.{head_len, kinds_apart, known}

-- ---- parts

-- parts are those of their change, if what the kind does not use is empty
plain_parts : (k : Kind) (name digest : List ℕ) (number : ℕ) (body : List ℕ)
    → (uses_name k ≡ false → name ≡ []) → (uses_digest k ≡ false → digest ≡ []) → (uses_number k ≡ false → number ≡ 0) → (uses_body k ≡ false → body ≡ [])
    → parts_of (change_with k name digest number body) ≡ parts k name digest number body
plain_parts kind.RepoAdded name digest number body n d u b = rw (d refl, u refl, b refl) refl
plain_parts kind.SessionOpened name digest number body n d u b = rw (d refl, b refl) refl
plain_parts kind.ChunkReceived name digest number body n d u b = rw (d refl) refl
plain_parts kind.SessionSealed name digest number body n d u b = refl
plain_parts kind.SessionDropped name digest number body n d u b = rw (d refl, b refl) refl
plain_parts kind.BlobLinked name digest number body n d u b = rw (u refl, b refl) refl
plain_parts kind.BlobUnlinked name digest number body n d u b = rw (u refl, b refl) refl
plain_parts kind.ManifestPut name digest number body n d u b = rw (d refl, u refl) refl
plain_parts kind.ManifestDeleted name digest number body n d u b = rw (u refl, b refl) refl
plain_parts kind.NumberSet name digest number body n d u b = rw (d refl, b refl) refl
plain_parts kind.BlobStored name digest number body n d u b = rw (n refl, u refl) refl
plain_parts kind.RepoRemoved name digest number body n d u b = rw (d refl, u refl, b refl) refl
plain_parts kind.ChunkNoted name digest number body n d u b = rw (d refl) refl
plain_parts kind.SealNoted name digest number body n d u b = refl
plain_parts kind.BlobNoted name digest number body n d u b = refl

-- the head of a change leaves empty what its kind does not use

unused_name : (c : Change) → uses_name (parts_of c).kind ≡ false → (head_for c).name_len ≡ 0
unused_name (RepoAdded repo) e = cc
unused_name (SessionOpened repo number) e = cc
unused_name (ChunkReceived tenant number bytes) e = cc
unused_name (SessionSealed tenant number digest last) e = cc
unused_name (SessionDropped tenant number) e = cc
unused_name (BlobLinked repo digest) e = cc
unused_name (BlobUnlinked repo digest) e = cc
unused_name (ManifestPut repo bytes) e = cc
unused_name (ManifestDeleted repo digest) e = cc
unused_name (NumberSet tenant number) e = cc
unused_name (BlobStored digest bytes) e = refl
unused_name (RepoRemoved repo) e = cc
unused_name (ChunkNoted tenant number notes) e = cc
unused_name (SealNoted tenant number digest notes) e = cc
unused_name (BlobNoted tenant number digest notes) e = cc

unused_digest : (c : Change) → uses_digest (parts_of c).kind ≡ false → (head_for c).digest_len ≡ 0
unused_digest (RepoAdded repo) e = refl
unused_digest (SessionOpened repo number) e = refl
unused_digest (ChunkReceived tenant number bytes) e = refl
unused_digest (SessionSealed tenant number digest last) e = cc
unused_digest (SessionDropped tenant number) e = refl
unused_digest (BlobLinked repo digest) e = cc
unused_digest (BlobUnlinked repo digest) e = cc
unused_digest (ManifestPut repo bytes) e = refl
unused_digest (ManifestDeleted repo digest) e = cc
unused_digest (NumberSet tenant number) e = refl
unused_digest (BlobStored digest bytes) e = cc
unused_digest (RepoRemoved repo) e = refl
unused_digest (ChunkNoted tenant number notes) e = refl
unused_digest (SealNoted tenant number digest notes) e = cc
unused_digest (BlobNoted tenant number digest notes) e = cc

unused_number : (c : Change) → uses_number (parts_of c).kind ≡ false → (head_for c).number ≡ 0
unused_number (RepoAdded repo) e = refl
unused_number (SessionOpened repo number) e = cc
unused_number (ChunkReceived tenant number bytes) e = cc
unused_number (SessionSealed tenant number digest last) e = cc
unused_number (SessionDropped tenant number) e = cc
unused_number (BlobLinked repo digest) e = refl
unused_number (BlobUnlinked repo digest) e = refl
unused_number (ManifestPut repo bytes) e = refl
unused_number (ManifestDeleted repo digest) e = refl
unused_number (NumberSet tenant number) e = cc
unused_number (BlobStored digest bytes) e = refl
unused_number (RepoRemoved repo) e = refl
unused_number (ChunkNoted tenant number notes) e = cc
unused_number (SealNoted tenant number digest notes) e = cc
unused_number (BlobNoted tenant number digest notes) e = cc

unused_body : (c : Change) → uses_body (parts_of c).kind ≡ false → (head_for c).body_len ≡ 0
unused_body (RepoAdded repo) e = refl
unused_body (SessionOpened repo number) e = refl
unused_body (ChunkReceived tenant number bytes) e = cc
unused_body (SessionSealed tenant number digest last) e = cc
unused_body (SessionDropped tenant number) e = refl
unused_body (BlobLinked repo digest) e = refl
unused_body (BlobUnlinked repo digest) e = refl
unused_body (ManifestPut repo bytes) e = cc
unused_body (ManifestDeleted repo digest) e = refl
unused_body (NumberSet tenant number) e = refl
unused_body (BlobStored digest bytes) e = cc
unused_body (RepoRemoved repo) e = refl
unused_body (ChunkNoted tenant number notes) e = cc
unused_body (SealNoted tenant number digest notes) e = cc
unused_body (BlobNoted tenant number digest notes) e = cc

head_plain : (c : Change) → IsChange c → IsPlain (parts_of c).kind (head_for c)
head_plain c is = record { name = unused_name c; digest = unused_digest c; number = unused_number c; body = unused_body c; short = is.body }

-- ---- the bytes after a head

-- the parts of a payload, one after another
parts_payload : (k : Kind) (h : Head) (payload : List ℕ) → payload_of (parts_in k h payload) ≡ payload
parts_payload k h payload =
    let n = h.name_len in
    let d = h.digest_len in
    append_assoc (take n payload) (take d (drop n payload)) (drop (n + d) payload)
    ∙ ap (λ t. take n payload ++ (take d (drop n payload) ++ t)) (sym (drop-drop d n payload))
    ∙ ap (λ t. take n payload ++ t) (take-append-drop d (drop n payload))
    ∙ take-append-drop n payload

-- a head and a payload of its length
pub record IsRecordOf (k : Kind) (h : Head) (payload : List ℕ) (c : Change) : Type 0 where
  pub fits : IsChange c
  pub head : head_for c ≡ h
  pub bytes : record_bytes c ≡ head_bytes h ++ payload

record Divided (k : Kind) (h : Head) (payload : List ℕ) : Type 0 where
  head : head_of (parts_in k h payload) ≡ h
  name : length (take h.name_len payload) ≡ h.name_len
  digest : length (take h.digest_len (drop h.name_len payload)) ≡ h.digest_len
  body : length (drop (h.name_len + h.digest_len) payload) ≡ h.body_len

divided : (k : Kind) (h : Head) (payload : List ℕ) → kind_number k ≡ h.kind → length payload ≡ payload_len h → Divided k h payload
divided k h payload same len =
    let name : length (take h.name_len payload) ≡ h.name_len = length-take-le h.name_len payload (omega (arith, len)) in
    let digest : length (take h.digest_len (drop h.name_len payload)) ≡ h.digest_len = length-take-le h.digest_len (drop h.name_len payload) (omega (arith, len, length-drop h.name_len payload)) in
    let body : length (drop (h.name_len + h.digest_len) payload) ≡ h.body_len = omega (arith, len, length-drop (h.name_len + h.digest_len) payload) in
    record { head = rw (same, name, digest, body) refl; name = name; digest = digest; body = body }

pub record_of : (k : Kind) (h : Head) (payload : List ℕ) → IsHead h → kind_number k ≡ h.kind → IsPlain k h → length payload ≡ payload_len h → IsRecordOf k h payload (change_of (parts_in k h payload))
record_of k h payload fits same plain len =
    let p : Parts = parts_in k h payload in
    let by = divided k h payload same len in
    let all : parts_of (change_of p) ≡ p = plain_parts k p.name p.digest p.number p.body
    (λ e. nil_from_length p.name (omega (arith, by.name, plain.name e)))
    (λ e. nil_from_length p.digest (omega (arith, by.digest, plain.digest e)))
    plain.number
    (λ e. nil_from_length p.body (omega (arith, by.body, plain.body e))) in
    let room : HaveRoom p = record { name = omega (arith, by.name, fits.name_len); digest = omega (arith, by.digest, fits.digest_len); number = fits.number; body = omega (arith, by.body, plain.short) } in
    record {
      fits = subst HaveRoom (sym all) room;
      head = ap head_of all ∙ by.head;
      bytes = ap (λ (q : Parts). head_bytes (head_of q) ++ payload_of q) all ∙ ap (λ t. head_bytes t ++ payload_of p) by.head ∙ ap (λ t. head_bytes h ++ t) (parts_payload k h payload);
    }

-- ---- what bytes begin with

pub is_unknown : (h : Head) (bytes rest : List ℕ) → IsHead h → bytes ≡ head_bytes h ++ rest → IsUnknown h.kind → IsOfUnknownKind h.kind bytes
is_unknown h bytes rest fits starts unknown = record { head = h; rest = rest; fits = fits; starts = starts; kind_is = refl; unknown = unknown }

pub is_malformed : (k : Kind) (h : Head) (bytes rest : List ℕ) → IsHead h → bytes ≡ head_bytes h ++ rest → kind_number k ≡ h.kind → (IsPlain k h → ⊥) → IsMalformed bytes
is_malformed k h bytes rest fits starts same not_plain = record {
  head = h;
  rest = rest;
  fits = fits;
  starts = starts;
  known = λ u. known k (subst IsUnknown (sym same) u);
  none = λ c room e.
      let kind = kinds_apart (parts_of c).kind k (ap (λ (g : Head). g.kind) e ∙ sym same) in
      not_plain (subst (λ (j : Kind). IsPlain j h) kind (subst (IsPlain (parts_of c).kind) e (head_plain c room)));
}

-- there are fewer bytes than a head announces
pub is_cut_off : (k : Kind) (h : Head) (bytes rest : List ℕ) → IsHead h → bytes ≡ head_bytes h ++ rest → kind_number k ≡ h.kind → IsPlain k h → length rest < payload_len h → IsCutOff bytes
is_cut_off k h bytes rest fits starts same plain short =
    let missing : List ℕ = replicate (payload_len h - length rest) 0 in
    let many : length missing ≡ payload_len h - length rest = length-replicate (payload_len h - length rest) 0 in
    let payload : List ℕ = rest ++ missing in
    let whole = record_of k h payload fits same plain (omega (arith, many, short, length-append rest missing)) in
    record {
      some = omega (arith, ap length starts, length-append (head_bytes h) rest, head_len h);
      part = inr (record {
        change = change_of (parts_in k h payload);
        missing = missing;
        fits = whole.fits;
        some_missing = omega (arith, many, short);
        whole = ap (λ t. t ++ missing) starts ∙ append_assoc (head_bytes h) rest missing ∙ sym whole.bytes;
      });
    }

pub is_record : (k : Kind) (h : Head) (bytes payload rest : List ℕ) → IsHead h → bytes ≡ head_bytes h ++ (payload ++ rest) → kind_number k ≡ h.kind → IsPlain k h → length payload ≡ payload_len h → IsNext bytes (Record (change_of (parts_in k h payload)) rest)
is_record k h bytes payload rest fits starts same plain len =
    let whole = record_of k h payload fits same plain len in
    (whole.fits, starts ∙ sym (append_assoc (head_bytes h) payload rest) ∙ ap (λ t. t ++ rest) (sym whole.bytes))

-- a head without bytes after it announces the length of its records
pub announces : (k : Kind) (h : Head) (bytes rest : List ℕ) → IsHead h → bytes ≡ head_bytes h ++ rest → length bytes ≡ 24 → kind_number k ≡ h.kind → IsPlain k h → AnnouncesRecord bytes (24 + payload_len h)
announces k h bytes rest fits starts short same plain =
    let payload : List ℕ = replicate (payload_len h) 0 in
    let many : length payload ≡ payload_len h = length-replicate (payload_len h) 0 in
    let whole = record_of k h payload fits same plain many in
    let none : rest ≡ [] = nil_from_length rest (omega (arith, ap length starts, short, length-append (head_bytes h) rest, head_len h)) in
    record {
      change = change_of (parts_in k h payload);
      fits = whole.fits;
      head = starts ∙ ap (λ t. head_bytes h ++ t) none ∙ append-nil (head_bytes h) ∙ ap head_bytes (sym whole.head);
      length_is = omega (arith, ap length whole.bytes, length-append (head_bytes h) payload, head_len h, many);
    }
