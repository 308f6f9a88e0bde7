-- Bytes begin with one thing only.
use Rattle.std.proofs.Common.{◌≡◌, ◌<◌, ◌+◌, ℕ, List, [], ◌++◌, ◌∙◌, ap, refl, sym, subst, arith, inl, inr, length, append_assoc, append-nil}
use Rattle.std.proofs.lemmas.List.{length-append}
use Rattle.log_records.specs.declared.head.Head.{Head}
use Rattle.log_records.specs.Changes.{Change, IsChange, parts_of}
use Rattle.log_records.specs.Decoding.{CutOff, End, IsCutOff, IsMalformed, IsNext, IsOfUnknownKind, IsPartOfRecord, Malformed, Next, Record, UnknownKind}
use Rattle.log_records.specs.Kinds.{IsUnknown}
use Rattle.log_records.specs.Laws.{BytesHaveOneNext, HasNoRecord, RecordsAreReadBack}
use Rattle.log_records.specs.Records.{IsHead, head_bytes, head_for, payload_of, record_bytes}
use Rattle.log_records.proofs.Apart.{head_fits, head_len, heads_apart, known, record_bytes-length, record_split, records_apart}

-- the head with which bytes begin is that of the record
has_head : (h : Head) (c : Change) (bytes rest more tail : List ℕ) → IsHead h → IsChange c → bytes ≡ head_bytes h ++ rest → bytes ++ more ≡ record_bytes c ++ tail → head_for c ≡ h
has_head h c bytes rest more tail fits is starts whole =
    let both : head_bytes (head_for c) ++ (payload_of (parts_of c) ++ tail) ≡ head_bytes h ++ (rest ++ more) =
    sym (record_split c tail) ∙ sym whole ∙ ap (λ t. t ++ more) starts ∙ append_assoc (head_bytes h) rest more in
    (heads_apart (head_for c) h _ _ (head_fits (parts_of c) is) fits both).0

-- ---- heads of no record

not_of_unknown_kind : (c : Change) (kind : ℕ) (bytes more tail : List ℕ) → IsOfUnknownKind kind bytes → IsChange c → bytes ++ more ≡ record_bytes c ++ tail → ⊥
not_of_unknown_kind c kind bytes more tail u is whole =
    let same : kind ≡ (head_for c).kind = sym (ap (λ (h : Head). h.kind) (has_head u.head c bytes u.rest more tail u.fits is u.starts whole) ∙ u.kind_is) in
    known (parts_of c).kind (subst IsUnknown same u.unknown)

not_malformed : (c : Change) (bytes more tail : List ℕ) → IsMalformed bytes → IsChange c → bytes ++ more ≡ record_bytes c ++ tail → ⊥
not_malformed c bytes more tail m is whole = m.none c is (has_head m.head c bytes m.rest more tail m.fits is m.starts whole)

one_head : (kind : ℕ) (bytes : List ℕ) → IsOfUnknownKind kind bytes → IsMalformed bytes → ⊥
one_head kind bytes u m =
    let same = heads_apart u.head m.head u.rest m.rest u.fits m.fits (sym u.starts ∙ m.starts) in
    m.known (subst IsUnknown (sym u.kind_is ∙ ap (λ (h : Head). h.kind) same.0) u.unknown)

one_kind : (j k : ℕ) (bytes : List ℕ) → IsOfUnknownKind j bytes → IsOfUnknownKind k bytes → j ≡ k
one_kind j k bytes u v =
    let same = heads_apart u.head v.head u.rest v.rest u.fits v.fits (sym u.starts ∙ v.starts) in
    sym u.kind_is ∙ ap (λ (h : Head). h.kind) same.0 ∙ v.kind_is

long : (h : Head) (bytes rest : List ℕ) → bytes ≡ head_bytes h ++ rest → length bytes < 24 → ⊥
long h bytes rest e short = omega (arith, short, ap length e, length-append (head_bytes h) rest, head_len h)

nothing : (bytes : List ℕ) → bytes ≡ [] → length bytes < 24
nothing bytes e = omega (arith, ap length e)

-- ---- less than a record

pub cut_off-no_record : (bytes : List ℕ) → IsCutOff bytes → HasNoRecord bytes
cut_off-no_record bytes cut c rest is e =
    elim cut.part [
      | inl short ↦ long (head_for c) bytes (payload_of (parts_of c) ++ rest) (e ∙ record_split c rest) short
      | inr part ↦
          let both : record_bytes c ++ (rest ++ part.missing) ≡ record_bytes part.change ++ [] =
          sym (append_assoc (record_bytes c) rest part.missing) ∙ ap (λ t. t ++ part.missing) (sym e) ∙ part.whole ∙ sym (append-nil _) in
          let none = (records_apart c part.change _ _ is part.fits both).1 in
          omega (arith, part.some_missing, ap length none, length-append rest part.missing)
    ]

pub nothing-no_record : HasNoRecord []
nothing-no_record c rest is e = omega (arith, ap length e, length-append (record_bytes c) rest, record_bytes-length c)

cut_off-no_head : (bytes : List ℕ) (h : Head) (rest : List ℕ) → bytes ≡ head_bytes h ++ rest → ((c : Change) (more : List ℕ) → IsChange c → bytes ++ more ≡ record_bytes c ++ [] → ⊥) → IsCutOff bytes → ⊥
cut_off-no_head bytes h rest starts none cut =
    elim cut.part [
      | inl short ↦ long h bytes rest starts short
      | inr part ↦ none part.change part.missing part.fits (part.whole ∙ sym (append-nil _))
    ]

cut_off-known : (kind : ℕ) (bytes : List ℕ) → IsOfUnknownKind kind bytes → IsCutOff bytes → ⊥
cut_off-known kind bytes u = cut_off-no_head bytes u.head u.rest u.starts (λ c more is e. not_of_unknown_kind c kind bytes more [] u is e)

cut_off-well_formed : (bytes : List ℕ) → IsMalformed bytes → IsCutOff bytes → ⊥
cut_off-well_formed bytes m = cut_off-no_head bytes m.head m.rest m.starts (λ c more is e. not_malformed c bytes more [] m is e)

-- ---- one thing

record-known : (kind : ℕ) (bytes rest : List ℕ) (c : Change) → IsOfUnknownKind kind bytes → IsChange c → bytes ≡ record_bytes c ++ rest → ⊥
record-known kind bytes rest c u is e = not_of_unknown_kind c kind bytes [] rest u is (append-nil bytes ∙ e)

record-well_formed : (bytes rest : List ℕ) (c : Change) → IsMalformed bytes → IsChange c → bytes ≡ record_bytes c ++ rest → ⊥
record-well_formed bytes rest c m is e = not_malformed c bytes [] rest m is (append-nil bytes ∙ e)

pub one_next : BytesHaveOneNext
one_next bytes End End a b = refl
one_next bytes End (Record c rest) a b = absurd (nothing-no_record c rest b.0 (sym a ∙ b.1))
one_next bytes End (UnknownKind kind) a b = absurd (long b.head bytes b.rest b.starts (nothing bytes a))
one_next bytes End Malformed a b = absurd (long b.head bytes b.rest b.starts (nothing bytes a))
one_next bytes End CutOff a b = absurd (omega (arith, b.some, ap length a))
one_next bytes (Record c rest) End a b = absurd (nothing-no_record c rest a.0 (sym b ∙ a.1))
one_next bytes (Record c rest) (Record d left) a b =
    let both = records_apart c d rest left a.0 b.0 (sym a.1 ∙ b.1) in
    rw (both.0, both.1) refl
one_next bytes (Record c rest) (UnknownKind kind) a b = absurd (record-known kind bytes rest c b a.0 a.1)
one_next bytes (Record c rest) Malformed a b = absurd (record-well_formed bytes rest c b a.0 a.1)
one_next bytes (Record c rest) CutOff a b = absurd (cut_off-no_record bytes b c rest a.0 a.1)
one_next bytes (UnknownKind kind) End a b = absurd (long a.head bytes a.rest a.starts (nothing bytes b))
one_next bytes (UnknownKind kind) (Record c rest) a b = absurd (record-known kind bytes rest c a b.0 b.1)
one_next bytes (UnknownKind j) (UnknownKind k) a b = ap UnknownKind (one_kind j k bytes a b)
one_next bytes (UnknownKind kind) Malformed a b = absurd (one_head kind bytes a b)
one_next bytes (UnknownKind kind) CutOff a b = absurd (cut_off-known kind bytes a b)
one_next bytes Malformed End a b = absurd (long a.head bytes a.rest a.starts (nothing bytes b))
one_next bytes Malformed (Record c rest) a b = absurd (record-well_formed bytes rest c a b.0 b.1)
one_next bytes Malformed (UnknownKind kind) a b = absurd (one_head kind bytes b a)
one_next bytes Malformed Malformed a b = refl
one_next bytes Malformed CutOff a b = absurd (cut_off-well_formed bytes a b)
one_next bytes CutOff End a b = absurd (omega (arith, a.some, ap length b))
one_next bytes CutOff (Record c rest) a b = absurd (cut_off-no_record bytes a c rest b.0 b.1)
one_next bytes CutOff (UnknownKind kind) a b = absurd (cut_off-known kind bytes b a)
one_next bytes CutOff Malformed a b = absurd (cut_off-well_formed bytes b a)
one_next bytes CutOff CutOff a b = refl

pub read_back : RecordsAreReadBack
read_back c rest n is next = one_next (record_bytes c ++ rest) n (Record c rest) next (is, refl)
