-- What a log begins with, by the numbers that were read.
use Rattle.std.proofs.Common.{◌≡◌, ◌≢◌, ◌<◌, ◌^◌, ℕ, List, [], ◌++◌, ◌∙◌, ap, refl, sym, subst, arith, length, take, take_at, Option, Some, None, IfSome, append_assoc, append-nil}
use Rattle.std.proofs.lemmas.List.{length-append, take-append-le}
use Rattle.std.proofs.lemmas.Nat.{from_le_bytes-to_le_bytes_8}
use Rattle.std.specs.Int.{w64, from_le_bytes, to_le_bytes}
use Rattle.std.specs.Io.KnownBytes.{Consumes, IsAtEnd}
use Rattle.log_frames.specs.Headers.{HasNoHeader, HasNoMagic, HasVersion, IsOpening, OpensAs, header_bytes, header_front, header_sum, magic}
use Rattle.log_frames.specs.Sums.{basis, sum_words, tagged}
use Rattle.log_frames.specs.declared.header.Opening.{Opening}
use Rattle.log_frames.specs.declared.header.Opening.TheVariants as opening
use Rattle.log_frames.proofs.Apart.{apart, not_tagged, tagged_len}

pub front_len : (id : ℕ) → length (header_front id) ≡ 24
unfolding header_front
front_len id = refl

pub header_len : (id : ℕ) → length (header_bytes id) ≡ 32
header_len id = omega (arith, tagged_len (header_sum id) (header_front id), front_len id)

pub no_magic : (m : ℕ) (bytes rest : List ℕ) → m < 2 ^ 64 → m ≢ 29114433899818082 → bytes ≡ to_le_bytes w64 m ++ rest → HasNoMagic bytes
no_magic m bytes rest low other is e =
    let first : take 8 bytes ≡ to_le_bytes w64 m = ap (take 8) is ∙ take_at (to_le_bytes w64 m) rest 8 refl in
    let same : to_le_bytes w64 m ≡ to_le_bytes w64 29114433899818082 = sym first ∙ e in
    other (sym (from_le_bytes-to_le_bytes_8 m low) ∙ ap (from_le_bytes w64) same)

pub with_version : (m v : ℕ) (bytes rest back : List ℕ) → m ≡ 29114433899818082 → bytes ≡ to_le_bytes w64 m ++ rest → rest ≡ to_le_bytes w64 v ++ back → bytes ≡ magic ++ to_le_bytes w64 v ++ back
with_version m v bytes rest back same is then =
    is ∙ ap (λ t. to_le_bytes w64 m ++ t) then ∙ ap (λ n. to_le_bytes w64 n ++ (to_le_bytes w64 v ++ back)) same ∙ sym (append_assoc magic (to_le_bytes w64 v) back)

-- a front, and what follows it
pub with_front : (v id : ℕ) (bytes rest back : List ℕ) → v ≡ 1 → bytes ≡ magic ++ to_le_bytes w64 v ++ rest → rest ≡ to_le_bytes w64 id ++ back → bytes ≡ header_front id ++ back
unfolding header_front
with_front v id bytes rest back same is then =
    is ∙ ap (λ t. magic ++ to_le_bytes w64 v ++ t) then ∙ ap (λ n. magic ++ to_le_bytes w64 n ++ (to_le_bytes w64 id ++ back)) same ∙ sym (append_assoc (magic ++ to_le_bytes w64 1) (to_le_bytes w64 id) back)

pub with_sum : (id sum : ℕ) (bytes back : List ℕ) → bytes ≡ header_front id ++ back → back ≡ to_le_bytes w64 sum → sum ≡ header_sum id → bytes ≡ header_bytes id
unfolding tagged
with_sum id sum bytes back is sum_is same = is ∙ ap (λ t. header_front id ++ t) (sum_is ∙ ap (to_le_bytes w64) same)

pub other_sum : (id sum : ℕ) (bytes back : List ℕ) → length bytes ≡ 32 → bytes ≡ header_front id ++ back → (back ≡ to_le_bytes w64 sum → ⊥) → sum ≡ header_sum id → HasNoHeader bytes
other_sum id sum bytes back len is other same = λ other_id rest low e.
    let eight : length back ≡ 8 = omega (arith, len, ap length is, length-append (header_front id) back, front_len id) in
    let wrong = λ (w : back ≡ to_le_bytes w64 (sum_words basis (header_front id))). other (w ∙ ap (to_le_bytes w64) (sym same)) in
    not_tagged (sum_words basis) (header_front id) back [] (header_front other_id) rest (front_len id ∙ sym (front_len other_id)) eight wrong (append-nil (header_front id ++ back) ∙ sym is ∙ e)

more_version : (version : ℕ) (bytes ys : List ℕ) → HasVersion version bytes → HasVersion version (bytes ++ ys)
more_version version bytes ys has = (has.0 ++ ys, ap (λ t. t ++ ys) has.1 ∙ append_assoc (magic ++ to_le_bytes w64 version) has.0 ys)

pub opens : (a b : Option (List ℕ)) (bytes : List ℕ) (o : Opening) → length bytes ≡ 32 → Consumes a b bytes → IsOpening bytes o → OpensAs a b o
opens a b bytes (opening.Log id start) len gave is = (is.0, is.1, subst (λ (t : List ℕ). Consumes a b t) is.2 gave)
opens a b bytes opening.TooShort len gave is = absurd is
opens None b bytes opening.NotALog len gave is = tt
opens (Some xs) None bytes opening.NotALog len gave is = absurd gave
opens (Some xs) (Some ys) bytes opening.NotALog len gave is = λ e. is (sym (ap (take 8) gave ∙ take-append-le 8 bytes ys (omega (arith, len))) ∙ e)
opens None b bytes (opening.OtherVersion version) len gave is = tt
opens (Some xs) None bytes (opening.OtherVersion version) len gave is = absurd gave
opens (Some xs) (Some ys) bytes (opening.OtherVersion version) len gave is = (is.0, subst (HasVersion version) (sym gave) (more_version version bytes ys is.1))
opens None b bytes opening.WrongSum len gave is = tt
opens (Some xs) None bytes opening.WrongSum len gave is = absurd gave
opens (Some xs) (Some ys) bytes opening.WrongSum len gave is = (
  subst (HasVersion 1) (sym gave) (more_version 1 bytes ys is.0),
  λ id rest low e. is.1 id [] low ((apart bytes (header_bytes id) ys rest (len ∙ sym (header_len id)) (sym gave ∙ e)).0 ∙ sym (append-nil (header_bytes id))),
)

pub too_short : (a b : Option (List ℕ)) (bytes : List ℕ) → Consumes a b bytes → IsAtEnd b → length bytes < 32 → IfSome a (λ bytes. length bytes < 32)
too_short None b bytes gave end short = tt
too_short (Some xs) None bytes gave end short = absurd gave
too_short (Some xs) (Some ys) bytes gave end short = omega (arith, short, ap length gave, ap length end, length-append bytes ys)
