-- The hashes of an upload after more bytes.
use Rattle.std.proofs.Common.{◌≡◌, ◌++◌, ◌∙◌, ◌+◌, List, ℕ, ap, arith, false, length, subst, sym, take, true}
use Rattle.std.proofs.Math.Seq.{take-length}
use Rattle.std.proofs.lemmas.List.{length-append, take-append-le}
use Rattle.sha2.specs.Hashers.{Holds256, Holds512}
use Rattle.blob_digest.specs.Hashing.{HashesUpload}
use Rattle.blob_digest.specs.declared.upload_hashes.UploadHashes.{UploadHashes}

-- SHA-256 alone has taken in more bytes
pub taken_once : (old new : UploadHashes) (before more : List ℕ) → new.sha512 ≡ old.sha512 → new.through_sha512 ≡ old.through_sha512 → new.is_through_both ≡ false
    → ((front : List ℕ) → Holds256 old.sha256 front → Holds256 new.sha256 (front ++ more)) → HashesUpload old before → HashesUpload new (before ++ more)
unfolding HashesUpload
taken_once old new before more same through once takes is = (
  takes before is.0,
  omega (arith, through, is.1, length-append before more),
  subst (λ h. Holds512 h (take new.through_sha512 (before ++ more))) (sym same)
      (subst (Holds512 old.sha512) (sym (ap (λ n. take n (before ++ more)) through ∙ take-append-le old.through_sha512 before more is.1)) is.2),
  λ both. absurd cc,
)

-- both algorithms have taken in more bytes
pub taken_twice : (old new : UploadHashes) (before more : List ℕ) → old.is_through_both ≡ true → new.through_sha512 ≡ old.through_sha512 + length more
    → ((front : List ℕ) → Holds256 old.sha256 front → Holds256 new.sha256 (front ++ more)) → ((front : List ℕ) → Holds512 old.sha512 front → Holds512 new.sha512 (front ++ more)) → HashesUpload old before → HashesUpload new (before ++ more)
unfolding HashesUpload
taken_twice old new before more both through takes256 takes512 is =
    let all : old.through_sha512 ≡ length before = is.3 both in
    let len : new.through_sha512 ≡ length (before ++ more) = omega (arith, all, through, length-append before more) in
    let front : Holds512 old.sha512 before = subst (Holds512 old.sha512) (ap (λ n. take n before) all ∙ take-length before) is.2 in (
      takes256 before is.0,
      omega (arith, len),
      subst (Holds512 new.sha512) (sym (ap (λ n. take n (before ++ more)) len ∙ take-length (before ++ more))) (takes512 before front),
      λ _. len,
    )
