-- The errors with which a put of a parsed manifest does not fail.
use Rattle.std.proofs.Common.{◌≡◌, ◌≢◌, ◌<◌, ◌∙◌, ℕ, Bool, true, false, not, List, [], ◌∷◌, length, Option, Some, None, Result, Ok, Err, refl, subst, sym}
use Rattle.std.specs.Prelude.{IfErr, IsSome, if◌then◌else◌, nat_lt}
use Rattle.std.specs.Option.{ok_or}
use Rattle.std.proofs.lemmas.Bool.{ltb-true}
use Rattle.blob_digest.specs.Digests.{sha256_text}
use Rattle.blob_digest.specs.declared.refusal.Refusal.{Refusal}
use Rattle.blob_digest.specs.declared.refusal.Refusal.TheVariants.{LimitReached, ManifestBlobUnknown, ManifestInvalid, Memory, NameUnknown, SizeInvalid}
use Rattle.spec_lib.specs.Outcomes.{◌>>=◌, refuse}
use Rattle.oci_manifest.specs.Manifests.{max_manifest, refs_of}
use Rattle.spec_lib.specs.Texts.{Text}
use Rattle.store_model.specs.Catalog.{Catalog, holds, tenant_of}
use Rattle.store_model.specs.Commands.{Outcome, add_manifest, check_all_links, has_manifest, is_full_of_manifests, lacks_room_for, put_manifest, tenant}
use Rattle.store_model.specs.Runs.{Answer, Bytes, PutManifest, map_outcome, outcome}
use Rattle.locked_book.specs.Calls.{reply}
use Rattle.locked_book.specs.Counting.{StoreContent, has_room}
use Rattle.locked_book.specs.Performing.{HasOutcome, performed_outcome}

-- the error is neither for a wrong length nor for bytes that are no manifest
abbrev pub IsOther : Refusal → Type 0
IsOther e = (e ≢ SizeInvalid) × (e ≢ ManifestInvalid)

-- the result is accepted, or such an error
abbrev IsRefusedForOther : {A : Type 0} → Result A Refusal → Type 0
IsRefusedForOther (Ok a) = Unit {0}
IsRefusedForOther (Err e) = IsOther e

past : {A B : Type 0} (x : Result A Refusal) (f : A → Result B Refusal) → IsRefusedForOther x → ((a : A) → IsRefusedForOther (f a)) → IsRefusedForOther (x >>= f)
past (Ok a) f first rest = rest a
past (Err e) f first rest = first

limit : (b : Bool) → IsRefusedForOther (refuse b LimitReached)
limit true = (λ e. absurd cc, λ e. absurd cc)
limit false = tt

of_tenant : (o : Option ℕ) → IsRefusedForOther (ok_or o NameUnknown)
of_tenant (Some t) = tt
of_tenant None = (λ e. absurd cc, λ e. absurd cc)

of_length : (m : Text) → (max_manifest < length m → ⊥) → IsRefusedForOther (refuse (nat_lt max_manifest (length m)) SizeInvalid)
of_length m fits = elim (nat_lt max_manifest (length m)) as (λ b. nat_lt max_manifest (length m) ≡ b → IsRefusedForOther (refuse b SizeInvalid)) [
  | true ↦ λ is. absurd (fits (ltb-true max_manifest (length m) is))
  | false ↦ λ is. tt
] refl

of_refs : (o : Option (List Text)) → IsSome o → IsRefusedForOther (ok_or o ManifestInvalid)
of_refs (Some refs) some = tt
of_refs None some = absurd cc

of_links : (C : Catalog) (repo : Text) (refs : List Text) → IsRefusedForOther (check_all_links C repo refs)
of_links C repo [] = tt
of_links C repo (digest ∷ refs) = elim (holds C repo digest) as (λ b. IsRefusedForOther (if b then check_all_links C repo refs else Err (ManifestBlobUnknown digest))) [
  | true ↦ of_links C repo refs
  | false ↦ (λ e. absurd cc, λ e. absurd cc)
]

of_put : (C : Catalog) (repo m : Text) → (max_manifest < length m → ⊥) → IsSome (refs_of m) → IsRefusedForOther (put_manifest C repo m)
of_put C repo m fits some =
    past (tenant C repo) _ (of_tenant (tenant_of C.tenants repo)) (λ t.
    past (refuse (nat_lt max_manifest (length m)) SizeInvalid) _ (of_length m fits) (λ _.
    past (ok_or (refs_of m) ManifestInvalid) _ (of_refs (refs_of m) some) (λ refs.
    past (check_all_links C repo refs) _ (of_links C repo refs) (λ _.
    elim (has_manifest C repo (sha256_text m)) as (λ b. IsRefusedForOther (if b then Ok (sha256_text m, C) else add_manifest C t repo m)) [
      | true ↦ tt
      | false ↦ past (refuse (lacks_room_for C t repo) LimitReached) _ (limit (lacks_room_for C t repo)) (λ _. past (refuse (is_full_of_manifests C t repo) LimitReached) _ (limit (is_full_of_manifests C t repo)) (λ _. tt))
    ]))))

-- the same holds of the outcome with its reply in another form
of_answer : {A B : Type 0} (f : A → B) (o : Outcome A) → IsRefusedForOther o → IsRefusedForOther (map_outcome f o)
of_answer f (Ok a) other = tt
of_answer f (Err e) other = other

-- a parsed manifest is put, or fails with another error
put_refused : {A : Type 0} (view : A → Answer) (r : Result A Refusal) (old new : StoreContent) (repo m : Text) → (max_manifest < length m → ⊥) → IsSome (refs_of m)
    → HasOutcome (PutManifest repo m) (reply view r) old new → IfErr r IsOther
put_refused view (Ok a) old new repo m fits some does = tt
put_refused view (Err e) old new repo m fits some does =
    let all : IsRefusedForOther (performed_outcome false (PutManifest repo m) old) =
    past (refuse (not (has_room old 0)) LimitReached) _ (limit (not (has_room old 0))) (λ _.
    past (outcome false old.book.catalog (PutManifest repo m)) _ (of_answer Bytes (put_manifest old.book.catalog repo m) (of_put old.book.catalog repo m fits some)) (λ done. tt)) in (
      λ is. (subst IsRefusedForOther (does.0 (λ memory. different_size (sym is ∙ memory))) all).0 is,
      λ is. (subst IsRefusedForOther (does.0 (λ memory. different_manifest (sym is ∙ memory))) all).1 is,
    )
  where
    different_size : ◌≡◌ {A = Refusal} SizeInvalid Memory → ⊥
    different_size h = absurd cc

    different_manifest : ◌≡◌ {A = Refusal} ManifestInvalid Memory → ⊥
    different_manifest h = absurd cc

module _ {A : Type 0} (view : A → Answer) (r : Result A Refusal) (old new : StoreContent) (repo m bytes : Text) (same : m ≡ bytes) (fits : max_manifest < length bytes → ⊥) (some : IsSome (refs_of bytes))
    (does : HasOutcome (PutManifest repo m) (reply view r) old new) where
  other : IfErr r IsOther
  other = put_refused view r old new repo m (subst (λ (x : Text). max_manifest < length x → ⊥) (sym same) fits) (subst (λ (x : Text). IsSome (refs_of x)) (sym same) some) does

  pub no_size : (P : Type 0) → IfErr r (λ e. e ≡ SizeInvalid → P)
  no_size P = by r other
    where
      by : (r : Result A Refusal) → IfErr r IsOther → IfErr r (λ e. e ≡ SizeInvalid → P)
      by (Ok a) h = tt
      by (Err e) h = λ is. absurd (h.0 is)

  pub no_manifest : (P : Type 0) → IfErr r (λ e. e ≡ ManifestInvalid → P)
  no_manifest P = by r other
    where
      by : (r : Result A Refusal) → IfErr r IsOther → IfErr r (λ e. e ≡ ManifestInvalid → P)
      by (Ok a) h = tt
      by (Err e) h = λ is. absurd (h.1 is)
