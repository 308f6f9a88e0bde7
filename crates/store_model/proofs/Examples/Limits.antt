-- The limits on numbers: the last accepted value, and the first rejected one.
use Rattle.std.proofs.Common.{◌≡◌, ℕ, ◌^◌, true, false, length, List, [], ◌∷◌, Option, Some, Ok, Err, refl}
use Rattle.std.specs.Prelude.{codes, nat_lt}
use Rattle.std.specs.FinMap.{get-insert}
use Rattle.std.specs.Cmp.Lexicographic.{nat_list_cmp_total}
use Rattle.blob_digest.specs.declared.refusal.Refusal.TheVariants.{LimitReached}
use Rattle.blob_digest.specs.Digests.{sha256_text}
use Rattle.spec_lib.specs.Sets as set
use Rattle.oci_manifest.specs.Manifests.{refs_of, max_manifest}
use Rattle.store_model.specs.declared.mount.Mount.TheVariants as mounting
use Rattle.spec_lib.proofs.Rows.{entries-empty}
use Rattle.spec_lib.specs.Texts.{Text}
use Rattle.store_model.specs.Catalog.{Tenant, Catalog, opening, tenant_of, open_sessions, next_number_of, repos_of, manifests_of, limits_of, in_memory}
use Rattle.store_model.specs.Commands.{start, with_new_session, mount, has_source, with_link, put_manifest, with_manifest, has_manifest}
use Rattle.blob_digest.specs.Tenants.{usual_limits}

-- a tenant with the limits that it has unless it is given others
module _ (C : Catalog) (t : ℕ) (repo : Text) (known : tenant_of C.tenants repo ≡ Some t) (usual : limits_of C t ≡ usual_limits) where
  module _ (there : set.contains C.repos repo ≡ true) where
    last_session : open_sessions C t ≡ 63 → next_number_of C t ≡ 4294967295 → start C repo ≡ Ok (4294967295, with_new_session C t repo)
    last_session few next = rw (known, there, usual, few, next) refl

    session_too_many : open_sessions C t ≡ 64 → start C repo ≡ Err LimitReached
    session_too_many full = rw (known, there, usual, full) refl

    no_number_left : open_sessions C t ≡ 0 → next_number_of C t ≡ 2 ^ 32 → start C repo ≡ Err LimitReached
    no_number_left few next = rw (known, there, usual, few, next) refl

  module _ (new : set.contains C.repos repo ≡ false) where
    repository_too_many : repos_of C t ≡ 1024 → start C repo ≡ Err LimitReached
    repository_too_many full = rw (known, new, usual, full) refl

    mounted_repository_too_many : (digest : Text) (from : Option Text) → has_source C t digest from ≡ true → repos_of C t ≡ 1024 → mount C repo digest from ≡ Err LimitReached
    mounted_repository_too_many digest from has full = rw (known, has, new, usual, full) refl

    last_repository : (digest : Text) (from : Option Text) → has_source C t digest from ≡ true → repos_of C t ≡ 1023 → mount C repo digest from ≡ Ok (mounting.Mounted, with_link C repo digest)
    last_repository digest from has room = rw (known, has, new, usual, room) refl

  module _ (bytes : Text) (fits : nat_lt max_manifest (length bytes) ≡ false) (read : refs_of bytes ≡ Some []) (there : set.contains C.repos repo ≡ true) where
    manifest_too_many : has_manifest C repo (sha256_text bytes) ≡ false → manifests_of C repo ≡ 1024 → put_manifest C repo bytes ≡ Err LimitReached
    manifest_too_many new full = rw (known, fits, read, new, there, usual, full) refl

    last_manifest : has_manifest C repo (sha256_text bytes) ≡ false → manifests_of C repo ≡ 1023 → put_manifest C repo bytes ≡ Ok (sha256_text bytes, with_manifest C repo bytes)
    last_manifest new room = rw (known, fits, read, new, there, usual, room) refl

    manifest_again : has_manifest C repo (sha256_text bytes) ≡ true → manifests_of C repo ≡ 1024 → put_manifest C repo bytes ≡ Ok (sha256_text bytes, C)
    manifest_again old full = rw (known, fits, read, old) refl

-- a tenant with other limits
module _ (C : Catalog) (t : ℕ) (repo : Text) (known : tenant_of C.tenants repo ≡ Some t) (given : limits_of C t ≡ record { repos = 2; manifests = 3; sessions = 1 }) where
  module _ (there : set.contains C.repos repo ≡ true) where
    second_session : open_sessions C t ≡ 1 → start C repo ≡ Err LimitReached
    second_session full = rw (known, there, given, full) refl

    first_session : open_sessions C t ≡ 0 → next_number_of C t ≡ 7 → start C repo ≡ Ok (7, with_new_session C t repo)
    first_session none next = rw (known, there, given, none, next) refl

  module _ (new : set.contains C.repos repo ≡ false) where
    third_repository : repos_of C t ≡ 2 → start C repo ≡ Err LimitReached
    third_repository full = rw (known, new, given, full) refl

  module _ (bytes : Text) (fits : nat_lt max_manifest (length bytes) ≡ false) (read : refs_of bytes ≡ Some []) (there : set.contains C.repos repo ≡ true) where
    fourth_manifest : has_manifest C repo (sha256_text bytes) ≡ false → manifests_of C repo ≡ 3 → put_manifest C repo bytes ≡ Err LimitReached
    fourth_manifest new full = rw (known, fits, read, new, there, given, full) refl

-- ---- the premises can be met: a tenant that has given its last number and has no session open

abbrev acme : List Tenant
acme = record { name = codes "acme"; quota = 3; share = 4294967295; limits = usual_limits } ∷ []

abbrev one : Text
one = codes "acme/one"

abbrev all_given : Catalog
all_given = record (opening acme 64 (in_memory 10)) { repos = set.insert set.empty_set one; next = 2 ^ 32 ∷ [] }

is_there : set.contains all_given.repos one ≡ true
is_there = simp (get-insert {X = Unit {0}} nat_list_cmp_total) refl

none_open : open_sessions all_given 0 ≡ 0
none_open = simp entries-empty refl

all_given_refused : start all_given one ≡ Err LimitReached
all_given_refused = no_number_left all_given 0 one refl refl is_there none_open refl
