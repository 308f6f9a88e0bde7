-- The outcome of each command: the first error that applies, in the order of the lines, or its result with the catalog after it.
-- A command that allocates may fail with `Memory` instead, which changes nothing (`Runs`: `IsCase`).
use Rattle.std.specs.Prelude.{ℕ, ◌+◌, ◌^◌, ◌==◌, nat_le, nat_lt, ◌&&◌, ◌||◌, not, if◌then◌else◌, Bool, true, false, Option, Some, None, Result, Ok, Err, List, [], ◌∷◌, length, slice_set}
use Rattle.std.specs.Option.{ok_or, option_map}
use Rattle.std.specs.List.{find, list_any}
use Rattle.std.specs.FinMap as fmap
use Rattle.spec_lib.specs.Sets as set
use Rattle.blob_digest.specs.declared.range.ByteRange.{ByteRange}
use Rattle.blob_digest.specs.declared.refusal.Refusal.{Refusal}
use Rattle.blob_digest.specs.declared.refusal.Refusal.TheVariants.{NameUnknown, DigestInvalid, SizeInvalid, BlobUnknown, ManifestInvalid, ManifestUnknown, ManifestBlobUnknown, Quota, Referenced, StoreFull, TooManyReaders, LimitReached, RepoInUse}
use Rattle.blob_digest.specs.Digests.{sha256_text, is_digest_of}
use Rattle.blob_digest.specs.Vouched.{has_digest}
pub use Rattle.blob_digest.specs.Outcomes.{OutcomeIn}
pub use Rattle.spec_lib.specs.Outcomes.{◌>>=◌, refuse}
use Rattle.oci_manifest.specs.Manifests.{refs_of, max_manifest}
pub use Rattle.oci_manifest.specs.Manifests.{refers}
pub use Rattle.store_model.specs.Sessions.{session_in, not_busy, length_after, chunk_length_check_in, after_append_in, content_in, hand_in, after_take_in, put_back_outcome_in, session_of_hand, hand_content, after_cancel_in}
use Rattle.spec_lib.specs.Texts.{Text, same_text}
use Rattle.store_model.specs.Catalog.{Catalog, Session, HandRecord, CheckedIn, Resident, tenant_of, is_repo_of, quota_of, share_of, limits_of, holds, tenant_holds, held_count, used_bytes, received_length, next_number_of, open_sessions, repos_of, manifests_of, ContentRules}
use Rattle.store_model.specs.declared.mount.Mount.{Mount}
use Rattle.store_model.specs.declared.mount.Mount.TheVariants as mounting

-- a command's result with the catalog after it, or its error
abbrev pub Outcome : Type 0 → Type 0
Outcome A = OutcomeIn Catalog A

-- ---- checks of several commands

-- the tenant of a repository, or `NameUnknown`
abbrev pub tenant : Catalog → Text → Result ℕ Refusal
tenant C repo = ok_or (tenant_of C.tenants repo) NameUnknown

-- the repository has a tenant, or the error is `NameUnknown`
abbrev pub check_tenant : Catalog → Text → Result (Unit {0}) Refusal
check_tenant C repo = do
  _ ← tenant C repo
  Ok tt

-- the tenant's session of this number in this repository, or `UploadUnknown`
abbrev pub session : Catalog → ℕ → Text → ℕ → Result Session Refusal
session C t repo number = session_in (fmap.get C.sessions (t, number)) repo

-- whether a repository is new and its tenant already has as many as its limit
abbrev pub lacks_room_for : Catalog → ℕ → Text → Bool
lacks_room_for C t repo = not (set.contains C.repos repo) && nat_le (limits_of C t).repos (repos_of C t)

-- the length of a tenant's session after a chunk of n bytes, or the error
abbrev pub chunk_length_check : Catalog → ℕ → Text → ℕ → Option ByteRange → ℕ → Result ℕ Refusal
chunk_length_check C t repo number range n = chunk_length_check_in C.sessions C.contents.max_blob (t, number) repo range n

-- the tenant may use n more bytes, or the error is `Quota`
abbrev pub check_quota : Catalog → ℕ → ℕ → Result (Unit {0}) Refusal
check_quota C t n = refuse (nat_lt (quota_of C t) (used_bytes C t + n)) (Quota (used_bytes C t) (quota_of C t))

-- ---- uploads (OCI Distribution Specification 1.1, "Pushing a blob in chunks")

-- whether a tenant has as many sessions as its limit, or no session number left
abbrev pub cannot_open : Catalog → ℕ → Bool
cannot_open C t = nat_le (limits_of C t).sessions (open_sessions C t) || nat_le (2 ^ 32) (next_number_of C t)

-- the catalog with a new session under the tenant's next number, in a repository that then exists
abbrev pub with_new_session : Catalog → ℕ → Text → Catalog
with_new_session C t repo = record C {
  repos = set.insert C.repos repo;
  sessions = fmap.insert C.sessions (t, next_number_of C t) (record { repo = repo; chunks = CheckedIn [] });
  next = slice_set C.next t (next_number_of C t + 1);
}

-- opens a session and returns its number
abbrev pub start : Catalog → Text → Outcome ℕ
start C repo = do
  t ← tenant C repo
  _ ← refuse (lacks_room_for C t repo) LimitReached
  _ ← refuse (cannot_open C t) LimitReached
  Ok (next_number_of C t, with_new_session C t repo)

-- returns the number of bytes that a session has received
abbrev pub status : Catalog → Text → ℕ → Result ℕ Refusal
status C repo number = do
  t ← tenant C repo
  s ← session C t repo number
  Ok (received_length s)

-- adds a chunk to a session's end and returns the received length
abbrev pub append : Catalog → Text → ℕ → Option ByteRange → Text → Outcome ℕ
append C repo number range bytes = do
  t ← tenant C repo
  n ← chunk_length_check C t repo number range (length bytes)
  _ ← check_quota C t (length bytes)
  Ok (n, record C { sessions = after_append_in C.sessions (t, number) bytes })

-- whether a content has the digest; if contents lie on disk, as far as it was read since the start
abbrev pub is_named : ContentRules → Text → Text → Bool
is_named rules digest content = if rules.on_disk then has_digest digest content else is_digest_of digest content

-- whether two contents are the same; if contents lie on disk, whether they are as long
abbrev pub fits_content : Bool → Text → Text → Bool
fits_content on_disk stored content = if on_disk then length stored == length content else same_text stored content

-- whether a content fits the stored blob, if there is one
abbrev pub fits_stored : ContentRules → Option Resident → Text → Bool
fits_stored rules None content = true
fits_stored rules (Some b) content = fits_content rules.on_disk b.bytes content

-- whether a content has the digest and fits the blob that is stored under it
abbrev pub is_digest_accepted : Catalog → Text → Text → Bool
is_digest_accepted C digest content = is_named C.contents digest content && fits_stored C.contents (fmap.get C.residents digest) content

-- whether a digest needs a new slot and none is free
abbrev pub is_full_for : Catalog → Text → Bool
is_full_for C digest = not (fmap.contains_key C.residents digest) && nat_le C.slots (fmap.len C.residents + C.retired)

-- there is a slot for the blob of this digest, or the error is `StoreFull`
abbrev pub has_slot : Catalog → Text → Result (Unit {0}) Refusal
has_slot C digest = refuse (is_full_for C digest) StoreFull

-- whether a digest is new to a tenant whose repositories contain as many distinct blobs as its share
abbrev pub passes_share : Catalog → ℕ → Text → Bool
passes_share C t digest = not (tenant_holds C t digest) && nat_le (share_of C t) (held_count C t)

-- the tenant's share admits the digest, or the error is `LimitReached`
abbrev pub check_share : Catalog → ℕ → Text → Result (Unit {0}) Refusal
check_share C t digest = refuse (passes_share C t digest) LimitReached

-- whether a blob was ever leased
abbrev pub was_leased : Option Resident → Bool
was_leased None = false
was_leased (Some b) = b.lent

-- the catalog after a session's bytes became a linked blob that is not condemned
abbrev pub with_stored_blob : Catalog → ℕ → Text → ℕ → Text → Text → Catalog
with_stored_blob C t repo number digest bytes = record C {
  links = set.insert C.links (repo, digest);
  sessions = fmap.remove C.sessions (t, number);
  residents = fmap.insert C.residents digest (record { bytes = bytes; condemned = false; lent = was_leased (fmap.get C.residents digest) });
}

-- closes a session with its last chunk as a blob of this digest, if `housed` finds room, and returns the blob's size
abbrev pub close_by : (Catalog → Text → Result (Unit {0}) Refusal) → Catalog → Text → ℕ → Text → Option ByteRange → Text → Outcome ℕ
close_by housed C repo number digest range last = do
  t ← tenant C repo
  _ ← chunk_length_check C t repo number range (length last)
  _ ← check_quota C t (length last)
  let whole : Text = content_in C.sessions (t, number) last
  _ ← refuse (not (is_digest_accepted C digest whole)) DigestInvalid
  _ ← check_share C t digest
  _ ← housed C digest
  Ok (length whole, with_stored_blob C t repo number digest whole)

-- closes a session with its last chunk as a blob of this digest, if there is a slot, and returns the blob's size
abbrev pub close : Catalog → Text → ℕ → Text → Option ByteRange → Text → Outcome ℕ
close = close_by has_slot

-- ---- checked-out sessions

-- checks a session out, with n bytes reserved for one more chunk, and returns its hand
abbrev pub take : Catalog → Text → ℕ → Option ByteRange → ℕ → Outcome HandRecord
take C repo number range n = do
  t ← tenant C repo
  _ ← chunk_length_check C t repo number range n
  _ ← check_quota C t n
  Ok (hand_in C.sessions (t, number) n, record C { sessions = after_take_in C.sessions (t, number) n })

-- checks a hand in, with the chunk that was filled in, and returns the received length
abbrev pub put_back : Catalog → HandRecord → Outcome ℕ
put_back C hand = do
  back ← put_back_outcome_in C.sessions hand
  Ok (back.0, record C { sessions = back.1 })

-- the catalog after a failed finish: the hand's session, if there is one, is checked in with the chunks that it had before
abbrev pub after_cancel : Catalog → HandRecord → Catalog
after_cancel C hand = record C { sessions = after_cancel_in C.sessions hand }

-- closes a checked-out session as a blob of this digest and returns the blob's size
abbrev pub finish : Catalog → HandRecord → Text → Outcome ℕ
finish C hand digest = do
  s ← session_of_hand (fmap.get C.sessions hand.key) hand
  let whole : Text = hand_content hand
  _ ← refuse (not (is_digest_accepted C digest whole)) DigestInvalid
  _ ← check_share C hand.key.0 digest
  _ ← has_slot C digest
  Ok (length whole, with_stored_blob C hand.key.0 s.repo hand.key.1 digest whole)

-- ---- abandoning uploads

-- the catalog without a session
abbrev pub without_session : Catalog → ℕ → ℕ → Catalog
without_session C t number = record C { sessions = fmap.remove C.sessions (t, number) }

-- removes a session and returns the number of bytes that it had received
abbrev pub abandon : Catalog → Text → ℕ → Outcome ℕ
abandon C repo number = do
  t ← tenant C repo
  s ← session C t repo number
  _ ← not_busy s.chunks
  Ok (received_length s, without_session C t number)

-- ---- links (OCI Distribution Specification 1.1, "Mounting a blob from another repository", "Deleting Blobs")

-- whether the named repository, or without a name any repository of the tenant, contains a digest
abbrev pub has_source : Catalog → ℕ → Text → Option Text → Bool
has_source C t digest None = tenant_holds C t digest
has_source C t digest (Some from) = is_repo_of C t from && holds C from digest

-- the catalog with a digest linked in a repository, which then exists
abbrev pub with_link : Catalog → Text → Text → Catalog
with_link C repo digest = record C { repos = set.insert C.repos repo; links = set.insert C.links (repo, digest) }

-- links a digest that a repository of the tenant contains
abbrev pub mounted_outcome : Catalog → ℕ → Text → Text → Outcome Mount
mounted_outcome C t repo digest = do
  _ ← refuse (lacks_room_for C t repo) LimitReached
  Ok (mounting.Mounted, with_link C repo digest)

-- opens a session instead of a mount
abbrev pub started_outcome : Catalog → Text → Outcome Mount
started_outcome C repo = do
  s ← start C repo
  Ok (mounting.Session s.0, s.1)

-- links a blob that the source contains, or opens a session if the source does not contain it
abbrev pub mount : Catalog → Text → Text → Option Text → Outcome Mount
mount C repo digest from = do
  t ← tenant C repo
  if has_source C t digest from then mounted_outcome C t repo digest else started_outcome C repo

-- the repository contains the digest, or the error is `BlobUnknown`
abbrev pub check_link : Catalog → Text → Text → Result (Unit {0}) Refusal
check_link C repo digest = refuse (not (holds C repo digest)) BlobUnknown

-- the least digest of a manifest of a repository that refers to a digest
abbrev pub referrer : Catalog → Text → Text → Option Text
referrer C repo digest = option_map (λ e. e.0.1) (find (λ e. same_text e.0.0 repo && refers e.1 digest) (fmap.entries C.manifests))

-- no manifest refers to the digest, or the error is `Referenced`
abbrev pub check_no_referrer : Option Text → Result (Unit {0}) Refusal
check_no_referrer None = Ok tt
check_no_referrer (Some manifest) = Err (Referenced manifest)

-- removes the link between a repository and a blob
abbrev pub delete : Catalog → Text → Text → Outcome (Unit {0})
delete C repo digest = do
  _ ← tenant C repo
  _ ← check_link C repo digest
  _ ← check_no_referrer (referrer C repo digest)
  Ok (tt, record C { links = set.remove C.links (repo, digest) })

-- ---- manifests (OCI Distribution Specification 1.1, "Pushing Manifests", "Pulling manifests", "Deleting Manifests")

-- a repository contains each of these digests, or the error names the first one that it does not contain
abbrev pub check_all_links : Catalog → Text → List Text → Result (Unit {0}) Refusal
check_all_links C repo [] = Ok tt
check_all_links C repo (digest ∷ digests) = if holds C repo digest then check_all_links C repo digests else Err (ManifestBlobUnknown digest)

-- whether a repository has a manifest of this digest
abbrev pub has_manifest : Catalog → Text → Text → Bool
has_manifest C repo name = fmap.contains_key C.manifests (repo, name)

-- whether a repository of a tenant has as many manifests as the tenant's limit
abbrev pub is_full_of_manifests : Catalog → ℕ → Text → Bool
is_full_of_manifests C t repo = nat_le (limits_of C t).manifests (manifests_of C repo)

-- the catalog with a manifest under the digest of its bytes, in a repository that then exists
abbrev pub with_manifest : Catalog → Text → Text → Catalog
with_manifest C repo bytes = record C { repos = set.insert C.repos repo; manifests = fmap.insert C.manifests (repo, sha256_text bytes) bytes }

-- stores a manifest that the repository does not have and returns its digest
abbrev pub add_manifest : Catalog → ℕ → Text → Text → Outcome Text
add_manifest C t repo bytes = do
  _ ← refuse (lacks_room_for C t repo) LimitReached
  _ ← refuse (is_full_of_manifests C t repo) LimitReached
  Ok (sha256_text bytes, with_manifest C repo bytes)

-- stores a manifest whose references the repository contains, unless it is stored already, and returns its digest
abbrev pub put_manifest : Catalog → Text → Text → Outcome Text
put_manifest C repo bytes = do
  t ← tenant C repo
  _ ← refuse (nat_lt max_manifest (length bytes)) SizeInvalid
  refs ← ok_or (refs_of bytes) ManifestInvalid
  _ ← check_all_links C repo refs
  if has_manifest C repo (sha256_text bytes) then Ok (sha256_text bytes, C) else add_manifest C t repo bytes

-- the bytes of a repository's manifest, or `ManifestUnknown`
abbrev pub manifest : Catalog → Text → Text → Result Text Refusal
manifest C repo name = ok_or (fmap.get C.manifests (repo, name)) ManifestUnknown

-- returns a manifest's bytes
abbrev pub get_manifest : Catalog → Text → Text → Result Text Refusal
get_manifest C repo name = do
  _ ← tenant C repo
  manifest C repo name

-- removes a manifest from a repository
abbrev pub delete_manifest : Catalog → Text → Text → Outcome (Unit {0})
delete_manifest C repo name = do
  _ ← tenant C repo
  _ ← manifest C repo name
  Ok (tt, record C { manifests = fmap.remove C.manifests (repo, name) })

-- ---- repositories

-- whether a repository has a link
abbrev pub has_links : Catalog → Text → Bool
has_links C repo = list_any (λ l. same_text l.0 repo) (set.items C.links)

-- whether a repository has a manifest
abbrev pub has_manifests : Catalog → Text → Bool
has_manifests C repo = list_any (λ l. same_text l.0 repo) (fmap.keys C.manifests)

-- whether a repository has an open session, checked in or checked out
abbrev pub has_sessions : Catalog → Text → Bool
has_sessions C repo = list_any (λ e. same_text e.1.repo repo) (fmap.entries C.sessions)

-- whether a repository has a link, a manifest or an open session
abbrev pub is_in_use : Catalog → Text → Bool
is_in_use C repo = has_links C repo || has_manifests C repo || has_sessions C repo

-- the repository exists, or the error is `NameUnknown`
abbrev pub check_repo : Catalog → Text → Result (Unit {0}) Refusal
check_repo C repo = refuse (not (set.contains C.repos repo)) NameUnknown

-- the catalog without a repository
abbrev pub without_repo : Catalog → Text → Catalog
without_repo C repo = record C { repos = set.remove C.repos repo }

-- removes a repository that is not in use
abbrev pub remove_repo : Catalog → Text → Outcome (Unit {0})
remove_repo C repo = do
  _ ← tenant C repo
  _ ← check_repo C repo
  _ ← refuse (is_in_use C repo) RepoInUse
  Ok (tt, without_repo C repo)

-- ---- leases

-- the blob of a digest that a repository contains, or `BlobUnknown`
abbrev pub linked_blob : Catalog → Text → Text → Result Resident Refusal
linked_blob C repo digest = do
  _ ← check_link C repo digest
  ok_or (fmap.get C.residents digest) BlobUnknown

-- the catalog with a blob marked as leased
abbrev pub with_leased : Catalog → Text → Resident → Catalog
with_leased C digest b = record C { residents = fmap.insert C.residents digest (record b { lent = true }) }

-- leases a blob and returns its bytes, unless its slot has too many readers, which the catalog does not record
abbrev pub lease : Bool → Catalog → Text → Text → Outcome Text
lease crowded C repo digest = do
  _ ← tenant C repo
  b ← linked_blob C repo digest
  _ ← refuse crowded TooManyReaders
  Ok (b.bytes, with_leased C digest b)
