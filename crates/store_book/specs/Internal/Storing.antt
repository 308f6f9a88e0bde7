-- The effect of linking a blob on the links and the slots, and the slot of a linked blob.
use Rattle.store_model.specs.Commands.{fits_content}
use Rattle.std.specs.Prelude.{◌≡◌, ◌≢◌, ℕ, ◌+◌, ◌<◌, ◌^◌, Bool, true, false, Option, Some, None, Result, Ok, Err, OnOk, List, [], ◌∷◌, length, if◌then◌else◌}
use Rattle.std.specs.Borrow.{Bor}
use Rattle.std.specs.Option.{option_copied, option_map_or}
use Rattle.std.specs.FinMap as fmap
use Rattle.spec_lib.specs.Texts.{Text}
use Rattle.blob_digest.specs.Outcomes.{Does, OutcomeIn}
use Rattle.spec_lib.specs.Outcomes.{◌>>=◌}
use Rattle.spec_lib.specs.Sets as set
use Rattle.blob_digest.specs.declared.refusal.Refusal.{Refusal}
use Rattle.blob_digest.specs.declared.refusal.Refusal.TheVariants.{DigestInvalid, LimitReached, Memory, StoreFull, ManifestBlobUnknown}
use Rattle.slot_table.specs.Slots.{Slot, StoredBlob, slot_of, stored_blob_at, phase_at, free_slots, with_slot, fill, on_stored_blob, link_up, mark, with_content}
use Rattle.slot_table.specs.declared.phase.Phase.TheVariants as phase
use Rattle.store_book.specs.Pinned.{Pinned}
use Rattle.link_table.specs.Linked.{Linked, HasNoLinks, is_repo_of_tenant, blobs_of, used_in, passes_share, first_unlinked, appear, put_manifest}

-- the bytes that slot k holds
abbrev pub bytes_at : List Slot → ℕ → Text
bytes_at slots k = option_map_or (λ h. h.bytes) (stored_blob_at slots k) []

-- the slot of a blob that is linked in a repository
abbrev pub linked_slot : Linked → List Slot → Text → Text → Option ℕ
linked_slot l slots repo digest = if fmap.contains_key l.links (repo, digest) then slot_of slots digest else None

-- the slot of a blob in the named repository of this tenant, or in any of them if none is named
abbrev pub source_slot : Linked → List Slot → ℕ → Option Text → Text → Option ℕ
source_slot l slots t None digest = if fmap.contains_key (blobs_of l t) digest then slot_of slots digest else None
source_slot l slots t (Some from) digest = if is_repo_of_tenant l.tenants t from then linked_slot l slots from digest else None

-- the slot from which `mount` links, for a source that is passed by reference
abbrev pub mount_slot : Linked → List Slot → ℕ → Option (Bor Text) → Text → Option ℕ
mount_slot l slots t from digest = source_slot l slots t (option_copied from) digest

-- the links with this one
abbrev pub with_sized_link : Linked → Text → Text × Text → Linked
with_sized_link l repo blob = record l { links = fmap.insert l.links (repo, blob.0) (length blob.1) }

-- the slots with the blob of the slot k live
abbrev pub with_revived_slot : List Slot → ℕ → List Slot
with_revived_slot slots k = with_slot slots k (on_stored_blob (mark false))

-- the blob, live and with this content
abbrev pub renew : Text → StoredBlob → StoredBlob
renew content h = mark false (with_content content h)

-- the slots with the blob of the slot k live and with this content
abbrev pub with_renewed_slot : List Slot → ℕ → Text → List Slot
with_renewed_slot slots k content = with_slot slots k (on_stored_blob (renew content))

-- the slots after a link to the blob of the slot k, which is counted if it is new
abbrev pub with_link_count : Linked → List Slot → Text → Text → ℕ → List Slot
with_link_count l slots repo digest k = if fmap.contains_key l.links (repo, digest) then slots else with_slot slots k (on_stored_blob link_up)

-- The blob is linked in the repository. Its digest had a slot whose content it fits, which is live, has the blob's content and counts the link if
-- it is new; or a free slot was filled with the blob, and counts one link.
pub data IsStored (on_disk : Bool) (l : Linked) (slots : List Slot) (repo : Text) (blob : Text × Text) (l' : Linked) (slots' : List Slot) : Type 0 where
  is_existing : (k : ℕ) (h : StoredBlob) → slot_of slots blob.0 ≡ Some k → stored_blob_at slots k ≡ Some h → fits_content on_disk h.bytes blob.1 ≡ true → l' ≡ with_sized_link l repo blob → slots' ≡ with_link_count l (with_renewed_slot slots k blob.1) repo blob.0 k → IsStored on_disk l slots repo blob l' slots'
  is_added : (k : ℕ) → slot_of slots blob.0 ≡ None → phase_at slots k ≡ phase.Free → l' ≡ with_sized_link l repo blob → slots' ≡ with_slot (with_slot slots k (fill blob)) k (on_stored_blob link_up) → IsStored on_disk l slots repo blob l' slots'

-- if the blob's digest has a slot, it fits the content there
abbrev pub HasNoOtherContent : Bool → List Slot → Text × Text → Type 0
HasNoOtherContent on_disk slots blob = (k : ℕ) (h : StoredBlob) → slot_of slots blob.0 ≡ Some k → stored_blob_at slots k ≡ Some h → fits_content on_disk h.bytes blob.1 ≡ true

-- the blob cannot be linked: its digest has a slot with another content, or the tenant's share does not admit it, or it has no slot and none is free
pub data CannotStore (on_disk : Bool) (l : Linked) (slots : List Slot) (t : ℕ) (blob : Text × Text) (e : Refusal) : Type 0 where
  differs : (k : ℕ) (h : StoredBlob) → slot_of slots blob.0 ≡ Some k → stored_blob_at slots k ≡ Some h → fits_content on_disk h.bytes blob.1 ≡ false → e ≡ DigestInvalid → CannotStore on_disk l slots t blob e
  past_share : HasNoOtherContent on_disk slots blob → passes_share l t blob.0 ≡ true → e ≡ LimitReached → CannotStore on_disk l slots t blob e
  full : passes_share l t blob.0 ≡ false → slot_of slots blob.0 ≡ None → free_slots slots ≡ 0 → e ≡ StoreFull → CannotStore on_disk l slots t blob e

-- the error is `Memory`, or the blob cannot be linked for it
abbrev pub IsExplained : Bool → Linked → Pinned → ℕ → Text × Text → Refusal → Type 0
IsExplained on_disk l p t blob e = e ≢ Memory → CannotStore on_disk l p.slots t blob e

-- the blob is linked in the repository, and a slot holds it
abbrev pub StoresBlob : Bool → Linked → Pinned → Text → Text × Text → Linked → Pinned → Type 0
StoresBlob on_disk l p repo blob l' p' = IsStored on_disk l p.slots repo blob l' p'.slots

-- if the call succeeds, the blob that the slot k holds is linked in the repository
abbrev pub LinksSlot : {A E : Type 0} → Result A E → Linked → Pinned → Text → Text → ℕ → Linked → Pinned → Type 0
LinksSlot result l p repo digest k l' p' = OnOk result ((on_disk : Bool) → StoresBlob on_disk l p repo (digest, bytes_at p.slots k) l' p')

-- the repository exists and is the tenant's, each digest has one size, and no number overflows
pub record CanStore (l : Linked) (slots : List Slot) (t : ℕ) (repo : Text) (blob : Text × Text) : Type 0 where
  pub tenant : t < length l.tenants
  pub own : is_repo_of_tenant l.tenants t repo ≡ true
  pub there : set.contains l.repos repo ≡ true
  pub held : (d : Text) → slot_of slots d ≡ None → (r : Text) → fmap.get l.links (r, d) ≡ None
  pub sizes : (k : ℕ) (h : StoredBlob) (r : Text) (n : ℕ) → stored_blob_at slots k ≡ Some h → fmap.get l.links (r, h.digest) ≡ Some n → n ≡ length h.bytes
  pub room : used_in l t + length blob.1 < 2 ^ 64
  pub counts : (k : ℕ) (h : StoredBlob) → stored_blob_at slots k ≡ Some h → h.links + 1 < 2 ^ 32

-- the blob that the slot k holds can be linked in the repository
abbrev pub CanLinkSlot : Linked → Pinned → ℕ → Text → Text → ℕ → Type 0
CanLinkSlot l p t repo digest k = CanStore l p.slots t repo (digest, bytes_at p.slots k)

-- a repository that is absent has no links
abbrev pub IsUnlinkedIfAbsent : Linked → Text → Type 0
IsUnlinkedIfAbsent l repo = set.contains l.repos repo ≡ false → HasNoLinks l.links repo

-- the repository has each of these digests, or the error names the first that it lacks
abbrev pub check_held : Linked → Text → List Text → Result (Unit {0}) Refusal
check_held l repo digests = option_map_or (λ digest. Err (ManifestBlobUnknown digest)) (first_unlinked l.links repo digests) (Ok tt)

-- the outcome of adding a manifest under the digest of its bytes, and its repository if it is new
abbrev pub add_manifest_outcome : Linked → ℕ → Text → Text → OutcomeIn Linked (Unit {0})
add_manifest_outcome l t repo bytes = do
  shown ← appear l t repo
  put_manifest shown.1 t repo bytes

-- the manifest is added, and its repository if it is new
abbrev pub AddsManifest : Result (Unit {0}) Refusal → Linked → Linked → ℕ → Text → Text → Type 0
AddsManifest result l l' t repo bytes = Does (λ u. u) result l l' (add_manifest_outcome l t repo bytes)
