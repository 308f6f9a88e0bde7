-- The lines of a book's text, from its layers.
use Rattle.std.specs.Prelude.{◌≡◌, ℕ, ◌++◌, Option, Result, List, length, map, slice_get, slice_index}
use Rattle.std.specs.Option.{option_map_or}
use Rattle.std.specs.List.{flat_map, enumerate_from}
use Rattle.spec_lib.specs.Texts.{Text}
use Rattle.slot_table.specs.Slots.{Slot, slot_of, links_at}
use Rattle.link_table.specs.ManifestTable.{manifests_on}
use Rattle.link_table.specs.Linked.{Linked, Tenant, blobs_in, repos_of, used_in}
use Rattle.store_model.specs.Sessions.{number_and_length, sessions_of}
use Rattle.upload_table.specs.Uploaded.{Uploaded}
use Rattle.store_book.specs.Printing.{Prints}
use Rattle.store_book.specs.declared.print.Tables.{Tables}
use Rattle.store_model.specs.BookText.{blob_line, book_line, end_line, manifest_row, repository_line, session_line, tenant_line}
use Rattle.blob_digest.specs.Tenants.{no_tenant}

-- the number of links that the slots count for a digest
abbrev pub links_to : List Slot → Text → ℕ
links_to slots digest = option_map_or (links_at slots) (slot_of slots digest) 0

-- the line of a blob with this digest and size
abbrev pub blob_row : List Slot → Text × ℕ → Text
blob_row slots e = blob_line e.0 e.1 (links_to slots e.0)

-- the line of a session with this number and received length
abbrev pub session_row : ℕ × ℕ → Text
session_row e = session_line e.0 e.1

-- the lines of a repository, its blobs, its manifests and its sessions
abbrev pub repo_rows : Linked → Uploaded → List Slot → ℕ → Text → Text
repo_rows l u slots t repo =
    repository_line repo
    ++ flat_map (blob_row slots) (blobs_in l repo)
    ++ flat_map manifest_row (manifests_on l.manifests repo)
    ++ flat_map session_row (map number_and_length (sessions_of u.sessions t repo))

-- the lines of a tenant and its repositories
abbrev pub tenant_rows : Linked → Uploaded → List Slot → ℕ × Tenant → Text
tenant_rows l u slots e =
    tenant_line e.1.name (used_in l e.0) e.1.quota (slice_index u.next e.0)
    ++ flat_map (repo_rows l u slots e.0) (repos_of l e.0)

-- the text of the whole book
abbrev pub book_rows : Linked → Uploaded → List Slot → Text
book_rows l u slots = book_line ++ flat_map (tenant_rows l u slots) (enumerate_from 0 l.tenants) ++ end_line

-- the tenant with this number
abbrev pub tenant_in : List Tenant → ℕ → Tenant
tenant_in tenants t = option_map_or (λ x. x) (slice_get tenants t) no_tenant

-- each tenant has a next session number
abbrev pub CanPrint : Linked → Uploaded → Type 0
CanPrint l u = length u.next ≡ length l.tenants

-- ---- the text that a successful call appends

module _ {W A E : Type 0} (contents : W → Option (List ℕ)) (old new : W) (result : Result A E) where
  -- the line of a tenant
  abbrev pub PrintsUse : Text → ℕ → ℕ → ℕ → Type 0
  PrintsUse name used quota next = Prints contents old new result (tenant_line name used quota next)

  -- the lines of a repository's blobs
  abbrev pub PrintsBlobs : Linked → List Slot → Text → Type 0
  PrintsBlobs l slots repo = Prints contents old new result (flat_map (blob_row slots) (blobs_in l repo))

  -- the lines of a repository's manifests
  abbrev pub PrintsManifests : Linked → Text → Type 0
  PrintsManifests l repo = Prints contents old new result (flat_map manifest_row (manifests_on l.manifests repo))

  -- the lines of a repository's sessions
  abbrev pub PrintsSessions : Uploaded → ℕ → Text → Type 0
  PrintsSessions u t repo = Prints contents old new result (flat_map session_row (map number_and_length (sessions_of u.sessions t repo)))

  -- the lines of a repository and its contents
  abbrev pub PrintsRepo : Tables → ℕ → Text → Type 0
  PrintsRepo s t repo = Prints contents old new result (repo_rows s.links.now s.uploads.now s.slots.now t repo)

  -- the lines of a tenant's repositories
  abbrev pub PrintsRepos : Tables → ℕ → Type 0
  PrintsRepos s t = Prints contents old new result (flat_map (repo_rows s.links.now s.uploads.now s.slots.now t) (repos_of s.links.now t))

  -- the lines of a tenant and its repositories
  abbrev pub PrintsTenant : Tables → ℕ → Type 0
  PrintsTenant s t = Prints contents old new result (tenant_rows s.links.now s.uploads.now s.slots.now (t, tenant_in s.links.now.tenants t))

  -- the text of the whole book
  abbrev pub PrintsBook : Linked → Uploaded → List Slot → Type 0
  PrintsBook l u slots = Prints contents old new result (book_rows l u slots)
