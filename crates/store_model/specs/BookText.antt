-- The printed text of a catalog.
use Rattle.std.specs.Prelude.{ℕ, ◌==◌, ◌&&◌, [], ◌∷◌, ◌++◌, length, filter, codes}
use Rattle.std.specs.Option.{option_map_or}
use Rattle.std.specs.List.{flat_map, enumerate_from}
use Rattle.std.specs.Fmt.{decimal}
use Rattle.std.specs.FinMap as fmap
use Rattle.spec_lib.specs.Sets as set
use Rattle.oci_manifest.specs.Manifests.{refs_of}
use Rattle.spec_lib.specs.Texts.{Text, same_text}
use Rattle.store_model.specs.Catalog.{Link, SessionNumber, Tenant, Session, Catalog, is_repo_of, used_bytes, blob_length, link_count, received_length, next_number_of}

-- a text as a line, with its line feed
abbrev pub line : Text → Text
line text = text ++ 10 ∷ []

-- ---- the lines

-- the first line of the text
abbrev pub book_line : Text
book_line = line (codes "book")

-- the line of a tenant: its name, use, quota and next session number
abbrev pub tenant_line : Text → ℕ → ℕ → ℕ → Text
tenant_line name used quota next = line (codes "tenant " ++ name ++ codes " used " ++ decimal used ++ codes " quota " ++ decimal quota ++ codes " next " ++ decimal next)

-- the line of a repository
abbrev pub repository_line : Text → Text
repository_line repo = line (codes "repository " ++ repo)

-- the line of a linked blob: its digest, its size and its number of links
abbrev pub blob_line : Text → ℕ → ℕ → Text
blob_line digest size links = line (codes "blob " ++ digest ++ codes " size " ++ decimal size ++ codes " links " ++ decimal links)

-- the line of a manifest: its digest, its size and its number of references
abbrev pub manifest_line : Text → ℕ → ℕ → Text
manifest_line digest size refs = line (codes "manifest " ++ digest ++ codes " size " ++ decimal size ++ codes " refs " ++ decimal refs)

-- the line of a session: its number and the number of bytes received
abbrev pub session_line : ℕ → ℕ → Text
session_line number received = line (codes "session " ++ decimal number ++ codes " received " ++ decimal received)

-- the last line of the text
abbrev pub end_line : Text
end_line = line (codes "end")

-- ---- the book

-- the line of a link's blob in a catalog
abbrev pub blob_text : Catalog → Link → Text
blob_text C l = blob_line l.1 (blob_length C l.1) (link_count C l.1)

-- the line of a manifest from its digest and bytes
abbrev pub manifest_row : Text × Text → Text
manifest_row e = manifest_line e.0 (length e.1) (option_map_or length (refs_of e.1) 0)

-- the line of a repository's manifest
abbrev pub manifest_text : Link × Text → Text
manifest_text e = manifest_row (e.0.1, e.1)

-- the line of an open session
abbrev pub session_text : SessionNumber × Session → Text
session_text e = session_line e.0.1 (received_length e.1)

-- the lines of a repository, its links, its manifests and its sessions, in the order of the maps
abbrev pub repo_text : Catalog → ℕ → Text → Text
repo_text C t repo =
    repository_line repo
    ++ flat_map (blob_text C) (filter (λ l. same_text l.0 repo) (set.items C.links))
    ++ flat_map manifest_text (filter (λ e. same_text e.0.0 repo) (fmap.entries C.manifests))
    ++ flat_map session_text (filter (λ e. e.0.0 == t && same_text e.1.repo repo) (fmap.entries C.sessions))

-- the lines of a tenant and its repositories
abbrev pub tenant_text : Catalog → ℕ × Tenant → Text
tenant_text C e =
    tenant_line e.1.name (used_bytes C e.0) e.1.quota (next_number_of C e.0)
    ++ flat_map (repo_text C e.0) (filter (is_repo_of C e.0) (set.items C.repos))

-- the text of a catalog
abbrev pub book_text : Catalog → Text
book_text C = book_line ++ flat_map (tenant_text C) (enumerate_from 0 C.tenants) ++ end_line
