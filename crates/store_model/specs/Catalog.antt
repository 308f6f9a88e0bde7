-- The catalog: the abstract state of a store, and its counts. Names and digests are texts; a tenant is its number, which is its position in the list of tenants.
use Rattle.std.specs.Prelude.{ℕ, ◌+◌, ◌&&◌, Bool, false, List, length, filter, map, sum_by, count_by, slice_get, slice_index, if◌then◌else◌}
use Rattle.std.specs.Option.{option_map_or}
use Rattle.std.proofs.Common.{refl}
use Rattle.std.specs.List.{list_any}
use Rattle.std.specs.FinMap as fmap
use Rattle.std.specs.Coded.{Coded, code_by, coded×, coded_ℕ, coded_bool, coded_list}
use Rattle.spec_lib.specs.Sets as set
use Rattle.spec_lib.specs.Texts.{Text, text_cmp, same_text, coded_text}
pub use Rattle.blob_digest.specs.Names.{tenant_name}
pub use Rattle.blob_digest.specs.Keys.{Link, SessionNumber, link_cmp, session_number_cmp, coded_link}
pub use Rattle.blob_digest.specs.Tenants.{Tenant, Limits, no_tenant, tenant_of, is_repo_of_tenant, tenant_repo_count, coded_tenant}
pub use Rattle.store_model.specs.Sessions.{Chunks, CheckedIn, CheckedOutWith, Session, HandRecord, charged_length, received_length, session_charge, open_count_in, coded_session}

-- ---- the state of a store

-- a stored blob, whether it is condemned, and whether it was leased since it was stored
pub record Resident : Type 0 where
  pub bytes : Text
  pub condemned : Bool
  pub lent : Bool

-- how a store keeps contents
pub record ContentRules : Type 0 where
  -- the maximum length of a blob in bytes
  pub max_blob : ℕ
  -- whether they lie on disk, where they are not compared byte by byte
  pub on_disk : Bool

-- The abstract state of a store.
pub record Catalog : Type 0 where
  -- the tenants, in the order of their numbers
  pub tenants : List Tenant
  -- the number of slots
  pub slots : ℕ
  -- how contents are kept
  pub contents : ContentRules
  -- the repositories
  pub repos : set.Set text_cmp
  -- the links: pairs of a repository and a digest that it contains
  pub links : set.Set link_cmp
  -- the manifests, by repository and digest
  pub manifests : fmap.FinMap link_cmp Text
  -- the open sessions, by tenant and number
  pub sessions : fmap.FinMap session_number_cmp Session
  -- each tenant's next session number
  pub next : List ℕ
  -- the stored blobs, by digest
  pub residents : fmap.FinMap text_cmp Resident
  -- the number of retired slots
  pub retired : ℕ

-- ---- tenants of repositories

-- whether a repository belongs to the tenant t
abbrev pub is_repo_of : Catalog → ℕ → Text → Bool
is_repo_of C t repo = is_repo_of_tenant C.tenants t repo

-- the number of bytes that a tenant may use
abbrev pub quota_of : Catalog → ℕ → ℕ
quota_of C t = option_map_or (λ x. x.quota) (slice_get C.tenants t) 0

-- the number of distinct blobs that a tenant's repositories may contain
abbrev pub share_of : Catalog → ℕ → ℕ
share_of C t = option_map_or (λ x. x.share) (slice_get C.tenants t) 0

-- the limits of a tenant
abbrev pub limits_of : Catalog → ℕ → Limits
limits_of C t = option_map_or (λ x. x.limits) (slice_get C.tenants t) no_tenant.limits

-- ---- counts and uses

-- whether a repository contains a digest
abbrev pub holds : Catalog → Text → Text → Bool
holds C repo digest = set.contains C.links (repo, digest)

-- whether some repository of a tenant contains a digest
abbrev pub tenant_holds : Catalog → ℕ → Text → Bool
tenant_holds C t digest = list_any (λ r. is_repo_of C t r && holds C r digest) (set.items C.repos)

-- the number of repositories that contain a digest
abbrev pub link_count : Catalog → Text → ℕ
link_count C digest = count_by (λ r. holds C r digest) (set.items C.repos)

-- the length of a stored blob
abbrev pub blob_length : Catalog → Text → ℕ
blob_length C digest = option_map_or (λ b. length b.bytes) (fmap.get C.residents digest) 0

-- the number of bytes that a tenant's sessions have received and reserved
abbrev pub session_charges_of : Catalog → ℕ → ℕ
session_charges_of C t = sum_by (session_charge t) (fmap.entries C.sessions)

-- the number of bytes that one stored blob adds to a tenant's use
abbrev pub blob_share : Catalog → ℕ → Text × Resident → ℕ
blob_share C t e = if tenant_holds C t e.0 then length e.1.bytes else 0

-- a tenant's use: the length of each blob that its repositories contain, counted once, plus its sessions' bytes
abbrev pub used_bytes : Catalog → ℕ → ℕ
used_bytes C t = sum_by (blob_share C t) (fmap.entries C.residents) + session_charges_of C t

-- the digests that a tenant's repositories contain, each once
abbrev pub held_digests : Catalog → ℕ → set.Set text_cmp
held_digests C t = set.from_list (map (λ l. l.1) (filter (λ l. is_repo_of C t l.0) (set.items C.links)))

-- the number of distinct blobs that a tenant's repositories contain
abbrev pub held_count : Catalog → ℕ → ℕ
held_count C t = length (set.items (held_digests C t))

-- the number of a tenant's open sessions
abbrev pub open_sessions : Catalog → ℕ → ℕ
open_sessions C t = open_count_in C.sessions t

-- the number of a tenant's repositories
abbrev pub repos_of : Catalog → ℕ → ℕ
repos_of C t = tenant_repo_count C.tenants C.repos t

-- the number of a repository's manifests
abbrev pub manifests_of : Catalog → Text → ℕ
manifests_of C repo = count_by (λ e. same_text e.0.0 repo) (fmap.entries C.manifests)

-- the number of a tenant's next session
abbrev pub next_number_of : Catalog → ℕ → ℕ
next_number_of C t = slice_index C.next t

-- contents lie in memory, and a blob has at most this many bytes
abbrev pub in_memory : ℕ → ContentRules
in_memory max_blob = record { max_blob = max_blob; on_disk = false }

-- the catalog of a new store
abbrev pub opening : List Tenant → ℕ → ContentRules → Catalog
opening tenants slots contents = record {
  tenants = tenants;
  slots = slots;
  contents = contents;
  repos = set.empty_set;
  links = set.empty_set;
  manifests = fmap.empty;
  sessions = fmap.empty;
  next = map (λ _. 1) tenants;
  residents = fmap.empty;
  retired = 0;
}

-- ---- the encodings by which proofs compare catalogs

-- the encoding of stored blobs
abbrev pub coded_resident : Coded Resident
coded_resident = code_by (Text × (Bool × Bool)) (coded× coded_text (coded× coded_bool coded_bool)) (λ b. (b.bytes, (b.condemned, b.lent))) (λ p. record { bytes = p.0; condemned = p.1.0; lent = p.1.1 }) (λ _. refl)

-- the encoding of the rules of contents
abbrev pub coded_rules : Coded ContentRules
coded_rules = code_by (ℕ × Bool) (coded× coded_ℕ coded_bool) (λ r. (r.max_blob, r.on_disk)) (λ p. record { max_blob = p.0; on_disk = p.1 }) (λ _. refl)

-- the fields of a catalog as nested pairs
abbrev pub CatalogFields : Type 0
CatalogFields = (List Tenant × (ℕ × ContentRules)) × ((set.Set text_cmp × (set.Set link_cmp × fmap.FinMap link_cmp Text)) × ((fmap.FinMap session_number_cmp Session × List ℕ) × (fmap.FinMap text_cmp Resident × ℕ)))

-- the nested pairs of a catalog
abbrev pub catalog_fields_of : Catalog → CatalogFields
catalog_fields_of C = ((C.tenants, (C.slots, C.contents)), ((C.repos, (C.links, C.manifests)), ((C.sessions, C.next), (C.residents, C.retired))))

-- the catalog of nested pairs
abbrev pub catalog_of_fields : CatalogFields → Catalog
catalog_of_fields p = record {
  tenants = p.0.0;
  slots = p.0.1.0;
  contents = p.0.1.1;
  repos = p.1.0.0;
  links = p.1.0.1.0;
  manifests = p.1.0.1.1;
  sessions = p.1.1.0.0;
  next = p.1.1.0.1;
  residents = p.1.1.1.0;
  retired = p.1.1.1.1;
}

-- the encoding of catalogs
abbrev pub coded_catalog : Coded Catalog
coded_catalog =
    code_by CatalogFields
    (coded× (coded× (coded_list coded_tenant) (coded× coded_ℕ coded_rules))
    (coded× (coded× (set.code coded_text) (coded× (set.code coded_link) (fmap.code coded_link coded_text)))
    (coded× (coded× (fmap.code (coded× coded_ℕ coded_ℕ) coded_session) (coded_list coded_ℕ)) (coded× (fmap.code coded_text coded_resident) coded_ℕ))))
    catalog_fields_of catalog_of_fields (λ _. refl)
