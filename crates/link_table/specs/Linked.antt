-- The state of a table of links: tenants with quotas, repositories, links with the sizes of their blobs, manifests, and charges.
use Rattle.std.specs.Prelude.{◌≡◌, ℕ, ◌+◌, ◌-◌, ◌&&◌, ◌||◌, not, nat_le, nat_lt, Bool, Option, Some, None, Result, Ok, Err, List, [], ◌∷◌, length, map, filter, sum_by, slice_get, slice_index, slice_set, replicate, if◌then◌else◌}
use Rattle.std.proofs.Common.{refl}
use Rattle.std.specs.List.{find, list_any}
use Rattle.std.specs.Option.{option_map, option_map_or, ok_or}
use Rattle.std.specs.FinMap as fmap
use Rattle.std.specs.Coded.{Coded, code_by, coded×, coded_ℕ, coded_list}
use Rattle.spec_lib.specs.Sets as set
use Rattle.spec_lib.specs.Texts.{Text, text_cmp, same_text, coded_text}
use Rattle.blob_digest.specs.Keys.{Link, link_cmp, coded_link}
use Rattle.blob_digest.specs.Outcomes.{OutcomeIn}
use Rattle.spec_lib.specs.Outcomes.{refuse, ◌>>=◌}
use Rattle.blob_digest.specs.declared.refusal.Refusal.{Refusal}
use Rattle.blob_digest.specs.declared.refusal.Refusal.TheVariants.{LimitReached, NameUnknown, Quota}
use Rattle.link_table.specs.ManifestTable.{ManifestBytes, put_on}
pub use Rattle.blob_digest.specs.Tenants.{Tenant, Limits, no_tenant, tenant_of, is_repo_of_tenant, tenant_repo_count, coded_tenant}

-- tenants in the order of their numbers, the existing repositories, the links with the sizes of their blobs, the manifests, and each tenant's charge in bytes
pub record Linked : Type 0 where
  pub tenants : List Tenant
  pub repos : set.Set text_cmp
  pub links : fmap.FinMap link_cmp ℕ
  pub manifests : ManifestBytes
  pub charges : List ℕ

-- the code of a table, which a model's value needs
abbrev pub coded_linked : Coded Linked
coded_linked = code_by (List Tenant × (set.Set text_cmp × (fmap.FinMap link_cmp ℕ × (ManifestBytes × List ℕ)))) (coded× (coded_list coded_tenant) (coded× (set.code coded_text) (coded× (fmap.code coded_link coded_ℕ) (coded× (fmap.code coded_link coded_text) (coded_list coded_ℕ))))) (λ l. (l.tenants, (l.repos, (l.links, (l.manifests, l.charges))))) (λ p. record { tenants = p.0; repos = p.1.0; links = p.1.1.0; manifests = p.1.1.1.0; charges = p.1.1.1.1 }) (λ _. refl)

-- ---- one tenant

-- the name of a tenant, if there is one
abbrev pub name_at : List Tenant → ℕ → Option Text
name_at tenants t = option_map (λ x. x.name) (slice_get tenants t)

-- a tenant's quota in bytes
abbrev pub quota_in : List Tenant → ℕ → ℕ
quota_in tenants t = option_map_or (λ x. x.quota) (slice_get tenants t) 0

-- a tenant's share of the slots: the maximum number of distinct blobs of its repositories
abbrev pub share_in : List Tenant → ℕ → ℕ
share_in tenants t = option_map_or (λ x. x.share) (slice_get tenants t) 0

-- the limits of a tenant
abbrev pub limits_in : List Tenant → ℕ → Limits
limits_in tenants t = option_map_or (λ x. x.limits) (slice_get tenants t) no_tenant.limits

-- ---- sizes and usage

-- the digest and the size of each link whose repository passes the test
abbrev pub digest_sizes : (Text → Bool) → List (Link × ℕ) → List (Text × ℕ)
digest_sizes passes [] = []
digest_sizes passes (e ∷ es) = if passes e.0.0 then (e.0.1, e.1) ∷ digest_sizes passes es else digest_sizes passes es

-- the blobs of the repositories that pass the test, each digest once, with its size
abbrev pub blobs : (Text → Bool) → fmap.FinMap link_cmp ℕ → fmap.FinMap text_cmp ℕ
blobs passes links = fmap.from_entries (digest_sizes passes (fmap.entries links))

-- the sum of the sizes
abbrev pub total_size : fmap.FinMap text_cmp ℕ → ℕ
total_size m = sum_by (λ e. e.1) (fmap.entries m)

-- the blobs of a tenant's repositories, each digest once, with its size
abbrev pub blobs_of : Linked → ℕ → fmap.FinMap text_cmp ℕ
blobs_of l t = blobs (is_repo_of_tenant l.tenants t) l.links

-- a tenant's usage: the size of each blob of its repositories, counted once, plus its charge
abbrev pub used_in : Linked → ℕ → ℕ
used_in l t = total_size (blobs_of l t) + slice_index l.charges t

-- all links to a digest have the same size
abbrev pub HasOneSize : fmap.FinMap link_cmp ℕ → Type 0
HasOneSize links = (r s d : Text) (m n : ℕ) → fmap.get links (r, d) ≡ Some m → fmap.get links (s, d) ≡ Some n → m ≡ n

-- whether a digest is new to a tenant whose repositories contain as many distinct blobs as its share
abbrev pub passes_share : Linked → ℕ → Text → Bool
passes_share l t digest = not (fmap.contains_key (blobs_of l t) digest) && nat_le (share_in l.tenants t) (fmap.len (blobs_of l t))

-- every link to this digest has this size
abbrev pub IsSizeOf : fmap.FinMap link_cmp ℕ → Text → ℕ → Type 0
IsSizeOf links d n = (r : Text) (m : ℕ) → fmap.get links (r, d) ≡ Some m → m ≡ n

-- the repository has no link
abbrev pub HasNoLinks : fmap.FinMap link_cmp ℕ → Text → Type 0
HasNoLinks links r = (d : Text) → fmap.get links (r, d) ≡ None

-- ---- queries

-- a tenant's repositories, in the order of their names
abbrev pub repos_of : Linked → ℕ → List Text
repos_of l t = filter (is_repo_of_tenant l.tenants t) (set.items l.repos)

-- the blobs of a repository, in the order of their digests, each with its size
abbrev pub blobs_in : Linked → Text → List (Text × ℕ)
blobs_in l repo = map (λ e. (e.0.1, e.1)) (filter (λ e. same_text e.0.0 repo) (fmap.entries l.links))

-- the first of these digests that the repository does not contain
abbrev pub first_unlinked : fmap.FinMap link_cmp ℕ → Text → List Text → Option Text
first_unlinked links repo digests = find (λ d. not (fmap.contains_key links (repo, d))) digests

-- whether a repository has a link
abbrev pub has_links : Linked → Text → Bool
has_links l repo = list_any (λ k. same_text k.0 repo) (fmap.keys l.links)

-- whether a repository has a manifest
abbrev pub has_manifests : Linked → Text → Bool
has_manifests l repo = list_any (λ k. same_text k.0 repo) (fmap.keys l.manifests)

-- whether a repository has a link or a manifest
abbrev pub has_contents : Linked → Text → Bool
has_contents l repo = has_links l repo || has_manifests l repo

-- ---- changes

-- the table of these tenants, without repositories
abbrev pub initial_links : List Tenant → Linked
initial_links tenants = record { tenants = tenants; repos = set.empty_set; links = fmap.empty; manifests = fmap.empty; charges = replicate (length tenants) 0 }

-- the number of a repository's tenant, or `NameUnknown` if there is none
abbrev pub known_tenant : Linked → Text → Result ℕ Refusal
known_tenant l repo = ok_or (tenant_of l.tenants repo) NameUnknown

-- the repository is new, and its tenant has as many as its limit
abbrev pub cannot_appear : Linked → ℕ → Text → Bool
cannot_appear l t repo = not (set.contains l.repos repo) && nat_le (limits_in l.tenants t).repos (tenant_repo_count l.tenants l.repos t)

-- the table with this repository, and whether it is new
abbrev pub appear : Linked → ℕ → Text → OutcomeIn Linked Bool
appear l t repo = if cannot_appear l t repo then Err LimitReached else Ok (not (set.contains l.repos repo), record l { repos = set.insert l.repos repo })

-- the table without this repository
abbrev pub vanish : Linked → Text → Linked
vanish l repo = record l { repos = set.remove l.repos repo }

-- the table with this link, and whether it is new
abbrev pub link : Linked → Text → Text → ℕ → OutcomeIn Linked Bool
link l repo digest size = Ok (not (fmap.contains_key l.links (repo, digest)), record l { links = fmap.insert l.links (repo, digest) size })

-- the table without this link
abbrev pub unlink : Linked → Text → Text → Linked
unlink l repo digest = record l { links = fmap.remove l.links (repo, digest) }

-- the table with these manifests
abbrev pub with_manifests : Linked → ManifestBytes → Linked
with_manifests l manifests = record l { manifests = manifests }

-- the table with this manifest of a tenant, or `LimitReached` if the repository has as many others as the tenant's limit
abbrev pub put_manifest : Linked → ℕ → Text → Text → OutcomeIn Linked (Unit {0})
put_manifest l t repo bytes = do
  r ← put_on (limits_in l.tenants t).manifests l.manifests repo bytes
  Ok (tt {0}, with_manifests l r.1)

-- the table without this manifest
abbrev pub drop_manifest : Linked → Text → Text → Linked
drop_manifest l repo digest = with_manifests l (fmap.remove l.manifests (repo, digest))

-- the table with the tenant's charge raised by n bytes
abbrev pub with_charge : Linked → ℕ → ℕ → Linked
with_charge l t n = record l { charges = slice_set l.charges t (slice_index l.charges t + n) }

-- the table with this charge, or `Quota` if the usage and the charge together exceed the quota
abbrev pub charge : Linked → ℕ → ℕ → OutcomeIn Linked (Unit {0})
charge l t n = do
  _ ← refuse (nat_lt (quota_in l.tenants t) (used_in l t + n)) (Quota (used_in l t) (quota_in l.tenants t))
  Ok (tt {0}, with_charge l t n)

-- the table with the tenant's charge lowered by n bytes
abbrev pub discharge : Linked → ℕ → ℕ → Linked
discharge l t n = record l { charges = slice_set l.charges t (slice_index l.charges t - n) }
