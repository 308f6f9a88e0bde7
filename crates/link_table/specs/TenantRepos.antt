-- The repositories of one tenant, and those of all tenants together.
use Rattle.std.specs.Prelude.{◌≡◌, ℕ, Bool, ◌&&◌, not, nat_le, List, length, map, filter, slice_get, Some, true, Ok, Err, if◌then◌else◌}
use Rattle.std.proofs.Common.{refl}
use Rattle.std.specs.List.{flat_map}
use Rattle.std.specs.FinMap as fmap
use Rattle.std.specs.Coded.{Coded, code_by, coded×, coded_ℕ}
use Rattle.spec_lib.specs.Texts.{Text, text_cmp, same_text, coded_text}
use Rattle.blob_digest.specs.Keys.{link_cmp, coded_link}
use Rattle.blob_digest.specs.Outcomes.{OutcomeIn}
use Rattle.spec_lib.specs.Sets as set
use Rattle.blob_digest.specs.declared.refusal.Refusal.TheVariants.{LimitReached}
use Rattle.link_table.specs.Linked.{Tenant, is_repo_of_tenant}

-- the repositories of one tenant, and their links with the sizes of the blobs
pub record OwnRepos : Type 0 where
  pub repos : set.Set text_cmp
  pub links : fmap.FinMap link_cmp ℕ

-- the code of a tenant's repositories, which a model's value needs
abbrev pub coded_own_repos : Coded OwnRepos
coded_own_repos = code_by (set.Set text_cmp × fmap.FinMap link_cmp ℕ) (coded× (set.code coded_text) (fmap.code coded_link coded_ℕ)) (λ s. (s.repos, s.links)) (λ p. record { repos = p.0; links = p.1 }) (λ _. refl)

-- a tenant without repositories
abbrev pub empty_tenant : OwnRepos
empty_tenant = record { repos = set.empty_set; links = fmap.empty }

-- the number of repositories
abbrev pub repo_count : OwnRepos → ℕ
repo_count s = length (set.items s.repos)

-- the tenant with this repository and whether it is new, or `LimitReached` if it has n others, its limit
abbrev pub appear_on : ℕ → OwnRepos → Text → OutcomeIn OwnRepos Bool
appear_on n s repo = if not (set.contains s.repos repo) && nat_le n (repo_count s) then Err LimitReached else Ok (not (set.contains s.repos repo), record s { repos = set.insert s.repos repo })

-- the repository holds no blob of this digest yet
abbrev pub is_new_link : OwnRepos → Text → Text → Bool
is_new_link s repo digest = not (fmap.contains_key s.links (repo, digest))

-- the tenant with one more link
abbrev pub link_on : OwnRepos → Text → Text → ℕ → OwnRepos
link_on s repo digest size = record s { links = fmap.insert s.links (repo, digest) size }

-- the tenant without a link
abbrev pub unlink_on : OwnRepos → Text → Text → OwnRepos
unlink_on s repo digest = record s { links = fmap.remove s.links (repo, digest) }

-- the blobs of a repository, in the order of their digests, each with its size
abbrev pub blobs_on : OwnRepos → Text → List (Text × ℕ)
blobs_on s repo = map (λ e. (e.0.1, e.1)) (filter (λ e. same_text e.0.0 repo) (fmap.entries s.links))

-- ---- all tenants together

-- the repositories of all tenants
abbrev pub repos_shown : List OwnRepos → set.Set text_cmp
repos_shown by_tenant = fmap.from_entries (flat_map (λ s. fmap.entries s.repos) by_tenant)

-- the links of all tenants
abbrev pub links_shown : List OwnRepos → fmap.FinMap link_cmp ℕ
links_shown by_tenant = fmap.from_entries (flat_map (λ s. fmap.entries s.links) by_tenant)

-- each tenant has only repositories of its own, and each link's repository exists
pub record IsOwned (tenants : List Tenant) (by_tenant : List OwnRepos) : Type 0 where
  pub one_each : length by_tenant ≡ length tenants
  pub own : (t : ℕ) (s : OwnRepos) (r : Text) → slice_get by_tenant t ≡ Some s → set.contains s.repos r ≡ true → is_repo_of_tenant tenants t r ≡ true
  pub known : (t : ℕ) (s : OwnRepos) (r d : Text) → slice_get by_tenant t ≡ Some s → fmap.contains_key s.links (r, d) ≡ true → set.contains s.repos r ≡ true
