-- Adding a repository, or one that exists already, keeps the catalog well-formed and every use unchanged.
use Rattle.std.proofs.Common.{◌≡◌, ◌≢◌, ℕ, ◌+◌, ◌<◌, ◌≤◌, Bool, true, false, cond, not, length, Some, is_some, refl, sym, ap, ◌∙◌, subst, arith, inl, inr, ⊎_elim}
use Rattle.std.specs.Prelude.{◌&&◌, nat_le, nat_lt, IsSome, if◌then◌else◌}
use Rattle.std.specs.List.{sum_by, count_by, list_any}
use Rattle.std.specs.Cmp.Lexicographic.{nat_list_cmp_total}
use Rattle.std.specs.FinMap.{entries, get}
use Rattle.std.proofs.lemmas.Bool.{cases_eq, leb-false, eq-eqb, ne_eqb, true≢false, false_from_ne_true, and_right}
use Rattle.std.proofs.lemmas.Map.Lookups.{exact_bytes}
use Rattle.spec_lib.specs.Sets as set
use Rattle.spec_lib.specs.Texts.{Text, text_cmp}
use Rattle.store_model.specs.Catalog.{Catalog, is_repo_of, tenant_of, repos_of, holds, tenant_holds, blob_share, used_bytes, limits_of}
use Rattle.store_model.specs.Commands.{lacks_room_for}
use Rattle.store_model.specs.Invariant.{WellFormed}
use Rattle.spec_lib.proofs.Sets.{insert_there, still, member}
use Rattle.spec_lib.proofs.Rows.{sum_by-map}
use Rattle.spec_lib.proofs.Sums.{sum_new}
use Rattle.spec_lib.proofs.Lists.{list_any_count}
use Rattle.spec_lib.proofs.Options.{no_value}
use Rattle.blob_digest.specs.Tenants.{greatest_limits}
use Rattle.store_model.proofs.Invariant.TenantLimits.{limits_supported}

second : (a b : Bool) → a ≡ false → (not a && b) ≡ false → b ≡ false
second true b e h = absurd (true≢false e)
second false b e h = h

at_most_one : (b : Bool) → cond {A = ℕ} b 1 0 ≤ 1
at_most_one true = omega arith
at_most_one false = omega arith

-- a repository belongs to its tenant, and to no other
pub is_own : (C : Catalog) (t : ℕ) (r : Text) → tenant_of C.tenants r ≡ Some t → is_repo_of C t r ≡ true
is_own C t r known = rw known (eq-eqb t t refl)

pub is_no_other : (C : Catalog) (t u : ℕ) (r : Text) → tenant_of C.tenants r ≡ Some t → u ≢ t → is_repo_of C u r ≡ false
is_no_other C t u r known other = rw known (ne_eqb t u (λ e. other (sym e)))

-- the members that pass, with a new one
pub count_new : (p : Text → Bool) (s : set.Set text_cmp) (r : Text) → set.contains s r ≡ false → count_by p (set.items (set.insert s r)) ≡ cond (p r) 1 0 + count_by p (set.items s)
count_new p s r none =
    let one : Text → ℕ = λ q. cond (p q) 1 0 in
    sum_by-map one (λ (e : Text × Unit {0}). e.0) (entries (set.insert s r))
    ∙ sum_new nat_list_cmp_total exact_bytes (λ (e : Text × Unit {0}). cond (p e.0) 1 0) s r tt (no_value (get s r) none)
    ∙ ap (λ n. cond (p r) 1 0 + n) (sym (sum_by-map one (λ (e : Text × Unit {0}). e.0) (entries s)))

-- a repository that does not exist contains nothing
pub holds_none : (C : Catalog) (r : Text) → WellFormed C → set.contains C.repos r ≡ false → (d : Text) → holds C r d ≡ false
holds_none C r lawful none d = false_from_ne_true (holds C r d) (λ h. true≢false (sym (lawful.links (r, d) h).repo ∙ none))

module _ (C : Catalog) (t : ℕ) (r : Text) (lawful : WellFormed C) (known : tenant_of C.tenants r ≡ Some t) where
  abbrev after : Catalog
  after = record C { repos = set.insert C.repos r }

  pub repos-appear : (u : ℕ) → lacks_room_for C t r ≡ false → repos_of after u ≤ greatest_limits.repos
  repos-appear u room = elim (set.contains C.repos r) as (λ b. set.contains C.repos r ≡ b → repos_of after u ≤ greatest_limits.repos) [
    | true ↦ λ old. rw (insert_there nat_list_cmp_total exact_bytes C.repos r old) (lawful.repositories.few u)
    | false ↦ λ none.
        let sum : repos_of after u ≡ cond (is_repo_of C u r) 1 0 + repos_of C u = count_new (is_repo_of C u) C.repos r none in
        let before = lawful.repositories.few u in
        let limit : ℕ = (limits_of C t).repos in
        let few : repos_of C t < limit = leb-false limit (repos_of C t) (second (set.contains C.repos r) (nat_le limit (repos_of C t)) none room) in
        let supported : limit ≤ greatest_limits.repos = (limits_supported C lawful t).repos in
        elim (cases_eq u t) [
          | inl e ↦ let same : repos_of C u ≡ repos_of C t = ap (repos_of C) e in let one = at_most_one (is_repo_of C u r) in omega arith
          | inr other ↦ let none : cond {A = ℕ} (is_repo_of C u r) 1 0 ≡ 0 = ap (λ b. cond b 1 0) (is_no_other C t u r known other) in omega arith
        ]
  ] refl

  pub WellFormed-appear : length r ≤ 255 → lacks_room_for C t r ≡ false → WellFormed after
  WellFormed-appear short room = record {
    content = lawful.content;
    links = λ l h. let k = lawful.links l h in record { repo = still nat_list_cmp_total exact_bytes C.repos r l.0 k.repo; kept = k.kept };
    manifests = λ l bytes h. let k = lawful.manifests l bytes h in record { repo = still nat_list_cmp_total exact_bytes C.repos r l.0 k.repo; name = k.name; small = k.small; refs = k.refs };
    sessions = λ key s h. let k = lawful.sessions key s h in record { repo = still nat_list_cmp_total exact_bytes C.repos r s.repo k.repo; tenant = k.tenant; chunks = k.chunks; small = k.small; positive = k.positive; number = k.number };
    repositories = record {
      owned = λ q h. ⊎_elim (λ e. subst (λ (x : Text). IsSome (tenant_of C.tenants x)) (sym e) (ap is_some known)) (lawful.repositories.owned q) (member nat_list_cmp_total exact_bytes C.repos r q h);
      few = λ u. repos-appear u room;
      short_names = λ q h. ⊎_elim (λ e. subst (λ (x : Text). length x ≤ 255) (sym e) short) (lawful.repositories.short_names q) (member nat_list_cmp_total exact_bytes C.repos r q h);
    };
    numbering = lawful.numbering;
    limits = lawful.limits;
    few_sessions = lawful.few_sessions;
    few_manifests = lawful.few_manifests;
  }

  held_alike : (u : ℕ) (d : Text) → tenant_holds after u d ≡ tenant_holds C u d
  held_alike u d = elim (set.contains C.repos r) as (λ b. set.contains C.repos r ≡ b → tenant_holds after u d ≡ tenant_holds C u d) [
    | true ↦ λ old. ap (λ s. list_any (λ q. is_repo_of C u q && holds C q d) (set.items s)) (insert_there nat_list_cmp_total exact_bytes C.repos r old)
    | false ↦ λ none.
        let p : Text → Bool = λ q. is_repo_of C u q && holds C q d in
        let no : p r ≡ false = and_right (is_repo_of C u r) (holds C r d) (holds_none C r lawful none d) in
        let sum : count_by p (set.items after.repos) ≡ count_by p (set.items C.repos) = count_new p C.repos r none ∙ ap (λ b. cond {A = ℕ} b 1 0 + count_by p (set.items C.repos)) no ∙ omega arith in
        list_any_count p (set.items after.repos) ∙ ap (nat_lt 0) sum ∙ sym (list_any_count p (set.items C.repos))
  ] refl

  pub used_bytes-appear : (u : ℕ) → used_bytes after u ≡ used_bytes C u
  used_bytes-appear u =
      let blobs : sum_by (blob_share after u) (entries C.residents) ≡ sum_by (blob_share C u) (entries C.residents) = λ i. sum_by (λ e. if held_alike u e.0 i then length e.1.bytes else 0) (entries C.residents) in
      omega arith
