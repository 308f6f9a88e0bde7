-- The repositories and links of all tenants, from those of each.
use Rattle.std.proofs.Common.{◌≡◌, ℕ, true, false, cond, List, [], ◌∷◌, length, map, filter, Option, Some, None, is_some, refl, sym, ap, ◌∙◌, set, inl, inr}
use Prim.Native.Nat.{zero, suc}
use Rattle.std.specs.Prelude.{slice_get, ◌⊎◌}
use Rattle.std.specs.Ordering.{eq_by_cmp}
use Rattle.std.specs.Cmp.Lexicographic.{nat_list_cmp_total}
use Rattle.std.specs.List.{flat_map}
use Rattle.std.specs.FinMap as fmap
use Rattle.std.specs.FinMap.{get, entries, insert, remove, empty, get-entries, get-from_entries, get-empty, get-insert, get-remove}
use Rattle.std.specs.FinMap.Entries.{where_key}
use Rattle.std.proofs.lemmas.Bool.{true≢false}
use Rattle.std.proofs.lemmas.List.{length-set}
use Rattle.std.proofs.lemmas.List.Sums.{length-filter}
use Rattle.std.proofs.lemmas.Map.Lookups.{exact_bytes}
use Rattle.spec_lib.specs.Sets as sets
use Rattle.spec_lib.specs.Texts.{Text, text_cmp, same_text}
use Rattle.blob_digest.specs.Keys.{Link, link_cmp}
use Rattle.blob_digest.specs.Tenants.{tenant_repo_count}
use Rattle.blob_digest.proofs.KeyOrders.{link_cmp_total, exact_link}
use Rattle.spec_lib.proofs.Texts.{text_is_same}
use Rattle.spec_lib.proofs.Lists.{filter-map}
use Rattle.spec_lib.proofs.Options.{some_same, some_none, not_some, option_eq_some}
use Rattle.spec_lib.proofs.Rows.{entries-empty}
use Rattle.link_table.specs.Linked.{Tenant, is_repo_of_tenant, tenant_of}
use Rattle.link_table.specs.TenantRepos.{OwnRepos, IsOwned, repos_shown, links_shown, blobs_on, repo_count}
use Rattle.spec_lib.proofs.Parts.{find_nowhere, find_in_part, find-set_part, flat_map-same, insert_by, remove_by, where_key-agree, where_key-all}

-- a repository has one tenant
one_tenant : (tenants : List Tenant) (t u : ℕ) (r : Text) → is_repo_of_tenant tenants t r ≡ true → is_repo_of_tenant tenants u r ≡ true → u ≡ t
one_tenant tenants t u r a b = some_same (sym (option_eq_some (tenant_of tenants r) u b) ∙ option_eq_some (tenant_of tenants r) t a)

-- an element of a list after one was put there
after_set : {A : Type 0} (xs : List A) (t : ℕ) (new : A) (j : ℕ) (u : A) → slice_get (set xs t new) j ≡ Some u → ((j ≡ t) × (u ≡ new)) ⊎ (slice_get xs j ≡ Some u)
after_set [] t new j u at = some_none (sym at)
after_set (x ∷ xs) zero new zero u at = inl (refl, sym (some_same at))
after_set (x ∷ xs) zero new (suc j) u at = inr at
after_set (x ∷ xs) (suc t) new zero u at = inr at
after_set (x ∷ xs) (suc t) new (suc j) u at = later (after_set xs t new j u at)
  where
    later : ((j ≡ t) × (u ≡ new)) ⊎ (slice_get xs j ≡ Some u) → ((suc j ≡ suc t) × (u ≡ new)) ⊎ (slice_get xs j ≡ Some u)
    later (inl e) = inl (ap suc e.0, e.1)
    later (inr e) = inr e

module _ (tenants : List Tenant) (by_tenant : List OwnRepos) (owned : IsOwned tenants by_tenant) where
  -- a repository of no tenant has no links
  module _ (r : Text) (none : (t : ℕ) → is_repo_of_tenant tenants t r ≡ false) where
    unlinked : (d : Text) (j : ℕ) (u : OwnRepos) → slice_get by_tenant j ≡ Some u → get u.links (r, d) ≡ None
    unlinked d j u at = not_some (get u.links (r, d)) (λ n is. true≢false (sym (owned.own j u r at (owned.known j u r d at (ap is_some is))) ∙ none j))

    pub links-nobody : (d : Text) → get (links_shown by_tenant) (r, d) ≡ None
    links-nobody d =
        get-from_entries link_cmp_total (flat_map (λ (s : OwnRepos). entries s.links) by_tenant) (r, d)
        ∙ find_nowhere link_cmp (λ (s : OwnRepos). entries s.links) (r, d) by_tenant (λ j u at. sym (get-entries u.links (r, d)) ∙ unlinked d j u at)

    pub blobs-nobody : blobs_on (record { repos = repos_shown by_tenant; links = links_shown by_tenant }) r ≡ []
    blobs-nobody =
        ap (map (λ (e : Link × ℕ). (e.0.1, e.1)))
        (where_key-agree link_cmp_total exact_link (λ k. same_text k.0 r) (links_shown by_tenant) empty (λ k h.
        ap (get (links_shown by_tenant)) (λ j. (text_is_same k.0 r h j, k.1)) ∙ links-nobody k.1 ∙ sym (get-empty link_cmp k))
        ∙ ap (where_key link_cmp (λ k. same_text k.0 r)) (entries-empty link_cmp ℕ))

  module _ (t : ℕ) (s : OwnRepos) (at : slice_get by_tenant t ≡ Some s) where
    module _ (r : Text) (own : is_repo_of_tenant tenants t r ≡ true) where
      -- the other tenants don't have it
      elsewhere : (j : ℕ) (u : OwnRepos) → slice_get by_tenant j ≡ Some u → (j ≡ t → ⊥) → get u.repos r ≡ None
      elsewhere j u is differ = not_some (get u.repos r) (λ x e. differ (one_tenant tenants t j r own (owned.own j u r is (ap is_some e))))

      unlinked_elsewhere : (d : Text) (j : ℕ) (u : OwnRepos) → slice_get by_tenant j ≡ Some u → (j ≡ t → ⊥) → get u.links (r, d) ≡ None
      unlinked_elsewhere d j u is differ = not_some (get u.links (r, d)) (λ n e. differ (one_tenant tenants t j r own (owned.own j u r is (owned.known j u r d is (ap is_some e)))))

      pub repos-there : get (repos_shown by_tenant) r ≡ get s.repos r
      repos-there =
          get-from_entries nat_list_cmp_total (flat_map (λ (s : OwnRepos). entries s.repos) by_tenant) r
          ∙ find_in_part text_cmp (λ (s : OwnRepos). entries s.repos) r by_tenant t s at (λ j u is differ. sym (get-entries u.repos r) ∙ elsewhere j u is differ)
          ∙ sym (get-entries s.repos r)

      pub links-there : (d : Text) → get (links_shown by_tenant) (r, d) ≡ get s.links (r, d)
      links-there d =
          get-from_entries link_cmp_total (flat_map (λ (s : OwnRepos). entries s.links) by_tenant) (r, d)
          ∙ find_in_part link_cmp (λ (s : OwnRepos). entries s.links) (r, d) by_tenant t s at (λ j u is differ. sym (get-entries u.links (r, d)) ∙ unlinked_elsewhere d j u is differ)
          ∙ sym (get-entries s.links (r, d))

      -- a repository changes there
      repos-changed : (new : OwnRepos) (w : Option (Unit {0})) → ((q : Text) → get new.repos q ≡ cond (eq_by_cmp text_cmp q r) w (get s.repos q)) →
          (q : Text) → get (repos_shown (set by_tenant t new)) q ≡ cond (eq_by_cmp text_cmp q r) w (get (repos_shown by_tenant) q)
      repos-changed new w is q =
          get-from_entries nat_list_cmp_total (flat_map (λ (s : OwnRepos). entries s.repos) (set by_tenant t new)) q
          ∙ find-set_part text_cmp (λ (s : OwnRepos). entries s.repos) nat_list_cmp_total r w by_tenant t s new at (λ j u there differ. sym (get-entries u.repos r) ∙ elsewhere j u there differ)
          (λ k. sym (get-entries new.repos k) ∙ is k ∙ ap (cond (eq_by_cmp text_cmp k r) w) (get-entries s.repos k)) q
          ∙ ap (cond (eq_by_cmp text_cmp q r) w) (sym (get-from_entries nat_list_cmp_total (flat_map (λ (s : OwnRepos). entries s.repos) by_tenant) q))

      pub repos-insert : (new : OwnRepos) → new.repos ≡ sets.insert s.repos r → repos_shown (set by_tenant t new) ≡ sets.insert (repos_shown by_tenant) r
      repos-insert new is = insert_by nat_list_cmp_total exact_bytes (repos_shown by_tenant) (repos_shown (set by_tenant t new)) r tt
          (repos-changed new (Some tt) (λ q. ap (λ m. get m q) is ∙ get-insert nat_list_cmp_total s.repos r tt q))

      pub repos-remove : (new : OwnRepos) → new.repos ≡ sets.remove s.repos r → repos_shown (set by_tenant t new) ≡ sets.remove (repos_shown by_tenant) r
      repos-remove new is = remove_by nat_list_cmp_total exact_bytes (repos_shown by_tenant) (repos_shown (set by_tenant t new)) r
          (repos-changed new None (λ q. ap (λ m. get m q) is ∙ get-remove nat_list_cmp_total s.repos r q))

      -- a link changes there
      links-changed : (d : Text) (new : OwnRepos) (w : Option ℕ) → ((k : Link) → get new.links k ≡ cond (eq_by_cmp link_cmp k (r, d)) w (get s.links k)) →
          (k : Link) → get (links_shown (set by_tenant t new)) k ≡ cond (eq_by_cmp link_cmp k (r, d)) w (get (links_shown by_tenant) k)
      links-changed d new w is k =
          get-from_entries link_cmp_total (flat_map (λ (s : OwnRepos). entries s.links) (set by_tenant t new)) k
          ∙ find-set_part link_cmp (λ (s : OwnRepos). entries s.links) link_cmp_total (r, d) w by_tenant t s new at (λ j u there differ. sym (get-entries u.links (r, d)) ∙ unlinked_elsewhere d j u there differ)
          (λ q. sym (get-entries new.links q) ∙ is q ∙ ap (cond (eq_by_cmp link_cmp q (r, d)) w) (get-entries s.links q)) k
          ∙ ap (cond (eq_by_cmp link_cmp k (r, d)) w) (sym (get-from_entries link_cmp_total (flat_map (λ (s : OwnRepos). entries s.links) by_tenant) k))

      pub links-insert : (d : Text) (n : ℕ) (new : OwnRepos) → new.links ≡ insert s.links (r, d) n → links_shown (set by_tenant t new) ≡ insert (links_shown by_tenant) (r, d) n
      links-insert d n new is = insert_by link_cmp_total exact_link (links_shown by_tenant) (links_shown (set by_tenant t new)) (r, d) n
          (links-changed d new (Some n) (λ k. ap (λ m. get m k) is ∙ get-insert link_cmp_total s.links (r, d) n k))

      pub links-remove : (d : Text) (new : OwnRepos) → new.links ≡ remove s.links (r, d) → links_shown (set by_tenant t new) ≡ remove (links_shown by_tenant) (r, d)
      links-remove d new is = remove_by link_cmp_total exact_link (links_shown by_tenant) (links_shown (set by_tenant t new)) (r, d)
          (links-changed d new None (λ k. ap (λ m. get m k) is ∙ get-remove link_cmp_total s.links (r, d) k))

      -- the blobs of a repository, in order
      pub blobs-there : blobs_on (record { repos = repos_shown by_tenant; links = links_shown by_tenant }) r ≡ blobs_on s r
      blobs-there =
          ap (map (λ (e : Link × ℕ). (e.0.1, e.1)))
          (where_key-agree link_cmp_total exact_link (λ k. same_text k.0 r) (links_shown by_tenant) s.links (λ k h.
          ap (get (links_shown by_tenant)) (λ j. (text_is_same k.0 r h j, k.1)) ∙ links-there k.1 ∙ ap (get s.links) (λ j. (sym (text_is_same k.0 r h) j, k.1))))

    -- nothing changes
    pub repos-same : (new : OwnRepos) → new.repos ≡ s.repos → repos_shown (set by_tenant t new) ≡ repos_shown by_tenant
    repos-same new is = ap fmap.from_entries (flat_map-same text_cmp (λ (s : OwnRepos). entries s.repos) by_tenant t s new at (ap entries is))

    pub links-same : (new : OwnRepos) → new.links ≡ s.links → links_shown (set by_tenant t new) ≡ links_shown by_tenant
    links-same new is = ap fmap.from_entries (flat_map-same link_cmp (λ (s : OwnRepos). entries s.links) by_tenant t s new at (ap entries is))

    -- a tenant's repositories, in order
    members : where_key text_cmp (is_repo_of_tenant tenants t) (entries (repos_shown by_tenant)) ≡ entries s.repos
    members =
        where_key-agree nat_list_cmp_total exact_bytes (is_repo_of_tenant tenants t) (repos_shown by_tenant) s.repos repos-there
        ∙ where_key-all nat_list_cmp_total exact_bytes (is_repo_of_tenant tenants t) s.repos (λ q x is. owned.own t s q at (ap is_some is))

    pub items-there : filter (is_repo_of_tenant tenants t) (sets.items (repos_shown by_tenant)) ≡ sets.items s.repos
    items-there = filter-map (is_repo_of_tenant tenants t) (λ (e : Text × Unit {0}). e.0) (entries (repos_shown by_tenant)) ∙ ap (map (λ (e : Text × Unit {0}). e.0)) members

    pub counted-there : tenant_repo_count tenants (repos_shown by_tenant) t ≡ repo_count s
    counted-there = sym (length-filter (is_repo_of_tenant tenants t) (sets.items (repos_shown by_tenant))) ∙ ap length items-there

    -- ---- each tenant keeps its own

    pub IsOwned-set : (new : OwnRepos) → ((r : Text) → sets.contains new.repos r ≡ true → is_repo_of_tenant tenants t r ≡ true) → ((r d : Text) → fmap.contains_key new.links (r, d) ≡ true → sets.contains new.repos r ≡ true) →
        IsOwned tenants (set by_tenant t new)
    IsOwned-set new own known = record {
      one_each = length-set by_tenant t new ∙ owned.one_each;
      own = λ j u r is h. own_at j u r h (after_set by_tenant t new j u is);
      known = λ j u r d is h. known_at j u r d h (after_set by_tenant t new j u is);
    }
      where
        own_at : (j : ℕ) (u : OwnRepos) (r : Text) → sets.contains u.repos r ≡ true → ((j ≡ t) × (u ≡ new)) ⊎ (slice_get by_tenant j ≡ Some u) → is_repo_of_tenant tenants j r ≡ true
        own_at j u r h (inl e) = ap (λ k. is_repo_of_tenant tenants k r) e.0 ∙ own r (ap (λ (v : OwnRepos). sets.contains v.repos r) (sym e.1) ∙ h)
        own_at j u r h (inr is) = owned.own j u r is h

        known_at : (j : ℕ) (u : OwnRepos) (r d : Text) → fmap.contains_key u.links (r, d) ≡ true → ((j ≡ t) × (u ≡ new)) ⊎ (slice_get by_tenant j ≡ Some u) → sets.contains u.repos r ≡ true
        known_at j u r d h (inl e) = ap (λ (v : OwnRepos). sets.contains v.repos r) e.1 ∙ known r d (ap (λ (v : OwnRepos). fmap.contains_key v.links (r, d)) (sym e.1) ∙ h)
        known_at j u r d h (inr is) = owned.known j u r d is h
