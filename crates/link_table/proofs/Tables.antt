-- The table after a call on one tenant's repositories.
use Rattle.std.proofs.Common.{◌≡◌, ℕ, ◌<◌, Bool, true, false, cond, not, List, [], length, replicate, Option, Some, None, is_some, Result, Ok, Err, refl, sym, ap, ◌∙◌, arith, set, inl, inr, get_or}
use Prim.Native.Nat.{zero, suc}
use Rattle.std.specs.Prelude.{slice_get, ◌⊎◌, ◌&&◌, nat_le}
use Rattle.std.specs.Ordering.{eq_by_cmp}
use Rattle.std.specs.Cmp.{Equal-is}
use Rattle.std.specs.Cmp.Lexicographic.{nat_list_cmp_total}
use Rattle.std.specs.List.{flat_map}
use Rattle.std.specs.FinMap as fmap
use Rattle.std.specs.FinMap.{get, insert, remove, empty, entries, get-insert, get-remove, get-empty, from_entries}
use Rattle.std.proofs.lemmas.Map.Lookups.{exact_bytes}
use Rattle.std.proofs.lemmas.Option.{slice_get_read}
use Rattle.std.proofs.lemmas.Bool.{true≢false}
use Rattle.spec_lib.specs.Sets as sets
use Rattle.spec_lib.specs.Texts.{Text, text_cmp}
use Rattle.blob_digest.specs.Keys.{Link, link_cmp}
use Rattle.blob_digest.specs.Outcomes.{Does}
use Rattle.blob_digest.specs.declared.refusal.Refusal.{Refusal}
use Rattle.blob_digest.specs.declared.refusal.Refusal.TheVariants.{LimitReached}
use Rattle.blob_digest.proofs.KeyOrders.{link_cmp_total, exact_link}
use Rattle.spec_lib.proofs.Texts.{tied_text}
use Rattle.spec_lib.proofs.Maps.{remove-insert_new}
use Rattle.spec_lib.proofs.Options.{some_same, some_none, no_value}
use Rattle.spec_lib.proofs.Rows.{entries-empty, no_tie}
use Rattle.link_table.specs.Linked.{Linked, Tenant, is_repo_of_tenant, appear, cannot_appear, HasNoLinks, limits_in}
use Rattle.link_table.specs.ManifestTable.{ManifestBytes}
use Rattle.link_table.specs.TenantRepos.{OwnRepos, IsOwned, repos_shown, links_shown, appear_on, repo_count, empty_tenant}
use Rattle.link_table.proofs.TenantRepos.{repos-there, links-there, repos-insert, repos-same, links-same, counted-there, IsOwned-set}

abbrev pub linked_of : List Tenant → List OwnRepos → ManifestBytes → List ℕ → Linked
linked_of tenants by_tenant manifests charges = record { tenants = tenants; repos = repos_shown by_tenant; links = links_shown by_tenant; manifests = manifests; charges = charges }

-- a tenant's repositories
pub owned_at : (tenants : List Tenant) (by_tenant : List OwnRepos) → IsOwned tenants by_tenant → (t : ℕ) → t < length tenants → (s : OwnRepos) → s ≡ get_or by_tenant t s → slice_get by_tenant t ≡ Some s
owned_at tenants by_tenant owned t lt s read = slice_get_read by_tenant (length by_tenant) t s refl (omega (arith, owned.one_each)) read

-- ---- members with one more, and one less

kept_by_insert : (b : Bool) (x : Option (Unit {0})) → is_some x ≡ true → is_some (cond b (Some (tt {0})) x) ≡ true
kept_by_insert true x h = refl
kept_by_insert false x h = h

pub contains-insert : (s : sets.Set text_cmp) (q r : Text) → sets.contains s r ≡ true → sets.contains (sets.insert s q) r ≡ true
contains-insert s q r h = ap is_some (get-insert nat_list_cmp_total s q (tt {0}) r) ∙ kept_by_insert (eq_by_cmp text_cmp r q) (get s r) h

pub contains-remove : (s : sets.Set text_cmp) (q r : Text) → (r ≡ q → ⊥) → sets.contains s r ≡ true → sets.contains (sets.remove s q) r ≡ true
contains-remove s q r other h = ap is_some (get-remove nat_list_cmp_total s q r ∙ ap (λ b. cond b None (get s r)) (no_tie text_cmp exact_bytes r q other)) ∙ h

-- a member of a set with one more
was_inserted : (s : sets.Set text_cmp) (q r : Text) → sets.contains (sets.insert s q) r ≡ true → (r ≡ q) ⊎ (sets.contains s r ≡ true)
was_inserted s q r h = by_tie (eq_by_cmp text_cmp r q) refl (sym (ap is_some (get-insert nat_list_cmp_total s q (tt {0}) r)) ∙ h)
  where
    by_tie : (b : Bool) → eq_by_cmp text_cmp r q ≡ b → is_some (cond b (Some (tt {0})) (get s r)) ≡ true → (r ≡ q) ⊎ (sets.contains s r ≡ true)
    by_tie true tie g = inl (tied_text r q tie)
    by_tie false tie g = inr g

-- a member of a set with one less
was_removed : (s : sets.Set text_cmp) (q r : Text) → sets.contains (sets.remove s q) r ≡ true → sets.contains s r ≡ true
was_removed s q r h = by_tie (eq_by_cmp text_cmp r q) (sym (ap is_some (get-remove nat_list_cmp_total s q r)) ∙ h)
  where
    by_tie : (b : Bool) → is_some (cond b None (get s r)) ≡ true → sets.contains s r ≡ true
    by_tie true g = cc
    by_tie false g = g

-- ---- a repository appears

-- the state after an accepted call
accepted : (full was b : Bool) (s m n : OwnRepos) → ◌≡◌ {A = Result (Bool × OwnRepos) Refusal} (cond full (Err LimitReached) (Ok (was, m))) (Ok (b, n)) → (full ≡ false) × (b ≡ was) × (n ≡ m)
accepted true was b s m n e = cc
accepted false was b s m n e = (let p : ◌≡◌ {A = Bool × OwnRepos} (was, m) (b, n) = cc in (refl, (λ i. (sym p i).0), (λ i. (sym p i).1)))

refused : (full was : Bool) (m : OwnRepos) (e : Refusal) → ◌≡◌ {A = Result (Bool × OwnRepos) Refusal} (cond full (Err LimitReached) (Ok (was, m))) (Err e) → (full ≡ true) × (LimitReached ≡ e)
refused true was m e h = (refl, cc)
refused false was m e h = cc

-- the links are unchanged, and no other repository is added
pub record IsGrown (s new : OwnRepos) (r : Text) : Type 0 where
  pub links : new.links ≡ s.links
  pub members : (q : Text) → sets.contains new.repos q ≡ true → (q ≡ r) ⊎ (sets.contains s.repos q ≡ true)
  pub kept : (q : Text) → sets.contains s.repos q ≡ true → sets.contains new.repos q ≡ true

module _ (n : ℕ) (s new : OwnRepos) (r : Text) where
  abbrev full : Bool
  full = not (sets.contains s.repos r) && nat_le n (repo_count s)

  pub grown : (result : Result Bool Refusal) → Does (λ b. b) result s new (appear_on n s r) → IsGrown s new r
  grown (Ok b) done =
      let is = (accepted full (not (sets.contains s.repos r)) b s (record s { repos = sets.insert s.repos r }) new done).2 in record {
        links = ap (λ (x : OwnRepos). x.links) is;
        members = λ q h. was_inserted s.repos r q (ap (λ (x : OwnRepos). sets.contains x.repos q) (sym is) ∙ h);
        kept = λ q h. ap (λ (x : OwnRepos). sets.contains x.repos q) is ∙ contains-insert s.repos r q h;
      }
  grown (Err e) done = record {
    links = ap (λ (x : OwnRepos). x.links) done.1;
    members = λ q h. inr (ap (λ (x : OwnRepos). sets.contains x.repos q) (sym done.1) ∙ h);
    kept = λ q h. ap (λ (x : OwnRepos). sets.contains x.repos q) done.1 ∙ h;
  }

module _ (tenants : List Tenant) (by_tenant : List OwnRepos) (owned : IsOwned tenants by_tenant) (manifests : ManifestBytes) (charges : List ℕ) (t : ℕ) (s : OwnRepos) (at : slice_get by_tenant t ≡ Some s) (r : Text) (own : is_repo_of_tenant tenants t r ≡ true) where
  -- the tenant's limit
  abbrev limit : ℕ
  limit = (limits_in tenants t).repos

  -- the table's test is that of the tenant
  same_test : cannot_appear (linked_of tenants by_tenant manifests charges) t r ≡ not (sets.contains s.repos r) && nat_le limit (repo_count s)
  same_test = λ i. not (is_some (repos-there tenants by_tenant owned t s at r own i)) && nat_le limit (counted-there tenants by_tenant owned t s at i)

  same_new : not (sets.contains (repos_shown by_tenant) r) ≡ not (sets.contains s.repos r)
  same_new = ap (λ x. not (is_some x)) (repos-there tenants by_tenant owned t s at r own)

  pub appear_does : (new : OwnRepos) (result : Result Bool Refusal) → Does (λ b. b) result s new (appear_on limit s r) →
      Does (λ b. b) result (linked_of tenants by_tenant manifests charges) (linked_of tenants (set by_tenant t new) manifests charges) (appear (linked_of tenants by_tenant manifests charges) t r)
  appear_does new (Ok b) done =
      let parts = accepted (full limit s new r) (not (sets.contains s.repos r)) b s (record s { repos = sets.insert s.repos r }) new done in
      let repos = repos-insert tenants by_tenant owned t s at r own new (ap (λ (x : OwnRepos). x.repos) parts.2) in
      let links = links-same tenants by_tenant owned t s at new (ap (λ (x : OwnRepos). x.links) parts.2) in
      rw (same_test ∙ parts.0) (λ i. Ok ((same_new ∙ sym parts.1) i, record { tenants = tenants; repos = sym repos i; links = sym links i; manifests = manifests; charges = charges }))
  appear_does new (Err e) done = (
    (λ other. (let parts = refused (full limit s new r) (not (sets.contains s.repos r)) (record s { repos = sets.insert s.repos r }) e (done.0 other) in rw (same_test ∙ parts.0) (ap Err parts.1))),
    (λ i. record {
      tenants = tenants;
      repos = repos-same tenants by_tenant owned t s at new (ap (λ (x : OwnRepos). x.repos) done.1) i;
      links = links-same tenants by_tenant owned t s at new (ap (λ (x : OwnRepos). x.links) done.1) i;
      manifests = manifests;
      charges = charges;
    }),
  )

  pub IsOwned-appear : (new : OwnRepos) → IsGrown s new r → IsOwned tenants (set by_tenant t new)
  IsOwned-appear new is = IsOwned-set tenants by_tenant owned t s at new
      (λ q h. elim (is.members q h) [
        | inl e ↦ ap (is_repo_of_tenant tenants t) e ∙ own
        | inr was ↦ owned.own t s q at was
      ])
      (λ q d h. is.kept q (owned.known t s q d at (ap (λ m. fmap.contains_key m (q, d)) (sym is.links) ∙ h)))

  -- ---- and vanishes

  pub no_links : HasNoLinks (links_shown by_tenant) r → HasNoLinks s.links r
  no_links none d = sym (links-there tenants by_tenant owned t s at r own d) ∙ none d

  pub IsOwned-vanish : (new : OwnRepos) → HasNoLinks s.links r → new ≡ record s { repos = sets.remove s.repos r } → IsOwned tenants (set by_tenant t new)
  IsOwned-vanish new none is = IsOwned-set tenants by_tenant owned t s at new
      (λ q h. owned.own t s q at (was_removed s.repos r q (ap (λ (x : OwnRepos). sets.contains x.repos q) (sym is) ∙ h)))
      (λ q d h.
      let linked = ap (λ (x : OwnRepos). fmap.contains_key x.links (q, d)) (sym is) ∙ h in
      ap (λ (x : OwnRepos). sets.contains x.repos q) is
      ∙ contains-remove s.repos r q (λ e. true≢false (sym linked ∙ ap (λ k. fmap.contains_key s.links (k, d)) e ∙ ap is_some (none d))) (owned.known t s q d at linked))

  -- ---- links are added and removed

  known_with : (d : Text) (n : ℕ) → sets.contains s.repos r ≡ true → (q e : Text) (b : Bool) → eq_by_cmp link_cmp (q, e) (r, d) ≡ b → is_some (cond b (Some n) (get s.links (q, e))) ≡ true → sets.contains s.repos q ≡ true
  known_with d n there q e true tie h = ap (λ (k : Link). sets.contains s.repos k.0) (exact_link (q, e) (r, d) ((Equal-is (link_cmp (q, e) (r, d))).0 tie)) ∙ there
  known_with d n there q e false tie h = owned.known t s q e at h

  pub IsOwned-link : (new : OwnRepos) (d : Text) (n : ℕ) → sets.contains s.repos r ≡ true → new ≡ record s { links = insert s.links (r, d) n } → IsOwned tenants (set by_tenant t new)
  IsOwned-link new d n there is = IsOwned-set tenants by_tenant owned t s at new
      (λ q h. owned.own t s q at (ap (λ (x : OwnRepos). sets.contains x.repos q) (sym is) ∙ h))
      (λ q e h. ap (λ (x : OwnRepos). sets.contains x.repos q) is
      ∙ known_with d n there q e (eq_by_cmp link_cmp (q, e) (r, d)) refl (sym (ap is_some (get-insert link_cmp_total s.links (r, d) n (q, e))) ∙ ap (λ (x : OwnRepos). fmap.contains_key x.links (q, e)) (sym is) ∙ h))

  known_without : (d q e : Text) (b : Bool) → is_some (cond b None (get s.links (q, e))) ≡ true → sets.contains s.repos q ≡ true
  known_without d q e true h = cc
  known_without d q e false h = owned.known t s q e at h

  pub IsOwned-unlink : (new : OwnRepos) (d : Text) → new ≡ record s { links = remove s.links (r, d) } → IsOwned tenants (set by_tenant t new)
  IsOwned-unlink new d is = IsOwned-set tenants by_tenant owned t s at new
      (λ q h. owned.own t s q at (ap (λ (x : OwnRepos). sets.contains x.repos q) (sym is) ∙ h))
      (λ q e h. ap (λ (x : OwnRepos). sets.contains x.repos q) is
      ∙ known_without d q e (eq_by_cmp link_cmp (q, e) (r, d)) (sym (ap is_some (get-remove link_cmp_total s.links (r, d) (q, e))) ∙ ap (λ (x : OwnRepos). fmap.contains_key x.links (q, e)) (sym is) ∙ h))

  pub IsOwned-same : (new : OwnRepos) → new ≡ s → IsOwned tenants (set by_tenant t new)
  IsOwned-same new is = IsOwned-set tenants by_tenant owned t s at new
      (λ q h. owned.own t s q at (ap (λ (x : OwnRepos). sets.contains x.repos q) (sym is) ∙ h))
      (λ q e h. ap (λ (x : OwnRepos). sets.contains x.repos q) is ∙ owned.known t s q e at (ap (λ (x : OwnRepos). fmap.contains_key x.links (q, e)) (sym is) ∙ h))

-- a link that was added and removed again
pub unlinked_again : (s more back : OwnRepos) (r d : Text) (n : ℕ) → more ≡ record s { links = insert s.links (r, d) n } → back ≡ record more { links = remove more.links (r, d) } → is_some (get s.links (r, d)) ≡ false → back ≡ s
unlinked_again s more back r d n made undone absent =
    undone ∙ ap (λ (x : OwnRepos). record x { links = remove x.links (r, d) }) made
    ∙ ap (λ m. record s { links = m }) (remove-insert_new link_cmp_total exact_link s.links (r, d) n (no_value (get s.links (r, d)) absent))

-- ---- a table with nothing in it

none_shown : (n : ℕ) → (flat_map (λ (s : OwnRepos). entries s.repos) (replicate n empty_tenant) ≡ []) × (flat_map (λ (s : OwnRepos). entries s.links) (replicate n empty_tenant) ≡ [])
none_shown zero = (refl, refl)
none_shown (suc n) = (rw (entries-empty text_cmp (Unit {0})) (none_shown n).0, rw (entries-empty link_cmp ℕ) (none_shown n).1)

pub repos-initial : (n : ℕ) → repos_shown (replicate n empty_tenant) ≡ sets.empty_set
repos-initial n = ap (λ es. from_entries {R = text_cmp} es) (none_shown n).0

pub links-initial : (n : ℕ) → links_shown (replicate n empty_tenant) ≡ empty
links-initial n = ap (λ es. from_entries {R = link_cmp} es) (none_shown n).1

each_nothing : (n j : ℕ) (u : OwnRepos) → slice_get (replicate n empty_tenant) j ≡ Some u → u ≡ empty_tenant
each_nothing zero j u at = some_none (sym at)
each_nothing (suc n) zero u at = sym (some_same at)
each_nothing (suc n) (suc j) u at = each_nothing n j u at

length-empty_tenant : (n : ℕ) → length (replicate n empty_tenant) ≡ n
length-empty_tenant zero = refl
length-empty_tenant (suc n) = ap suc (length-empty_tenant n)

pub IsOwned-initial : (tenants : List Tenant) (by_tenant : List OwnRepos) (n : ℕ) → n ≡ length tenants → by_tenant ≡ replicate n empty_tenant → IsOwned tenants by_tenant
IsOwned-initial tenants by_tenant n many is = rw is (record {
  one_each = length-empty_tenant n ∙ many;
  own = λ t s r at h. absurd (true≢false (sym h ∙ ap (λ (x : OwnRepos). sets.contains x.repos r) (each_nothing n t s at) ∙ ap is_some (get-empty text_cmp r)));
  known = λ t s r d at h. absurd (true≢false (sym h ∙ ap (λ (x : OwnRepos). fmap.contains_key x.links (r, d)) (each_nothing n t s at) ∙ ap is_some (get-empty link_cmp (r, d))));
})
