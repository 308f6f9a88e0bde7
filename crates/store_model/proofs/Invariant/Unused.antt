-- A repository that is not in use has no link, no manifest and no session; removing it keeps the catalog well-formed and every use unchanged.
use Rattle.std.proofs.Common.{◌≡◌, ◌≢◌, ℕ, ◌+◌, ◌≤◌, Bool, true, false, cond, Option, Some, None, refl, sym, ap, ◌∙◌, subst, arith}
use Rattle.std.specs.Prelude.{◌||◌, nat_lt}
use Rattle.std.specs.declared.cmp.Ordering.{Ordering}
use Rattle.std.specs.Ordering.{eq_by_cmp}
use Rattle.std.specs.Cmp.{Equal-is}
use Rattle.std.specs.Cmp.Lexicographic.{nat_list_cmp_total}
use Rattle.std.specs.List.{sum_by, count_by, list_any}
use Rattle.std.specs.FinMap.{FinMap, IsAntisymmetric, contains_key, contains_key-keys, empty, entries, get, get-empty, keys, remove}
use Rattle.std.proofs.lemmas.Bool.{false_from_ne_true, ltb-false, or_parts, true≢false}
use Rattle.std.proofs.lemmas.Map.Lookups.{exact_bytes}
use Rattle.blob_digest.proofs.KeyOrders.{exact_link, exact_number, number_cmp_total}
use Rattle.spec_lib.specs.Sets as set
use Rattle.spec_lib.specs.Texts.{Text, same_text, text_cmp}
use Rattle.spec_lib.proofs.Lists.{list_any_count, list_any_weaker}
use Rattle.spec_lib.proofs.Maps.{sum_alike, sum_at, term}
use Rattle.spec_lib.proofs.Options.{a_unit}
use Rattle.spec_lib.proofs.Rows.{entries-empty, sum_by-map}
use Rattle.spec_lib.proofs.Sets.{as_before-remove, was_member}
use Rattle.spec_lib.proofs.Sums.{insert-remove, insert_back, sum_split}
use Rattle.spec_lib.proofs.Texts.{same_text_is, text_is_same}
use Rattle.store_model.specs.Catalog.{Catalog, Link, Session, SessionNumber, is_repo_of, session_number_cmp, tenant_of, used_bytes}
use Rattle.store_model.specs.Commands.{has_links, has_manifests, has_sessions, is_in_use, without_repo}
use Rattle.store_model.specs.Invariant.{WellFormed}
use Rattle.store_model.specs.Sessions.{Sessions}
use Rattle.store_model.proofs.Invariant.Repos.{used_bytes-appear}

-- two tests of which each fails if the other does
pub same_test : (b c : Bool) → (b ≡ false → c ≡ false) → (c ≡ false → b ≡ false) → b ≡ c
same_test true true to from = refl
same_test true false to from = from refl
same_test false true to from = sym (to refl)
same_test false false to from = refl

-- ---- keys and entries that pass no test

-- a key of the map fails a test that no key passes
fails : {K X : Type 0} {R : K → K → Ordering} → IsAntisymmetric R → (p : K → Bool) (m : FinMap R X) → list_any p (keys m) ≡ false → (k : K) → contains_key m k ≡ true → p k ≡ false
fails {K} {X} {R} same p m none k there = false_from_ne_true (p k) (λ is.
    true≢false (sym (list_any_weaker (eq_by_cmp R k) p (λ q tie. subst (λ (x : K). p x ≡ true) (same k q ((Equal-is (R k q)).0 tie)) is) (keys m) (sym (contains_key-keys m k) ∙ there)) ∙ none))

differs : (p : Text) (r : Text) → same_text p r ≡ false → p ≢ r
differs p r other is = true≢false (sym (same_text_is p r is) ∙ other)

is_other : (p : Text) (r : Text) → p ≢ r → same_text p r ≡ false
is_other p r other = false_from_ne_true (same_text p r) (λ is. other (text_is_same p r is))

-- whether a session is of the repository
abbrev is_in : Text → SessionNumber × Session → Bool
is_in r e = same_text e.1.repo r

-- the sessions of the repository, as terms of a sum
abbrev one : Text → SessionNumber × Session → ℕ
one r e = cond (is_in r e) 1 0

-- no session is of a repository that has none
pub no_session : (m : Sessions) (r : Text) → list_any (is_in r) (entries m) ≡ false → (k : SessionNumber) (s : Session) → get m k ≡ Some s → s.repo ≢ r
no_session m r none k s found is =
    let zero : count_by (is_in r) (entries m) ≤ 0 = ltb-false 0 (count_by (is_in r) (entries m)) (sym (list_any_count (is_in r) (entries m)) ∙ none) in
    let sum : count_by (is_in r) (entries m) ≡ one r (k, s) + count_by (is_in r) (entries (remove m k)) = sum_split number_cmp_total exact_number (one r) m k s found in
    let here : one r (k, s) ≡ 1 = ap (λ b. cond {A = ℕ} b 1 0) (same_text_is s.repo r is) in
    omega arith

-- a repository has no session if no session is of it
pub no_sessions : (m : Sessions) (r : Text) → ((k : SessionNumber) (s : Session) → get m k ≡ Some s → s.repo ≢ r) → list_any (is_in r) (entries m) ≡ false
no_sessions m r none =
    let nothing : FinMap session_number_cmp Session = empty in
    list_any_count (is_in r) (entries m) ∙ ap (nat_lt 0) (sum_alike number_cmp_total exact_number (one r) (one r) m nothing (λ q. at q (get m q) refl) ∙ ap (sum_by (one r)) (entries-empty session_number_cmp Session))
  where
    at : (q : SessionNumber) (o : Option Session) → get m q ≡ o → term (one r) q o ≡ term (one r) q (get {R = session_number_cmp} empty q)
    at q None found = sym (ap (term (one r) q) (get-empty session_number_cmp q))
    at q (Some s) found = ap (λ b. cond {A = ℕ} b 1 0) (is_other s.repo r (none q s found)) ∙ sym (ap (term (one r) q) (get-empty session_number_cmp q))

-- a set without a member counts no more
fewer : (p : Text → Bool) (s : set.Set text_cmp) (r : Text) → count_by p (set.items (set.remove s r)) ≤ count_by p (set.items s)
fewer p s r =
    let each : Text → ℕ = λ q. cond (p q) 1 0 in
    let old = sum_by-map each (λ (e : Text × Unit {0}). e.0) (entries s) in
    let new = sum_by-map each (λ (e : Text × Unit {0}). e.0) (entries (set.remove s r)) in
    let sum = sum_at nat_list_cmp_total exact_bytes (λ (e : Text × Unit {0}). cond {A = ℕ} (p e.0) 1 0) s r in
    omega arith

module _ (C : Catalog) (r : Text) (unused : is_in_use C r ≡ false) where
  no_others : (has_links C r ≡ false) × (has_manifests C r ≡ false) × (has_sessions C r ≡ false)
  no_others =
      let a = or_parts (has_links C r || has_manifests C r) (has_sessions C r) unused in
      let b = or_parts (has_links C r) (has_manifests C r) a.0 in
      (b.0, b.1, a.1)

  pub no_link : (l : Link) → set.contains C.links l ≡ true → l.0 ≢ r
  no_link l there = differs l.0 r (fails exact_link (λ x. same_text x.0 r) C.links no_others.0 l there)

  pub no_manifest : (l : Link) (b : Text) → get C.manifests l ≡ Some b → l.0 ≢ r
  no_manifest l b found = differs l.0 r (fails exact_link (λ x. same_text x.0 r) C.manifests no_others.1 l (rw found refl))

  pub no_open : (k : SessionNumber) (s : Session) → get C.sessions k ≡ Some s → s.repo ≢ r
  no_open = no_session C.sessions r no_others.2

  -- every other repository stays
  pub stays : (q : Text) → q ≢ r → set.contains C.repos q ≡ true → set.contains (set.remove C.repos r) q ≡ true
  stays q other there = as_before-remove nat_list_cmp_total exact_bytes C.repos r q other ∙ there

  pub WellFormed-remove_repo : WellFormed C → WellFormed (without_repo C r)
  WellFormed-remove_repo lawful = record {
    content = lawful.content;
    links = λ l h. let k = lawful.links l h in record { repo = stays l.0 (no_link l h) k.repo; kept = k.kept };
    manifests = λ l b h. let k = lawful.manifests l b h in record { repo = stays l.0 (no_manifest l b h) k.repo; name = k.name; small = k.small; refs = k.refs };
    sessions = λ key s h. let k = lawful.sessions key s h in record { repo = stays s.repo (no_open key s h) k.repo; tenant = k.tenant; chunks = k.chunks; small = k.small; positive = k.positive; number = k.number };
    repositories = record {
      owned = λ q h. lawful.repositories.owned q (was_member nat_list_cmp_total exact_bytes C.repos r q h);
      few = λ t. let less = fewer (λ q. is_repo_of C t q) C.repos r in let before = lawful.repositories.few t in omega arith;
      short_names = λ q h. lawful.repositories.short_names q (was_member nat_list_cmp_total exact_bytes C.repos r q h);
    };
    numbering = lawful.numbering;
    limits = lawful.limits;
    few_sessions = lawful.few_sessions;
    few_manifests = lawful.few_manifests;
  }

  pub used_bytes-remove_repo : (t u : ℕ) → tenant_of C.tenants r ≡ Some t → set.contains C.repos r ≡ true → WellFormed C → used_bytes (without_repo C r) u ≡ used_bytes C u
  used_bytes-remove_repo t u known there lawful =
      sym (used_bytes-appear (without_repo C r) t r (WellFormed-remove_repo lawful) known u)
      ∙ ap (λ s. used_bytes (record C { repos = s }) u) (insert-remove nat_list_cmp_total exact_bytes C.repos r tt ∙ insert_back nat_list_cmp_total exact_bytes C.repos r tt (a_unit (get C.repos r) there))
