-- The store's text after two runs in which each tenant makes the same commands.
use Rattle.std.proofs.Common.{◌≡◌, ℕ, ◌+◌, Bool, true, false, cond, List, [], ◌∷◌, ◌++◌, length, Option, Some, None, is_some, refl, sym, ap, ◌∙◌, subst}
use Prim.Native.Nat.{suc}
use Rattle.std.specs.Prelude.{◌==◌, ◌&&◌, ◌||◌, slice_get, if◌then◌else◌}
use Rattle.std.specs.Option.{option_map, option_map_or}
use Rattle.std.specs.Ordering.{eq_by_cmp, is_eq}
use Rattle.std.specs.Cmp.{IsTotalOrder, tied_itself}
use Rattle.std.specs.declared.cmp.Ordering.{Ordering}
use Rattle.std.specs.List.{AllByRecursion, filter, flat_map, enumerate_from, list_any, count_by, sum_by}
use Rattle.std.specs.Cmp.Lexicographic.{nat_list_cmp_total}
use Rattle.std.specs.FinMap.{get, entries, same_map, contains_key-keys}
use Rattle.std.specs.FinMap.Entries.{find as find_key}
use Rattle.std.proofs.lemmas.Bool.{false≢true, eq-eqb, or_right}
use Rattle.std.proofs.lemmas.Map.Lookups.{exact_bytes}
use Rattle.spec_lib.specs.Sets as kept_set
use Rattle.spec_lib.specs.Texts.{Text, text_cmp, same_text}
use Rattle.store_model.specs.Catalog.{Tenant, Link, Resident, Catalog, link_cmp, tenant_of, is_repo_of, tenant_holds, blob_length, link_count, used_bytes, opening, is_repo_of_tenant}
use Rattle.store_model.specs.Runs.{Event, CommandEvent, SweepEvent, SweepPartEvent, repo_of}
use Rattle.store_model.specs.Noninterference.{AreTenantsAlike, events_of, commands_of, blobs_of, isolated_catalog, IsUnaffectedByOthers, TextsAreTheSame}
use Rattle.store_model.specs.BookText.{blob_line, book_line, end_line, repository_line, tenant_line, blob_text, manifest_text, session_text, repo_text, tenant_text, book_text}
use Rattle.blob_digest.proofs.KeyOrders.{number_cmp_total, exact_number, link_cmp_total, exact_link}
use Rattle.spec_lib.proofs.Lists.{all_weaker, flat_map-same, all_same}
use Rattle.spec_lib.proofs.Options.{not_some, some_none, some_same}
use Rattle.store_model.proofs.Invariant.Repos.{is_own}
use Rattle.store_model.proofs.Invariant.Links.{is_held}
use Rattle.store_model.proofs.Invariant.TenantNames.{same_tenant}
use Rattle.store_model.proofs.Noninterference.SameFor.{Alike, Consistent, of_same, find-blobs, used_bytes-blobs, tenant_holds_same, in_sessions_same}
use Rattle.store_model.proofs.Noninterference.LocalRespect.{alike_through, tenants_alike_themselves}
use Rattle.store_model.proofs.Noninterference.Runs.{content_of, pairs_of, followed, isolated}

-- ---- lists

same_elements : {A : Type 0} (xs ys : List A) → ((i : ℕ) → slice_get xs i ≡ slice_get ys i) → xs ≡ ys
same_elements [] [] same = refl
same_elements [] (y ∷ ys) same = some_none (sym (same 0))
same_elements (x ∷ xs) [] same = some_none (same 0)
same_elements (x ∷ xs) (y ∷ ys) same = λ i. some_same (same 0) i ∷ same_elements xs ys (λ n. same (suc n)) i

all_filtered : {A : Type 0} (P : A → Type 0) (p : A → Bool) (xs : List A) → AllByRecursion P xs → AllByRecursion P (filter p xs)
all_filtered P p [] h = tt
all_filtered P p (x ∷ xs) h = elim (p x) as (λ b. AllByRecursion P (cond b (x ∷ filter p xs) (filter p xs))) [
  | true ↦ (h.0, all_filtered P p xs h.1)
  | false ↦ all_filtered P p xs h.1
]

module _ {K : Type 0} (R : K → K → Ordering) (o : IsTotalOrder R) where
  each_found : (xs : List K) → AllByRecursion (λ x. list_any (eq_by_cmp R x) xs ≡ true) xs
  each_found [] = tt
  each_found (x ∷ xs) = (
    ap (λ b. b || list_any (eq_by_cmp R x) xs) (ap is_eq (tied_itself o x)),
    all_weaker (λ y. list_any (eq_by_cmp R y) xs ≡ true) (λ y. list_any (eq_by_cmp R y) (x ∷ xs) ≡ true) (λ y h. or_right (eq_by_cmp R y x) (list_any (eq_by_cmp R y) xs) h) xs (each_found xs),
  )

  members : (s : kept_set.Set R) → AllByRecursion (λ x. kept_set.contains s x ≡ true) (kept_set.items s)
  members s = all_weaker (λ x. list_any (eq_by_cmp R x) (kept_set.items s) ≡ true) (λ x. kept_set.contains s x ≡ true) (λ x h. contains_key-keys s x ∙ h) (kept_set.items s) (each_found (kept_set.items s))

-- ---- from the views of all tenants to the text

pub alike_back : (t : ℕ) (C D : Catalog) → Alike t C D → Alike t D C
alike_back t C D a = record {
  tenants = record { names = sym a.tenants.names; settings = sym a.tenants.settings };
  contents = sym a.contents;
  numbers = sym a.numbers;
  next = sym a.next;
  repos = λ q is. sym (a.repos q (of_same t C D a q ∙ is));
  links = λ q is. sym (a.links q (of_same t C D a q.0 ∙ is));
  manifests = λ q is. sym (a.manifests q (of_same t C D a q.0 ∙ is));
  sessions = λ q is. sym (a.sessions q is);
}

module _ (b c : Text → Text) (C D : Catalog) (consistent_C : Consistent b C) (consistent_D : Consistent c D) (alike : (t : ℕ) → Alike t C D) (blobs : (t : ℕ) → blobs_of C t ≡ blobs_of D t) where
  none_of : {X : Type 0} (o : Option X) → (is_some o ≡ true → ⊥) → o ≡ None
  none_of o h = not_some o (λ x e. h (ap is_some e))

  absent : (r : Text) → tenant_of C.tenants r ≡ None → kept_set.contains C.repos r ≡ true → ⊥
  absent r none there = false≢true (ap is_some (sym none) ∙ consistent_C.repos r there)

  absent_D : (r : Text) → tenant_of C.tenants r ≡ None → kept_set.contains D.repos r ≡ true → ⊥
  absent_D r none there = false≢true (ap is_some (sym none ∙ same_tenant C.tenants D.tenants (alike 0).tenants.names r) ∙ consistent_D.repos r there)

  same_repos : C.repos ≡ D.repos
  same_repos = same_map nat_list_cmp_total exact_bytes C.repos D.repos (λ r. at r (tenant_of C.tenants r) refl)
    where
      at : (r : Text) (o : Option ℕ) → tenant_of C.tenants r ≡ o → get C.repos r ≡ get D.repos r
      at r None none = none_of (get C.repos r) (absent r none) ∙ sym (none_of (get D.repos r) (absent_D r none))
      at r (Some t) known = (alike t).repos r (is_own C t r known)

  same_links : C.links ≡ D.links
  same_links = same_map link_cmp_total exact_link C.links D.links (λ l. at l (tenant_of C.tenants l.0) refl)
    where
      at : (l : Link) (o : Option ℕ) → tenant_of C.tenants l.0 ≡ o → get C.links l ≡ get D.links l
      at l None none = none_of (get C.links l) (λ h. absent l.0 none (consistent_C.links l h)) ∙ sym (none_of (get D.links l) (λ h. absent_D l.0 none (consistent_D.links l h)))
      at l (Some t) known = (alike t).links l (is_own C t l.0 known)

  same_manifests : C.manifests ≡ D.manifests
  same_manifests = same_map link_cmp_total exact_link C.manifests D.manifests (λ l. at l (tenant_of C.tenants l.0) refl)
    where
      at : (l : Link) (o : Option ℕ) → tenant_of C.tenants l.0 ≡ o → get C.manifests l ≡ get D.manifests l
      at l None none = not_some (get C.manifests l) (λ x h. absent l.0 none (consistent_C.manifests l x h)) ∙ sym (not_some (get D.manifests l) (λ x h. absent_D l.0 none (consistent_D.manifests l x h)))
      at l (Some t) known = (alike t).manifests l (is_own C t l.0 known)

  same_sessions : C.sessions ≡ D.sessions
  same_sessions = same_map number_cmp_total exact_number C.sessions D.sessions (λ n. (alike n.0).sessions n (eq-eqb n.0 n.0 refl))

  same_used : (t : ℕ) → used_bytes C t ≡ used_bytes D t
  same_used t = used_bytes-blobs C t ∙ (λ i. sum_by (λ (e : Text × Text). length e.1) (blobs t i) + in_sessions_same t C D (alike t) i) ∙ sym (used_bytes-blobs D t)

  same_count : (d : Text) → link_count C d ≡ link_count D d
  same_count d = λ i. count_by (λ r. kept_set.contains (same_links i) (r, d)) (kept_set.items (same_repos i))

  -- ---- the size of a linked blob

  bytes_same : (t : ℕ) (d : Text) → tenant_holds C t d ≡ true → option_map (λ b. b.bytes) (get C.residents d) ≡ option_map (λ b. b.bytes) (get D.residents d)
  bytes_same t d h =
      sym (ap (λ x. cond x (option_map (λ b. b.bytes) (get C.residents d)) None) h)
      ∙ sym (find-blobs C t d) ∙ ap (find_key text_cmp d) (blobs t) ∙ find-blobs D t d
      ∙ ap (λ x. cond x (option_map (λ b. b.bytes) (get D.residents d)) None) (sym (tenant_holds_same t C D (alike t) d) ∙ h)

  size_of : (o : Option Resident) → option_map_or (λ b. length b.bytes) o 0 ≡ option_map_or length (option_map (λ b. b.bytes) o) 0
  size_of None = refl
  size_of (Some x) = refl

  same_size : (l : Link) → kept_set.contains C.links l ≡ true → blob_length C l.1 ≡ blob_length D l.1
  same_size l there = at (tenant_of C.tenants l.0) refl
    where
      at : (o : Option ℕ) → tenant_of C.tenants l.0 ≡ o → blob_length C l.1 ≡ blob_length D l.1
      at None none = absurd (absent l.0 none (consistent_C.links l there))
      at (Some t) known = size_of (get C.residents l.1) ∙ ap (λ o. option_map_or length o 0) (bytes_same t l.1 (is_held C t l.0 l.1 (consistent_C.links l there) (is_own C t l.0 known) there)) ∙ sym (size_of (get D.residents l.1))

  -- ---- the text

  same_blob_text : (l : Link) → kept_set.contains C.links l ≡ true → blob_text C l ≡ blob_text D l
  same_blob_text l there = λ i. blob_line l.1 (same_size l there i) (same_count l.1 i)

  same_repo_text : (t : ℕ) (r : Text) → repo_text C t r ≡ repo_text D t r
  same_repo_text t r =
      let blobs_here : flat_map (blob_text C) (filter (λ l. same_text l.0 r) (kept_set.items C.links)) ≡ flat_map (blob_text D) (filter (λ l. same_text l.0 r) (kept_set.items D.links)) =
      flat_map-same (blob_text C) (blob_text D) (filter (λ l. same_text l.0 r) (kept_set.items C.links))
      (all_filtered (λ l. blob_text C l ≡ blob_text D l) (λ l. same_text l.0 r) (kept_set.items C.links)
      (all_weaker (λ l. kept_set.contains C.links l ≡ true) (λ l. blob_text C l ≡ blob_text D l) same_blob_text (kept_set.items C.links) (members link_cmp link_cmp_total C.links)))
      ∙ ap (λ m. flat_map (blob_text D) (filter (λ l. same_text l.0 r) (kept_set.items m))) same_links in
      λ i. repository_line r ++ blobs_here i
      ++ flat_map manifest_text (filter (λ e. same_text e.0.0 r) (entries (same_manifests i)))
      ++ flat_map session_text (filter (λ e. e.0.0 == t && same_text e.1.repo r) (entries (same_sessions i)))

  same_tenant_text : (e : ℕ × Tenant) → tenant_text C e ≡ tenant_text D e
  same_tenant_text e =
      let repos_here : flat_map (repo_text C e.0) (filter (is_repo_of C e.0) (kept_set.items C.repos)) ≡ flat_map (repo_text D e.0) (filter (is_repo_of D e.0) (kept_set.items D.repos)) =
      flat_map-same (repo_text C e.0) (repo_text D e.0) (filter (is_repo_of C e.0) (kept_set.items C.repos)) (all_same (λ r. repo_text C e.0 r ≡ repo_text D e.0 r) (same_repo_text e.0) (filter (is_repo_of C e.0) (kept_set.items C.repos)))
      ∙ (λ i. flat_map (repo_text D e.0) (filter (λ r. of_same e.0 C D (alike e.0) r i) (kept_set.items (same_repos i)))) in
      λ i. tenant_line e.1.name (same_used e.0 i) e.1.quota ((alike e.0).next i) ++ repos_here i

  pub same_text_of : book_text C ≡ book_text D
  same_text_of =
      let all = flat_map-same (tenant_text C) (tenant_text D) (enumerate_from 0 C.tenants) (all_same (λ e. tenant_text C e ≡ tenant_text D e) same_tenant_text (enumerate_from 0 C.tenants))
      ∙ ap (λ ts. flat_map (tenant_text D) (enumerate_from 0 ts)) (same_elements C.tenants D.tenants (λ t. (alike t).tenants.settings)) in
      λ i. book_line ++ all i ++ end_line

-- ---- the theorem

uncrowded_of : (tenants : List Tenant) (t : ℕ) (es : List Event) → AllByRecursion IsUnaffectedByOthers es → AllByRecursion IsUnaffectedByOthers (events_of tenants t es)
uncrowded_of tenants t [] h = tt
uncrowded_of tenants t (SweepEvent swept ∷ es) h = uncrowded_of tenants t es h.1
uncrowded_of tenants t (SweepPartEvent swept ∷ es) h = uncrowded_of tenants t es h.1
uncrowded_of tenants t (CommandEvent command r ∷ es) h =
    elim (is_repo_of_tenant tenants t (repo_of command)) as (λ b. AllByRecursion IsUnaffectedByOthers (if b then CommandEvent command r ∷ events_of tenants t es else events_of tenants t es)) [
      | true ↦ (h.0, uncrowded_of tenants t es h.1)
      | false ↦ uncrowded_of tenants t es h.1
    ]

pub same_texts : TextsAreTheSame
same_texts tenants slots contents es fs C D run_es free_es run_fs free_fs same =
    let itself : (t : ℕ) → AreTenantsAlike t tenants tenants = λ t. tenants_alike_themselves t tenants in
    let a : (t : ℕ) → _ = λ t. followed tenants tenants slots contents t es C (itself t) run_es (uncrowded_of tenants t es free_es) in
    let b : (t : ℕ) → _ = λ t. followed tenants tenants slots contents t fs D (itself t) run_fs (uncrowded_of tenants t fs free_fs) in
    let alone_a : (t : ℕ) → Catalog = λ t. isolated_catalog (opening tenants slots contents) (commands_of (events_of tenants t es)) in
    let alone_b : (t : ℕ) → Catalog = λ t. isolated_catalog (opening tenants slots contents) (commands_of (events_of tenants t fs)) in
    let alone_same : (t : ℕ) → alone_a t ≡ alone_b t = λ t. ap (isolated_catalog (opening tenants slots contents)) (same t) in
    let alike : (t : ℕ) → Alike t C D = λ t. alike_through t C (alone_a t) D (a t).alike (subst (λ X. Alike t X D) (sym (alone_same t)) (alike_back t D (alone_b t) (b t).alike)) in
    let blobs : (t : ℕ) → blobs_of C t ≡ blobs_of D t = λ t.
    ap (λ p. p.blobs) (isolated tenants tenants slots contents t es C (itself t) run_es (uncrowded_of tenants t es free_es)).tenant_view
    ∙ ap (λ X. blobs_of X t) (alone_same t)
    ∙ sym (ap (λ p. p.blobs) (isolated tenants tenants slots contents t fs D (itself t) run_fs (uncrowded_of tenants t fs free_fs)).tenant_view) in
    same_text_of (content_of (pairs_of tenants slots contents es C run_es)) (content_of (pairs_of tenants slots contents fs D run_fs)) C D (a 0).consistent (b 0).consistent alike blobs
