-- Adding a repository and adding or removing a link change the counts of digests.
use Rattle.std.proofs.Common.{◌≡◌, ◌≢◌, ℕ, ◌+◌, Bool, true, false, cond, List, map, None, is_some, refl, sym, ap, ◌∙◌, arith, inl, inr}
use Rattle.std.specs.List.{sum_by, count_by}
use Rattle.std.specs.Cmp.Lexicographic.{nat_list_cmp_total}
use Rattle.std.specs.FinMap.{entries, get, remove, get-empty}
use Rattle.std.specs.Ordering.{eq_by_cmp, is_eq}
use Rattle.std.specs.Cmp.{tied_itself}
use Rattle.std.proofs.lemmas.Map.Lookups.{exact_bytes}
use Rattle.spec_lib.proofs.Lists.{count_by-none}
use Rattle.spec_lib.specs.Sets as set
use Rattle.spec_lib.specs.Texts.{Text, text_cmp}
use Rattle.store_model.specs.Catalog.{Link, Catalog, link_cmp, holds, link_count}
use Rattle.store_model.specs.Invariant.{WellFormed}
use Rattle.blob_digest.proofs.KeyOrders.{link_cmp_total, exact_link}
use Rattle.spec_lib.proofs.Rows.{sum_by-map, no_tie, entries-empty}
use Rattle.spec_lib.proofs.Sets.{insert_there, still, now, as_before-insert}
use Rattle.spec_lib.proofs.Sums.{sum_new, sum_split, insert-remove, insert_back, get-remove_same}
use Rattle.spec_lib.proofs.Options.{a_unit}
use Rattle.spec_lib.proofs.Maps.{term, cases_key, map_induct, sum_alike}
use Rattle.store_model.proofs.Invariant.Repos.{count_new, holds_none}

-- the members that pass: one of them, and the others
count_split : (p : Text → Bool) (s : set.Set text_cmp) (r : Text) → set.contains s r ≡ true → count_by p (set.items s) ≡ cond (p r) 1 0 + sum_by (λ (e : Text × Unit {0}). cond (p e.0) 1 0) (entries (remove s r))
count_split p s r there =
    let one : Text → ℕ = λ q. cond (p q) 1 0 in
    sum_by-map one (λ (e : Text × Unit {0}). e.0) (entries s) ∙ sum_split nat_list_cmp_total exact_bytes (λ (e : Text × Unit {0}). cond (p e.0) 1 0) s r tt (a_unit (get s r) there)

-- a new repository contains nothing
pub link_count-appear : (C : Catalog) (r d : Text) → WellFormed C → link_count (record C { repos = set.insert C.repos r }) d ≡ link_count C d
link_count-appear C r d lawful = elim (set.contains C.repos r) as (λ b. set.contains C.repos r ≡ b → link_count (record C { repos = set.insert C.repos r }) d ≡ link_count C d) [
  | true ↦ λ old. ap (λ s. count_by (λ q. holds C q d) (set.items s)) (insert_there nat_list_cmp_total exact_bytes C.repos r old)
  | false ↦ λ none. count_new (λ q. holds C q d) C.repos r none ∙ ap (λ b. cond {A = ℕ} b 1 0 + link_count C d) (holds_none C r lawful none d) ∙ omega arith
] refl

module _ (C : Catalog) (r d : Text) where
  abbrev linked : Catalog
  linked = record C { links = set.insert C.links (r, d) }

  abbrev unlinked : Catalog
  unlinked = record C { links = set.remove C.links (r, d) }

  -- a new link counts once
  pub link_count-link : set.contains C.repos r ≡ true → holds C r d ≡ false → link_count linked d ≡ 1 + link_count C d
  link_count-link there none =
      let after : link_count linked d ≡ cond (holds linked r d) 1 0 + sum_by (λ (e : Text × Unit {0}). cond (holds linked e.0 d) 1 0) (entries (remove C.repos r)) = count_split (λ q. holds linked q d) C.repos r there in
      let before : link_count C d ≡ cond (holds C r d) 1 0 + sum_by (λ (e : Text × Unit {0}). cond (holds C e.0 d) 1 0) (entries (remove C.repos r)) = count_split (λ q. holds C q d) C.repos r there in
      let one : cond {A = ℕ} (holds linked r d) 1 0 ≡ 1 = ap (λ b. cond b 1 0) (now link_cmp_total exact_link C.links (r, d)) in
      let zero : cond {A = ℕ} (holds C r d) 1 0 ≡ 0 = ap (λ b. cond b 1 0) none in
      let rest : sum_by (λ (e : Text × Unit {0}). cond {A = ℕ} (holds linked e.0 d) 1 0) (entries (remove C.repos r)) ≡ sum_by (λ (e : Text × Unit {0}). cond {A = ℕ} (holds C e.0 d) 1 0) (entries (remove C.repos r)) =
      sum_alike nat_list_cmp_total exact_bytes (λ (e : Text × Unit {0}). cond (holds linked e.0 d) 1 0) (λ (e : Text × Unit {0}). cond (holds C e.0 d) 1 0) (remove C.repos r) (remove C.repos r) (λ q. elim (cases_key nat_list_cmp_total exact_bytes q r) [
        | inl e ↦
            let gone : get (remove C.repos r) q ≡ None = ap (get (remove C.repos r)) e ∙ get-remove_same nat_list_cmp_total exact_bytes C.repos r in
            ap (term (λ (e : Text × Unit {0}). cond (holds linked e.0 d) 1 0) q) gone ∙ sym (ap (term (λ (e : Text × Unit {0}). cond (holds C e.0 d) 1 0) q) gone)
        | inr differ ↦
            let same : holds linked q d ≡ holds C q d = as_before-insert link_cmp_total exact_link C.links (r, d) (q, d) (λ e. differ (ap (λ p. p.0) e)) in
            ap (λ b. term (λ (e : Text × Unit {0}). cond b 1 0) q (get (remove C.repos r) q)) same
      ]) in
      omega arith

  -- no other digest's count changes
  pub count_other-link : (x : Text) → x ≢ d → link_count linked x ≡ link_count C x
  count_other-link x differ =
      let same : (q : Text) → holds linked q x ≡ holds C q x = λ q. as_before-insert link_cmp_total exact_link C.links (r, d) (q, x) (λ e. differ (ap (λ p. p.1) e)) in
      λ i. count_by (λ q. same q i) (set.items C.repos)

  -- a link that is removed and added again
  pub back : holds C r d ≡ true → set.insert unlinked.links (r, d) ≡ C.links
  back there = insert-remove link_cmp_total exact_link C.links (r, d) tt ∙ insert_back link_cmp_total exact_link C.links (r, d) tt (a_unit (get C.links (r, d)) there)

pub link_count-unlink : (C : Catalog) (r d : Text) → set.contains C.repos r ≡ true → holds C r d ≡ true → link_count C d ≡ 1 + link_count (record C { links = set.remove C.links (r, d) }) d
link_count-unlink C r d there has =
    ap (λ s. link_count (record C { links = s }) d) (sym (back C r d has))
    ∙ link_count-link (unlinked C r d) r d there (ap is_some (get-remove_same link_cmp_total exact_link C.links (r, d)))

-- ---- the same count over the links

module _ (C : Catalog) (d : Text) where
  abbrev over : set.Set link_cmp → Catalog
  over s = record C { links = s }

  abbrev by_links : set.Set link_cmp → ℕ
  by_links s = count_by (λ l. eq_by_cmp text_cmp d l.1) (set.items s)

  abbrev In_repos : set.Set link_cmp → Type 0
  In_repos s = (l : Link) → set.contains s l ≡ true → set.contains C.repos l.0 ≡ true

  links_with : (s : set.Set link_cmp) (l : Link) → get s l ≡ None → by_links (set.insert s l) ≡ cond (eq_by_cmp text_cmp d l.1) 1 0 + by_links s
  links_with s l none =
      let one : Link → ℕ = λ q. cond (eq_by_cmp text_cmp d q.1) 1 0 in
      sum_by-map one (λ (e : Link × Unit {0}). e.0) (entries (set.insert s l))
      ∙ sum_new link_cmp_total exact_link (λ (e : Link × Unit {0}). one e.0) s l tt none
      ∙ ap (λ n. one l + n) (sym (sum_by-map one (λ (e : Link × Unit {0}). e.0) (entries s)))

  one_more : (s : set.Set link_cmp) (l : Link) → get s l ≡ None → set.contains C.repos l.0 ≡ true → link_count (over s) d ≡ by_links s → link_count (over (set.insert s l)) d ≡ by_links (set.insert s l)
  one_more s l none there rest = elim (cases_key nat_list_cmp_total exact_bytes l.1 d) [
    | inl e ↦
        let pair : ◌≡◌ {A = Link} (l.0, d) l = ap (λ (x : Text). (l.0, x)) (sym e) in
        let absent : holds (over s) l.0 d ≡ false = ap is_some (ap (get s) pair ∙ none) in
        let more : link_count (over (set.insert s (l.0, d))) d ≡ 1 + link_count (over s) d = link_count-link (over s) l.0 d there absent in
        let same : link_count (over (set.insert s l)) d ≡ link_count (over (set.insert s (l.0, d))) d = ap (λ (q : Link). link_count (over (set.insert s q)) d) (sym pair) in
        let tie : cond {A = ℕ} (eq_by_cmp text_cmp d l.1) 1 0 ≡ 1 = ap (λ (x : Text). cond {A = ℕ} (eq_by_cmp text_cmp d x) 1 0) e ∙ ap (λ o. cond {A = ℕ} (is_eq o) 1 0) (tied_itself nat_list_cmp_total d) in
        let sum = links_with s l none in
        omega arith
    | inr differ ↦
        let same : link_count (over (set.insert s l)) d ≡ link_count (over s) d = count_other-link (over s) l.0 l.1 d (λ e. differ (sym e)) in
        let zero : cond {A = ℕ} (eq_by_cmp text_cmp d l.1) 1 0 ≡ 0 = ap (λ b. cond {A = ℕ} b 1 0) (no_tie text_cmp exact_bytes d l.1 (λ e. differ (sym e))) in
        let sum = links_with s l none in
        omega arith
  ]

  count_over : (s : set.Set link_cmp) → In_repos s → link_count (over s) d ≡ by_links s
  count_over = map_induct link_cmp_total exact_link (λ (s : set.Set link_cmp). In_repos s → link_count (over s) d ≡ by_links s)
      (λ _. count_by-none (λ q. holds (over set.empty_set) q d) (λ q. ap is_some (get-empty link_cmp (q, d))) (set.items C.repos)
      ∙ sym (ap (λ (es : List (Link × Unit {0})). count_by (λ l. eq_by_cmp text_cmp d l.1) (map (λ e. e.0) es)) (entries-empty link_cmp (Unit {0}))))
      (λ s l v none rest in_repos. one_more s l none (in_repos l (now link_cmp_total exact_link s l)) (rest (λ q h. in_repos q (still link_cmp_total exact_link s l q h))))

-- The number of repositories that contain a digest is the number of links to it.
pub link_count-by_links : (C : Catalog) → WellFormed C → (d : Text) → link_count C d ≡ count_by (λ l. eq_by_cmp text_cmp d l.1) (set.items C.links)
link_count-by_links C lawful d = count_over C d C.links (λ l h. (lawful.links l h).repo)
