-- The repositories of a tenant in their tree, as a set and a map.
use Rattle.std.proofs.Common.{◌≡◌, ℕ, ◌≤◌, Bool, true, false, cond, List, [], ◌∷◌, length, not, Option, Some, None, is_some, refl, sym, ap, ◌∙◌, arith}
use Rattle.std.specs.Prelude.{slice_get}
use Rattle.std.specs.declared.cmp.Ordering.TheVariants.{Less}
use Rattle.std.specs.Ordering.{eq_by_cmp, is_lt}
use Rattle.std.specs.Option.{option_map}
use Rattle.std.specs.Cmp.{eq_by_cmp_equiv}
use Rattle.std.specs.Cmp.Lexicographic.{nat_list_cmp_total}
use Rattle.std.specs.List.{AllByRecursion}
use Rattle.std.specs.List.Sorted.{IsStrictlySortedBy}
use Rattle.std.specs.BTreeMap as tree
use Rattle.std.specs.Map.{keys_of}
use Rattle.std.specs.FinMap.{FinMap, find, get, is_sorted, get-from_entries}
use Rattle.std.specs.FinMap.Entries.{below_all}
use Rattle.std.proofs.lemmas.Bool.{and_from}
use Rattle.std.proofs.lemmas.List.{length-map}
use Rattle.std.proofs.lemmas.Map.Lookups.{exact_bytes}
use Rattle.spec_lib.specs.Sets as sets
use Rattle.spec_lib.specs.Texts.{Text, text_cmp}
use Rattle.spec_lib.proofs.Parts.{insert_by, remove_by}
use Rattle.spec_lib.proofs.Sets.{insert_there}
use Rattle.spec_lib.proofs.Sorted.{entries-sorted}
use Rattle.spec_lib.proofs.Trees.{get_is}
use Rattle.blob_digest.specs.Keys.{link_cmp}
use Rattle.link_table.specs.Linked.{first_unlinked}
use Rattle.link_table.specs.TenantRepos.{repo_count}
use Rattle.link_table.specs.Rows.{Sizes, own_repos_shown, AreFew}

-- ---- the order of a tree's keys

module _ {X : Type 0} where
  is_below : (x : Text) (es : List (Text × X)) → AllByRecursion (λ y. text_cmp x y ≡ Less) (keys_of es) → below_all text_cmp x es ≡ true
  is_below x [] all = refl
  is_below x (e ∷ es) all = and_from (is_lt (text_cmp x e.0)) (below_all text_cmp x es) (ap is_lt all.0) (is_below x es all.1)

  pub sorted_tree : (es : List (Text × X)) → IsStrictlySortedBy text_cmp (keys_of es) → is_sorted text_cmp es ≡ true
  unfolding IsStrictlySortedBy
  sorted_tree [] up = refl
  sorted_tree (e ∷ es) up = and_from (below_all text_cmp e.0 es) (is_sorted text_cmp es) (is_below e.0 es up.0) (sorted_tree es up.1)

-- ---- the repositories

-- there is a repository
abbrev present : Option Sizes → Option (Unit {0})
present o = option_map (λ _. tt {0}) o

is_some-present : (o : Option Sizes) → is_some (present o) ≡ is_some o
is_some-present None = refl
is_some-present (Some m) = refl

present-cond : (b : Bool) (x y : Option Sizes) → present (cond b x y) ≡ cond b (present x) (present y)
present-cond true x y = refl
present-cond false x y = refl

find-names : (q : Text) (es : List (Text × Sizes)) → find text_cmp q (sets.unit_entries (keys_of es)) ≡ present (find text_cmp q es)
find-names q [] = refl
find-names q (e ∷ es) =
    ap (cond (eq_by_cmp text_cmp q e.0) (Some tt)) (find-names q es)
    ∙ sym (present-cond (eq_by_cmp text_cmp q e.0) (Some e.1) (find text_cmp q es))

names-back : (ks : List Text) → keys_of (sets.unit_entries ks) ≡ ks
names-back [] = refl
names-back (k ∷ ks) = ap (λ xs. k ∷ xs) (names-back ks)

module _ (rows : tree.BTreeMap Text Sizes) where
  get-names : (q : Text) → get (own_repos_shown rows).repos q ≡ present (tree.get text_cmp rows q)
  get-names q =
      get-from_entries nat_list_cmp_total (sets.unit_entries (tree.keys rows)) q
      ∙ find-names q rows.entries
      ∙ ap present (sym (get-from_entries nat_list_cmp_total rows.entries q) ∙ sym (get_is rows q))

  pub contains-rows : (q : Text) → sets.contains (own_repos_shown rows).repos q ≡ is_some (tree.get text_cmp rows q)
  contains-rows q = ap is_some (get-names q) ∙ is_some-present (tree.get text_cmp rows q)

  -- the members of the set, in order
  pub items-rows : IsStrictlySortedBy text_cmp (tree.keys rows) → sets.items (own_repos_shown rows).repos ≡ tree.keys rows
  items-rows up =
      ap (λ (es : List (Text × Unit {0})). keys_of es)
      (entries-sorted text_cmp nat_list_cmp_total exact_bytes (sets.unit_entries (tree.keys rows)) (sorted_tree (sets.unit_entries (tree.keys rows)) (rw (names-back (tree.keys rows)) up)))
      ∙ names-back (tree.keys rows)

  pub repo_count-rows : IsStrictlySortedBy text_cmp (tree.keys rows) → repo_count (own_repos_shown rows) ≡ tree.btree_map_len rows
  repo_count-rows up = ap length (items-rows up) ∙ length-map rows.entries (λ e. e.0)

  pub few-rows : IsStrictlySortedBy text_cmp (tree.keys rows) → AreFew rows → repo_count (own_repos_shown rows) ≤ 65536
  few-rows up few = omega (arith, repo_count-rows up)

-- a repository more, or less
module _ (rows new : tree.BTreeMap Text Sizes) (r : Text) (w : Option Sizes) (put : (q : Text) → tree.get text_cmp new q ≡ cond (tree.is_at (text_cmp r) q) w (tree.get text_cmp rows q)) where
  names-changed : (q : Text) → get (own_repos_shown new).repos q ≡ cond (eq_by_cmp text_cmp q r) (present w) (get (own_repos_shown rows).repos q)
  names-changed q =
      get-names new q ∙ ap present (put q) ∙ present-cond (tree.is_at (text_cmp r) q) w (tree.get text_cmp rows q)
      ∙ (λ i. cond ((eq_by_cmp_equiv nat_list_cmp_total).symm r q i) (present w) (sym (get-names rows q) i))

pub repos-insert : (rows new : tree.BTreeMap Text Sizes) (r : Text) (m : Sizes) → ((q : Text) → tree.get text_cmp new q ≡ cond (tree.is_at (text_cmp r) q) (Some m) (tree.get text_cmp rows q)) →
    (own_repos_shown new).repos ≡ sets.insert (own_repos_shown rows).repos r
repos-insert rows new r m put = insert_by nat_list_cmp_total exact_bytes (own_repos_shown rows).repos (own_repos_shown new).repos r tt (names-changed rows new r (Some m) put)

pub repos-remove : (rows new : tree.BTreeMap Text Sizes) (r : Text) → ((q : Text) → tree.get text_cmp new q ≡ cond (tree.is_at (text_cmp r) q) None (tree.get text_cmp rows q)) →
    (own_repos_shown new).repos ≡ sets.remove (own_repos_shown rows).repos r
repos-remove rows new r put = remove_by nat_list_cmp_total exact_bytes (own_repos_shown rows).repos (own_repos_shown new).repos r (names-changed rows new r None put)

-- a repository whose blobs change stays
pub repos-same : (rows new : tree.BTreeMap Text Sizes) (r : Text) (old m : Sizes) → Some old ≡ tree.get text_cmp rows r → ((q : Text) → tree.get text_cmp new q ≡ cond (tree.is_at (text_cmp r) q) (Some m) (tree.get text_cmp rows q)) →
    (own_repos_shown new).repos ≡ (own_repos_shown rows).repos
repos-same rows new r old m is put = repos-insert rows new r m put ∙ insert_there nat_list_cmp_total exact_bytes (own_repos_shown rows).repos r (contains-rows rows r ∙ ap is_some (sym is))

-- ---- of a repository without links the first of some digests is unlinked

pub first_of_none : (links : FinMap link_cmp ℕ) (q : Text) → ((d : Text) → get links (q, d) ≡ None) → (ds : List Text) → first_unlinked links q ds ≡ slice_get ds 0
first_of_none links q none [] = refl
first_of_none links q none (d ∷ ds) = ap (λ o. cond (not (is_some o)) (Some d) (first_unlinked links q ds)) (none d)
