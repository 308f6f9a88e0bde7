-- The manifests of a repository in their tree, and the index of their references.
use Rattle.std.proofs.Common.{◌≡◌, ℕ, ◌+◌, ◌<◌, ◌≤◌, Bool, true, false, cond, not, List, [], ◌∷◌, length, map, take, get_or, Option, Some, None, is_some, Ok, Err, Bor, subst, refl, sym, ap, ◌∙◌}
use Rattle.std.specs.Prelude.{◌&&◌, ◌||◌, slice_get, IfSome}
use Rattle.std.specs.declared.alloc.Global.{Global}
use Rattle.std.specs.declared.sync.Arc.{Arc}
use Rattle.std.specs.declared.cmp.Ordering.TheVariants.{Less, Equal, Greater}
use Rattle.std.specs.Ordering.{eq_by_cmp, is_eq, is_lt, is_gt, ordering_reverse, ordering_then}
use Rattle.std.specs.Option.{option_map, option_map_or, option_copied, option_cmp}
use Rattle.std.specs.declared.cmp.Ordering.{Ordering}
use Rattle.std.specs.Cmp.{tied_then, tied_itself, eq_by_cmp_equiv}
use Rattle.std.specs.Cmp.Lexicographic.{nat_list_cmp_total, texts_ties}
use Rattle.std.specs.List.{list_any, AllByRecursion, find as first}
use Rattle.std.specs.Map.{keys_of}
use Rattle.std.specs.List.Sorted.{IsStrictlySortedBy}
use Rattle.std.specs.BTreeMap as tree
use Rattle.std.specs.BTreeSet.{BTreeSet, contains, IsKeyRangeOf, IsKeyInRange}
use Rattle.std.specs.BTreeMap.Range.{IsInRange, IsLeBy}
use Rattle.std.specs.declared.ops.Bound.TheVariants.{Included, Unbounded}
use Rattle.std.specs.FinMap as fmap
use Rattle.std.specs.FinMap.Entries.{below_all}
use Rattle.std.specs.FinMap.{is_sorted, find, get, insert, remove, entries, get-from_entries, get-insert, get-remove}
use Rattle.std.proofs.lemmas.Bool.{true≢false, false_from_ne_true, le-leb, lt-leb, and_from, and_parts}
use Rattle.std.proofs.lemmas.List.{length-map}
use Rattle.std.proofs.lemmas.List.Folds.{list_any_more}
use Rattle.std.proofs.lemmas.Map.Lookups.{exact_bytes}
use Rattle.spec_lib.specs.Texts.{Text, text_cmp, same_text}
use Rattle.spec_lib.proofs.Texts.{text_is_same, tied_text, tied_to_itself}
use Rattle.spec_lib.proofs.Options.{some_same, some_none}
use Rattle.spec_lib.proofs.Sorted.{entries-sorted, is_less, rising}
use Rattle.spec_lib.proofs.Trees.{get_is}
use Rattle.blob_digest.specs.Digests.{sha256_text}
use Rattle.blob_digest.specs.declared.refusal.Refusal.TheVariants.{LimitReached}
use Rattle.oci_manifest.specs.Manifests.{refs_of, refers}
use Rattle.link_table.specs.Manifests.{RepoManifestBytes, stored_manifests, refer_cmp, is_pair, IsReferrerIndex, put_in, referrer_in}
use Rattle.spec_lib.proofs.Parts.{insert_by, remove_by}
use Rattle.std.proofs.Math.Bool.{and-false, and-true, or-false}

sym_text : (a b : Text) → same_text a b ≡ same_text b a
sym_text a b = texts_ties a b ∙ (eq_by_cmp_equiv nat_list_cmp_total).symm a b ∙ sym (texts_ties b a)

-- ---- one reference

-- the key is the key of this reference
abbrev at_pair : Text → Text → Text → Option Text → Bool
at_pair r m d None = false
at_pair r m d (Some k) = same_text r d && same_text m k

pair_tie : (r m d : Text) (o : Option Text) → tree.is_at (refer_cmp (r, Some m)) (d, o) ≡ at_pair r m d o
pair_tie r m d None = sym (tied_then (text_cmp r d) Greater) ∙ and-false (is_eq (text_cmp r d))
pair_tie r m d (Some k) = sym (tied_then (text_cmp r d) (text_cmp m k)) ∙ (λ i. sym (texts_ties r d) i && sym (texts_ties m k) i)

less_step : (a b old p : Bool) → cond (a && b) false (old && not (b && p)) ≡ (old && not (b && (p || a)))
less_step true true true true = refl
less_step true true true false = refl
less_step true true false p = refl
less_step true false old p = refl
less_step false true true true = refl
less_step false true true false = refl
less_step false true false p = refl
less_step false false old p = refl

more_step : (a b old p : Bool) → cond (a && b) true (old || (b && p)) ≡ (old || (b && (p || a)))
more_step true true true p = refl
more_step true true false true = refl
more_step true true false false = refl
more_step true false old p = refl
more_step false true true p = refl
more_step false true false true = refl
more_step false true false false = refl
more_step false false old p = refl

one_more : (refs : List Text) (i : ℕ) (m d : Text) (k : Text) → i < length refs → is_pair (take (i + 1) refs) m d (Some k) ≡ (same_text m k && (list_any (same_text d) (take i refs) || same_text (get_or refs i d) d))
one_more refs i m d k lt = ap (λ b. same_text m k && b) (list_any_more (same_text d) refs i d lt ∙ ap (λ b. list_any (same_text d) (take i refs) || b) (sym_text d (get_or refs i d)))

module _ (refs : List Text) (i : ℕ) (r m : Text) (lt : i < length refs) (read : (d : Text) → get_or refs i d ≡ r) where
  at_more : (d k : Text) → is_pair (take (i + 1) refs) m d (Some k) ≡ (same_text m k && (list_any (same_text d) (take i refs) || same_text r d))
  at_more d k = one_more refs i m d k lt ∙ ap (λ x. same_text m k && (list_any (same_text d) (take i refs) || same_text x d)) (read d)

  -- a reference less
  pub forgotten : (old cur new : BTreeSet (Text × Option Text)) → ((d : Text) (o : Option Text) → contains refer_cmp cur (d, o) ≡ (contains refer_cmp old (d, o) && not (is_pair (take i refs) m d o))) →
      ((q : Text × Option Text) → contains refer_cmp new q ≡ cond (tree.is_at (refer_cmp (r, Some m)) q) false (contains refer_cmp cur q)) →
      (d : Text) (o : Option Text) → contains refer_cmp new (d, o) ≡ (contains refer_cmp old (d, o) && not (is_pair (take (i + 1) refs) m d o))
  forgotten old cur new before update d None = update (d, None) ∙ (λ j. cond (pair_tie r m d None j) false (before d None j))
  forgotten old cur new before update d (Some k) =
      update (d, Some k) ∙ (λ j. cond (pair_tie r m d (Some k) j) false (before d (Some k) j))
      ∙ less_step (same_text r d) (same_text m k) (contains refer_cmp old (d, Some k)) (list_any (same_text d) (take i refs))
      ∙ ap (λ b. contains refer_cmp old (d, Some k) && not b) (sym (at_more d k))

  -- a reference more
  pub referred : (old cur new : BTreeSet (Text × Option Text)) → ((d : Text) (o : Option Text) → contains refer_cmp cur (d, o) ≡ (contains refer_cmp old (d, o) || is_pair (take i refs) m d o)) →
      ((q : Text × Option Text) → contains refer_cmp new q ≡ cond (tree.is_at (refer_cmp (r, Some m)) q) true (contains refer_cmp cur q)) →
      (d : Text) (o : Option Text) → contains refer_cmp new (d, o) ≡ (contains refer_cmp old (d, o) || is_pair (take (i + 1) refs) m d o)
  referred old cur new before update d None = update (d, None) ∙ (λ j. cond (pair_tie r m d None j) true (before d None j))
  referred old cur new before update d (Some k) =
      update (d, Some k) ∙ (λ j. cond (pair_tie r m d (Some k) j) true (before d (Some k) j))
      ∙ more_step (same_text r d) (same_text m k) (contains refer_cmp old (d, Some k)) (list_any (same_text d) (take i refs))
      ∙ ap (λ b. contains refer_cmp old (d, Some k) || b) (sym (at_more d k))

undo_step : (b old p : Bool) → (b ≡ true → old ≡ false) → ((old || (b && p)) && not (b && p)) ≡ old
undo_step true old p none = rw (none refl) (neither p)
  where
    neither : (x : Bool) → (x && not x) ≡ false
    neither true = refl
    neither false = refl
undo_step false true p none = refl
undo_step false false p none = refl

-- references that were added and forgotten again
pub undone : (refs : List Text) (m : Text) (old more back : BTreeSet (Text × Option Text)) → ((d : Text) → contains refer_cmp old (d, Some m) ≡ false) →
    ((d : Text) (o : Option Text) → contains refer_cmp more (d, o) ≡ (contains refer_cmp old (d, o) || is_pair refs m d o)) → ((d : Text) (o : Option Text) → contains refer_cmp back (d, o) ≡ (contains refer_cmp more (d, o) && not (is_pair refs m d o))) →
    (d : Text) (o : Option Text) → contains refer_cmp back (d, o) ≡ contains refer_cmp old (d, o)
undone refs m old more back none up down d None = down d None ∙ ap (λ b. b && true) (up d None) ∙ undo_step false (contains refer_cmp old (d, None)) false (λ e. absurd (true≢false (sym e)))
undone refs m old more back none up down d (Some k) =
    down d (Some k) ∙ ap (λ b. b && not (is_pair refs m d (Some k))) (up d (Some k))
    ∙ undo_step (same_text m k) (contains refer_cmp old (d, Some k)) (list_any (same_text d) refs) (λ e. ap (λ x. contains refer_cmp old (d, Some x)) (sym (text_is_same m k e)) ∙ none d)

-- ---- the manifests

find-mapped : (q : Text) (es : List (Text × Arc Text Global)) → find text_cmp q (map (λ e. (e.0, e.1.value)) es) ≡ option_map (λ a. a.value) (find text_cmp q es)
find-mapped q [] = refl
find-mapped q (e ∷ es) = elim (eq_by_cmp text_cmp q e.0) as (λ b. cond b (Some e.1.value) (find text_cmp q (map (λ e. (e.0, e.1.value)) es)) ≡ option_map (λ a. a.value) (cond b (Some e.1) (find text_cmp q es))) [
  | true ↦ refl
  | false ↦ find-mapped q es
]

pub get-stored_manifests : (rows : tree.BTreeMap Text (Arc Text Global)) (q : Text) → get (stored_manifests rows) q ≡ option_map (λ a. a.value) (tree.get text_cmp rows q)
get-stored_manifests rows q =
    get-from_entries nat_list_cmp_total (map (λ e. (e.0, e.1.value)) rows.entries) q ∙ find-mapped q rows.entries
    ∙ ap (option_map (λ (a : Arc Text Global). a.value)) (sym (get-from_entries nat_list_cmp_total rows.entries q) ∙ sym (get_is rows q))

seen : (b : Bool) (w o : Option (Arc Text Global)) → option_map (λ a. a.value) (cond b w o) ≡ cond b (option_map (λ a. a.value) w) (option_map (λ a. a.value) o)
seen true w o = refl
seen false w o = refl

changed : (old new : tree.BTreeMap Text (Arc Text Global)) (d : Text) (w : Option (Arc Text Global)) → ((q : Text) → tree.get text_cmp new q ≡ cond (tree.is_at (text_cmp d) q) w (tree.get text_cmp old q)) →
    (q : Text) → get (stored_manifests new) q ≡ cond (eq_by_cmp text_cmp q d) (option_map (λ a. a.value) w) (get (stored_manifests old) q)
changed old new d w is q =
    get-stored_manifests new q ∙ ap (option_map (λ (a : Arc Text Global). a.value)) (is q) ∙ seen (tree.is_at (text_cmp d) q) w (tree.get text_cmp old q)
    ∙ (λ i. cond ((eq_by_cmp_equiv nat_list_cmp_total).symm d q i) (option_map (λ a. a.value) w) (sym (get-stored_manifests old q) i))

pub stored_manifests-insert : (old new : tree.BTreeMap Text (Arc Text Global)) (d : Text) (a : Arc Text Global) → ((q : Text) → tree.get text_cmp new q ≡ cond (tree.is_at (text_cmp d) q) (Some a) (tree.get text_cmp old q)) → stored_manifests new ≡ insert (stored_manifests old) d a.value
stored_manifests-insert old new d a is = insert_by nat_list_cmp_total exact_bytes (stored_manifests old) (stored_manifests new) d a.value (changed old new d (Some a) is)

pub stored_manifests-remove : (old new : tree.BTreeMap Text (Arc Text Global)) (d : Text) → ((q : Text) → tree.get text_cmp new q ≡ cond (tree.is_at (text_cmp d) q) None (tree.get text_cmp old q)) → stored_manifests new ≡ remove (stored_manifests old) d
stored_manifests-remove old new d is = remove_by nat_list_cmp_total exact_bytes (stored_manifests old) (stored_manifests new) d (changed old new d None is)

-- ---- the index through each call

is_at_text : (m k : Text) → same_text m k ≡ eq_by_cmp text_cmp k m
is_at_text m k = sym_text m k ∙ texts_ties k m

put_step : (b p : Bool) (x : Option Text) (bytes d : Text) → refers bytes d ≡ p → (b ≡ true → x ≡ None) → (option_map_or (λ c. refers c d) x false || (b && p)) ≡ option_map_or (λ c. refers c d) (cond b (Some bytes) x) false
put_step true p x bytes d is none = rw (none refl) (sym is)
put_step false true x bytes d is none = or-false (option_map_or (λ c. refers c d) x false)
put_step false false x bytes d is none = or-false (option_map_or (λ c. refers c d) x false)

refers-refs : (bytes d : Text) (refs : List Text) → refs_of bytes ≡ Some refs → refers bytes d ≡ list_any (same_text d) refs
refers-refs bytes d refs is = ap (λ o. option_map_or (list_any (same_text d)) o false) is

module _ (m : RepoManifestBytes) (k bytes : Text) (refs : List Text) (is : refs_of bytes ≡ Some refs) (old new : BTreeSet (Text × Option Text)) (indexed : IsReferrerIndex m old) where
  pub unreferred : get m k ≡ None → (d : Text) → contains refer_cmp old (d, Some k) ≡ false
  unreferred none d = indexed d (Some k) ∙ ap (λ o. option_map_or (λ c. refers c d) o false) none

  tied_none : (q : Text) → get m k ≡ None → eq_by_cmp text_cmp q k ≡ true → get m q ≡ None
  tied_none q none tie = ap (get m) (text_is_same q k (texts_ties q k ∙ tie)) ∙ none

  pub IsReferrerIndex-insert : get m k ≡ None → ((d : Text) (o : Option Text) → contains refer_cmp new (d, o) ≡ (contains refer_cmp old (d, o) || is_pair refs k d o)) → IsReferrerIndex (insert m k bytes) new
  IsReferrerIndex-insert none more d None = more d None ∙ ap (λ b. b || false) (indexed d None)
  IsReferrerIndex-insert none more d (Some q) =
      more d (Some q) ∙ (λ i. indexed d (Some q) i || (is_at_text k q i && list_any (same_text d) refs))
      ∙ put_step (eq_by_cmp text_cmp q k) (list_any (same_text d) refs) (get m q) bytes d (refers-refs bytes d refs is) (tied_none q none)
      ∙ ap (λ o. option_map_or (λ c. refers c d) o false) (sym (get-insert nat_list_cmp_total m k bytes q))

  drop_step : (b : Bool) (x : Option Text) (d : Text) → (b ≡ true → x ≡ Some bytes) → (option_map_or (λ c. refers c d) x false && not (b && list_any (same_text d) refs)) ≡ option_map_or (λ c. refers c d) (cond b None x) false
  drop_step true x d at = rw (at refl, refers-refs bytes d refs is) (neither (list_any (same_text d) refs))
    where
      neither : (c : Bool) → (c && not c) ≡ false
      neither true = refl
      neither false = refl
  drop_step false x d at = and-true (option_map_or (λ c. refers c d) x false)

  pub IsReferrerIndex-remove : get m k ≡ Some bytes → ((d : Text) (o : Option Text) → contains refer_cmp new (d, o) ≡ (contains refer_cmp old (d, o) && not (is_pair refs k d o))) → IsReferrerIndex (remove m k) new
  IsReferrerIndex-remove there less d None = less d None ∙ ap (λ b. b && true) (indexed d None)
  IsReferrerIndex-remove there less d (Some q) =
      less d (Some q) ∙ (λ i. indexed d (Some q) i && not (is_at_text k q i && list_any (same_text d) refs))
      ∙ drop_step (eq_by_cmp text_cmp q k) (get m q) d (λ tie. ap (get m) (text_is_same q k (texts_ties q k ∙ tie)) ∙ there)
      ∙ ap (λ o. option_map_or (λ c. refers c d) o false) (sym (get-remove nat_list_cmp_total m k q))

-- ---- the results of the calls

pub put_there : (n : ℕ) (m : RepoManifestBytes) (bytes : Text) → fmap.contains_key m (sha256_text bytes) ≡ true → put_in n m bytes ≡ Ok (tt {0}, m)
put_there n m bytes there = rw there refl

pub put_full : (n : ℕ) (m : RepoManifestBytes) (bytes : Text) → fmap.contains_key m (sha256_text bytes) ≡ false → n ≤ fmap.len m → put_in n m bytes ≡ Err LimitReached
put_full n m bytes none many = rw (none, le-leb n (fmap.len m) many) refl

pub put_new : (n : ℕ) (m : RepoManifestBytes) (bytes : Text) → fmap.contains_key m (sha256_text bytes) ≡ false → fmap.len m < n → put_in n m bytes ≡ Ok (tt {0}, insert m (sha256_text bytes) bytes)
put_new n m bytes none few = rw (none, lt-leb n (fmap.len m) few) refl

seen_some : (o : Option (Arc Text Global)) → is_some (option_map (λ a. a.value) o) ≡ is_some o
seen_some None = refl
seen_some (Some a) = refl

pub contains-stored_manifests : (rows : tree.BTreeMap Text (Arc Text Global)) (q : Text) → is_some (tree.get text_cmp rows q) ≡ fmap.contains_key (stored_manifests rows) q
contains-stored_manifests rows q = sym (ap is_some (get-stored_manifests rows q) ∙ seen_some (tree.get text_cmp rows q))

below-mapped : (x : Text) (es : List (Text × Arc Text Global)) → AllByRecursion (λ y. text_cmp x y ≡ Less) (keys_of es) → below_all text_cmp x (map {B = Text × Text} (λ e. (e.0, e.1.value)) es) ≡ true
below-mapped x [] all = refl
below-mapped x (e ∷ es) all = and_from (is_lt (text_cmp x e.0)) (below_all text_cmp x (map {B = Text × Text} (λ e. (e.0, e.1.value)) es)) (ap is_lt all.0) (below-mapped x es all.1)

sorted-mapped : (es : List (Text × Arc Text Global)) → IsStrictlySortedBy text_cmp (keys_of es) → is_sorted text_cmp (map {B = Text × Text} (λ e. (e.0, e.1.value)) es) ≡ true
unfolding IsStrictlySortedBy
sorted-mapped [] up = refl
sorted-mapped (e ∷ es) up = and_from (below_all text_cmp e.0 (map {B = Text × Text} (λ e. (e.0, e.1.value)) es)) (is_sorted text_cmp (map {B = Text × Text} (λ e. (e.0, e.1.value)) es)) (below-mapped e.0 es up.0) (sorted-mapped es up.1)

pub entries-stored_manifests : (rows : tree.BTreeMap Text (Arc Text Global)) → IsStrictlySortedBy text_cmp (keys_of rows.entries) → entries (stored_manifests rows) ≡ map (λ e. (e.0, e.1.value)) rows.entries
entries-stored_manifests rows up = entries-sorted text_cmp nat_list_cmp_total exact_bytes (map {B = Text × Text} (λ e. (e.0, e.1.value)) rows.entries) (sorted-mapped rows.entries up)

pub len-stored_manifests : (rows : tree.BTreeMap Text (Arc Text Global)) → IsStrictlySortedBy text_cmp (keys_of rows.entries) → fmap.len (stored_manifests rows) ≡ length rows.entries
len-stored_manifests rows up = fmap.len-entries (stored_manifests rows) ∙ ap length (entries-stored_manifests rows up) ∙ length-map rows.entries (λ e. (e.0, e.1.value))

pub stored_manifests-same : (old new : tree.BTreeMap Text (Arc Text Global)) → new.entries ≡ old.entries → stored_manifests new ≡ stored_manifests old
stored_manifests-same old new is = ap (λ es. fmap.from_entries {R = text_cmp} (map {B = Text × Text} (λ (e : Text × Arc Text Global). (e.0, e.1.value)) es)) is

-- the copy that a look-up returns
pub copied_value : {A B : Type 0} (f : A → B) (r : Option (Bor A)) → option_map (λ m. f m.now) r ≡ option_map f (option_copied r)
copied_value f None = refl
copied_value f (Some m) = refl

-- nothing refers to anything
pub IsReferrerIndex-initial : (rows : tree.BTreeMap Text (Arc Text Global)) (s : BTreeSet (Text × Option Text)) → rows.entries ≡ [] → s.keys ≡ [] → IsReferrerIndex (stored_manifests rows) s
IsReferrerIndex-initial rows s none empty d None = ap (list_any (tree.is_at (refer_cmp (d, None)))) empty
IsReferrerIndex-initial rows s none empty d (Some k) =
    ap (list_any (tree.is_at (refer_cmp (d, Some k)))) empty
    ∙ sym (ap (λ o. option_map_or (λ c. refers c d) o false) (ap (λ es. get (fmap.from_entries {R = text_cmp} (map {B = Text × Text} (λ (e : Text × Arc Text Global). (e.0, e.1.value)) es)) k) none ∙ fmap.get-empty text_cmp k))

-- ---- the least manifest that refers to a digest

module _ (p : Text → Bool) where
  -- an entry of the rest is an entry of the list, and its key is above the first
  above : (x : Text) (es : List (Text × Text)) (q v : Text) → below_all text_cmp x es ≡ true → find text_cmp q es ≡ Some v → text_cmp x q ≡ Less
  above x [] q v below at = some_none (sym at)
  above x (e ∷ es) q v below at =
      let parts = and_parts (is_lt (text_cmp x e.0)) (below_all text_cmp x es) below in
      elim (eq_by_cmp text_cmp q e.0) as (λ b. eq_by_cmp text_cmp q e.0 ≡ b → cond b (Some e.1) (find text_cmp q es) ≡ Some v → text_cmp x q ≡ Less) [
        | true ↦ λ tie h. ap (text_cmp x) (tied_text q e.0 tie) ∙ is_less (text_cmp x e.0) parts.0
        | false ↦ λ tie h. above x es q v parts.1 h
      ] refl at

  untied : (x q : Text) → text_cmp x q ≡ Less → eq_by_cmp text_cmp q x ≡ false
  untied x q less = (eq_by_cmp_equiv nat_list_cmp_total).symm q x ∙ ap is_eq less

  kept_on : (e : Text × Text) (es : List (Text × Text)) (q v : Text) → below_all text_cmp e.0 es ≡ true → find text_cmp q es ≡ Some v → find text_cmp q (e ∷ es) ≡ Some v
  kept_on e es q v below at = ap (λ b. cond b (Some e.1) (find text_cmp q es)) (untied e.0 q (above e.0 es q v below at)) ∙ at

  first_of : (e : Text × Text) (es : List (Text × Text)) → find text_cmp e.0 (e ∷ es) ≡ Some e.1
  first_of e es = ap (λ b. cond b (Some e.1) (find text_cmp e.0 es)) (tied_to_itself e.0)

  pub none_passes : (es : List (Text × Text)) → is_sorted text_cmp es ≡ true → ((q v : Text) → find text_cmp q es ≡ Some v → p v ≡ false) → option_map (λ (e : Text × Text). e.0) (first (λ e. p e.1) es) ≡ None
  none_passes [] up none = refl
  none_passes (e ∷ es) up none =
      let parts = and_parts (below_all text_cmp e.0 es) (is_sorted text_cmp es) up in
      ap (λ b. option_map (λ (e : Text × Text). e.0) (cond b (Some e) (first (λ e. p e.1) es))) (none e.0 e.1 (first_of e es))
      ∙ none_passes es parts.1 (λ q v at. none q v (kept_on e es q v parts.0 at))

  pub least_passes : (es : List (Text × Text)) (k v : Text) → is_sorted text_cmp es ≡ true → find text_cmp k es ≡ Some v → p v ≡ true → ((q w : Text) → find text_cmp q es ≡ Some w → p w ≡ true → is_gt (text_cmp k q) ≡ false) →
      option_map (λ (e : Text × Text). e.0) (first (λ e. p e.1) es) ≡ Some k
  least_passes [] k v up at pass least = some_none (sym at)
  least_passes (e ∷ es) k v up at pass least =
      let parts = and_parts (below_all text_cmp e.0 es) (is_sorted text_cmp es) up in
      by_first (p e.1) refl (eq_by_cmp text_cmp k e.0) refl at parts.0
      (λ there. least_passes es k v parts.1 there pass (λ q w h g. least q w (kept_on e es q w parts.0 h) g))
    where
      by_first : (b : Bool) → p e.1 ≡ b → (t : Bool) → eq_by_cmp text_cmp k e.0 ≡ t → cond t (Some e.1) (find text_cmp k es) ≡ Some v → below_all text_cmp e.0 es ≡ true →
          (find text_cmp k es ≡ Some v → option_map (λ (e : Text × Text). e.0) (first (λ e. p e.1) es) ≡ Some k) → option_map (λ (e : Text × Text). e.0) (cond b (Some e) (first (λ e. p e.1) es)) ≡ Some k
      by_first true here true tie h below rest = ap Some (sym (tied_text k e.0 tie))
      by_first true here false tie h below rest =
          let low : text_cmp e.0 k ≡ Less = above e.0 es k v below h in
          let high : text_cmp k e.0 ≡ Greater = nat_list_cmp_total.antisymm k e.0 ∙ ap ordering_reverse low in
          absurd (true≢false (sym (ap is_gt high) ∙ least e.0 e.1 (first_of e es) here))
      by_first false here true tie h below rest = absurd (true≢false (sym pass ∙ ap p (sym (some_same h)) ∙ here))
      by_first false here false tie h below rest = rest h

module _ (m : RepoManifestBytes) (d : Text) (s : BTreeSet (Text × Option Text)) (indexed : IsReferrerIndex m s) where
  up : is_sorted text_cmp (entries m) ≡ true
  up = rising m

  there : (k v : Text) → find text_cmp k (entries m) ≡ Some v → contains refer_cmp s (d, Some k) ≡ refers v d
  there k v at = indexed d (Some k) ∙ ap (λ o. option_map_or (λ c. refers c d) o false) (fmap.get-entries m k ∙ at)

  pub referrer_none : ((k : Text) → contains refer_cmp s (d, Some k) ≡ false) → referrer_in m d ≡ None
  referrer_none none = none_passes (λ v. refers v d) (entries m) up (λ q v at. sym (there q v at) ∙ none q)

  pub referrer_some : (k : Text) → contains refer_cmp s (d, Some k) ≡ true → ((j : Text) → contains refer_cmp s (d, Some j) ≡ true → is_gt (text_cmp k j) ≡ false) → referrer_in m d ≡ Some k
  referrer_some k has least = by_value (get m k) refl (sym (indexed d (Some k)) ∙ has)
    where
      by_value : (o : Option Text) → get m k ≡ o → option_map_or (λ c. refers c d) o false ≡ true → referrer_in m d ≡ Some k
      by_value None is h = cc
      by_value (Some v) is h = least_passes (λ c. refers c d) (entries m) k v up (sym (fmap.get-entries m k) ∙ is) h (λ q w at pass. least q (there q w at ∙ pass))

module _ (m : RepoManifestBytes) (d : Text) (s : BTreeSet (Text × Option Text)) (indexed : IsReferrerIndex m s) (r : List (Text × Option Text)) (ranged : IsKeyRangeOf refer_cmp (Included (d, None)) Unbounded s r) where
  in_start : (k : Text) → IsInRange refer_cmp (Included (d, None)) Unbounded (d, Some k)
  in_start k = (ap (λ o. is_gt (ordering_then o Less)) (tied_itself nat_list_cmp_total d), tt)

  -- no reference follows from the digest on
  pub referrer_empty : r ≡ [] → referrer_in m d ≡ None
  referrer_empty none = referrer_none m d s indexed (λ k. ranged.5 none (d, Some k) (in_start k))

  module _ (x : Text × Option Text) (rest : List (Text × Option Text)) (starts : r ≡ x ∷ rest) where
    first_in : IsKeyInRange refer_cmp (Included (d, None)) Unbounded s x
    first_in = subst (λ l. IfSome (slice_get l 0) (IsKeyInRange refer_cmp (Included (d, None)) Unbounded s)) starts ranged.1

    first_least : (k : Text) → contains refer_cmp s (d, Some k) ≡ true → is_gt (refer_cmp x (d, Some k)) ≡ false
    first_least k has = subst (λ l. IfSome (slice_get l 0) (λ y. IsLeBy refer_cmp y (d, Some k))) starts (ranged.2 (d, Some k) (in_start k) has)

    -- the first reference from the digest on is of this digest
    pub referrer_first : x.0 ≡ d → x.1 ≡ referrer_in m d
    referrer_first same = by_manifest x.1 refl
      where
        by_manifest : (o : Option Text) → x.1 ≡ o → x.1 ≡ referrer_in m d
        by_manifest None is =
            let has : contains refer_cmp s x ≡ true = first_in.1 in
            absurd (true≢false (sym has ∙ ap (λ o. contains refer_cmp s (x.0, o)) is ∙ indexed x.0 None))
        by_manifest (Some k) is =
            let has : contains refer_cmp s x ≡ true = first_in.1 in
            is ∙ sym (referrer_some m d s indexed k (sym (λ i. contains refer_cmp s (same i, is i)) ∙ has) (λ j there.
            sym (ap (λ o. is_gt (ordering_then o (text_cmp k j))) (tied_itself nat_list_cmp_total d)) ∙ sym (λ i. is_gt (ordering_then (text_cmp (same i) d) (option_cmp text_cmp (is i) (Some j)))) ∙ first_least j there))

    after_start : (o : Ordering) → text_cmp x.0 d ≡ o → is_eq o ≡ false → (k : Text) → contains refer_cmp s (d, Some k) ≡ true → ⊥
    after_start Less is h k has =
        let start : is_gt (refer_cmp (d, None) x) ≡ false = first_in.0.0 in
        let over : text_cmp d x.0 ≡ Greater = nat_list_cmp_total.antisymm d x.0 ∙ ap ordering_reverse is in
        true≢false (sym (ap (λ p. is_gt (ordering_then p (option_cmp text_cmp None x.1))) over) ∙ start)
    after_start Equal is h k has = true≢false h
    after_start Greater is h k has = true≢false (sym (ap (λ p. is_gt (ordering_then p (option_cmp text_cmp x.1 (Some k)))) is) ∙ first_least k has)

    -- or of a later one
    pub referrer_later : same_text x.0 d ≡ false → None ≡ referrer_in m d
    referrer_later other = sym (referrer_none m d s indexed (λ k. false_from_ne_true (contains refer_cmp s (d, Some k)) (after_start (text_cmp x.0 d) refl (sym (texts_ties x.0 d) ∙ other) k)))
