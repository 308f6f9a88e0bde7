-- Values by repository and digest, from those of each repository.
use Rattle.std.proofs.Common.{◌≡◌, Bool, true, false, cond, List, [], ◌∷◌, length, map, filter, Option, Some, None, refl, sym, ap, ◌∙◌}
use Rattle.std.specs.Prelude.{◌&&◌, IsSome, count_by}
use Rattle.std.specs.declared.cmp.Ordering.{Ordering}
use Rattle.std.specs.Ordering.{eq_by_cmp, is_lt, ordering_then}
use Rattle.std.specs.Cmp.{tied_itself, Equal-is}
use Rattle.std.specs.Cmp.Lexicographic.{nat_list_cmp_total, texts_ties}
use Rattle.std.specs.List.{flat_map}
use Rattle.std.specs.Option.{option_map_or}
use Rattle.std.specs.BTreeMap as tree
use Rattle.std.proofs.lemmas.Map.Lookups.{exact_bytes}
use Rattle.std.specs.FinMap.{FinMap, find, get, entries, empty, insert, remove, len, from_entries, is_sorted, get-empty, get-entries, get-from_entries, get-insert, get-remove, len-entries, empty_of_len, same_map}
use Rattle.std.specs.FinMap.Entries.{below_all, find_tied}
use Rattle.std.proofs.lemmas.List.{length-map}
use Rattle.std.proofs.lemmas.List.Sums.{length-filter}
use Rattle.spec_lib.specs.Trees.{map_of}
use Rattle.spec_lib.specs.Rows.{IsApart}
use Rattle.spec_lib.specs.Texts.{Text, text_cmp, same_text}
use Rattle.spec_lib.proofs.Texts.{tied_text}
use Rattle.spec_lib.proofs.Options.{some_none}
use Rattle.spec_lib.proofs.Rows.{entries-empty}
use Rattle.spec_lib.proofs.Sorted.{entries-sorted, IsApart-sorted, rising}
use Rattle.spec_lib.proofs.Parts.{or_else, find-++, insert_by, remove_by, remove_absent, where_key-agree, where_key-all}
use Rattle.spec_lib.proofs.Trees.{get_is, insert_is}
use Rattle.blob_digest.specs.Keys.{Link, link_cmp}
use Rattle.blob_digest.proofs.KeyOrders.{link_cmp_total, exact_link}
use Rattle.link_table.specs.Groups.{Groups, group_rows, ungrouped}
use Rattle.link_table.proofs.LinkKeys.{link_tie, both_ties, none_anyway}

pub nothing_left : {K X : Type 0} {R : K → K → Ordering} (m : FinMap R X) → entries m ≡ [] → m ≡ empty
nothing_left m none = empty_of_len m (len-entries m ∙ ap length none)

module _ {X : Type 0} where
  -- ---- rows with a repository's name

  -- the rows es of the repository n
  abbrev pub paired : Text → List (Text × X) → List (Link × X)
  paired n es = map (λ f. ((n, f.0), f.1)) es

  find-paired : (n r d : Text) (es : List (Text × X)) → find link_cmp (r, d) (paired n es) ≡ cond (eq_by_cmp text_cmp r n) (find text_cmp d es) None
  find-paired n r d [] = none_anyway (eq_by_cmp text_cmp r n)
  find-paired n r d (e ∷ es) =
      (λ i. cond (link_tie r d n e.0 i) (Some e.1) (find-paired n r d es i))
      ∙ both_ties (eq_by_cmp text_cmp r n) (eq_by_cmp text_cmp d e.0) (Some e.1) (find text_cmp d es)

  below-paired : (n x : Text) (es : List (Text × X)) → below_all link_cmp (n, x) (paired n es) ≡ below_all text_cmp x es
  below-paired n x [] = refl
  below-paired n x (e ∷ es) = λ j. is_lt (ordering_then (tied_itself nat_list_cmp_total n j) (text_cmp x e.0)) && below-paired n x es j

  sorted-paired : (n : Text) (es : List (Text × X)) → is_sorted link_cmp (paired n es) ≡ is_sorted text_cmp es
  sorted-paired n [] = refl
  sorted-paired n (e ∷ es) = λ j. below-paired n e.0 es j && sorted-paired n es j

  read-paired : (n : Text) (es : List (Text × X)) → map {B = Text × X} (λ (e : Link × X). (e.0.1, e.1)) (paired n es) ≡ es
  read-paired n [] = refl
  read-paired n (e ∷ es) = ap (λ xs. e ∷ xs) (read-paired n es)

  -- ---- one repository's values

  abbrev pub given : Option (FinMap text_cmp X) → FinMap text_cmp X
  given found = option_map_or (λ m. m) found empty

  -- the values of a repository, or none if it is not there
  abbrev pub group : Groups X → Text → FinMap text_cmp X
  group g r = given (get g r)

  find_given : (b : Bool) (m : FinMap text_cmp X) (x : Option (FinMap text_cmp X)) (d : Text) → (b ≡ true → x ≡ None) →
      or_else (cond b (find text_cmp d (entries m)) None) (find text_cmp d (entries (given x))) ≡ find text_cmp d (entries (given (cond b (Some m) x)))
  find_given true m x d none = rw (none refl) (by_found (find text_cmp d (entries m)) (ap (find text_cmp d) (entries-empty text_cmp X)))
    where
      by_found : (found : Option X) → find text_cmp d (entries (empty {X = X} {R = text_cmp})) ≡ None → or_else found (find text_cmp d (entries (empty {X = X} {R = text_cmp}))) ≡ found
      by_found None nothing = nothing
      by_found (Some v) nothing = refl
  find_given false m x d none = refl

  find-ungrouped : (es : List (Text × FinMap text_cmp X)) → IsApart text_cmp es → (r d : Text) → find link_cmp (r, d) (flat_map group_rows es) ≡ find text_cmp d (entries (given (find text_cmp r es)))
  find-ungrouped [] all r d = sym (ap (find text_cmp d) (entries-empty text_cmp X))
  find-ungrouped (e ∷ es) all r d =
      find-++ link_cmp (r, d) (group_rows e) (flat_map group_rows es)
      ∙ (λ i. or_else (find-paired e.0 r d (entries e.1) i) (find-ungrouped es all.1 r d i))
      ∙ find_given (eq_by_cmp text_cmp r e.0) e.1 (find text_cmp r es) d (λ tie. sym (find_tied text_cmp nat_list_cmp_total r e.0 ((Equal-is (text_cmp r e.0)).0 tie) es) ∙ all.0)

  -- a look-up is one in the repository's values
  pub get-ungrouped : (g : Groups X) (r d : Text) → get (ungrouped g) (r, d) ≡ get (group g r) d
  get-ungrouped g r d =
      get-from_entries link_cmp_total (flat_map group_rows (entries g)) (r, d)
      ∙ find-ungrouped (entries g) (IsApart-sorted text_cmp (entries g) (rising g)) r d
      ∙ ap (λ x. find text_cmp d (entries (given x))) (sym (get-entries g r))
      ∙ sym (get-entries (group g r) d)

  -- ---- one repository's values, in order

  pub on-ungrouped : (g : Groups X) (r : Text) → map {B = Text × X} (λ (e : Link × X). (e.0.1, e.1)) (filter (λ (e : Link × X). same_text e.0.0 r) (entries (ungrouped g))) ≡ entries (group g r)
  on-ungrouped g r =
      let m = group g r in
      let own : FinMap link_cmp X = from_entries (paired r (entries m)) in
      let listed : entries own ≡ paired r (entries m) = entries-sorted link_cmp link_cmp_total exact_link (paired r (entries m)) (sorted-paired r (entries m) ∙ rising m) in
      ap (map (λ (e : Link × X). (e.0.1, e.1)))
      (where_key-agree link_cmp_total exact_link (λ k. same_text k.0 r) (ungrouped g) own (λ k h. agree k (sym (texts_ties k.0 r) ∙ h))
      ∙ where_key-all link_cmp_total exact_link (λ k. same_text k.0 r) own (λ k v h. passes k v (eq_by_cmp text_cmp k.0 r) refl (sym (find-paired r k.0 k.1 (entries m)) ∙ sym (get-from_entries link_cmp_total (paired r (entries m)) k) ∙ h))
      ∙ listed)
      ∙ read-paired r (entries m)
    where
      agree : (k : Link) → eq_by_cmp text_cmp k.0 r ≡ true → get (ungrouped g) k ≡ get (from_entries {R = link_cmp} (paired r (entries (group g r)))) k
      agree k tie =
          get-ungrouped g k.0 k.1 ∙ ap (λ q. get (group g q) k.1) (tied_text k.0 r tie) ∙ get-entries (group g r) k.1
          ∙ sym (get-from_entries link_cmp_total (paired r (entries (group g r))) k ∙ find-paired r k.0 k.1 (entries (group g r)) ∙ ap (λ b. cond b (find text_cmp k.1 (entries (group g r))) None) tie)

      passes : (k : Link) (v : X) (b : Bool) → eq_by_cmp text_cmp k.0 r ≡ b → cond b (find text_cmp k.1 (entries (group g r))) None ≡ Some v → same_text k.0 r ≡ true
      passes k v true tie h = texts_ties k.0 r ∙ tie
      passes k v false tie h = some_none (sym h)

  pub count-ungrouped : (g : Groups X) (r : Text) → count_by (λ (e : Link × X). same_text e.0.0 r) (entries (ungrouped g)) ≡ len (group g r)
  count-ungrouped g r =
      sym (length-filter (λ (e : Link × X). same_text e.0.0 r) (entries (ungrouped g)))
      ∙ sym (length-map (filter (λ (e : Link × X). same_text e.0.0 r) (entries (ungrouped g))) (λ e. (e.0.1, e.1)))
      ∙ ap length (on-ungrouped g r) ∙ sym (len-entries (group g r))

  -- ---- one repository's values change

  module _ (g : Groups X) (r : Text) where
    regroup : (w : FinMap text_cmp X) (q : Text) → group (insert g r w) q ≡ given (cond (eq_by_cmp text_cmp q r) (Some w) (get g q))
    regroup w q = ap given (get-insert nat_list_cmp_total g r w q)

    get-changed : (w : FinMap text_cmp X) (d : Text) (x : Option X) → ((e : Text) → get w e ≡ cond (eq_by_cmp text_cmp e d) x (get (group g r) e)) →
        (q : Link) → get (ungrouped (insert g r w)) q ≡ cond (eq_by_cmp link_cmp q (r, d)) x (get (ungrouped g) q)
    get-changed w d x is q =
        get-ungrouped (insert g r w) q.0 q.1 ∙ ap (λ m. get m q.1) (regroup w q.0)
        ∙ by_tie (eq_by_cmp text_cmp q.0 r) refl
        ∙ (λ i. cond (sym (link_tie q.0 q.1 r d) i) x (sym (get-ungrouped g q.0 q.1) i))
      where
        by_tie : (b : Bool) → eq_by_cmp text_cmp q.0 r ≡ b → get (given (cond b (Some w) (get g q.0))) q.1 ≡ cond (b && eq_by_cmp text_cmp q.1 d) x (get (group g q.0) q.1)
        by_tie true tie = is q.1 ∙ ap (λ s. cond (eq_by_cmp text_cmp q.1 d) x (get (group g s) q.1)) (sym (tied_text q.0 r tie))
        by_tie false tie = refl

    pub ungrouped-insert : (d : Text) (v : X) → ungrouped (insert g r (insert (group g r) d v)) ≡ insert (ungrouped g) (r, d) v
    ungrouped-insert d v = insert_by link_cmp_total exact_link (ungrouped g) (ungrouped (insert g r (insert (group g r) d v))) (r, d) v (get-changed (insert (group g r) d v) d (Some v) (get-insert nat_list_cmp_total (group g r) d v))

    pub ungrouped-remove : (d : Text) → ungrouped (insert g r (remove (group g r) d)) ≡ remove (ungrouped g) (r, d)
    ungrouped-remove d = remove_by link_cmp_total exact_link (ungrouped g) (ungrouped (insert g r (remove (group g r) d))) (r, d) (get-changed (remove (group g r) d) d None (get-remove nat_list_cmp_total (group g r) d))

    pub ungrouped-same : ungrouped (insert g r (group g r)) ≡ ungrouped g
    ungrouped-same = same_map link_cmp_total exact_link (ungrouped (insert g r (group g r))) (ungrouped g) (λ q.
        get-ungrouped (insert g r (group g r)) q.0 q.1 ∙ ap (λ m. get m q.1) (regroup (group g r) q.0) ∙ by_tie q (eq_by_cmp text_cmp q.0 r) refl ∙ sym (get-ungrouped g q.0 q.1))
      where
        by_tie : (q : Link) (b : Bool) → eq_by_cmp text_cmp q.0 r ≡ b → get (given (cond b (Some (group g r)) (get g q.0))) q.1 ≡ get (group g q.0) q.1
        by_tie q true tie = ap (λ s. get (group g s) q.1) (sym (tied_text q.0 r tie))
        by_tie q false tie = refl

    -- removing a value that does not exist
    pub ungrouped-without : (d : Text) → get g r ≡ None → ungrouped g ≡ remove (ungrouped g) (r, d)
    ungrouped-without d none = sym (remove_absent link_cmp_total exact_link (ungrouped g) (r, d) (get-ungrouped g r d ∙ ap (λ x. get (given x) d) none ∙ get-empty text_cmp d))

  -- ---- the tree of the repositories

  module _ (rows : tree.BTreeMap Text (FinMap text_cmp X)) (r : Text) where
    pub group_of : (m : FinMap text_cmp X) → Some m ≡ tree.get text_cmp rows r → group (map_of rows) r ≡ m
    group_of m is = ap given (sym (is ∙ get_is rows r))

    pub no_group : None ≡ tree.get text_cmp rows r → get (map_of rows) r ≡ None
    no_group is = sym (is ∙ get_is rows r)

    pub bare : ((d : Text) → get (ungrouped (map_of rows)) (r, d) ≡ None) → group (map_of rows) r ≡ empty
    bare none = same_map nat_list_cmp_total exact_bytes (group (map_of rows) r) empty (λ d. sym (get-ungrouped (map_of rows) r d) ∙ none d ∙ sym (get-empty text_cmp d))

    is_there : {Y : Type 0} {x : Y} (o : Option Y) → Some x ≡ o → IsSome o
    is_there o is = rw (← is) refl

    -- the state after a write through a look-up
    pub updates : (n : tree.BTreeMap Text (FinMap text_cmp X)) (m w : FinMap text_cmp X) → Some m ≡ tree.get text_cmp rows r → (IsSome (tree.get text_cmp rows r) → tree.UpdatesBy text_cmp (text_cmp r) rows n (Some w)) →
        (q : Text) → tree.get text_cmp n q ≡ cond (tree.is_at (text_cmp r) q) (Some w) (tree.get text_cmp rows q)
    updates n m w is h = (h (is_there (tree.get text_cmp rows r) is)).0

    pub written : (n : tree.BTreeMap Text (FinMap text_cmp X)) (m w : FinMap text_cmp X) → Some m ≡ tree.get text_cmp rows r → (IsSome (tree.get text_cmp rows r) → tree.UpdatesBy text_cmp (text_cmp r) rows n (Some w)) → map_of n ≡ insert (map_of rows) r w
    written n m w is h = insert_is rows n r w (updates n m w is h)

    -- the look-up of a digest
    pub get_there : (m : FinMap text_cmp X) (d : Text) → group (map_of rows) r ≡ m → get m d ≡ get (ungrouped (map_of rows)) (r, d)
    get_there m d found = ap (λ x. get x d) (sym found) ∙ sym (get-ungrouped (map_of rows) r d)

    pub get_none : (d : Text) → None ≡ tree.get text_cmp rows r → None ≡ get (ungrouped (map_of rows)) (r, d)
    get_none d is = sym (get-ungrouped (map_of rows) r d ∙ ap (λ x. get (given x) d) (no_group is) ∙ get-empty text_cmp d)

    -- a digest more
    pub inserted : (n : tree.BTreeMap Text (FinMap text_cmp X)) (m w : FinMap text_cmp X) (d : Text) (v : X) → group (map_of rows) r ≡ m → map_of n ≡ insert (map_of rows) r w → w ≡ insert m d v → ungrouped (map_of n) ≡ insert (ungrouped (map_of rows)) (r, d) v
    inserted n m w d v found new is = ap ungrouped (new ∙ ap (insert (map_of rows) r) (is ∙ ap (λ x. insert x d v) (sym found))) ∙ ungrouped-insert (map_of rows) r d v

    -- the same values
    pub unchanged : (n : tree.BTreeMap Text (FinMap text_cmp X)) (m w : FinMap text_cmp X) → group (map_of rows) r ≡ m → map_of n ≡ insert (map_of rows) r w → w ≡ m → ungrouped (map_of n) ≡ ungrouped (map_of rows)
    unchanged n m w found new is = ap ungrouped (new ∙ ap (insert (map_of rows) r) (is ∙ sym found)) ∙ ungrouped-same (map_of rows) r

    -- a digest less
    pub removed : (n : tree.BTreeMap Text (FinMap text_cmp X)) (m w : FinMap text_cmp X) (d : Text) → group (map_of rows) r ≡ m → map_of n ≡ insert (map_of rows) r w → w ≡ remove m d → ungrouped (map_of n) ≡ remove (ungrouped (map_of rows)) (r, d)
    removed n m w d found new is = ap ungrouped (new ∙ ap (insert (map_of rows) r) (is ∙ ap (λ x. remove x d) (sym found))) ∙ ungrouped-remove (map_of rows) r d

    pub removed_none : (n : tree.BTreeMap Text (FinMap text_cmp X)) (d : Text) → None ≡ tree.get text_cmp rows r → n ≡ rows → ungrouped (map_of n) ≡ remove (ungrouped (map_of rows)) (r, d)
    removed_none n d none is = ap (λ (x : tree.BTreeMap Text (FinMap text_cmp X)). ungrouped (map_of x)) is ∙ ungrouped-without (map_of rows) r d (no_group none)

    -- the values in order
    pub entries_there : (m : FinMap text_cmp X) → group (map_of rows) r ≡ m → entries m ≡ map {B = Text × X} (λ (e : Link × X). (e.0.1, e.1)) (filter (λ (e : Link × X). same_text e.0.0 r) (entries (ungrouped (map_of rows))))
    entries_there m found = ap entries (sym found) ∙ sym (on-ungrouped (map_of rows) r)

    pub entries_none : None ≡ tree.get text_cmp rows r → [] ≡ map {B = Text × X} (λ (e : Link × X). (e.0.1, e.1)) (filter (λ (e : Link × X). same_text e.0.0 r) (entries (ungrouped (map_of rows))))
    entries_none is = sym (on-ungrouped (map_of rows) r ∙ ap (λ x. entries (given x)) (no_group is) ∙ entries-empty text_cmp X)

    -- a repository without values is removed
    pub forgotten : (n : tree.BTreeMap Text (FinMap text_cmp X)) → group (map_of rows) r ≡ empty → ((q : Text) → tree.get text_cmp n q ≡ cond (tree.is_at (text_cmp r) q) None (tree.get text_cmp rows q)) → ungrouped (map_of n) ≡ ungrouped (map_of rows)
    forgotten n none gone = same_map link_cmp_total exact_link (ungrouped (map_of n)) (ungrouped (map_of rows)) (λ k.
        get-ungrouped (map_of n) k.0 k.1
        ∙ ap (λ x. get (given x) k.1) (sym (get_is n k.0) ∙ gone k.0)
        ∙ by_tie k (tree.is_at (text_cmp r) k.0) refl
        ∙ sym (get-ungrouped (map_of rows) k.0 k.1))
      where
        by_tie : (k : Link) (b : Bool) → tree.is_at (text_cmp r) k.0 ≡ b → get (given (cond b None (tree.get text_cmp rows k.0))) k.1 ≡ get (group (map_of rows) k.0) k.1
        by_tie k true tie = ap (λ (m : FinMap text_cmp X). get m k.1) (sym (ap (group (map_of rows)) (sym (tied_text r k.0 tie)) ∙ none))
        by_tie k false tie = ap (λ x. get (given x) k.1) (get_is rows k.0)

  -- a tree without repositories
  pub ungrouped-new : (rows : tree.BTreeMap Text (FinMap text_cmp X)) → rows.entries ≡ [] → ungrouped (map_of rows) ≡ empty
  ungrouped-new rows none = same_map link_cmp_total exact_link (ungrouped (map_of rows)) empty (λ q.
      get-ungrouped (map_of rows) q.0 q.1 ∙ ap (λ x. get (given x) q.1) (get-from_entries nat_list_cmp_total rows.entries q.0 ∙ ap (find text_cmp q.0) none) ∙ get-empty text_cmp q.1 ∙ sym (get-empty link_cmp q))
