-- The changes of a tenant's counts by one link more or less.
use Rattle.std.proofs.Common.{◌≡◌, ℕ, ◌+◌, ◌<◌, ◌≤◌, Bool, true, false, cond, ◌&&◌, ◌||◌, ◌==◌, nat_lt, List, [], ◌∷◌, length, map, filter, get_or, set, Option, None, Some, is_some, refl, sym, ap, ◌∙◌, arith, subst, length-set}
use Prim.Native.Nat.{zero, suc}
use Rattle.std.specs.Prelude.{◌≢◌, slice_get, count_by, unwrap_or, nat_eq}
use Rattle.std.specs.Option.{option_eq, option_map_or}
use Rattle.std.specs.List.{All, list_any, AllByRecursion, IsDistinct}
use Rattle.std.specs.Set.{is_member}
use Rattle.std.specs.Ordering.{eq_by_cmp, is_eq}
use Rattle.std.specs.Cmp.{tied_itself, eq_by_cmp_equiv}
use Rattle.std.specs.Cmp.Lexicographic.{nat_list_cmp_total, texts_ties}
use Rattle.std.specs.BTreeMap as tree
use Rattle.std.specs.Map.{lookup}
use Rattle.std.proofs.lemmas.Bool.{eqb-true, eq-eqb, and_parts, and_from, true≢false, false_from_ne_true}
use Rattle.std.proofs.lemmas.Bool.Decides.{nat_tests}
use Rattle.std.proofs.lemmas.List.{length-map}
use Rattle.std.proofs.lemmas.List.Sums.{sum_by-cons, length-filter}
use Rattle.std.proofs.lemmas.Option.{slice_get_read, slice_get_within, get_or_from_slice_get}
use Rattle.std.proofs.lemmas.Map.Made.{length-le_from_is_member}
use Rattle.spec_lib.specs.Texts.{Text, text_cmp, same_text}
use Rattle.blob_digest.specs.Keys.{Link, link_cmp}
use Rattle.spec_lib.specs.Rows.{IsApart}
use Rattle.spec_lib.specs.Sets as sets
use Rattle.blob_digest.proofs.KeyOrders.{link_cmp_total, exact_link}
use Rattle.spec_lib.proofs.Texts.{text_is_same, same_text_is, tied_text}
use Rattle.spec_lib.proofs.Options.{some_none, some_same, option_eq_some}
use Rattle.spec_lib.proofs.Sorted.{IsApart-sorted, rising}
use Rattle.spec_lib.proofs.Trees.{get_is}
use Rattle.spec_lib.specs.Trees.{map_of}
use Rattle.link_table.specs.Linked.{Tenant, tenant_of, is_repo_of_tenant}
use Rattle.link_table.specs.Holders.{count_in, count_of, is_link_of, Counts, HasNoZero}
use Rattle.link_table.specs.TenantRepos.{OwnRepos, IsOwned, links_shown, repo_count}
use Rattle.link_table.proofs.TenantRepos.{links-there}
use Rattle.std.specs.FinMap as fmap
use Rattle.std.specs.FinMap.{FinMap, find, get, get-empty, insert, remove, entries, get-entries, contains_key-keys}
use Rattle.spec_lib.proofs.Sums.{sum_new, sum_split}

-- ---- one count

unwrapped : (b : Bool) (w o : Option ℕ) → unwrap_or (cond b w o) 0 ≡ cond b (unwrap_or w 0) (unwrap_or o 0)
unwrapped true w o = refl
unwrapped false w o = refl

-- a tree with another value at one key is a map with that value
pub changed_at : (old new : tree.BTreeMap Text ℕ) (d : Text) (w : Option ℕ) → ((q : Text) → tree.get text_cmp new q ≡ cond (tree.is_at (text_cmp d) q) w (tree.get text_cmp old q)) → (q : Text) → get (map_of new) q ≡ cond (tree.is_at (text_cmp d) q) w (get (map_of old) q)
changed_at old new d w put q = sym (get_is new q) ∙ put q ∙ ap (cond (tree.is_at (text_cmp d) q) w) (get_is old q)

-- a digest without a row has no count
pub uncounted : (m : tree.BTreeMap Text ℕ) (d : Text) → tree.get text_cmp m d ≡ None → count_in (map_of m) d ≡ 0
uncounted m d none = ap (λ o. unwrap_or o 0) (sym (get_is m d) ∙ none)

-- no count, and one above 0
pub none_not_zero : ◌≡◌ {A = Option ℕ} None (Some 0) → ⊥
none_not_zero e = cc

pub not_zero : (n : ℕ) → 0 < n → ◌≡◌ {A = Option ℕ} (Some n) (Some 0) → ⊥
not_zero n some e = (let zero_is : n ≡ 0 = some_same e in omega (arith, some, zero_is))

-- an empty tree counts nothing
pub none_zero : (m : tree.BTreeMap Text ℕ) → m.entries ≡ [] → HasNoZero (map_of m)
none_zero m none d zero_at = some_none (sym zero_at ∙ sym (get_is m d) ∙ ap (λ es. lookup (tree.is_at (text_cmp d)) es) none)

-- a map with another value at one key
module _ (old new : FinMap text_cmp ℕ) (d : Text) (w : Option ℕ) (put : (q : Text) → get new q ≡ cond (tree.is_at (text_cmp d) q) w (get old q)) where
  count_in-update : (e : Text) → count_in new e ≡ cond (same_text d e) (unwrap_or w 0) (count_in old e)
  count_in-update e =
      ap (λ o. unwrap_or o 0) (put e) ∙ unwrapped (tree.is_at (text_cmp d) e) w (get old e)
      ∙ ap (λ b. cond b (unwrap_or w 0) (count_in old e)) (sym (texts_ties d e))

  -- the new value of the key
  pub left_at : count_in new d ≡ unwrap_or w 0
  left_at = count_in-update d ∙ ap (λ b. cond b (unwrap_or w 0) (count_in old d)) (same_text_is d d refl)

  -- no count is 0 if the new one is not
  pub no_zero : w ≢ Some 0 → HasNoZero old → HasNoZero new
  no_zero other before e zero_at = by_key (tree.is_at (text_cmp d) e) (sym (put e) ∙ zero_at)
    where
      by_key : (b : Bool) → cond b w (get old e) ≡ Some 0 → ⊥
      by_key true here = other here
      by_key false there = before e there

  -- the count at the key is one more
  pub counts_more : unwrap_or w 0 ≡ count_in old d + 1 → (e : Text) → count_in new e ≡ count_in old e + cond (same_text d e) 1 0
  counts_more is e = count_in-update e ∙ by_key (same_text d e) refl
    where
      by_key : (b : Bool) → same_text d e ≡ b → cond b (unwrap_or w 0) (count_in old e) ≡ count_in old e + cond b 1 0
      by_key true key = is ∙ ap (λ k. count_in old k + 1) (text_is_same d e key)
      by_key false key = omega arith

  -- the count at the key is one less
  pub counts_less : unwrap_or w 0 + 1 ≡ count_in old d → (e : Text) → count_in new e + cond (same_text d e) 1 0 ≡ count_in old e
  counts_less is e = ap (λ n. n + cond (same_text d e) 1 0) (count_in-update e) ∙ by_key (same_text d e) refl
    where
      by_key : (b : Bool) → same_text d e ≡ b → cond b (unwrap_or w 0) (count_in old e) + cond b 1 0 ≡ count_in old e
      by_key true key = is ∙ ap (count_in old) (text_is_same d e key)
      by_key false key = omega arith

-- ---- a list of which one element was put anew

pub slice_get-set_same : {A : Type 0} (xs : List A) (t : ℕ) (old new : A) → slice_get xs t ≡ Some old → slice_get (set xs t new) t ≡ Some new
slice_get-set_same [] t old new at = some_none (sym at)
slice_get-set_same (x ∷ xs) zero old new at = refl
slice_get-set_same (x ∷ xs) (suc t) old new at = slice_get-set_same xs t old new at

slice_get-set_other : {A : Type 0} (xs : List A) (t u : ℕ) (new : A) → (t ≡ u → ⊥) → slice_get (set xs t new) u ≡ slice_get xs u
slice_get-set_other [] t u new differ = refl
slice_get-set_other (x ∷ xs) zero zero new differ = absurd (differ refl)
slice_get-set_other (x ∷ xs) zero (suc u) new differ = refl
slice_get-set_other (x ∷ xs) (suc t) zero new differ = refl
slice_get-set_other (x ∷ xs) (suc t) (suc u) new differ = slice_get-set_other xs t u new (λ e. differ (ap suc e))

-- ---- one tenant's counts

-- whether this is the tenant and the digest
abbrev is_key : ℕ → Text → ℕ → Text → Bool
is_key t d u e = (t == u) && same_text d e

-- the key itself
is_key_itself : (t : ℕ) (d : Text) → is_key t d t d ≡ true
is_key_itself t d = and_from (t == t) (same_text d d) (eq-eqb t t refl) (same_text_is d d refl)

module _ (holders : List (FinMap text_cmp ℕ)) (t : ℕ) (old : FinMap text_cmp ℕ) (at : slice_get holders t ≡ Some old) where
  -- the counts in the tenant's map
  count_of-at : (e : Text) → count_of holders t e ≡ count_in old e
  count_of-at e = ap (λ o. option_map_or (λ m. count_in m e) o 0) at

  count_of-there : (u : ℕ) (e : Text) → (t == u) ≡ true → count_in old e ≡ count_of holders u e
  count_of-there u e is = sym (count_of-at e) ∙ ap (λ k. count_of holders k e) (eqb-true t u is)

  -- another map in its place
  count_of-set : (new : FinMap text_cmp ℕ) (u : ℕ) (e : Text) → count_of (set holders t new) u e ≡ cond (t == u) (count_in new e) (count_of holders u e)
  count_of-set new u e = by_tenant (t == u) refl
    where
      by_tenant : (b : Bool) → (t == u) ≡ b → count_of (set holders t new) u e ≡ cond b (count_in new e) (count_of holders u e)
      by_tenant true is = ap (λ k. count_of (set holders t new) k e) (sym (eqb-true t u is)) ∙ ap (λ o. option_map_or (λ m. count_in m e) o 0) (slice_get-set_same holders t old new at)
      by_tenant false is = ap (λ o. option_map_or (λ m. count_in m e) o 0) (slice_get-set_other holders t u new (λ same. true≢false (sym (eq-eqb t u same) ∙ is)))

  -- one with a count more, with one less, and with the same
  module _ (new : FinMap text_cmp ℕ) (d : Text) where
    more_of : ((e : Text) → count_in new e ≡ count_in old e + cond (same_text d e) 1 0) → (u : ℕ) (e : Text) → count_of (set holders t new) u e ≡ count_of holders u e + cond (is_key t d u e) 1 0
    more_of more u e = count_of-set new u e ∙ by_tenant (t == u) refl
      where
        by_tenant : (b : Bool) → (t == u) ≡ b → cond b (count_in new e) (count_of holders u e) ≡ count_of holders u e + cond (b && same_text d e) 1 0
        by_tenant true is = more e ∙ ap (λ n. n + cond (same_text d e) 1 0) (count_of-there u e is)
        by_tenant false is = omega arith

    less_of : ((e : Text) → count_in new e + cond (same_text d e) 1 0 ≡ count_in old e) → (u : ℕ) (e : Text) → count_of (set holders t new) u e + cond (is_key t d u e) 1 0 ≡ count_of holders u e
    less_of less u e = ap (λ n. n + cond (is_key t d u e) 1 0) (count_of-set new u e) ∙ by_tenant (t == u) refl
      where
        by_tenant : (b : Bool) → (t == u) ≡ b → cond b (count_in new e) (count_of holders u e) + cond (b && same_text d e) 1 0 ≡ count_of holders u e
        by_tenant true is = less e ∙ count_of-there u e is
        by_tenant false is = omega arith

  same_of : (new : FinMap text_cmp ℕ) → ((e : Text) → count_in new e ≡ count_in old e) → (u : ℕ) (e : Text) → count_of (set holders t new) u e ≡ count_of holders u e
  same_of new same u e = count_of-set new u e ∙ by_tenant (t == u) refl
    where
      by_tenant : (b : Bool) → (t == u) ≡ b → cond b (count_in new e) (count_of holders u e) ≡ count_of holders u e
      by_tenant true is = same e ∙ count_of-there u e is
      by_tenant false is = refl

-- ---- the counts of the links

pub counted_any : {A : Type 0} (p : A → Bool) (xs : List A) → nat_lt 0 (count_by p xs) ≡ list_any p xs
counted_any p [] = refl
counted_any p (x ∷ xs) = ap (nat_lt 0) (sum_by-cons (λ y. cond (p y) 1 0) x xs) ∙ by_test (p x) (counted_any p xs)
  where
    by_test : (b : Bool) → nat_lt 0 (count_by p xs) ≡ list_any p xs → nat_lt 0 (cond b 1 0 + count_by p xs) ≡ (b || list_any p xs)
    by_test true rest = grind (arith, nat_tests)
    by_test false rest = (let same : 0 + count_by p xs ≡ count_by p xs = omega arith in ap (nat_lt 0) same) ∙ rest

-- a tenant's map
pub holders_at : (tenants : List Tenant) (links : FinMap link_cmp ℕ) (holders : List (FinMap text_cmp ℕ)) → Counts tenants links holders → (t : ℕ) → t < length tenants → (m : FinMap text_cmp ℕ) → m ≡ get_or holders t m → slice_get holders t ≡ Some m
holders_at tenants links holders counts t lt m read = slice_get_read holders (length holders) t m refl (omega (arith, counts.one_each)) read

-- a count that was positive is above one after an increment
pub past_one : (n m : ℕ) → n ≡ m + 1 → nat_lt 1 n ≡ nat_lt 0 m
past_one n m is = grind (arith, nat_tests)

-- a tenant contains a digest if and only if its count is positive
pub held-counted : (tenants : List Tenant) (links : FinMap link_cmp ℕ) (holders : List (FinMap text_cmp ℕ)) → Counts tenants links holders → (t : ℕ) (m : FinMap text_cmp ℕ) → slice_get holders t ≡ Some m → (d : Text) → nat_lt 0 (count_in m d) ≡ list_any (is_link_of tenants t d) (entries links)
held-counted tenants links holders counts t m at d = ap (nat_lt 0) (sym (count_of-at holders t m at d) ∙ counts.counted t d) ∙ counted_any (is_link_of tenants t d) (entries links)

swap_and : (a b : Bool) → (a && b) ≡ (b && a)
swap_and true true = refl
swap_and true false = refl
swap_and false true = refl
swap_and false false = refl

-- a link counts at its tenant and its digest
held_is_key : (tenants : List Tenant) (t : ℕ) (r d : Text) (n : ℕ) → is_repo_of_tenant tenants t r ≡ true → (u : ℕ) (e : Text) → is_link_of tenants u e ((r, d), n) ≡ is_key t d u e
held_is_key tenants t r d n own u e = ap (λ o. same_text d e && option_eq nat_eq o (Some u)) (option_eq_some (tenant_of tenants r) t own) ∙ swap_and (same_text d e) (t == u)

module _ (tenants : List Tenant) (links : FinMap link_cmp ℕ) (holders : List (FinMap text_cmp ℕ)) (counts : Counts tenants links holders) (t : ℕ) (old : FinMap text_cmp ℕ) (at : slice_get holders t ≡ Some old) where
  one_each_set : (new : FinMap text_cmp ℕ) → length (set holders t new) ≡ length tenants
  one_each_set new = length-set holders t new ∙ counts.one_each

  -- unchanged counts
  pub Counts-same : (new : FinMap text_cmp ℕ) → ((e : Text) → count_in new e ≡ count_in old e) → Counts tenants links (set holders t new)
  Counts-same new same = record {
    one_each = one_each_set new;
    counted = λ u e. same_of holders t old at new same u e ∙ counts.counted u e;
  }

  module _ (new : FinMap text_cmp ℕ) (r d : Text) (n : ℕ) (own : is_repo_of_tenant tenants t r ≡ true) where
    same_less : (a b k m : ℕ) → a + k ≡ m → m ≡ k + b → a ≡ b
    same_less a b k m p q = omega arith

    turned : (a b : ℕ) → a + b ≡ b + a
    turned a b = omega arith

    -- a link more
    pub Counts-insert : get links (r, d) ≡ None → ((e : Text) → count_in new e ≡ count_in old e + cond (same_text d e) 1 0) → Counts tenants (insert links (r, d) n) (set holders t new)
    Counts-insert none more = record {
      one_each = one_each_set new;
      counted = λ u e.
          more_of holders t old at new d more u e ∙ (λ j. counts.counted u e j + cond (sym (held_is_key tenants t r d n own u e) j) 1 0)
          ∙ turned (count_by (is_link_of tenants u e) (entries links)) (cond (is_link_of tenants u e ((r, d), n)) 1 0)
          ∙ sym (sum_new link_cmp_total exact_link (λ x. cond (is_link_of tenants u e x) 1 0) links (r, d) n none);
    }

    module _ (there : get links (r, d) ≡ Some n) where
      before : (u : ℕ) (e : Text) → count_of holders u e ≡ cond (is_key t d u e) 1 0 + count_by (is_link_of tenants u e) (entries (remove links (r, d)))
      before u e =
          counts.counted u e ∙ sum_split link_cmp_total exact_link (λ x. cond (is_link_of tenants u e x) 1 0) links (r, d) n there
          ∙ ap (λ b. cond b 1 0 + count_by (is_link_of tenants u e) (entries (remove links (r, d)))) (held_is_key tenants t r d n own u e)

      -- a linked digest is counted
      pub some_counted : 0 < count_in old d
      some_counted =
          let one : ◌≡◌ {A = ℕ} (cond (is_key t d t d) 1 0) 1 = ap (λ b. cond b 1 0) (is_key_itself t d) in
          rw (sym (count_of-at holders t old at d) ∙ before t d, one) (omega arith)

      -- and afterwards counted once less
      pub Counts-remove : ((e : Text) → count_in new e + cond (same_text d e) 1 0 ≡ count_in old e) → Counts tenants (remove links (r, d)) (set holders t new)
      Counts-remove less = record {
        one_each = one_each_set new;
        counted = λ u e. same_less (count_of (set holders t new) u e) (count_by (is_link_of tenants u e) (entries (remove links (r, d)))) (cond (is_key t d u e) 1 0) (count_of holders u e) (less_of holders t old at new d less u e) (before u e);
      }

abbrev empty_map : FinMap text_cmp ℕ
empty_map = fmap.empty

-- empty maps count no links
pub Counts-initial : (tenants : List Tenant) (links : FinMap link_cmp ℕ) (holders : List (FinMap text_cmp ℕ)) → entries links ≡ [] → length holders ≡ length tenants → All (λ h. h ≡ empty_map) holders → Counts tenants links holders
Counts-initial tenants links holders none many empty = record {
  one_each = many;
  counted = λ t d. nothing_at t d (slice_get holders t) refl ∙ sym (ap (count_by (is_link_of tenants t d)) none);
}
  where
    nothing_at : (t : ℕ) (d : Text) (o : Option (FinMap text_cmp ℕ)) → slice_get holders t ≡ o → option_map_or (λ m. count_in m d) o 0 ≡ 0
    nothing_at t d None at = refl
    nothing_at t d (Some m) at =
        let is : get_or holders t m ≡ m = get_or_from_slice_get holders t m m at in
        let none_in : m ≡ empty_map = subst (λ k. k ≡ empty_map) is (empty t m (slice_get_within holders t m at)) in
        ap (λ k. count_in k d) none_in ∙ ap (λ o. unwrap_or o 0) (get-empty text_cmp d)

-- ---- a tenant's repositories bound its counts

module _ (tenants : List Tenant) (t : ℕ) (d : Text) where
  -- the repositories of a tenant that contain a digest
  abbrev holding : List (Link × ℕ) → List Text
  holding es = map (λ (e : Link × ℕ). e.0.0) (filter (is_link_of tenants t d) es)

  some_anyway : (b : Bool) (v : ℕ) (x : Option ℕ) → is_some x ≡ true → is_some (cond b (Some v) x) ≡ true
  some_anyway true v x h = refl
  some_anyway false v x h = h

  -- each is the tenant's, and has a link
  found : (es : List (Link × ℕ)) (r : Text) → is_member (eq_by_cmp text_cmp) (holding es) r ≡ true → (is_repo_of_tenant tenants t r ≡ true) × (is_some (find link_cmp (r, d) es) ≡ true)
  found [] r h = cc
  found (e ∷ es) r h = by_held (is_link_of tenants t d e) refl h (found es r)
    where
      by_tie : (b : Bool) → eq_by_cmp text_cmp r e.0.0 ≡ b → is_link_of tenants t d e ≡ true → (b || is_member (eq_by_cmp text_cmp) (holding es) r) ≡ true →
          (is_member (eq_by_cmp text_cmp) (holding es) r ≡ true → (is_repo_of_tenant tenants t r ≡ true) × (is_some (find link_cmp (r, d) es) ≡ true)) → (is_repo_of_tenant tenants t r ≡ true) × (is_some (find link_cmp (r, d) (e ∷ es)) ≡ true)
      by_tie true tie held h rest =
          let parts = and_parts (same_text e.0.1 d) (is_repo_of_tenant tenants t e.0.0) held in
          let itself : eq_by_cmp link_cmp e.0 e.0 ≡ true = ap is_eq (tied_itself link_cmp_total e.0) in
          let is : eq_by_cmp link_cmp (r, d) e.0 ≡ true = (λ i. eq_by_cmp link_cmp (tied_text r e.0.0 tie i, sym (text_is_same e.0.1 d parts.0) i) e.0) ∙ itself in
          (ap (is_repo_of_tenant tenants t) (tied_text r e.0.0 tie) ∙ parts.1, ap (λ b. is_some (cond b (Some e.1) (find link_cmp (r, d) es))) is)
      by_tie false tie held h rest = (let more = rest h in (more.0, some_anyway (eq_by_cmp link_cmp (r, d) e.0) e.1 (find link_cmp (r, d) es) more.1))

      by_held : (b : Bool) → is_link_of tenants t d e ≡ b → is_member (eq_by_cmp text_cmp) (map (λ (e : Link × ℕ). e.0.0) (cond b (e ∷ filter (is_link_of tenants t d) es) (filter (is_link_of tenants t d) es))) r ≡ true →
          (is_member (eq_by_cmp text_cmp) (holding es) r ≡ true → (is_repo_of_tenant tenants t r ≡ true) × (is_some (find link_cmp (r, d) es) ≡ true)) → (is_repo_of_tenant tenants t r ≡ true) × (is_some (find link_cmp (r, d) (e ∷ es)) ≡ true)
      by_held true held h rest = by_tie (eq_by_cmp text_cmp r e.0.0) refl held h rest
      by_held false held h rest = (let more = rest h in (more.0, some_anyway (eq_by_cmp link_cmp (r, d) e.0) e.1 (find link_cmp (r, d) es) more.1))

  none_tied : (r : Text) (qs : List Text) → is_member (eq_by_cmp text_cmp) qs r ≡ false → AllByRecursion (λ q. eq_by_cmp text_cmp r q ≡ false) qs
  none_tied r [] h = tt
  none_tied r (q ∷ qs) h = by_tie (eq_by_cmp text_cmp r q) refl h (none_tied r qs)
    where
      by_tie : (b : Bool) → eq_by_cmp text_cmp r q ≡ b → (b || is_member (eq_by_cmp text_cmp) qs r) ≡ false → (is_member (eq_by_cmp text_cmp) qs r ≡ false → AllByRecursion (λ q. eq_by_cmp text_cmp r q ≡ false) qs) → AllByRecursion (λ q. eq_by_cmp text_cmp r q ≡ false) (q ∷ qs)
      by_tie true tie h rest = absurd (true≢false h)
      by_tie false tie h rest = (tie, rest h)

  -- no repository occurs twice
  distinct : (es : List (Link × ℕ)) → IsApart link_cmp es → IsDistinct (eq_by_cmp text_cmp) (holding es)
  unfolding IsDistinct
  distinct [] all = tt
  distinct (e ∷ es) all = by_held (is_link_of tenants t d e) refl (distinct es all.1)
    where
      by_held : (b : Bool) → is_link_of tenants t d e ≡ b → IsDistinct (eq_by_cmp text_cmp) (holding es) → IsDistinct (eq_by_cmp text_cmp) (map (λ (e : Link × ℕ). e.0.0) (cond b (e ∷ filter (is_link_of tenants t d) es) (filter (is_link_of tenants t d) es)))
      by_held true held rest =
          let same = text_is_same e.0.1 d (and_parts (same_text e.0.1 d) (is_repo_of_tenant tenants t e.0.0) held).0 in
          (none_tied e.0.0 (holding es) (false_from_ne_true (is_member (eq_by_cmp text_cmp) (holding es) e.0.0) (λ h. true≢false (sym (found es e.0.0 h).1 ∙ ap (λ k. is_some (find link_cmp (e.0.0, k) es)) (sym same) ∙ ap is_some all.0))), rest)
      by_held false held rest = rest

  -- so there are at most as many as the tenant has repositories
  pub held_within : (links : FinMap link_cmp ℕ) (repos : sets.Set text_cmp) → ((r : Text) → is_repo_of_tenant tenants t r ≡ true → is_some (get links (r, d)) ≡ true → sets.contains repos r ≡ true) →
      count_by (is_link_of tenants t d) (entries links) ≤ length (sets.items repos)
  held_within links repos known =
      let few : length (holding (entries links)) ≤ length (sets.items repos) = length-le_from_is_member (eq_by_cmp_equiv nat_list_cmp_total) (holding (entries links)) (sets.items repos)
      (distinct (entries links) (IsApart-sorted link_cmp (entries links) (rising links)))
      (λ q h. (let f = found (entries links) q h in sym (contains_key-keys repos q) ∙ known q f.0 (ap is_some (get-entries links (q, d)) ∙ f.1))) in
      let many : length (holding (entries links)) ≡ count_by (is_link_of tenants t d) (entries links) = length-map (filter (is_link_of tenants t d) (entries links)) (λ (e : Link × ℕ). e.0.0) ∙ length-filter (is_link_of tenants t d) (entries links) in
      omega (arith, few, many)

-- a tenant's count of a digest is at most the number of its repositories
pub count_in-most : (tenants : List Tenant) (by_tenant : List OwnRepos) → IsOwned tenants by_tenant → (holders : List (FinMap text_cmp ℕ)) → Counts tenants (links_shown by_tenant) holders → (t : ℕ) (s : OwnRepos) → slice_get by_tenant t ≡ Some s → (m : FinMap text_cmp ℕ) → slice_get holders t ≡ Some m → (d : Text) → count_in m d ≤ repo_count s
count_in-most tenants by_tenant owned holders counts t s at m there d =
    rw (sym (count_of-at holders t m there d) ∙ counts.counted t d) (held_within tenants t d (links_shown by_tenant) s.repos (λ r own there. owned.known t s r d at (ap is_some (sym (links-there tenants by_tenant owned t s at r own d)) ∙ there)))
