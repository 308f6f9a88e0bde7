-- The number of a tenant's digests: that of its counts, and that of its blobs.
use Rattle.std.proofs.Common.{◌≡◌, ℕ, ◌+◌, cond, List, [], ◌∷◌, length, None, Option, Some, is_some, nat_lt, refl, sym, ap, ◌∙◌, arith}
use Prim.Native.Nat.{zero, suc}
use Rattle.std.specs.Prelude.{unwrap_or}
use Rattle.std.specs.declared.cmp.Ordering.TheVariants.{Less}
use Rattle.std.specs.Ordering.{is_eq}
use Rattle.std.specs.Cmp.Lexicographic.{nat_list_cmp_total}
use Rattle.std.specs.List.{AllByRecursion}
use Rattle.std.specs.List.Sorted.{IsStrictlySortedBy}
use Rattle.std.specs.Map.{keys_of}
use Rattle.std.specs.FinMap.{FinMap, find, from_entries, get, get-from_entries, len, len-empty, len-insert}
use Rattle.std.proofs.lemmas.Bool.{lt-ltb}
use Rattle.std.proofs.lemmas.Map.Lookups.{exact_bytes}
use Rattle.spec_lib.specs.Texts.{Text, text_cmp}
use Rattle.spec_lib.proofs.Maps.{len-same_keys}
use Rattle.blob_digest.specs.Keys.{link_cmp}
use Rattle.link_table.specs.Holders.{Counts, HasNoZero, count_in}
use Rattle.link_table.specs.Linked.{Tenant, blobs, is_repo_of_tenant}
use Rattle.link_table.proofs.HolderCounts.{held-counted}
use Rattle.link_table.proofs.Soundness.{contains-blob}
use Rattle.std.specs.Prelude.{slice_get}

-- ---- the size of a map

module _ {X : Type 0} where
  -- a key below all others is not found
  find_below : (k : Text) (es : List (Text × X)) → AllByRecursion (λ y. text_cmp k y ≡ Less) (keys_of es) → find text_cmp k es ≡ None
  find_below k [] all = refl
  find_below k (e ∷ es) all = ap (λ r. cond (is_eq r) (Some e.1) (find text_cmp k es)) all.0 ∙ find_below k es all.1

  -- a map of entries whose keys rise has one key for each
  pub len-rising : (es : List (Text × X)) → IsStrictlySortedBy text_cmp (keys_of es) → len (from_entries {R = text_cmp} es) ≡ length es
  unfolding IsStrictlySortedBy
  len-rising [] up = len-empty text_cmp X
  len-rising (e ∷ es) up =
      let rest = len-rising es up.1 in
      let one : len (from_entries {R = text_cmp} (e ∷ es)) ≡ len (from_entries {R = text_cmp} es) + 1 =
      len-insert nat_list_cmp_total (from_entries {R = text_cmp} es) e.0 e.1
      ∙ ap (λ o. cond (is_some o) (len (from_entries {R = text_cmp} es)) (len (from_entries {R = text_cmp} es) + 1)) (get-from_entries nat_list_cmp_total es e.0 ∙ find_below e.0 es up.0) in
      omega arith

-- ---- the number of a tenant's digests

-- a digest with a count has a count above 0
counted_key : (m : FinMap text_cmp ℕ) → HasNoZero m → (d : Text) → is_some (get m d) ≡ nat_lt 0 (count_in m d)
counted_key m none_zero d = by (get m d) refl
  where
    by : (o : Option ℕ) → get m d ≡ o → is_some o ≡ nat_lt 0 (unwrap_or o 0)
    by None is = refl
    by (Some zero) is = absurd (none_zero d is)
    by (Some (suc n)) is = sym (lt-ltb 0 (suc n) (omega arith))

-- a tenant has one count for each of its blobs
pub len-counts : (tenants : List Tenant) (links : FinMap link_cmp ℕ) (holders : List (FinMap text_cmp ℕ)) → Counts tenants links holders → (t : ℕ) (m : FinMap text_cmp ℕ) → slice_get holders t ≡ Some m → HasNoZero m →
    len m ≡ len (blobs (is_repo_of_tenant tenants t) links)
len-counts tenants links holders counts t m at none_zero =
    len-same_keys nat_list_cmp_total exact_bytes m (blobs (is_repo_of_tenant tenants t) links) (λ d. counted_key m none_zero d ∙ held-counted tenants links holders counts t m at d ∙ sym (contains-blob tenants t d links))
