-- The blobs of a set of repositories, each digest once, after one link more or less.
use Rattle.std.proofs.Common.{◌≡◌, ℕ, ◌+◌, Bool, true, false, cond, List, [], ◌∷◌, Option, Some, None, is_some, refl, sym, ap, ◌∙◌, arith, inl, inr}
use Rattle.std.specs.Prelude.{◌⊎◌, if◌then◌else◌}
use Rattle.std.specs.Ordering.{eq_by_cmp, is_eq}
use Rattle.std.specs.Cmp.{Equal-is, tied_itself}
use Rattle.std.specs.Cmp.Lexicographic.{nat_list_cmp_total}
use Rattle.std.specs.FinMap.{FinMap, entries, find, get, insert, remove, from_entries, get-entries, get-from_entries, get-insert, get-remove, same_map}
use Rattle.std.proofs.lemmas.Bool.{true≢false}
use Rattle.std.proofs.lemmas.Map.Lookups.{exact_bytes}
use Rattle.spec_lib.proofs.Options.{some_none, some_same}
use Rattle.spec_lib.specs.Texts.{Text, text_cmp}
use Rattle.blob_digest.specs.Keys.{Link, link_cmp}
use Rattle.blob_digest.proofs.KeyOrders.{link_cmp_total, exact_link}
use Rattle.spec_lib.proofs.Texts.{tied_text}
use Rattle.spec_lib.proofs.Rows.{no_tie}
use Rattle.spec_lib.proofs.Sums.{sum_new, insert-remove, insert_back}
use Rattle.link_table.specs.Linked.{digest_sizes, blobs, total_size, HasOneSize, IsSizeOf}

miss : (k : Link) (e : Link × ℕ) (es : List (Link × ℕ)) → (k ≡ e.0 → ⊥) → find link_cmp k (e ∷ es) ≡ find link_cmp k es
miss k e es differ = rw (no_tie link_cmp exact_link k e.0 differ) refl

hit : (k : Link) (e : Link × ℕ) (es : List (Link × ℕ)) → k ≡ e.0 → find link_cmp k (e ∷ es) ≡ Some e.1
hit k e es same = rw same (rw (ap is_eq (tied_itself link_cmp_total e.0)) refl)

untied_text : (q x : Text) → eq_by_cmp text_cmp q x ≡ false → q ≡ x → ⊥
untied_text q x tie same = true≢false (sym (ap is_eq (tied_itself nat_list_cmp_total q)) ∙ ap (eq_by_cmp text_cmp q) same ∙ tie)

module _ (passes : Text → Bool) where
  other_digest : (q r : Text) (e : Link × ℕ) → eq_by_cmp text_cmp q e.0.1 ≡ false → (r, q) ≡ e.0 → ⊥
  other_digest q r e tie same = untied_text q e.0.1 tie (ap (λ k. k.1) same)

  other_repo : (q r : Text) (e : Link × ℕ) → passes r ≡ true → passes e.0.0 ≡ false → (r, q) ≡ e.0 → ⊥
  other_repo q r e pass fails same = true≢false (sym pass ∙ ap passes (ap (λ k. k.0) same) ∙ fails)

  -- a digest that isn't found has no row
  pub sizes_none : (es : List (Link × ℕ)) (q r : Text) → find text_cmp q (digest_sizes passes es) ≡ None → passes r ≡ true → find link_cmp (r, q) es ≡ None
  sizes_none [] q r none pass = refl
  sizes_none (e ∷ es) q r none pass =
      elim (passes e.0.0) as (λ b. passes e.0.0 ≡ b → find text_cmp q (cond b ((e.0.1, e.1) ∷ digest_sizes passes es) (digest_sizes passes es)) ≡ None → find link_cmp (r, q) (e ∷ es) ≡ None) [
        | true ↦ λ is h. elim (eq_by_cmp text_cmp q e.0.1) as (λ b. eq_by_cmp text_cmp q e.0.1 ≡ b → cond b (Some e.1) (find text_cmp q (digest_sizes passes es)) ≡ None → find link_cmp (r, q) (e ∷ es) ≡ None) [
          | true ↦ λ tie g. some_none g
          | false ↦ λ tie g. miss (r, q) e es (other_digest q r e tie) ∙ sizes_none es q r g pass
        ] refl h
        | false ↦ λ is h. miss (r, q) e es (other_repo q r e pass is) ∙ sizes_none es q r h pass
      ] refl none

  -- the size that is found is the size of a row
  pub sizes_some : (es : List (Link × ℕ)) (q : Text) (n : ℕ) → find text_cmp q (digest_sizes passes es) ≡ Some n → (r : Text) × (passes r ≡ true) × (find link_cmp (r, q) es ≡ Some n)
  sizes_some [] q n some = some_none (sym some)
  sizes_some (e ∷ es) q n some =
      elim (passes e.0.0) as (λ b. passes e.0.0 ≡ b → find text_cmp q (cond b ((e.0.1, e.1) ∷ digest_sizes passes es) (digest_sizes passes es)) ≡ Some n → (r : Text) × (passes r ≡ true) × (find link_cmp (r, q) (e ∷ es) ≡ Some n)) [
        | true ↦ λ is h. elim (eq_by_cmp text_cmp q e.0.1) as (λ b. eq_by_cmp text_cmp q e.0.1 ≡ b → cond b (Some e.1) (find text_cmp q (digest_sizes passes es)) ≡ Some n → (r : Text) × (passes r ≡ true) × (find link_cmp (r, q) (e ∷ es) ≡ Some n)) [
          | true ↦ λ tie g. (e.0.0, is, hit (e.0.0, q) e es (λ i. (e.0.0, tied_text q e.0.1 tie i)) ∙ g)
          | false ↦ λ tie g. let t = sizes_some es q n g in (t.0, t.1, miss (t.0, q) e es (other_digest q t.0 e tie) ∙ t.2)
        ] refl h
        | false ↦ λ is h. let t = sizes_some es q n h in (t.0, t.1, miss (t.0, q) e es (other_repo q t.0 e t.1 is) ∙ t.2)
      ] refl some

  -- the digests of these repositories, with their sizes
  pub record IsBlobs (links : FinMap link_cmp ℕ) (m : FinMap text_cmp ℕ) : Type 0 where
    pub none : (q r : Text) → get m q ≡ None → passes r ≡ true → get links (r, q) ≡ None
    pub some : (q : Text) (n : ℕ) → get m q ≡ Some n → (r : Text) × (passes r ≡ true) × (get links (r, q) ≡ Some n)

  pub IsBlobs-rows : (links : FinMap link_cmp ℕ) (es : List (Link × ℕ)) → ((k : Link) → get links k ≡ find link_cmp k es) → IsBlobs links (from_entries (digest_sizes passes es))
  IsBlobs-rows links es is = record {
    none = λ q r h pass. is (r, q) ∙ sizes_none es q r (sym (get-from_entries nat_list_cmp_total (digest_sizes passes es) q) ∙ h) pass;
    some = λ q n h. let t = sizes_some es q n (sym (get-from_entries nat_list_cmp_total (digest_sizes passes es) q) ∙ h) in (t.0, t.1, is (t.0, q) ∙ t.2);
  }

  pub IsBlobs-blobs : (links : FinMap link_cmp ℕ) → IsBlobs links (blobs passes links)
  IsBlobs-blobs links = IsBlobs-rows links (entries links) (λ k. get-entries links k)

  module _ (links : FinMap link_cmp ℕ) (one : HasOneSize links) where
    same_at : (m n : FinMap text_cmp ℕ) → IsBlobs links m → IsBlobs links n → (q : Text) (x y : Option ℕ) → get m q ≡ x → get n q ≡ y → x ≡ y
    same_at m n is js q None None e f = refl
    same_at m n is js q None (Some b) e f = let t = js.some q b f in some_none (sym t.2 ∙ is.none q t.0 e t.1)
    same_at m n is js q (Some a) None e f = let t = is.some q a e in some_none (sym t.2 ∙ js.none q t.0 f t.1)
    same_at m n is js q (Some a) (Some b) e f = let t = is.some q a e in let u = js.some q b f in ap Some (one t.0 u.0 q a b t.2 u.2)

    -- these say all of the map
    pub IsBlobs-unique : (m n : FinMap text_cmp ℕ) → IsBlobs links m → IsBlobs links n → m ≡ n
    IsBlobs-unique m n is js = same_map nat_list_cmp_total exact_bytes m n (λ q. same_at m n is js q (get m q) (get n q) refl refl)

  module _ (links : FinMap link_cmp ℕ) (r d : Text) (size : ℕ) where
    abbrev now : FinMap link_cmp ℕ
    now = insert links (r, d) size

    elsewhere : (k : Link) → (k ≡ (r, d) → ⊥) → get now k ≡ get links k
    elsewhere k differ = get-insert link_cmp_total links (r, d) size k ∙ rw (no_tie link_cmp exact_link k (r, d) differ) refl

    here : get now (r, d) ≡ Some size
    here = get-insert link_cmp_total links (r, d) size (r, d) ∙ rw (ap is_eq (tied_itself link_cmp_total (r, d))) refl

    -- a link of a repository that passes
    pub IsBlobs-insert : passes r ≡ true → (m : FinMap text_cmp ℕ) → IsBlobs links m → IsBlobs now (insert m d size)
    IsBlobs-insert pass m is = record {
      none = λ q s h p. none_at q s (eq_by_cmp text_cmp q d) refl (sym (get-insert nat_list_cmp_total m d size q) ∙ h) p;
      some = λ q n h. some_at q n (eq_by_cmp text_cmp q d) refl (sym (get-insert nat_list_cmp_total m d size q) ∙ h);
    }
      where
        none_at : (q s : Text) (b : Bool) → eq_by_cmp text_cmp q d ≡ b → cond b (Some size) (get m q) ≡ None → passes s ≡ true → get now (s, q) ≡ None
        none_at q s true tie h p = some_none h
        none_at q s false tie h p = elsewhere (s, q) (λ e. untied_text q d tie (ap (λ k. k.1) e)) ∙ is.none q s h p

        some_at : (q : Text) (n : ℕ) (b : Bool) → eq_by_cmp text_cmp q d ≡ b → cond b (Some size) (get m q) ≡ Some n → (s : Text) × (passes s ≡ true) × (get now (s, q) ≡ Some n)
        some_at q n true tie h = (r, pass, ap (λ x. get now (r, x)) (tied_text q d tie) ∙ here ∙ h)
        some_at q n false tie h = let t = is.some q n h in (t.0, t.1, elsewhere (t.0, q) (λ e. untied_text q d tie (ap (λ k. k.1) e)) ∙ t.2)

    -- a link of another repository
    pub IsBlobs-other : passes r ≡ false → (m : FinMap text_cmp ℕ) → IsBlobs links m → IsBlobs now m
    IsBlobs-other fails m is = record {
      none = λ q s h p. elsewhere (s, q) (λ e. true≢false (sym p ∙ ap passes (ap (λ k. k.0) e) ∙ fails)) ∙ is.none q s h p;
      some = λ q n h. let t = is.some q n h in (t.0, t.1, elsewhere (t.0, q) (λ e. true≢false (sym t.1 ∙ ap passes (ap (λ k. k.0) e) ∙ fails)) ∙ t.2);
    }

module _ (links : FinMap link_cmp ℕ) (r d : Text) (size : ℕ) (one : HasOneSize links) (fits : IsSizeOf links d size) where
  abbrev after : FinMap link_cmp ℕ
  after = insert links (r, d) size

  key_tied : (s q : Text) → eq_by_cmp link_cmp (s, q) (r, d) ≡ true → ◌≡◌ {A = Link} (s, q) (r, d)
  key_tied s q tie = exact_link (s, q) (r, d) ((Equal-is (link_cmp (s, q) (r, d))).0 tie)

  size_at : (s q : Text) (m : ℕ) (b : Bool) → eq_by_cmp link_cmp (s, q) (r, d) ≡ b → cond b (Some size) (get links (s, q)) ≡ Some m → ((q ≡ d) × (m ≡ size)) ⊎ (get links (s, q) ≡ Some m)
  size_at s q m true tie h = inl (ap (λ k. k.1) (key_tied s q tie), sym (some_same h))
  size_at s q m false tie h = inr h

  size_now : (s q : Text) (m : ℕ) → get after (s, q) ≡ Some m → ((q ≡ d) × (m ≡ size)) ⊎ (get links (s, q) ≡ Some m)
  size_now s q m h = size_at s q m (eq_by_cmp link_cmp (s, q) (r, d)) refl (sym (get-insert link_cmp_total links (r, d) size (s, q)) ∙ h)

  fits_at : (s q : Text) (m : ℕ) → q ≡ d → get links (s, q) ≡ Some m → m ≡ size
  fits_at s q m same h = fits s m (ap (λ x. get links (s, x)) (sym same) ∙ h)

  agree : (s1 s2 q : Text) (m n : ℕ) → ((q ≡ d) × (m ≡ size)) ⊎ (get links (s1, q) ≡ Some m) → ((q ≡ d) × (n ≡ size)) ⊎ (get links (s2, q) ≡ Some n) → m ≡ n
  agree s1 s2 q m n (inl a) (inl b) = a.1 ∙ sym b.1
  agree s1 s2 q m n (inl a) (inr g) = a.1 ∙ sym (fits_at s2 q n a.0 g)
  agree s1 s2 q m n (inr f) (inl b) = fits_at s1 q m b.0 f ∙ sym b.1
  agree s1 s2 q m n (inr f) (inr g) = one s1 s2 q m n f g

  pub HasOneSize-insert : HasOneSize after
  HasOneSize-insert s1 s2 q m n f g = agree s1 s2 q m n (size_now s1 q m f) (size_now s2 q n g)

  module _ (passes : Text → Bool) where
    blobs-insert : passes r ≡ true → blobs passes after ≡ insert (blobs passes links) d size
    blobs-insert pass = IsBlobs-unique passes after HasOneSize-insert (blobs passes after) (insert (blobs passes links) d size)
        (IsBlobs-blobs passes after) (IsBlobs-insert passes links r d size pass (blobs passes links) (IsBlobs-blobs passes links))

    total_at : (o : Option ℕ) → get (blobs passes links) d ≡ o → total_size (insert (blobs passes links) d size) ≡ total_size (blobs passes links) + (if is_some o then 0 else size)
    total_at None h = let s = sum_new nat_list_cmp_total exact_bytes (λ e. e.1) (blobs passes links) d size h in omega arith
    total_at (Some m) h =
        let t = (IsBlobs-blobs passes links).some d m h in
        let same : m ≡ size = fits t.0 m t.2 in
        let back : insert (blobs passes links) d size ≡ blobs passes links = insert_back nat_list_cmp_total exact_bytes (blobs passes links) d size (h ∙ ap Some same) in
        ap total_size back ∙ (let z : total_size (blobs passes links) ≡ total_size (blobs passes links) + 0 = omega arith in z)

    -- a link more of these repositories
    pub total-insert : passes r ≡ true → total_size (blobs passes after) ≡ total_size (blobs passes links) + (if is_some (get (blobs passes links) d) then 0 else size)
    total-insert pass = ap total_size (blobs-insert pass) ∙ total_at (get (blobs passes links) d) refl

    -- a link more of another
    pub total-other : passes r ≡ false → total_size (blobs passes after) ≡ total_size (blobs passes links)
    total-other fails = ap total_size (IsBlobs-unique passes after HasOneSize-insert (blobs passes after) (blobs passes links)
        (IsBlobs-blobs passes after) (IsBlobs-other passes links r d size fails (blobs passes links) (IsBlobs-blobs passes links)))

module _ (links : FinMap link_cmp ℕ) (one : HasOneSize links) (k : Link) where
  kept_at : (s : Link) (m : ℕ) (b : Bool) → cond b None (get links s) ≡ Some m → get links s ≡ Some m
  kept_at s m true h = some_none (sym h)
  kept_at s m false h = h

  pub get_before_remove : (s : Link) (m : ℕ) → get (remove links k) s ≡ Some m → get links s ≡ Some m
  get_before_remove s m h = kept_at s m (eq_by_cmp link_cmp s k) (sym (get-remove link_cmp_total links k s) ∙ h)

  pub HasOneSize-remove : HasOneSize (remove links k)
  HasOneSize-remove s1 s2 q m n f g = one s1 s2 q m n (get_before_remove (s1, q) m f) (get_before_remove (s2, q) n g)

-- a link less: the sums before it, from those after it
module _ (links : FinMap link_cmp ℕ) (r d : Text) (size : ℕ) (one : HasOneSize links) (there : get links (r, d) ≡ Some size) (passes : Text → Bool) where
  abbrev left : FinMap link_cmp ℕ
  left = remove links (r, d)

  again : insert left (r, d) size ≡ links
  again = insert-remove link_cmp_total exact_link links (r, d) size ∙ insert_back link_cmp_total exact_link links (r, d) size there

  sized : IsSizeOf left d size
  sized s m h = one s r d m size (get_before_remove links one (r, d) (s, d) m h) there

  pub total-remove : passes r ≡ true → total_size (blobs passes links) ≡ total_size (blobs passes left) + (if is_some (get (blobs passes left) d) then 0 else size)
  total-remove pass = ap (λ m. total_size (blobs passes m)) (sym again) ∙ total-insert left r d size (HasOneSize-remove links one (r, d)) sized passes pass

  pub total-remove_other : passes r ≡ false → total_size (blobs passes links) ≡ total_size (blobs passes left)
  total-remove_other fails = ap (λ m. total_size (blobs passes m)) (sym again) ∙ total-other left r d size (HasOneSize-remove links one (r, d)) sized passes fails
