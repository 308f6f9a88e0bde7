-- Stored blobs and the same with their contents read: lookups, changes, and sums over all of them.
use Rattle.std.proofs.Common.{◌≡◌, ◌∙◌, ℕ, Bool, true, false, cond, List, [], ◌∷◌, length, map, filter, Option, Some, None, is_some, refl, sym, ap, subst, arith, inl, inr}
use Rattle.std.specs.Option.{option_map}
use Rattle.std.specs.declared.cmp.Ordering.{Ordering}
use Rattle.std.specs.declared.cmp.Ordering.TheVariants.{Less, Equal, Greater}
use Rattle.std.specs.Ordering.{eq_by_cmp}
use Rattle.std.specs.List.{sum_by}
use Rattle.std.specs.Cmp.Lexicographic.{nat_list_cmp_total}
use Rattle.std.specs.FinMap.Entries.{by_order}
use Rattle.std.specs.FinMap.{FinMap, empty, entries, entries-insert, get, get-empty, get-insert, insert, len, len-entries, put, remove, same_map}
use Rattle.std.proofs.lemmas.List.Sums.{sum_by-cons}
use Rattle.std.proofs.lemmas.Map.Lookups.{exact_bytes}
use Rattle.spec_lib.specs.Texts.{Text, text_cmp}
use Rattle.spec_lib.proofs.Maps.{cases_key, get-insert_at, get-insert_other, get-remove_other, map_induct}
use Rattle.spec_lib.proofs.Rows.{entries-empty}
use Rattle.spec_lib.proofs.Sums.{get-remove_same, insert-remove, insert_back}
use Rattle.store_model.specs.Catalog.{Resident}
use Rattle.unread_contents.specs.Unread.{AreContentsUpTo, AreReadBlobs, IsReadAs, IsReadBlob}

abbrev pub Blobs : Type 0
Blobs = FinMap text_cmp Resident

-- the second blobs are the first ones with their contents read
abbrev pub AreRead : Blobs → Blobs → Type 0
AreRead m n = (digest : Text) → AreReadBlobs (get m digest) (get n digest)

-- a blob has one with its content read
pub read_at : (o p : Option Resident) → AreReadBlobs o p → (b : Resident) → o ≡ Some b → (f : Resident) × (p ≡ Some f) × IsReadBlob b f
read_at None p h b is = absurd cc
read_at (Some k) None h b is = absurd h
read_at (Some k) (Some f) h b is = (f, refl, let same : k ≡ b = cc in subst (λ x. IsReadBlob x f) same h)

-- a blob with its content read has the one that is known
pub known_at : (o p : Option Resident) → AreReadBlobs o p → (f : Resident) → p ≡ Some f → (b : Resident) × (o ≡ Some b) × IsReadBlob b f
known_at None None h f is = absurd cc
known_at None (Some g) h f is = absurd h
known_at (Some k) None h f is = absurd h
known_at (Some k) (Some g) h f is = (k, refl, let same : g ≡ f = cc in subst (λ x. IsReadBlob k x) same h)

pub none_read : (o p : Option Resident) → AreReadBlobs o p → o ≡ None → p ≡ None
none_read None None h is = refl
none_read None (Some f) h is = absurd h
none_read (Some b) p h is = absurd cc

pub none_known : (o p : Option Resident) → AreReadBlobs o p → p ≡ None → o ≡ None
none_known None p h is = refl
none_known (Some b) None h is = absurd h
none_known (Some b) (Some f) h is = absurd cc

pub both_some : (o p : Option Resident) → AreReadBlobs o p → is_some o ≡ is_some p
both_some None None h = refl
both_some None (Some f) h = absurd h
both_some (Some b) None h = absurd h
both_some (Some b) (Some f) h = refl

-- ---- changes

pub read_insert : (m n : Blobs) → AreRead m n → (k : Text) (b f : Resident) → IsReadBlob b f → AreRead (insert m k b) (insert n k f)
read_insert m n all k b f is digest =
    subst (λ o. AreReadBlobs o (get (insert n k f) digest)) (sym (get-insert nat_list_cmp_total m k b digest))
    (subst (AreReadBlobs (cond (eq_by_cmp text_cmp digest k) (Some b) (get m digest))) (sym (get-insert nat_list_cmp_total n k f digest)) (by (eq_by_cmp text_cmp digest k)))
  where
    by : (x : Bool) → AreReadBlobs (cond x (Some b) (get m digest)) (cond x (Some f) (get n digest))
    by true = is
    by false = all digest

-- a blob with the bytes of its digest
abbrev pub filled : (Text → Text) → Text → Resident → Resident
filled bytes d b = record b { bytes = bytes d }

-- the second blobs are the first ones with the bytes of their digests
abbrev pub AreFilled : (Text → Text) → Blobs → Blobs → Type 0
AreFilled bytes m n = (d : Text) → get n d ≡ option_map (filled bytes d) (get m d)

-- blobs can be filled
pub some_filled : (bytes : Text → Text) (m : Blobs) → (n : Blobs) × AreFilled bytes m n
some_filled bytes = map_induct nat_list_cmp_total exact_bytes (λ m. (n : Blobs) × AreFilled bytes m n)
    (empty, λ d. get-empty text_cmp d ∙ sym (ap (option_map (filled bytes d)) (get-empty text_cmp d)))
    (λ m k v none rest. (
      insert rest.0 k (filled bytes k v),
      λ d. elim (cases_key nat_list_cmp_total exact_bytes d k) [
        | inl e ↦
            ap (get (insert rest.0 k (filled bytes k v))) e
            ∙ get-insert_at nat_list_cmp_total exact_bytes rest.0 k (filled bytes k v)
            ∙ sym (ap (λ q. option_map (filled bytes q) (get (insert m k v) q)) e ∙ ap (option_map (filled bytes k)) (get-insert_at nat_list_cmp_total exact_bytes m k v))
        | inr differ ↦
            get-insert_other nat_list_cmp_total exact_bytes rest.0 k (filled bytes k v) d differ
            ∙ rest.1 d
            ∙ sym (ap (option_map (filled bytes d)) (get-insert_other nat_list_cmp_total exact_bytes m k v d differ))
      ],
    ))

-- ---- entries

-- the second entries have the keys of the first ones, and their blobs with their contents read
abbrev pub AreReadEntries : List (Text × Resident) → List (Text × Resident) → Type 0
AreReadEntries [] [] = Unit {0}
AreReadEntries (e ∷ es) (f ∷ fs) = (e.0 ≡ f.0) × IsReadBlob e.1 f.1 × AreReadEntries es fs
AreReadEntries es fs = ⊥

-- an entry that is put into both
put_read : (k : Text) (b f : Resident) → IsReadBlob b f → (es fs : List (Text × Resident)) → AreReadEntries es fs → AreReadEntries (put text_cmp k b es) (put text_cmp k f fs)
put_read k b f is [] [] h = (refl, is, tt)
put_read k b f is [] (y ∷ fs) h = absurd h
put_read k b f is (x ∷ es) [] h = absurd h
put_read k b f is (x ∷ es) (y ∷ fs) h = subst (λ q. AreReadEntries (put text_cmp k b (x ∷ es)) (put text_cmp k f ((q, y.1) ∷ fs))) h.0 (by (text_cmp k x.0) (put_read k b f is es fs h.2))
  where
    by : (o : Ordering) → AreReadEntries (put text_cmp k b es) (put text_cmp k f fs) →
        AreReadEntries (by_order o ((k, b) ∷ x ∷ es) ((x.0, b) ∷ es) (x ∷ put text_cmp k b es)) (by_order o ((k, f) ∷ (x.0, y.1) ∷ fs) ((x.0, f) ∷ fs) ((x.0, y.1) ∷ put text_cmp k f fs))
    by Less rest = (refl, is, (refl, h.1, h.2))
    by Equal rest = (refl, is, h.2)
    by Greater rest = (refl, h.1, rest)

-- the empty map has no other read form
none_left : (n : Blobs) → AreRead empty n → AreReadEntries [] (entries n)
none_left n all =
    let is : n ≡ empty = same_map nat_list_cmp_total exact_bytes n empty (λ d. none_read (get empty d) (get n d) (all d) (get-empty text_cmp d) ∙ sym (get-empty text_cmp d)) in
    subst (λ es. AreReadEntries [] es) (sym (ap entries is ∙ entries-empty text_cmp Resident)) tt

-- the rest of the blobs, without one of them
rest_read : (m n : Blobs) (k : Text) (b : Resident) → get m k ≡ None → AreRead (insert m k b) n → AreRead m (remove n k)
rest_read m n k b none all d = elim (cases_key nat_list_cmp_total exact_bytes d k) [
  | inl e ↦ subst (λ q. AreReadBlobs (get m q) (get (remove n k) q)) (sym e) (subst (λ o. AreReadBlobs o (get (remove n k) k)) (sym none) (subst (AreReadBlobs None) (sym (get-remove_same nat_list_cmp_total exact_bytes n k)) tt))
  | inr differ ↦ subst (λ o. AreReadBlobs o (get (remove n k) d)) (get-insert_other nat_list_cmp_total exact_bytes m k b d differ) (subst (AreReadBlobs (get (insert m k b) d)) (sym (get-remove_other nat_list_cmp_total exact_bytes n k d differ)) (all d))
]

-- the entries with one blob more
grown : (m : Blobs) (k : Text) (b : Resident) → get m k ≡ None → ((n : Blobs) → AreRead m n → AreReadEntries (entries m) (entries n)) → (n : Blobs) → AreRead (insert m k b) n → AreReadEntries (entries (insert m k b)) (entries n)
grown m k b none rest n all =
    let at = read_at (get (insert m k b) k) (get n k) (all k) b (get-insert_at nat_list_cmp_total exact_bytes m k b) in
    let back : insert (remove n k) k at.0 ≡ n = insert-remove nat_list_cmp_total exact_bytes n k at.0 ∙ insert_back nat_list_cmp_total exact_bytes n k at.0 at.1 in
    subst (λ es. AreReadEntries es (entries n)) (sym (entries-insert nat_list_cmp_total m k b))
    (subst (λ fs. AreReadEntries (put text_cmp k b (entries m)) fs) (sym (entries-insert nat_list_cmp_total (remove n k) k at.0) ∙ ap entries back)
    (put_read k b at.0 at.2 (entries m) (entries (remove n k)) (rest (remove n k) (rest_read m n k b none all))))

-- the entries of both have the same keys, in the same order
pub entries_read : (m n : Blobs) → AreRead m n → AreReadEntries (entries m) (entries n)
entries_read = map_induct nat_list_cmp_total exact_bytes (λ m. (n : Blobs) → AreRead m n → AreReadEntries (entries m) (entries n))
    (λ n all. subst (λ es. AreReadEntries es (entries n)) (sym (entries-empty text_cmp Resident)) (none_left n all))
    (λ m k b none rest n all. grown m k b none rest n all)

-- sums of terms that do not depend on contents are the same
pub sum_read : (f g : Text × Resident → ℕ) → ((d : Text) (b c : Resident) → IsReadBlob b c → f (d, b) ≡ g (d, c)) → (es fs : List (Text × Resident)) → AreReadEntries es fs → sum_by f es ≡ sum_by g fs
sum_read f g each [] [] h = refl
sum_read f g each [] (y ∷ fs) h = absurd h
sum_read f g each (x ∷ es) [] h = absurd h
sum_read f g each (x ∷ es) (y ∷ fs) h =
    let at : f x ≡ g y = each x.0 x.1 y.1 h.1 ∙ ap (λ q. g (q, y.1)) h.0 in
    let rest = sum_read f g each es fs h.2 in
    let one = sum_by-cons f x es in
    let other = sum_by-cons g y fs in
    omega arith

length_read : (es fs : List (Text × Resident)) → AreReadEntries es fs → length es ≡ length fs
length_read [] [] h = refl
length_read [] (y ∷ fs) h = absurd h
length_read (x ∷ es) [] h = absurd h
length_read (x ∷ es) (y ∷ fs) h = let rest = length_read es fs h.2 in omega arith

pub len_read : (m n : Blobs) → AreRead m n → len m ≡ len n
len_read m n all = len-entries m ∙ length_read (entries m) (entries n) (entries_read m n all) ∙ sym (len-entries n)

-- the contents of the blobs whose digests pass a test
abbrev pub contents_of : (Text → Bool) → List (Text × Resident) → List (Text × Text)
contents_of p es = map (λ e. (e.0, e.1.bytes)) (filter (λ e. p e.0) es)

pub contents_read : (p : Text → Bool) (es fs : List (Text × Resident)) → AreReadEntries es fs → AreContentsUpTo IsReadAs (contents_of p es) (contents_of p fs)
contents_read p [] [] h = tt
contents_read p [] (y ∷ fs) h = absurd h
contents_read p (x ∷ es) [] h = absurd h
contents_read p (x ∷ es) (y ∷ fs) h = subst (λ q. AreContentsUpTo IsReadAs (contents_of p (x ∷ es)) (contents_of p ((q, y.1) ∷ fs))) h.0 (by (p x.0) (contents_read p es fs h.2))
  where
    by : (t : Bool) → AreContentsUpTo IsReadAs (contents_of p es) (contents_of p fs) →
        AreContentsUpTo IsReadAs (map {B = Text × Text} (λ e. (e.0, e.1.bytes)) (cond t (x ∷ filter (λ e. p e.0) es) (filter (λ e. p e.0) es))) (map {B = Text × Text} (λ e. (e.0, e.1.bytes)) (cond t ((x.0, y.1) ∷ filter (λ e. p e.0) fs) (filter (λ e. p e.0) fs)))
    by true rest = (refl, h.1.content, rest)
    by false rest = rest
