-- If the uploads of a history do not collide, the stored contents can be replaced by the uploads of their digests.
use Rattle.std.proofs.Common.{◌≡◌, ◌∙◌, Bool, true, false, cond, List, [], ◌∷◌, ◌++◌, map, Option, Some, None, refl, sym, ap, subst, arith, inl, inr}
use Prim.Native.Nat.{zero, suc}
use Rattle.std.specs.Option.{option_map, option_map_or}
use Rattle.std.specs.declared.cmp.Ordering.{Ordering}
use Rattle.std.specs.declared.cmp.Ordering.TheVariants.{Less, Equal, Greater}
use Rattle.std.specs.Cmp.{Equal-is, tied_itself}
use Rattle.std.specs.Ordering.{eq_by_cmp, is_eq}
use Rattle.std.specs.List.{AllByRecursion, Contains}
use Rattle.std.specs.Cmp.Lexicographic.{nat_list_cmp_total}
use Rattle.std.specs.FinMap.Entries.{by_order}
use Rattle.std.specs.FinMap.{entries, entries-insert, find, get, put}
use Rattle.std.proofs.lemmas.Map.Lookups.{exact_bytes}
use Rattle.spec_lib.specs.Texts.{Text, text_cmp}
use Rattle.spec_lib.proofs.Maps.{cases_key, get-insert_at, get-insert_other, map_induct}
use Rattle.spec_lib.proofs.Options.{nothing, some_same}
use Rattle.spec_lib.proofs.Rows.{entries-empty}
use Rattle.store_model.specs.Catalog.{Catalog, Resident}
use Rattle.store_model.specs.Commands.{is_named}
use Rattle.store_model.specs.Invariant.{Sound}
use Rattle.store_model.specs.Noninterference.{NoCollision}
use Rattle.store_model.specs.Restarts.{stored_contents}
use Rattle.unread_contents.specs.Unread.{AreReadBlobs, NoCollisionOnDisk, IsReadAs}
use Rattle.unread_contents.proofs.Blobs.{AreFilled, AreRead, Blobs, filled, some_filled}
use Rattle.unread_contents.proofs.Commands.{with}
use Rattle.unread_contents.proofs.Contents.{read_itself}
use Rattle.unread_contents.proofs.Histories.{HasItsDigest}
use Rattle.unread_contents.proofs.Lists.{all_contain, both_all, contain_all}
use Rattle.unread_contents.proofs.Soundness.{named, sound_with}

-- ---- lists of uploads

-- a list whose contents a function determines has no collision
determined : (content : Text → Text) (pairs : List (Text × Text)) → AllByRecursion (λ p. content p.0 ≡ p.1) pairs → NoCollision pairs
determined content pairs all d a b one other = sym (all_contain (λ p. content p.0 ≡ p.1) pairs all (d, a) one) ∙ all_contain (λ p. content p.0 ≡ p.1) pairs all (d, b) other

-- the content that is found under a digest is contained
found_contains : (us : List (Text × Text)) (d w : Text) → find text_cmp d us ≡ Some w → Contains us (d, w)
found_contains [] d w found = absurd cc
found_contains (u ∷ us) d w found = by (eq_by_cmp text_cmp d u.0) refl found (found_contains us d w)
  where
    by : (b : Bool) → eq_by_cmp text_cmp d u.0 ≡ b → cond b (Some u.1) (find text_cmp d us) ≡ Some w → (find text_cmp d us ≡ Some w → Contains us (d, w)) → Contains (u ∷ us) (d, w)
    by true tie is later =
        let key : u.0 ≡ d = sym (exact_bytes d u.0 ((Equal-is (text_cmp d u.0)).0 tie)) in
        let value : u.1 ≡ w = some_same is in
        (zero, omega arith, λ i. (key i, value i))
    by false tie is later = let k = later is in let lt = k.1 in (suc k.0, omega arith, k.2)

tie_itself : (d : Text) → eq_by_cmp text_cmp d d ≡ true
tie_itself d = ap is_eq (tied_itself nat_list_cmp_total d)

-- some content is found under a digest that is contained
contains_found : (us : List (Text × Text)) (d w : Text) → Contains us (d, w) → (v : Text) × (find text_cmp d us ≡ Some v)
contains_found [] d w (k, lt, is) = absurd (omega arith)
contains_found (u ∷ us) d w (zero, lt, is) = (u.1, ap (λ (p : Text × Text). cond (eq_by_cmp text_cmp d p.0) (Some u.1) (find text_cmp d us)) is ∙ ap (λ b. cond b (Some u.1) (find text_cmp d us)) (tie_itself d))
contains_found (u ∷ us) d w (suc k, lt, is) = by (eq_by_cmp text_cmp d u.0) (contains_found us d w (k, omega arith, is))
  where
    by : (b : Bool) → (v : Text) × (find text_cmp d us ≡ Some v) → (v : Text) × (cond b (Some u.1) (find text_cmp d us) ≡ Some v)
    by true later = (u.1, refl)
    by false later = later

-- ---- entries

all_put : (P : Text → Resident → Type 0) (k : Text) (b : Resident) → P k b → (es : List (Text × Resident)) → AllByRecursion (λ e. P e.0 e.1) es → AllByRecursion (λ e. P e.0 e.1) (put text_cmp k b es)
all_put P k b is [] all = (is, tt)
all_put P k b is (e ∷ es) all = by (text_cmp k e.0) refl (all_put P k b is es all.1)
  where
    by : (o : Ordering) → text_cmp k e.0 ≡ o → AllByRecursion (λ e. P e.0 e.1) (put text_cmp k b es) → AllByRecursion (λ e. P e.0 e.1) (by_order o ((k, b) ∷ e ∷ es) ((e.0, b) ∷ es) (e ∷ put text_cmp k b es))
    by Less at later = (is, all)
    by Equal at later = (subst (λ q. P q b) (exact_bytes k e.0 at) is, all.1)
    by Greater at later = (all.0, later)

-- a property of all blobs that are found is one of all entries
all_entries : (P : Text → Resident → Type 0) (m : Blobs) → ((d : Text) (b : Resident) → get m d ≡ Some b → P d b) → AllByRecursion (λ e. P e.0 e.1) (entries m)
all_entries P = map_induct nat_list_cmp_total exact_bytes (λ m. ((d : Text) (b : Resident) → get m d ≡ Some b → P d b) → AllByRecursion (λ e. P e.0 e.1) (entries m))
    (λ each. subst (AllByRecursion (λ e. P e.0 e.1)) (sym (entries-empty text_cmp Resident)) tt)
    (λ m k v none rest each.
    subst (AllByRecursion (λ e. P e.0 e.1)) (sym (entries-insert nat_list_cmp_total m k v))
    (all_put P k v (each k v (get-insert_at nat_list_cmp_total exact_bytes m k v)) (entries m) (rest (λ d b found. elim (cases_key nat_list_cmp_total exact_bytes d k) [
      | inl e ↦ nothing none (ap (get m) (sym e) ∙ found)
      | inr differ ↦ each d b (get-insert_other nat_list_cmp_total exact_bytes m k v d differ ∙ found)
    ]))))

all_mapped : (content : Text → Text) (es : List (Text × Resident)) → AllByRecursion (λ e. content e.0 ≡ e.1.bytes) es → AllByRecursion (λ p. content p.0 ≡ p.1) (map {B = Text × Text} (λ e. (e.0, e.1.bytes)) es)
all_mapped content [] all = tt
all_mapped content (e ∷ es) all = (all.0, all_mapped content es all.1)

pub reads_itself : (m : Blobs) → AreRead m m
reads_itself m d = by (get m d)
  where
    by : (o : Option Resident) → AreReadBlobs o o
    by None = tt
    by (Some b) = record { content = read_itself b.bytes; rest = refl }

-- ---- the uploads

-- The stored blobs with the uploads of their digests: no two contents of these and of the uploads collide.
pub record AreFilledBy (C : Catalog) (uploads : List (Text × Text)) : Type 0 where
  pub blobs : Blobs
  pub read : AreRead C.residents blobs
  pub sound : Sound (with C blobs)
  pub no_collision : NoCollision (stored_contents (with C blobs) ++ uploads)

module _ (C : Catalog) (on_disk : C.contents.on_disk ≡ true) (sound : Sound C) (uploads : List (Text × Text)) (all_named : AllByRecursion HasItsDigest uploads) (are : NoCollisionOnDisk C uploads) where
  -- the upload of a digest, or the stored content
  abbrev bytes : Text → Text
  bytes d = option_map_or (λ w. w) (find text_cmp d uploads) (option_map_or (λ (b : Resident). b.bytes) (get C.residents d) [])

  stored_bytes : (d : Text) (b : Resident) → get C.residents d ≡ Some b → find text_cmp d uploads ≡ None → bytes d ≡ b.bytes
  stored_bytes d b found none = ap (λ o. option_map_or (λ w. w) o (option_map_or (λ (b : Resident). b.bytes) (get C.residents d) [])) none ∙ ap (λ o. option_map_or (λ (b : Resident). b.bytes) o []) found

  uploaded_bytes : (d w : Text) → find text_cmp d uploads ≡ Some w → bytes d ≡ w
  uploaded_bytes d w found = ap (λ o. option_map_or (λ w. w) o (option_map_or (λ (b : Resident). b.bytes) (get C.residents d) [])) found

  bytes_read : (d : Text) (b : Resident) → get C.residents d ≡ Some b → IsReadAs b.bytes (bytes d)
  bytes_read d b found = by (find text_cmp d uploads) refl
    where
      by : (o : Option Text) → find text_cmp d uploads ≡ o → IsReadAs b.bytes (bytes d)
      by None none = subst (IsReadAs b.bytes) (sym (stored_bytes d b found none)) (read_itself b.bytes)
      by (Some w) is = subst (IsReadAs b.bytes) (sym (uploaded_bytes d w is)) (are.stored d w b found (found_contains uploads d w is))

  bytes_named : (d : Text) (b : Resident) → get C.residents d ≡ Some b → is_named C.contents d (bytes d) ≡ true
  bytes_named d b found = by (find text_cmp d uploads) refl
    where
      by : (o : Option Text) → find text_cmp d uploads ≡ o → is_named C.contents d (bytes d) ≡ true
      by None none = ap (is_named C.contents d) (stored_bytes d b found none) ∙ sound.lawful.content d b found
      by (Some w) is =
          ap (is_named C.contents d) (uploaded_bytes d w is)
          ∙ named C C.residents on_disk (reads_itself C.residents) sound d w
          ∙ all_contain HasItsDigest uploads all_named (d, w) (found_contains uploads d w is)

  uploads_are : AllByRecursion (λ u. bytes u.0 ≡ u.1) uploads
  uploads_are = contain_all (λ u. bytes u.0 ≡ u.1) uploads (λ u there.
      let found = contains_found uploads u.0 u.1 there in
      uploaded_bytes u.0 found.0 found.1 ∙ are.no_collision u.0 found.0 u.1 (found_contains uploads u.0 found.0 found.1) there)

  module _ (r : Blobs) (at : AreFilled bytes C.residents r) where
    filled_read : AreRead C.residents r
    filled_read d = subst (AreReadBlobs (get C.residents d)) (sym (at d)) (by (get C.residents d) refl)
      where
        by : (o : Option Resident) → get C.residents d ≡ o → AreReadBlobs o (option_map (filled bytes d) o)
        by None none = tt
        by (Some b) found = record { content = bytes_read d b found; rest = refl }

    -- a blob is that of the catalog, with these bytes
    filled_from : (d : Text) (f : Resident) → get r d ≡ Some f → (b : Resident) × (get C.residents d ≡ Some b) × (bytes d ≡ f.bytes)
    filled_from d f found = by (get C.residents d) refl (sym (at d) ∙ found)
      where
        by : (o : Option Resident) → get C.residents d ≡ o → option_map (filled bytes d) o ≡ Some f → (b : Resident) × (get C.residents d ≡ Some b) × (bytes d ≡ f.bytes)
        by None none is = absurd cc
        by (Some b) there is = (b, there, ap (λ (y : Resident). y.bytes) (some_same is))

    filled_named : (d : Text) (f : Resident) → get r d ≡ Some f → is_named C.contents d f.bytes ≡ true
    filled_named d f found = let k = filled_from d f found in ap (is_named C.contents d) (sym k.2) ∙ bytes_named d k.0 k.1

    filled_by : AreFilledBy C uploads
    filled_by = record {
      blobs = r;
      read = filled_read;
      sound = sound_with C r on_disk filled_read sound filled_named;
      no_collision = determined bytes (stored_contents (with C r) ++ uploads)
          (both_all (λ p. bytes p.0 ≡ p.1) (stored_contents (with C r)) uploads (all_mapped bytes (entries r) (all_entries (λ d f. bytes d ≡ f.bytes) r (λ d f found. (filled_from d f found).2))) uploads_are);
    }

  pub uploads_filled : AreFilledBy C uploads
  uploads_filled = let k = some_filled bytes C.residents in filled_by k.0 k.1
