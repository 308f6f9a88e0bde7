-- Leases, sweeps and closes on small literals.
use Rattle.std.proofs.Common.{◌≡◌, ℕ, true, false, Bool, [], ◌∷◌, Option, Some, None, Ok, Err, refl, sym, ap, ◌∙◌, subst, inl, inr, ⊎_elim}
use Rattle.std.specs.Prelude.{codes, ◌&&◌, not, is_none, count_by}
use Rattle.std.specs.FinMap.{FinMap, get, insert, empty, entries, get-empty, get-insert, get-remove, entries-insert, len-entries}
use Rattle.std.specs.Cmp.Lexicographic.{nat_list_cmp_total}
use Rattle.std.proofs.lemmas.Map.Lookups.{exact_bytes}
use Rattle.blob_digest.specs.declared.refusal.Refusal.TheVariants.{StoreFull, TooManyReaders}
use Rattle.spec_lib.specs.Sets as set
use Rattle.blob_digest.proofs.KeyOrders.{number_cmp_total, link_cmp_total, exact_link}
use Rattle.spec_lib.proofs.Sums.{entries-remove}
use Rattle.spec_lib.proofs.Rows.{entries-empty}
use Rattle.store_model.specs.Sessions.{Session}
use Rattle.spec_lib.specs.Texts.{Text, text_cmp}
use Rattle.store_model.specs.Catalog.{Catalog, CheckedIn, Resident, opening, in_memory}
use Rattle.store_model.specs.Commands.{lease, with_leased, delete, close, with_stored_blob}
use Rattle.store_model.specs.declared.swept.Swept.{Swept}
use Rattle.store_model.specs.Sweep.{is_orphan, IsAfterSweep, IsSweep}
use Rattle.spec_lib.proofs.Maps.{got-insert, get-insert_at, get-insert_other, cases_key}
use Rattle.store_model.proofs.Commands.SweepAnswers.{idle_sweep}
use Rattle.std.proofs.lemmas.Bool.{false≢true}
use Rattle.spec_lib.proofs.Options.{nothing}
use Rattle.store_model.proofs.Examples.Digests.{abc, abc_bytes, abc_named, obj, obj_bytes, obj_named}
use Rattle.blob_digest.specs.Tenants.{usual_limits}

abbrev one : Text
one = codes "acme/one"

abbrev swept : ℕ → ℕ → ℕ → ℕ → Swept
swept condemned freed held retired = record { condemned = condemned; freed = freed; held = held; retired = retired }

-- a store with one slot, which holds three bytes
abbrev with_blob : Bool → Bool → FinMap text_cmp Resident
with_blob condemned lent = insert empty abc (record { bytes = abc_bytes; condemned = condemned; lent = lent })

abbrev kept : Catalog
kept = record (opening (record { name = codes "acme"; quota = 1000; share = 4294967295; limits = usual_limits } ∷ []) 1 (in_memory 10)) {
  repos = set.insert set.empty_set one;
  links = set.insert set.empty_set (one, abc);
  residents = with_blob false false;
}

blob_is_lent : lease false kept one abc ≡ Ok (abc_bytes, with_leased kept abc (record { bytes = abc_bytes; condemned = false; lent = false }))
blob_is_lent = simp (get-insert {X = Unit {0}} link_cmp_total, get-insert {X = Resident} nat_list_cmp_total) refl

blob_is_crowded : lease true kept one abc ≡ Err TooManyReaders
blob_is_crowded = simp (get-insert {X = Unit {0}} link_cmp_total, get-insert {X = Resident} nat_list_cmp_total) refl

-- the link is removed; the blob was leased before, or was not
abbrev unlinked : Bool → Bool → Catalog
unlinked condemned lent = record kept { links = set.remove kept.links (one, abc); residents = with_blob condemned lent }

blob_is_deleted : delete (record kept { residents = with_blob false true }) one abc ≡ Ok (tt, unlinked false true)
blob_is_deleted = simp (get-insert {X = Unit {0}} link_cmp_total, entries-empty) refl

abbrev emptied : ℕ → Catalog
emptied retired = record (unlinked false false) { residents = empty; retired = retired }

-- ---- sweeps of the one blob

abbrev blob : Bool → Bool → Resident
blob condemned lent = record { bytes = abc_bytes; condemned = condemned; lent = lent }

pub is_only : (b : Resident) (d : Text) (x : Resident) → get (insert {R = text_cmp} empty abc b) d ≡ Some x → (d ≡ abc) × (b ≡ x)
is_only b d x h = ⊎_elim (λ e. e) (λ h. nothing (get-empty text_cmp d) h) (got-insert nat_list_cmp_total exact_bytes empty abc b d x h)

-- the catalog after a sweep, by the one blob after it
left_of : (C C' : Catalog) (b : Resident) (o : Option Resident) → C.residents ≡ insert empty abc b → is_orphan C abc ≡ true → get C'.residents abc ≡ o → IsAfterSweep true b o →
    (d : Text) (x : Resident) → get C.residents d ≡ Some x → IsAfterSweep (is_orphan C d) x (get C'.residents d)
left_of C C' b o only orphan now is d x found =
    let e = is_only b d x (ap (λ m. get m d) (sym only) ∙ found) in
    let at : IsAfterSweep (is_orphan C abc) b (get C'.residents abc) = subst (λ p. IsAfterSweep p b (get C'.residents abc)) (sym orphan) (subst (λ o. IsAfterSweep true b o) (sym now) is) in
    subst (λ (y : Resident). IsAfterSweep (is_orphan C d) y (get C'.residents d)) e.1 (subst (λ (q : Text). IsAfterSweep (is_orphan C q) b (get C'.residents q)) (sym e.0) at)

stays_out : (b c : Resident) (d : Text) → get (insert {R = text_cmp} empty abc b) d ≡ None → get (insert {R = text_cmp} empty abc c) d ≡ None
stays_out b c d none = elim (cases_key nat_list_cmp_total exact_bytes d abc) [
  | inl e ↦ absurd (let h : Some b ≡ None = sym (ap (get (insert empty abc b)) e ∙ get-insert_at nat_list_cmp_total exact_bytes empty abc b) ∙ none in cc)
  | inr other ↦ get-insert_other nat_list_cmp_total exact_bytes empty abc c d other ∙ get-empty text_cmp d
]

is_unlinked : (condemned lent : Bool) → is_orphan (unlinked condemned lent) abc ≡ true
is_unlinked condemned lent = simp (entries-insert {X = Unit {0}} nat_list_cmp_total, get-remove {X = Unit {0}} link_cmp_total, get-insert {X = Unit {0}} link_cmp_total, entries-empty) refl

one_orphan : (lent : Bool) → 1 ≡ count_by (λ e. is_orphan (unlinked false lent) e.0 && not e.1.condemned) (entries (with_blob false lent))
one_orphan lent = simp (entries-insert {X = Resident} nat_list_cmp_total, entries-insert {X = Unit {0}} nat_list_cmp_total, get-remove {X = Unit {0}} link_cmp_total, get-insert {X = Unit {0}} link_cmp_total, entries-empty) refl

no_orphan_more : (lent : Bool) → 0 ≡ count_by (λ e. is_orphan (unlinked true lent) e.0 && not e.1.condemned) (entries (with_blob true lent))
no_orphan_more lent = simp (entries-insert {X = Resident} nat_list_cmp_total, entries-insert {X = Unit {0}} nat_list_cmp_total, get-remove {X = Unit {0}} link_cmp_total, get-insert {X = Unit {0}} link_cmp_total, entries-empty) refl

none_there : (d : Text) → get {X = Resident} {R = text_cmp} empty d ≡ None
none_there d = get-empty text_cmp d

one_gone : (condemned lent : Bool) → 1 ≡ count_by (λ e. is_none (get {X = Resident} {R = text_cmp} empty e.0)) (entries (with_blob condemned lent))
one_gone condemned lent = simp (entries-insert {X = Resident} nat_list_cmp_total, get-empty, entries-empty) refl

none_held : 0 ≡ count_by (λ e. e.1.condemned) (entries {X = Resident} {R = text_cmp} empty)
none_held = simp entries-empty refl

-- a reader holds it: it is condemned, and stays in its slot
lent_is_held : IsSweep (unlinked false true) (swept 1 0 1 0) (unlinked true true)
lent_is_held = record {
  orphans = left_of (unlinked false true) (unlinked true true) (blob false true) (Some (blob true true)) refl (is_unlinked false true) (get-insert_at nat_list_cmp_total exact_bytes empty abc (blob true true)) (refl, refl);
  no_others = stays_out (blob false true) (blob true true);
  rest = refl;
  condemned = one_orphan true;
  gone = simp (entries-insert {X = Resident} nat_list_cmp_total, get-insert {X = Resident} nat_list_cmp_total, entries-empty) refl;
  held = simp (entries-insert {X = Resident} nat_list_cmp_total, entries-empty) refl;
}

-- the lease was given back: its slot is freed
condemned_is_freed : IsSweep (unlinked true true) (swept 0 1 0 0) (emptied 0)
condemned_is_freed = record {
  orphans = left_of (unlinked true true) (emptied 0) (blob true true) None refl (is_unlinked true true) (none_there abc) tt;
  no_others = λ d none. none_there d;
  rest = refl;
  condemned = no_orphan_more true;
  gone = one_gone true true;
  held = none_held;
}

-- a blob that was never leased is condemned and freed at once, or its slot is retired in the last generation
unlent_is_freed : IsSweep (unlinked false false) (swept 1 1 0 0) (emptied 0)
unlent_is_freed = record {
  orphans = left_of (unlinked false false) (emptied 0) (blob false false) None refl (is_unlinked false false) (none_there abc) tt;
  no_others = λ d none. none_there d;
  rest = refl;
  condemned = one_orphan false;
  gone = one_gone false false;
  held = none_held;
}

unlent_is_retired : IsSweep (unlinked false false) (swept 1 0 0 1) (emptied 1)
unlent_is_retired = record {
  orphans = left_of (unlinked false false) (emptied 1) (blob false false) None refl (is_unlinked false false) (none_there abc) tt;
  no_others = λ d none. none_there d;
  rest = refl;
  condemned = one_orphan false;
  gone = one_gone false false;
  held = none_held;
}

-- a sweep can't report a blob as held that was never leased
unlent_is_gone : (n m k : ℕ) (C' : Catalog) → IsSweep (unlinked false false) (swept 1 n m k) C' → get C'.residents abc ≡ None
unlent_is_gone n m k C' sweep = at (get C'.residents abc) (subst (λ p. IsAfterSweep p (blob false false) (get C'.residents abc)) (is_unlinked false false) (sweep.orphans abc (blob false false) (get-insert_at nat_list_cmp_total exact_bytes empty abc (blob false false))))
  where
    at : (o : Option Resident) → IsAfterSweep true (blob false false) o → o ≡ None
    at None left = refl
    at (Some x) left = absurd (false≢true left.0)

abbrev linked : Bool → Catalog
linked lent = record kept { residents = with_blob false lent }

is_linked : (lent : Bool) → is_orphan (linked lent) abc ≡ false
is_linked lent = simp (entries-insert {X = Unit {0}} nat_list_cmp_total, get-insert {X = Unit {0}} link_cmp_total, get-empty, entries-empty) refl

-- a linked blob stays in every sweep
linked_stays : (lent : Bool) (s : Swept) (C' : Catalog) → IsSweep (linked lent) s C' → (s ≡ swept 0 0 0 0) × (C' ≡ linked lent)
linked_stays lent s C' sweep = idle_sweep (linked lent) C' s sweep (λ d b found.
    let e = is_only (blob false lent) d b found in
    (ap (is_orphan (linked lent)) e.0 ∙ is_linked lent, ap (λ (x : Resident). x.condemned) (sym e.1)))

-- and there is such a sweep
linked_is_left : (lent : Bool) → IsSweep (linked lent) (swept 0 0 0 0) (linked lent)
linked_is_left lent = record {
  orphans = λ d b found. subst (λ o. IsAfterSweep o b (get (linked lent).residents d)) (sym (ap (is_orphan (linked lent)) (is_only (blob false lent) d b found).0 ∙ is_linked lent)) found;
  no_others = λ d none. none;
  rest = refl;
  condemned = simp (entries-insert {X = Resident} nat_list_cmp_total, entries-insert {X = Unit {0}} nat_list_cmp_total, get-insert {X = Unit {0}} link_cmp_total, get-empty, entries-empty) refl;
  gone = simp (entries-insert {X = Resident} nat_list_cmp_total, get-insert {X = Resident} nat_list_cmp_total, entries-empty) refl;
  held = simp (entries-insert {X = Resident} nat_list_cmp_total, entries-empty) refl;
}

-- ---- closes in a store of one slot

-- a session with all of its bytes
abbrev uploading : Catalog → Text → Catalog
uploading C bytes = record C { sessions = insert empty (0, 2) (record { repo = one; chunks = CheckedIn (bytes ∷ []) }) }

-- a condemned blob that is uploaded again is live again, and is still marked as leased
revived : close (uploading (unlinked true true) abc_bytes) one 2 abc None [] ≡ Ok (3, with_stored_blob (uploading (unlinked true true) abc_bytes) 0 one 2 abc abc_bytes)
revived =
    simp (entries-insert {X = Unit {0}} link_cmp_total, entries-remove {X = Unit {0}} link_cmp_total exact_link, get-insert {X = Session} number_cmp_total, entries-insert {X = Session} number_cmp_total, entries-insert {X = Resident} nat_list_cmp_total, entries-insert {X = Unit {0}} nat_list_cmp_total, get-remove {X = Unit {0}} link_cmp_total, get-insert {X = Unit {0}} link_cmp_total, get-insert {X = Resident} nat_list_cmp_total, entries-empty)
    (rw abc_named refl)

revived_blob : get (with_stored_blob (uploading (unlinked true true) abc_bytes) 0 one 2 abc abc_bytes).residents abc ≡ Some (blob false true)
revived_blob = simp (get-insert {X = Resident} nat_list_cmp_total) refl

-- the only slot is used or retired, so there is no room for another blob
full_while_linked : close (uploading kept obj_bytes) one 2 obj None [] ≡ Err StoreFull
full_while_linked =
    simp (entries-insert {X = Unit {0}} link_cmp_total, len-entries, get-insert {X = Session} number_cmp_total, entries-insert {X = Session} number_cmp_total, entries-insert {X = Resident} nat_list_cmp_total, entries-insert {X = Unit {0}} nat_list_cmp_total, get-insert {X = Unit {0}} link_cmp_total, get-insert {X = Resident} nat_list_cmp_total, get-empty, entries-empty)
    (rw obj_named refl)

full_while_unlinked : close (uploading (unlinked false false) obj_bytes) one 2 obj None [] ≡ Err StoreFull
full_while_unlinked =
    simp (entries-insert {X = Unit {0}} link_cmp_total, entries-remove {X = Unit {0}} link_cmp_total exact_link, len-entries, get-insert {X = Session} number_cmp_total, entries-insert {X = Session} number_cmp_total, entries-insert {X = Resident} nat_list_cmp_total, entries-insert {X = Unit {0}} nat_list_cmp_total, get-remove {X = Unit {0}} link_cmp_total, get-insert {X = Unit {0}} link_cmp_total, get-insert {X = Resident} nat_list_cmp_total, get-empty, entries-empty)
    (rw obj_named refl)

full_once_retired : close (uploading (emptied 1) obj_bytes) one 2 obj None [] ≡ Err StoreFull
full_once_retired =
    simp (get-insert {X = Unit {0}} link_cmp_total, entries-insert {X = Unit {0}} link_cmp_total, entries-remove {X = Unit {0}} link_cmp_total exact_link, len-entries, get-insert {X = Session} number_cmp_total, entries-insert {X = Session} number_cmp_total, entries-insert {X = Unit {0}} nat_list_cmp_total, get-remove {X = Unit {0}} link_cmp_total, get-empty, entries-empty)
    (rw obj_named refl)

room_once_freed : close (uploading (emptied 0) obj_bytes) one 2 obj None [] ≡ Ok (2, with_stored_blob (uploading (emptied 0) obj_bytes) 0 one 2 obj obj_bytes)
room_once_freed =
    simp (get-insert {X = Unit {0}} link_cmp_total, entries-insert {X = Unit {0}} link_cmp_total, entries-remove {X = Unit {0}} link_cmp_total exact_link, len-entries, get-insert {X = Session} number_cmp_total, entries-insert {X = Session} number_cmp_total, entries-insert {X = Unit {0}} nat_list_cmp_total, get-remove {X = Unit {0}} link_cmp_total, get-empty, entries-empty)
    (rw obj_named refl)
