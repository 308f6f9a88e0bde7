-- A tenant has the same replies and the same view with a second tenant present and in its isolated run.
use Rattle.std.proofs.Common.{◌≡◌, Bool, true, false, cond, List, [], ◌∷◌, ◌++◌, Option, None, Ok, Err, refl, sym, ap, ◌∙◌, subst, inl, inr, arith}
use Prim.Native.Nat.{zero, suc}
use Rattle.std.specs.Prelude.{codes, if◌then◌else◌}
use Rattle.std.specs.List.{AllByRecursion, Contains}
use Rattle.std.specs.FinMap.{get, remove, empty, get-empty, get-insert, get-remove, entries-insert, len-entries}
use Rattle.std.specs.Cmp.Lexicographic.{nat_list_cmp_total}
use Rattle.std.proofs.lemmas.Map.Lookups.{exact_bytes}
use Rattle.spec_lib.specs.Texts.{same_text, Text, text_cmp}
use Rattle.spec_lib.specs.Sets as set
use Rattle.blob_digest.proofs.KeyOrders.{number_cmp_total, exact_number, link_cmp_total}
use Rattle.spec_lib.proofs.Sums.{entries-remove, get-remove_same}
use Rattle.spec_lib.proofs.Rows.{entries-empty}
use Rattle.store_model.specs.declared.mount.Mount.TheVariants as mounting
use Rattle.store_model.specs.Catalog.{Tenant, Session, Resident, Catalog, opening, in_memory}
use Rattle.store_model.specs.Commands.{with_new_session, with_stored_blob, with_link}
use Rattle.store_model.specs.Runs.{Command, Event, CommandEvent, SweepEvent, Start, Close, Mount, Delete, Number, Mounting, Done, outcome, IsRun}
use Rattle.store_model.specs.declared.swept.Swept.{Swept as SweptCounts}
use Rattle.store_model.specs.Sweep.{is_orphan, IsAfterSweep, IsSweep}
use Rattle.store_model.specs.Noninterference.{events_of, commands_of, isolated_replies, isolated_catalog, isolated_outcome, tenant_view, uploaded_pair, close_content, uploads_of_run, NoCollision, IsCollisionFreeRun, IsUnaffectedByOthers, IsIsolated}
use Rattle.store_model.proofs.Noninterference.LocalRespect.{tenants_alike_themselves}
use Rattle.store_model.proofs.Noninterference.Runs.{isolated}
use Rattle.spec_lib.proofs.Maps.{get-insert_other, cases_key}
use Rattle.spec_lib.proofs.Options.{nothing}
use Rattle.store_model.proofs.Examples.Digests.{abc, abc_bytes, abc_named, obj, obj_bytes, obj_named}
use Rattle.blob_digest.specs.Tenants.{usual_limits}
use Rattle.blob_digest.specs.declared.refusal.Refusal.TheVariants.{Quota}

abbrev tenants : List Tenant
tenants = record { name = codes "acme"; quota = 3; share = 4294967295; limits = usual_limits } ∷ record { name = codes "other"; quota = 9; share = 4294967295; limits = usual_limits } ∷ []

abbrev one : Text
one = codes "acme/one"

abbrev two : Text
two = codes "acme/two"

abbrev x : Text
x = codes "other/x"

abbrev empty_book : Catalog
empty_book = opening tenants 64 (in_memory 10)

-- ---- the first tenant's isolated run

-- the mount finds nothing of the tenant's, the session that it opens is closed, and the second mount finds the blob
abbrev own : List Command
own = Mount one abc None ∷ Close one 1 abc None abc_bytes ∷ Mount two abc None ∷ []

abbrev alone_open : Catalog
alone_open = with_new_session empty_book 0 one

abbrev alone_stored : Catalog
alone_stored = with_stored_blob alone_open 0 one 1 abc abc_bytes

abbrev alone_mounted : Catalog
alone_mounted = with_link alone_stored two abc

opens_alone : isolated_outcome empty_book (Mount one abc None) ≡ Ok (Mounting (mounting.Session 1), alone_open)
opens_alone = simp (get-empty, entries-empty) refl

stores_alone : isolated_outcome alone_open (Close one 1 abc None abc_bytes) ≡ Ok (Number 3, alone_stored)
stores_alone = simp (entries-insert {X = Unit {0}} nat_list_cmp_total, get-insert {X = Session} number_cmp_total, entries-insert {X = Session} number_cmp_total, get-empty, entries-empty) (rw abc_named refl)

mounts_alone : isolated_outcome alone_stored (Mount two abc None) ≡ Ok (Mounting mounting.Mounted, alone_mounted)
mounts_alone = simp (entries-insert {X = Unit {0}} nat_list_cmp_total, get-insert {X = Unit {0}} nat_list_cmp_total, get-insert {X = Unit {0}} link_cmp_total, get-empty, entries-empty) refl

own_replies_alone : isolated_replies empty_book own ≡ Ok (Mounting (mounting.Session 1)) ∷ Ok (Number 3) ∷ Ok (Mounting mounting.Mounted) ∷ []
own_replies_alone = rw (opens_alone, stores_alone, mounts_alone) refl

own_left_alone : isolated_catalog empty_book own ≡ alone_mounted
own_left_alone = rw (opens_alone, stores_alone, mounts_alone) refl

-- ---- with a second one, which stores the same blob first, and another one, and deletes both again; a sweep then takes the other one away

abbrev swept : SweptCounts
swept = record { condemned = 1; freed = 1; held = 0; retired = 0 }

abbrev called : List Event
called = CommandEvent (Start x) (Ok (Number 1)) ∷ CommandEvent (Close x 1 abc None abc_bytes) (Ok (Number 3)) ∷ CommandEvent (Start x) (Ok (Number 2)) ∷ CommandEvent (Close x 2 obj None obj_bytes) (Ok (Number 2))
    ∷ CommandEvent (Mount one abc None) (Ok (Mounting (mounting.Session 1))) ∷ CommandEvent (Close one 1 abc None abc_bytes) (Ok (Number 3))
    ∷ CommandEvent (Delete x abc) (Ok Done) ∷ CommandEvent (Delete x obj) (Ok Done) ∷ SweepEvent swept ∷ CommandEvent (Mount two abc None) (Ok (Mounting mounting.Mounted)) ∷ []

own_commands : commands_of (events_of tenants 0 called) ≡ own
own_commands = refl

abbrev other_open : Catalog
other_open = with_new_session empty_book 1 x

abbrev other_stored : Catalog
other_stored = with_stored_blob other_open 1 x 1 abc abc_bytes

abbrev other_again : Catalog
other_again = with_new_session other_stored 1 x

abbrev other_both : Catalog
other_both = with_stored_blob other_again 1 x 2 obj obj_bytes

abbrev both_open : Catalog
both_open = with_new_session other_both 0 one

abbrev both_stored : Catalog
both_stored = with_stored_blob both_open 0 one 1 abc abc_bytes

abbrev one_deleted : Catalog
one_deleted = record both_stored { links = set.remove both_stored.links (x, abc) }

abbrev both_deleted : Catalog
both_deleted = record one_deleted { links = set.remove one_deleted.links (x, obj) }

abbrev cleaned : Catalog
cleaned = record both_deleted { residents = remove both_deleted.residents obj }

abbrev both_mounted : Catalog
both_mounted = with_link cleaned two abc

second_opens : outcome false empty_book (Start x) ≡ Ok (Number 1, other_open)
second_opens = simp (get-empty, entries-empty) refl

second_stores : outcome false other_open (Close x 1 abc None abc_bytes) ≡ Ok (Number 3, other_stored)
second_stores = simp (len-entries, entries-insert {X = Session} number_cmp_total, get-insert {X = Session} number_cmp_total, entries-insert {X = Unit {0}} nat_list_cmp_total, get-empty, entries-empty) (rw abc_named refl)

second_opens_again : outcome false other_stored (Start x) ≡ Ok (Number 2, other_again)
second_opens_again = simp (entries-remove {X = Session} number_cmp_total exact_number, entries-insert {X = Session} number_cmp_total, entries-insert {X = Unit {0}} nat_list_cmp_total, get-insert {X = Unit {0}} nat_list_cmp_total, get-empty, entries-empty) refl

second_stores_another : outcome false other_again (Close x 2 obj None obj_bytes) ≡ Ok (Number 2, other_both)
second_stores_another = simp (entries-insert {X = Unit {0}} link_cmp_total, len-entries, entries-remove {X = Session} number_cmp_total exact_number, entries-insert {X = Session} number_cmp_total, get-insert {X = Session} number_cmp_total, entries-insert {X = Unit {0}} nat_list_cmp_total, get-insert {X = Unit {0}} link_cmp_total, entries-insert {X = Resident} nat_list_cmp_total, get-insert {X = Resident} nat_list_cmp_total, get-empty, entries-empty) (rw obj_named refl)

-- the second one's blob is no source
first_opens : outcome false other_both (Mount one abc None) ≡ Ok (Mounting (mounting.Session 1), both_open)
first_opens = simp (entries-remove {X = Session} number_cmp_total exact_number, entries-insert {X = Session} number_cmp_total, entries-insert {X = Unit {0}} nat_list_cmp_total, get-insert {X = Unit {0}} nat_list_cmp_total, get-insert {X = Unit {0}} link_cmp_total, get-insert {X = Resident} nat_list_cmp_total, get-empty, entries-empty) refl

first_stores : outcome false both_open (Close one 1 abc None abc_bytes) ≡ Ok (Number 3, both_stored)
first_stores = simp (entries-insert {X = Unit {0}} link_cmp_total, len-entries, entries-remove {X = Session} number_cmp_total exact_number, entries-insert {X = Session} number_cmp_total, get-insert {X = Session} number_cmp_total, entries-insert {X = Unit {0}} nat_list_cmp_total, get-insert {X = Unit {0}} link_cmp_total, entries-insert {X = Resident} nat_list_cmp_total, get-insert {X = Resident} nat_list_cmp_total, get-empty, entries-empty) (rw abc_named refl)

second_deletes : outcome false both_stored (Delete x abc) ≡ Ok (Done, one_deleted)
second_deletes = simp (get-insert {X = Unit {0}} link_cmp_total, entries-empty) refl

second_deletes_another : outcome false one_deleted (Delete x obj) ≡ Ok (Done, both_deleted)
second_deletes_another = simp (get-remove {X = Unit {0}} link_cmp_total, get-insert {X = Unit {0}} link_cmp_total, entries-empty) refl

first_mounts : outcome false cleaned (Mount two abc None) ≡ Ok (Mounting mounting.Mounted, both_mounted)
first_mounts = simp (entries-insert {X = Unit {0}} nat_list_cmp_total, get-insert {X = Unit {0}} nat_list_cmp_total, get-remove {X = Unit {0}} link_cmp_total, get-insert {X = Unit {0}} link_cmp_total, get-empty, entries-empty) refl

-- ---- the sweep

-- the first tenant has one blob, and no tenant has the other
is_linked : is_orphan both_deleted abc ≡ false
is_linked = simp (entries-insert {X = Unit {0}} nat_list_cmp_total, get-remove {X = Unit {0}} link_cmp_total, get-insert {X = Unit {0}} link_cmp_total, entries-empty) refl

is_unlinked : is_orphan both_deleted obj ≡ true
is_unlinked = simp (entries-insert {X = Unit {0}} nat_list_cmp_total, get-remove {X = Unit {0}} link_cmp_total, get-insert {X = Unit {0}} link_cmp_total, get-empty, entries-empty) refl

no_third_blob : (d : Text) → ¬ (d ≡ abc) → ¬ (d ≡ obj) → get both_deleted.residents d ≡ None
no_third_blob d other another =
    get-insert_other nat_list_cmp_total exact_bytes other_both.residents abc _ d other
    ∙ get-insert_other nat_list_cmp_total exact_bytes other_stored.residents obj _ d another
    ∙ get-insert_other nat_list_cmp_total exact_bytes empty abc _ d other ∙ get-empty text_cmp d

same_abc : get cleaned.residents abc ≡ get both_deleted.residents abc
same_abc = get-remove nat_list_cmp_total both_deleted.residents obj abc

other_swept : IsSweep both_deleted swept cleaned
other_swept = record {
  orphans = λ d b found. elim (cases_key nat_list_cmp_total exact_bytes d abc) [
    | inl e ↦ subst (λ q. IsAfterSweep (is_orphan both_deleted q) b (get cleaned.residents q)) (sym e) (subst (λ o. IsAfterSweep o b (get cleaned.residents abc)) (sym is_linked) (same_abc ∙ ap (get both_deleted.residents) (sym e) ∙ found))
    | inr other ↦ elim (cases_key nat_list_cmp_total exact_bytes d obj) [
      | inl e ↦
          subst (λ q. IsAfterSweep (is_orphan both_deleted q) b (get cleaned.residents q)) (sym e)
          (subst (λ o. IsAfterSweep o b (get cleaned.residents obj)) (sym is_unlinked) (subst (λ now. IsAfterSweep true b now) (sym (get-remove_same nat_list_cmp_total exact_bytes both_deleted.residents obj)) tt))
      | inr another ↦ nothing (no_third_blob d other another) found
    ]
  ];
  no_others = λ d none. stays_out d none;
  rest = refl;
  condemned = simp (entries-insert {X = Resident} nat_list_cmp_total, get-insert {X = Resident} nat_list_cmp_total, entries-insert {X = Unit {0}} nat_list_cmp_total, get-remove {X = Unit {0}} link_cmp_total, get-insert {X = Unit {0}} link_cmp_total, get-empty, entries-empty) refl;
  gone = simp (get-remove {X = Resident} nat_list_cmp_total, entries-insert {X = Resident} nat_list_cmp_total, get-insert {X = Resident} nat_list_cmp_total, get-empty, entries-empty) refl;
  held = simp (entries-remove {X = Resident} nat_list_cmp_total exact_bytes, entries-insert {X = Resident} nat_list_cmp_total, get-insert {X = Resident} nat_list_cmp_total, get-empty, entries-empty) refl;
}
  where
    none_either : (gone : Bool) (o : Option Resident) → o ≡ None → cond gone None o ≡ None
    none_either true o none = refl
    none_either false o none = none

    stays_out : (d : Text) → get both_deleted.residents d ≡ None → get cleaned.residents d ≡ None
    stays_out d none = get-remove nat_list_cmp_total both_deleted.residents obj d ∙ none_either _ _ none

-- ---- the run

abbrev both_run : IsRun empty_book called both_mounted
both_run = (
  other_open,
  second_opens,
  (
    other_stored,
    second_stores,
    (
      other_again,
      second_opens_again,
      (
        other_both,
        second_stores_another,
        (
          both_open,
          first_opens,
          (
            both_stored,
            first_stores,
            (one_deleted, second_deletes, (both_deleted, second_deletes_another, (cleaned, other_swept, (both_mounted, first_mounts, refl)))),
          ),
        ),
      ),
    ),
  ),
)

brought_first : uploaded_pair other_open.contents abc (close_content other_open x 1 abc_bytes) ≡ (abc, abc_bytes) ∷ []
brought_first = simp (get-insert {X = Session} number_cmp_total) (rw abc_named refl)

brought_second : uploaded_pair other_again.contents obj (close_content other_again x 2 obj_bytes) ≡ (obj, obj_bytes) ∷ []
brought_second = simp (get-insert {X = Session} number_cmp_total) (rw obj_named refl)

brought_third : uploaded_pair both_open.contents abc (close_content both_open one 1 abc_bytes) ≡ (abc, abc_bytes) ∷ []
brought_third = simp (get-insert {X = Session} number_cmp_total) (rw abc_named refl)

abbrev all_brought : List (Text × Text)
all_brought = (abc, abc_bytes) ∷ (obj, obj_bytes) ∷ (abc, abc_bytes) ∷ []

is_brought : uploads_of_run called empty_book both_mounted both_run ≡ all_brought
is_brought = λ i. brought_first i ++ (brought_second i ++ (brought_third i ++ []))

-- the content that is uploaded with a digest
abbrev whole_with : Text → Text
whole_with d = if same_text d abc then abc_bytes else obj_bytes

brought_with : (d whole : Text) → Contains all_brought (d, whole) → whole_with d ≡ whole
brought_with d whole (zero, lt, is) = ap (λ (p : Text × Text). whole_with p.0) (sym is) ∙ ap (λ (p : Text × Text). p.1) is
brought_with d whole (suc zero, lt, is) = ap (λ (p : Text × Text). whole_with p.0) (sym is) ∙ ap (λ (p : Text × Text). p.1) is
brought_with d whole (suc (suc zero), lt, is) = ap (λ (p : Text × Text). whole_with p.0) (sym is) ∙ ap (λ (p : Text × Text). p.1) is
brought_with d whole (suc (suc (suc n)), lt, is) = absurd (omega arith)

-- ---- the premises of the theorem, and its conclusion

fair : IsCollisionFreeRun tenants 64 (in_memory 10) called both_mounted
fair = record { run = both_run; no_collision = subst NoCollision (sym is_brought) (λ d a b first second. sym (brought_with d a first) ∙ brought_with d b second) }

uncrowded : AllByRecursion IsUnaffectedByOthers (events_of tenants 0 called)
uncrowded = (tt, (tt, (tt, tt)))

-- the first tenant's replies and view are those of its isolated run
first_alone : IsIsolated tenants tenants 64 (in_memory 10) 0 called both_mounted
first_alone = isolated tenants tenants 64 (in_memory 10) 0 called both_mounted (tenants_alike_themselves 0 tenants) fair uncrowded

same_part : tenant_view both_mounted 0 ≡ tenant_view alone_mounted 0
same_part = first_alone.tenant_view ∙ ap (λ C. tenant_view C 0) own_left_alone

-- ---- with other settings of the second one

-- the second one's quota is 2 bytes, and the first one's settings are the same
abbrev others : List Tenant
others = record { name = codes "acme"; quota = 3; share = 4294967295; limits = usual_limits } ∷ record { name = codes "other"; quota = 2; share = 4294967295; limits = usual_limits } ∷ []

abbrev small_open : Catalog
small_open = with_new_session (opening others 64 (in_memory 10)) 1 x

-- it cannot store the blob that it stores above
second_refused : outcome false small_open (Close x 1 abc None abc_bytes) ≡ Err (Quota 0 2)
second_refused = simp (len-entries, entries-insert {X = Session} number_cmp_total, get-insert {X = Session} number_cmp_total, entries-insert {X = Unit {0}} nat_list_cmp_total, get-empty, entries-empty) refl

-- the first tenant's replies and view are still those of its isolated run
first_among_others : IsIsolated tenants others 64 (in_memory 10) 0 called both_mounted
first_among_others = isolated tenants others 64 (in_memory 10) 0 called both_mounted (record { names = refl; settings = refl }) fair uncrowded
