-- Shares of the slots: the last blob that a share admits, the first that passes it, and a digest that the tenant has.
use Rattle.std.proofs.Common.{◌≡◌, ℕ, true, false, List, [], ◌∷◌, Ok, Err, refl, None}
use Rattle.std.specs.Prelude.{codes}
use Rattle.std.specs.FinMap.{empty, insert, entries-insert, get-empty, get-insert, len-entries}
use Rattle.std.specs.Cmp.Lexicographic.{nat_list_cmp_total}
use Rattle.blob_digest.specs.declared.refusal.Refusal.TheVariants.{LimitReached}
use Rattle.blob_digest.proofs.KeyOrders.{number_cmp_total, link_cmp_total}
use Rattle.spec_lib.specs.Sets as set
use Rattle.spec_lib.specs.Texts.{Text}
use Rattle.spec_lib.proofs.Rows.{entries-empty}
use Rattle.store_model.specs.Catalog.{Catalog, CheckedIn, Resident, Tenant, held_count, opening, share_of, tenant_holds, in_memory}
use Rattle.store_model.specs.Commands.{check_share, close, with_stored_blob}
use Rattle.store_model.specs.Sessions.{Session}
use Rattle.store_model.proofs.Examples.Digests.{abc, abc_bytes, abc_named, obj, obj_bytes, obj_named}
use Rattle.blob_digest.specs.Tenants.{usual_limits}

module _ (C : Catalog) (t : ℕ) (digest : Text) where
  module _ (new : tenant_holds C t digest ≡ false) where
    last_blob_of_a_share : held_count C t ≡ 499 → share_of C t ≡ 500 → check_share C t digest ≡ Ok tt
    last_blob_of_a_share count share = rw (new, count, share) refl

    first_blob_past_a_share : held_count C t ≡ 500 → share_of C t ≡ 500 → check_share C t digest ≡ Err LimitReached
    first_blob_past_a_share count share = rw (new, count, share) refl

  blob_that_the_tenant_has : tenant_holds C t digest ≡ true → check_share C t digest ≡ Ok tt
  blob_that_the_tenant_has old = rw old refl

-- ---- a store of two tenants with a share of one blob each, of which the first has one

abbrev tenants : List Tenant
tenants = record { name = codes "acme"; quota = 1000; share = 1; limits = usual_limits } ∷ record { name = codes "other"; quota = 1000; share = 1; limits = usual_limits } ∷ []

abbrev one : Text
one = codes "acme/one"

-- the tenant has uploaded some bytes to session 2
abbrev uploading : Text → Catalog
uploading bytes = record (opening tenants 8 (in_memory 10)) {
  repos = set.insert set.empty_set one;
  links = set.insert set.empty_set (one, abc);
  residents = insert empty abc (record { bytes = abc_bytes; condemned = false; lent = false });
  sessions = insert empty (0, 2) (record { repo = one; chunks = CheckedIn (bytes ∷ []) });
}

-- another blob passes the share
close_past_the_share : close (uploading obj_bytes) one 2 obj None [] ≡ Err LimitReached
close_past_the_share =
    simp (len-entries, get-insert {X = Session} number_cmp_total, entries-insert {X = Session} number_cmp_total, entries-insert {X = Resident} nat_list_cmp_total, entries-insert {X = Unit {0}} nat_list_cmp_total, entries-insert {X = Unit {0}} link_cmp_total, get-insert {X = Unit {0}} link_cmp_total, get-insert {X = Resident} nat_list_cmp_total, get-empty, entries-empty)
    (rw obj_named refl)

-- the same blob does not
close_of_the_same_blob : close (uploading abc_bytes) one 2 abc None [] ≡ Ok (3, with_stored_blob (uploading abc_bytes) 0 one 2 abc abc_bytes)
close_of_the_same_blob =
    simp (len-entries, get-insert {X = Session} number_cmp_total, entries-insert {X = Session} number_cmp_total, entries-insert {X = Resident} nat_list_cmp_total, entries-insert {X = Unit {0}} nat_list_cmp_total, get-insert {X = Unit {0}} link_cmp_total, get-insert {X = Resident} nat_list_cmp_total, get-empty, entries-empty)
    (rw abc_named refl)
