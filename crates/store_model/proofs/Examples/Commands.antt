-- The definitions on small literals.
use Rattle.std.proofs.Common.{◌≡◌, false, List, [], ◌∷◌, Some, None, Ok, Err, refl, arith}
use Rattle.std.specs.Prelude.{codes}
use Rattle.std.specs.FinMap.{get-empty, get-insert, get-remove, len-empty, len-insert, entries-insert, empty, insert}
use Rattle.std.specs.Cmp.Lexicographic.{nat_list_cmp_total}
use Rattle.blob_digest.specs.declared.refusal.Refusal.TheVariants.{NameUnknown, UploadUnknown, BlobUnknown, ManifestUnknown, RangeInvalid, SizeInvalid, Quota}
use Rattle.std.specs.Fmt.{digits}
use Rattle.spec_lib.specs.Sets as set
use Rattle.store_model.specs.Sessions.{Session, after_append_in}
use Rattle.store_model.specs.declared.mount.Mount.TheVariants as mounting
use Rattle.spec_lib.specs.Texts.{Text}
use Rattle.store_model.specs.Catalog.{Tenant, Catalog, Resident, used_bytes, link_count, opening, in_memory}
use Rattle.store_model.specs.Commands.{start, append, with_new_session, mount, with_link, delete}
use Rattle.store_model.specs.BookText.{book_text}
use Rattle.store_model.specs.Queries.{stat, stat_manifest, usage, slot_use, repo_count, free_slots}
use Rattle.blob_digest.proofs.KeyOrders.{number_cmp_total, link_cmp_total}
use Rattle.spec_lib.proofs.Rows.{entries-empty}
use Rattle.blob_digest.specs.Tenants.{usual_limits}

-- two tenants of 1,000 and 5 bytes, as they are printed before anything is done
abbrev two_tenants : Catalog
two_tenants = opening (record { name = codes "acme"; quota = 1000; share = 4294967295; limits = usual_limits } ∷ record { name = codes "zeta"; quota = 5; share = 4294967295; limits = usual_limits } ∷ []) 64 (in_memory 1048576)

opening_text : book_text two_tenants ≡ codes "book\ntenant acme used 0 quota 1000 next 1\ntenant zeta used 0 quota 5 next 1\nend\n"
unfolding digits
opening_text = simp (get-empty, entries-empty) refl

abbrev acme : List Tenant
acme = record { name = codes "acme"; quota = 3; share = 4294967295; limits = usual_limits } ∷ []

abbrev one : Text
one = codes "acme/one"

abbrev two : Text
two = codes "acme/two"

-- a tenant of 3 bytes in a store of blobs of at most 10
abbrev empty_book : Catalog
empty_book = opening acme 64 (in_memory 10)

unknown_tenant : start empty_book (codes "nobody/x") ≡ Err NameUnknown
unknown_tenant = refl

first_session : start empty_book one ≡ Ok (1, with_new_session empty_book 0 one)
first_session = simp (get-empty, entries-empty) refl

unknown_session : append empty_book one 1 None (codes "ab") ≡ Err UploadUnknown
unknown_session = simp get-empty refl

abbrev opened : Catalog
opened = with_new_session empty_book 0 one

session_of_another_repository : append opened two 1 None (codes "ab") ≡ Err UploadUnknown
session_of_another_repository = simp (get-insert {X = Session} number_cmp_total) refl

first_chunk : append opened one 1 None (codes "ab") ≡ Ok (2, record opened { sessions = after_append_in opened.sessions (0, 1) (codes "ab") })
first_chunk = simp (get-insert {X = Session} number_cmp_total, get-empty, entries-insert {X = Session} number_cmp_total, entries-empty) refl

chunk_out_of_order : append opened one 1 (Some (record { start = 1; end = 2; ordered = omega arith; small = omega arith })) (codes "ab") ≡ Err (RangeInvalid 0)
chunk_out_of_order = simp (get-insert {X = Session} number_cmp_total, get-empty, entries-insert {X = Session} number_cmp_total, entries-empty) refl

range_of_another_length : append opened one 1 (Some (record { start = 1; end = 3; ordered = omega arith; small = omega arith })) (codes "ab") ≡ Err SizeInvalid
range_of_another_length = simp (get-insert {X = Session} number_cmp_total, get-empty, entries-insert {X = Session} number_cmp_total, entries-empty) refl

chunk_past_the_quota : append opened one 1 None (codes "abcd") ≡ Err (Quota 0 3)
chunk_past_the_quota = simp (get-insert {X = Session} number_cmp_total, get-empty, entries-insert {X = Session} number_cmp_total, entries-empty) refl

chunk_past_the_size : append opened one 1 None (codes "abcdefghijkl") ≡ Err SizeInvalid
chunk_past_the_size = simp (get-insert {X = Session} number_cmp_total, get-empty, entries-insert {X = Session} number_cmp_total, entries-empty) refl

opened_text : book_text opened ≡ codes "book\ntenant acme used 0 quota 3 next 2\nrepository acme/one\nsession 1 received 0\nend\n"
unfolding digits
opened_text = simp (entries-insert {X = Session} number_cmp_total, entries-insert {X = Unit {0}} nat_list_cmp_total, entries-empty) refl

-- two repositories of one tenant hold one blob of three bytes
abbrev shared : Catalog
shared = record empty_book {
  repos = set.insert (set.insert set.empty_set one) two;
  links = set.insert (set.insert set.empty_set (one, codes "d")) (two, codes "d");
  residents = insert empty (codes "d") (record { bytes = codes "abc"; condemned = false; lent = false });
}

used_once : used_bytes shared 0 ≡ 3
used_once = simp (entries-insert {X = Unit {0}} nat_list_cmp_total, entries-insert {X = Resident} nat_list_cmp_total, get-insert {X = Unit {0}} link_cmp_total, get-empty, entries-empty) refl

counted_twice : link_count shared (codes "d") ≡ 2
counted_twice = simp (entries-insert {X = Unit {0}} nat_list_cmp_total, get-insert {X = Unit {0}} link_cmp_total, get-empty, entries-empty) refl

shared_text : book_text shared ≡ codes "book\ntenant acme used 3 quota 3 next 1\nrepository acme/one\nblob d size 3 links 2\nrepository acme/two\nblob d size 3 links 2\nend\n"
unfolding digits
shared_text = simp (entries-insert {X = Unit {0}} nat_list_cmp_total, entries-insert {X = Unit {0}} link_cmp_total, entries-insert {X = Resident} nat_list_cmp_total, get-insert {X = Unit {0}} link_cmp_total, get-insert {X = Resident} nat_list_cmp_total, get-empty, entries-empty) refl

-- ---- mounts and deletes

-- of two tenants, a repository of the first holds a blob of three bytes
abbrev one_link : Catalog
one_link = record two_tenants {
  repos = set.insert set.empty_set one;
  links = set.insert set.empty_set (one, codes "d");
  residents = insert empty (codes "d") (record { bytes = codes "abc"; condemned = false; lent = false });
}

abbrev two_links : Catalog
two_links = with_link one_link two (codes "d")

mounted : mount one_link two (codes "d") (Some one) ≡ Ok (mounting.Mounted, two_links)
mounted = simp (get-insert {X = Unit {0}} link_cmp_total, get-insert {X = Unit {0}} nat_list_cmp_total, entries-insert {X = Unit {0}} nat_list_cmp_total, get-empty, entries-empty) refl

mounted_without_a_name : mount one_link two (codes "d") None ≡ Ok (mounting.Mounted, two_links)
mounted_without_a_name = simp (get-insert {X = Unit {0}} link_cmp_total, get-insert {X = Unit {0}} nat_list_cmp_total, entries-insert {X = Unit {0}} nat_list_cmp_total, get-empty, entries-empty) refl

counted_after_the_mount : link_count two_links (codes "d") ≡ 2
counted_after_the_mount = simp (entries-insert {X = Unit {0}} nat_list_cmp_total, get-insert {X = Unit {0}} link_cmp_total, get-empty, entries-empty) refl

used_after_the_mount : used_bytes two_links 0 ≡ 3
used_after_the_mount = simp (entries-insert {X = Unit {0}} nat_list_cmp_total, entries-insert {X = Resident} nat_list_cmp_total, get-insert {X = Unit {0}} link_cmp_total, get-empty, entries-empty) refl

mounted_from_another_tenant : mount one_link (codes "zeta/x") (codes "d") (Some one) ≡ Ok (mounting.Session 1, with_new_session one_link 1 (codes "zeta/x"))
mounted_from_another_tenant = simp (get-insert {X = Unit {0}} nat_list_cmp_total, entries-insert {X = Unit {0}} nat_list_cmp_total, get-empty, entries-empty) refl

mounted_where_it_is_not_held : mount one_link two (codes "e") (Some one) ≡ Ok (mounting.Session 1, with_new_session one_link 0 two)
mounted_where_it_is_not_held = simp (get-insert {X = Unit {0}} link_cmp_total, get-insert {X = Unit {0}} nat_list_cmp_total, entries-insert {X = Unit {0}} nat_list_cmp_total, get-empty, entries-empty) refl

-- without a source that is named, any repository of the tenant is one
mounted_for_another_tenant : mount one_link (codes "zeta/x") (codes "d") None ≡ Ok (mounting.Session 1, with_new_session one_link 1 (codes "zeta/x"))
mounted_for_another_tenant = simp (get-insert {X = Unit {0}} nat_list_cmp_total, entries-insert {X = Unit {0}} nat_list_cmp_total, get-empty, entries-empty) refl

mounted_where_nobody_holds_it : mount one_link two (codes "e") None ≡ Ok (mounting.Session 1, with_new_session one_link 0 two)
mounted_where_nobody_holds_it = simp (get-insert {X = Unit {0}} link_cmp_total, get-insert {X = Unit {0}} nat_list_cmp_total, entries-insert {X = Unit {0}} nat_list_cmp_total, get-empty, entries-empty) refl

-- only the named source counts
mounted_from_where_it_is_not : mount one_link (codes "acme/four") (codes "d") (Some two) ≡ Ok (mounting.Session 1, with_new_session one_link 0 (codes "acme/four"))
mounted_from_where_it_is_not = simp (get-insert {X = Unit {0}} link_cmp_total, get-insert {X = Unit {0}} nat_list_cmp_total, entries-insert {X = Unit {0}} nat_list_cmp_total, get-empty, entries-empty) refl

deleted_from_one : delete two_links one (codes "d") ≡ Ok (tt, record two_links { links = set.remove two_links.links (one, codes "d") })
deleted_from_one = simp (get-insert {X = Unit {0}} link_cmp_total, entries-empty) refl

deleted_where_it_is_not_linked : delete one_link two (codes "d") ≡ Err BlobUnknown
deleted_where_it_is_not_linked = simp (get-insert {X = Unit {0}} link_cmp_total, get-empty, entries-empty) refl

-- the use falls with the last link
used_after_a_delete : used_bytes (record two_links { links = set.remove two_links.links (one, codes "d") }) 0 ≡ 3
used_after_a_delete = simp (entries-insert {X = Unit {0}} nat_list_cmp_total, entries-insert {X = Resident} nat_list_cmp_total, get-remove {X = Unit {0}} link_cmp_total, get-insert {X = Unit {0}} link_cmp_total, entries-empty) refl

used_after_both : used_bytes (record two_links { links = set.remove (set.remove two_links.links (one, codes "d")) (two, codes "d") }) 0 ≡ 0
used_after_both = simp (entries-insert {X = Unit {0}} nat_list_cmp_total, entries-insert {X = Resident} nat_list_cmp_total, get-remove {X = Unit {0}} link_cmp_total, get-insert {X = Unit {0}} link_cmp_total, entries-empty) refl

-- ---- queries

blob_size : stat two_links two (codes "d") ≡ Ok 3
blob_size = simp (get-insert {X = Unit {0}} link_cmp_total, get-insert {X = Resident} nat_list_cmp_total) refl

-- another repository of the tenant contains it
blob_of_another_repository : stat one_link two (codes "d") ≡ Err BlobUnknown
blob_of_another_repository = simp (get-insert {X = Unit {0}} link_cmp_total, get-empty) refl

blob_of_nobody : stat one_link (codes "nobody/x") (codes "d") ≡ Err NameUnknown
blob_of_nobody = refl

-- of two tenants, a repository of the first has a manifest of two bytes
abbrev one_manifest : Catalog
one_manifest = record two_tenants { manifests = insert empty (one, codes "m") (codes "{}") }

manifest_size : stat_manifest one_manifest one (codes "m") ≡ Ok 2
manifest_size = simp (get-insert {X = Text} link_cmp_total) refl

manifest_of_another_repository : stat_manifest one_manifest two (codes "m") ≡ Err ManifestUnknown
manifest_of_another_repository = simp (get-insert {X = Text} link_cmp_total, get-empty) refl

manifest_of_nobody : stat_manifest one_manifest (codes "nobody/x") (codes "m") ≡ Err NameUnknown
manifest_of_nobody = refl

-- one blob in two repositories, and any of the tenant's names it
use_of_the_tenant : usage two_links one ≡ Ok (record { used = 3; quota = 1000 })
use_of_the_tenant = simp (entries-insert {X = Unit {0}} nat_list_cmp_total, entries-insert {X = Resident} nat_list_cmp_total, get-insert {X = Unit {0}} link_cmp_total, get-empty, entries-empty) refl

use_of_the_other_tenant : usage two_links (codes "zeta/x") ≡ Ok (record { used = 0; quota = 5 })
use_of_the_other_tenant = simp (entries-insert {X = Unit {0}} nat_list_cmp_total, entries-insert {X = Resident} nat_list_cmp_total, get-insert {X = Unit {0}} link_cmp_total, get-empty, entries-empty) refl

use_of_nobody : usage two_links (codes "nobody/x") ≡ Err NameUnknown
use_of_nobody = refl

-- one blob in two repositories counts once
blobs_of_the_tenant : slot_use two_links one ≡ Ok (record { blobs = 1; share = 4294967295 })
blobs_of_the_tenant = simp (entries-insert {X = Unit {0}} nat_list_cmp_total, entries-insert {X = Unit {0}} link_cmp_total, entries-empty) refl

blobs_of_nobody : slot_use two_links (codes "nobody/x") ≡ Err NameUnknown
blobs_of_nobody = refl

repos_of_the_tenant : repo_count two_links one ≡ Ok 2
repos_of_the_tenant = simp (entries-insert {X = Unit {0}} nat_list_cmp_total, entries-empty) refl

repos_of_nobody : repo_count two_links (codes "nobody/x") ≡ Err NameUnknown
repos_of_nobody = refl

-- of 64 slots one is used and two are retired
free_beside_retired : free_slots (record two_links { retired = 2 }) ≡ 61
free_beside_retired = simp (len-insert {X = Resident} nat_list_cmp_total, len-empty, get-empty) refl
