-- Worked examples of checked-out sessions.
use Rattle.std.proofs.Common.{◌≡◌, [], ◌∷◌, Option, Some, None, Ok, Err, refl, arith}
use Rattle.std.specs.Prelude.{codes}
use Rattle.std.specs.Fmt.{digits}
use Rattle.std.specs.FinMap.{empty, insert, entries-insert, get-empty, get-insert}
use Rattle.std.specs.Cmp.Lexicographic.{nat_list_cmp_total}
use Rattle.blob_digest.specs.declared.range.ByteRange.{ByteRange}
use Rattle.blob_digest.specs.declared.refusal.Refusal.TheVariants.{Busy, Quota, UploadUnknown}
use Rattle.spec_lib.specs.Sets as set
use Rattle.blob_digest.proofs.KeyOrders.{number_cmp_total}
use Rattle.spec_lib.proofs.Rows.{entries-empty}
use Rattle.spec_lib.specs.Texts.{Text}
use Rattle.store_model.specs.Catalog.{Catalog, CheckedIn, Session, HandRecord, opening, used_bytes, in_memory}
use Rattle.store_model.specs.Commands.{abandon, append, after_append_in, close, after_cancel, put_back, status, take, after_take_in}
use Rattle.store_model.specs.BookText.{book_text}
use Rattle.blob_digest.specs.Tenants.{usual_limits}

abbrev one : Text
one = codes "acme/one"

-- a tenant with a quota of 5 bytes: session 1 has two bytes, and session 2 none
abbrev book : Catalog
book = record (opening (record { name = codes "acme"; quota = 5; share = 4294967295; limits = usual_limits } ∷ []) 64 (in_memory 10)) {
  repos = set.insert set.empty_set one;
  sessions = insert (insert empty (0, 1) (record { repo = one; chunks = CheckedIn (codes "ab" ∷ []) })) (0, 2) (record { repo = one; chunks = CheckedIn [] });
  next = 3 ∷ [];
}

abbrev hand : HandRecord
hand = record { repo = one; key = (0, 1); chunks = codes "ab" ∷ []; reserved = 2; last = None }

-- session 1 is checked out, with two bytes reserved
abbrev held : Catalog
held = record book { sessions = after_take_in book.sessions (0, 1) 2 }

taken : take book one 1 None 2 ≡ Ok (hand, held)
taken = simp (get-insert {X = Session} number_cmp_total, get-empty, entries-insert {X = Session} number_cmp_total, entries-empty) refl

used_with_the_reserve : used_bytes held 0 ≡ 4
used_with_the_reserve = simp (get-insert {X = Session} number_cmp_total, get-empty, entries-insert {X = Session} number_cmp_total, entries-empty) refl

status_without_the_reserve : status held one 1 ≡ Ok 2
status_without_the_reserve = simp (get-insert {X = Session} number_cmp_total, get-empty) refl

text_without_the_reserve : book_text held ≡ codes "book\ntenant acme used 4 quota 5 next 3\nrepository acme/one\nsession 1 received 2\nsession 2 received 0\nend\n"
unfolding digits
text_without_the_reserve = simp (get-insert {X = Session} number_cmp_total, get-empty, entries-insert {X = Session} number_cmp_total, entries-insert {X = Unit {0}} nat_list_cmp_total, entries-empty) refl

abbrev late : Option ByteRange
late = Some (record { start = 9; end = 9; ordered = omega arith; small = omega arith })

busy_before_the_range : append held one 1 late (codes "cc") ≡ Err Busy
busy_before_the_range = simp (get-insert {X = Session} number_cmp_total, get-empty) refl

busy_to_close : close held one 1 (codes "abc") None [] ≡ Err Busy
busy_to_close = simp (get-insert {X = Session} number_cmp_total, get-empty) refl

busy_to_abandon : abandon held one 1 ≡ Err Busy
busy_to_abandon = simp (get-insert {X = Session} number_cmp_total, get-empty) refl

others_past_the_quota : append held one 2 None (codes "xy") ≡ Err (Quota 4 5)
others_past_the_quota = simp (get-insert {X = Session} number_cmp_total, get-empty, entries-insert {X = Session} number_cmp_total, entries-empty) refl

-- session 2 has a byte now
abbrev others : Catalog
others = record held { sessions = after_append_in held.sessions (0, 2) (codes "x") }

others_within_the_quota : append held one 2 None (codes "x") ≡ Ok (1, others)
others_within_the_quota = simp (get-insert {X = Session} number_cmp_total, get-empty, entries-insert {X = Session} number_cmp_total, entries-empty) refl

abbrev filled : HandRecord
filled = record hand { last = Some (codes "cd") }

-- and session 1 has two chunks
abbrev both : Catalog
both = record others { sessions = insert others.sessions (0, 1) (record { repo = one; chunks = CheckedIn (codes "ab" ∷ codes "cd" ∷ []) }) }

put_back_filled : put_back others filled ≡ Ok (4, both)
put_back_filled = simp (get-insert {X = Session} number_cmp_total, get-empty) refl

used_after_both : used_bytes both 0 ≡ 5
used_after_both = simp (get-insert {X = Session} number_cmp_total, get-empty, entries-insert {X = Session} number_cmp_total, entries-empty) refl

no_room_to_take : take both one 1 None 1 ≡ Err (Quota 5 5)
no_room_to_take = simp (get-insert {X = Session} number_cmp_total, get-empty, entries-insert {X = Session} number_cmp_total, entries-empty) refl

-- a hand that was checked in can't be used again
put_back_twice : put_back both filled ≡ Err UploadUnknown
put_back_twice = simp (get-insert {X = Session} number_cmp_total, get-empty) refl

-- a hand with other lengths does not match this session
put_back_of_another : put_back held (record hand { reserved = 3 }) ≡ Err UploadUnknown
put_back_of_another = simp (get-insert {X = Session} number_cmp_total, get-empty) refl

-- checked in without a chunk, it leaves no reserve
abbrev back : Catalog
back = record held { sessions = insert held.sessions (0, 1) (record { repo = one; chunks = CheckedIn (codes "ab" ∷ []) }) }

put_back_empty : put_back held hand ≡ Ok (2, back)
put_back_empty = simp (get-insert {X = Session} number_cmp_total, get-empty) refl

used_after_an_empty_hand : used_bytes back 0 ≡ 2
used_after_an_empty_hand = simp (get-insert {X = Session} number_cmp_total, get-empty, entries-insert {X = Session} number_cmp_total, entries-empty) refl

after_cancel_is_put_back : after_cancel held filled ≡ back
after_cancel_is_put_back = simp (get-insert {X = Session} number_cmp_total, get-empty) refl
