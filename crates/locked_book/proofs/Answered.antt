-- Facts about the result of an accepted command.
use Rattle.std.proofs.Common.{◌≡◌, ℕ, Bool, true, false, List, Option, Some, Result, Ok, Err, length, sym, ap, ◌∙◌}
use Rattle.std.specs.Prelude.{IfOk, OnErr, OnOk, if◌then◌else◌, nat_lt}
use Rattle.std.specs.Option.{ok_or}
use Rattle.std.specs.FinMap.{get}
use Rattle.std.specs.Io.KnownBytes.{Appends}
use Rattle.blob_digest.specs.Digests.{sha256_text}
use Rattle.blob_digest.specs.Outcomes.{Does}
use Rattle.blob_digest.specs.declared.refusal.Refusal.{Refusal}
use Rattle.blob_digest.specs.declared.refusal.Refusal.TheVariants.{BlobUnknown, LimitReached, ManifestInvalid, ManifestUnknown, SizeInvalid, TooManyReaders}
use Rattle.oci_manifest.specs.Manifests.{refs_of, max_manifest}
use Rattle.store_book.specs.BookState.{BookState}
use Rattle.spec_lib.specs.Texts.{Text}
use Rattle.store_model.specs.Catalog.{Resident, Catalog}
use Rattle.store_model.specs.Invariant.{WellFormed}
use Rattle.store_model.specs.BookText.{book_text}
use Rattle.store_model.specs.Commands.{tenant, get_manifest, put_manifest, add_manifest, has_manifest, lacks_room_for, is_full_of_manifests, check_all_links, check_link, linked_blob, lease, with_leased, is_named}
use Rattle.spec_lib.specs.Outcomes.{refuse}
use Rattle.store_model.proofs.Commands.Accepted.{answer_by, left_by}
use Rattle.spec_lib.proofs.Outcomes.{bound_ok, some_of_ok}
use Rattle.locked_book.specs.Found.{InSomeBook, IsBookOf}
use Rattle.locked_book.specs.Names.{StoreNames}

-- ---- blobs and manifests

-- a leased blob
pub record Lent (C C' : Catalog) (digest bytes : Text) : Type 0 where
  pub blob : Resident
  pub found : get C.residents digest ≡ Some blob
  pub same : blob.bytes ≡ bytes
  pub left : with_leased C digest blob ≡ C'

pub lent : (C C' : Catalog) (crowded : Bool) (repo digest bytes : Text) → lease crowded C repo digest ≡ Ok (bytes, C') → Lent C C' digest bytes
lent C C' crowded repo digest bytes stepped =
    let a = bound_ok (tenant C repo) _ (bytes, C') stepped in
    let b = bound_ok (linked_blob C repo digest) _ (bytes, C') a.2 in
    let c = bound_ok (refuse crowded TooManyReaders) _ (bytes, C') b.2 in
    let held = bound_ok (check_link C repo digest) _ b.0 b.1 in
    record { blob = b.0; found = some_of_ok _ BlobUnknown b.0 held.2; same = answer_by c.2; left = left_by c.2 }

-- a leased blob has its digest
pub lent_content : (C C' : Catalog) (crowded : Bool) (repo digest bytes : Text) → WellFormed C → lease crowded C repo digest ≡ Ok (bytes, C') → is_named C.contents digest bytes ≡ true
lent_content C C' crowded repo digest bytes lawful stepped =
    let l = lent C C' crowded repo digest bytes stepped in
    ap (is_named C.contents digest) (sym l.same) ∙ lawful.content digest l.blob l.found

-- a manifest is under its digest
pub manifest_digest : (C : Catalog) (repo digest bytes : Text) → WellFormed C → get_manifest C repo digest ≡ Ok bytes → sha256_text bytes ≡ digest
manifest_digest C repo digest bytes lawful answered =
    let a = bound_ok (tenant C repo) _ bytes answered in
    let law = lawful.manifests (repo, digest) bytes (some_of_ok _ ManifestUnknown bytes a.2) in
    sym law.name

-- a put manifest is under its digest
put_named : (C C' : Catalog) (repo bytes digest : Text) → put_manifest C repo bytes ≡ Ok (digest, C') → digest ≡ sha256_text bytes
put_named C C' repo bytes digest stepped =
    let a = bound_ok (tenant C repo) _ (digest, C') stepped in
    let b = bound_ok (refuse (nat_lt max_manifest (length bytes)) SizeInvalid) _ (digest, C') a.2 in
    let d = bound_ok (ok_or (refs_of bytes) ManifestInvalid) _ (digest, C') b.2 in
    let e = bound_ok (check_all_links C repo d.0) _ (digest, C') d.2 in
    by a.0 (has_manifest C repo (sha256_text bytes)) e.2
  where
    by : (t : ℕ) (b : Bool) → (if b then Ok (sha256_text bytes, C) else add_manifest C t repo bytes) ≡ Ok (digest, C') → digest ≡ sha256_text bytes
    by t true h = sym (answer_by h)
    by t false h =
        let x = bound_ok (refuse (lacks_room_for C t repo) LimitReached) _ (digest, C') h in
        let y = bound_ok (refuse (is_full_of_manifests C t repo) LimitReached) _ (digest, C') x.2 in
        sym (answer_by y.2)

pub put_digest : (C C' : Catalog) (repo bytes : Text) (result : Result Text Refusal) → Does (λ d. d) result C C' (put_manifest C repo bytes) → IfOk result (λ d. d ≡ sha256_text bytes)
put_digest C C' repo bytes (Ok digest) does = put_named C C' repo bytes digest does
put_digest C C' repo bytes (Err e) does = tt

-- ---- the text

pub some_book : {A E : Type 0} (r : Result A E) (names : StoreNames) (book : BookState) (before after : Option (List ℕ)) → IsBookOf names book → OnOk r (Appends before after (book_text book.catalog))
    → OnOk r (InSomeBook names (λ b. Appends before after (book_text b.catalog)))
some_book (Ok a) names book before after found text = (book, found, text)
some_book (Err e) names book before after found text = tt

-- ---- errors

pub on_err : {A E P : Type 0} (r : Result A E) → P → OnErr r P
on_err (Ok a) p = tt
on_err (Err e) p = p
