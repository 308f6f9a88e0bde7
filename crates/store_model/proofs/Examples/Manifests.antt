-- Manifests of two small blobs, with premises on the bytes' references and length. The last section has bytes that meet each premise.
use Rattle.std.proofs.Common.{◌≡◌, ℕ, true, false, List, [], ◌∷◌, ◌++◌, length, Option, Some, None, Ok, Err, refl, sym, ap, ◌∙◌}
use Rattle.std.specs.Prelude.{codes, nat_lt, ◌+◌, replicate, option_and_then, option_map, if◌then◌else◌}
use Rattle.std.specs.List.{flat_map, list_all}
use Rattle.std.proofs.lemmas.List.{length-replicate}
use Rattle.std.proofs.lemmas.Str.{IsUtf8-from_ascii, is_utf8-from_IsUtf8}
use Rattle.blob_digest.proofs.Ascii.{IsAscii-from_test}
use Rattle.std.specs.FinMap.{get, insert, remove, empty, entries, get-empty, get-insert, entries-insert}
use Rattle.std.specs.Cmp.Lexicographic.{nat_list_cmp_total}
use Rattle.blob_digest.specs.declared.refusal.Refusal.TheVariants.{SizeInvalid, ManifestInvalid, ManifestUnknown, ManifestBlobUnknown, Referenced}
use Rattle.blob_digest.specs.Digests.{sha256_text}
use Rattle.spec_lib.specs.Sets as set
use Rattle.blob_digest.proofs.KeyOrders.{link_cmp_total, exact_link}
use Rattle.spec_lib.proofs.Rows.{entries-empty}
use Rattle.spec_lib.proofs.Sums.{get-remove_same}
use Rattle.oci_manifest.specs.Manifests.{named, distinct_texts, refs_of, max_manifest}
use Rattle.serde_json.specs.Read.{number_of, read as json_value}
use Rattle.json.specs.Lex.{lex, punctuate}
use Rattle.json.specs.Json.{items, members, value}
use Rattle.json.specs.Text.{content}
use Rattle.json.specs.Word.{after_number, word}
use Rattle.fast_float.specs.Text.{scan}
use Rattle.spec_lib.specs.Texts.{Text}
use Rattle.store_model.specs.Catalog.{Catalog, opening, in_memory}
use Rattle.store_model.specs.Commands.{put_manifest, get_manifest, delete_manifest, with_manifest, delete}
use Rattle.store_model.specs.BookText.{manifest_text, manifest_line}
use Rattle.spec_lib.proofs.Maps.{get-insert_at, remove-insert_new}
use Rattle.store_model.proofs.Examples.Digests.{abc, abc_bytes, obj, obj_bytes}
use Rattle.blob_digest.specs.Tenants.{usual_limits}

abbrev one : Text
one = codes "acme/one"

abbrev fresh : Text
fresh = codes "acme/new"

-- a tenant of 1,000 bytes
abbrev empty_book : Catalog
empty_book = opening (record { name = codes "acme"; quota = 1000; share = 4294967295; limits = usual_limits } ∷ []) 64 (in_memory 10)

abbrev one_linked : Catalog
one_linked = record empty_book {
  repos = set.insert set.empty_set one;
  links = set.insert set.empty_set (one, obj);
  residents = insert empty obj (record { bytes = obj_bytes; condemned = false; lent = false });
}

abbrev both_linked : Catalog
both_linked = record one_linked {
  links = set.insert one_linked.links (one, abc);
  residents = insert one_linked.residents abc (record { bytes = abc_bytes; condemned = false; lent = false });
}

-- an image manifest of two blobs
module _ (m : Text) (fits : nat_lt max_manifest (length m) ≡ false) (read : refs_of m ≡ Some (obj ∷ abc ∷ [])) where
  put_with_nothing_linked : put_manifest empty_book one m ≡ Err (ManifestBlobUnknown obj)
  put_with_nothing_linked = rw (fits, read) (simp get-empty refl)

  put_with_one_linked : put_manifest one_linked one m ≡ Err (ManifestBlobUnknown abc)
  put_with_one_linked = rw (fits, read) (simp (get-insert {X = Unit {0}} link_cmp_total, get-empty) refl)

  abbrev kept : Catalog
  kept = with_manifest both_linked one m

  put_with_both_linked : put_manifest both_linked one m ≡ Ok (sha256_text m, kept)
  put_with_both_linked = rw (fits, read) (simp (get-insert {X = Unit {0}} link_cmp_total, get-insert {X = Unit {0}} nat_list_cmp_total, entries-empty, get-empty) refl)

  there : get kept.manifests (one, sha256_text m) ≡ Some m
  there = get-insert_at link_cmp_total exact_link both_linked.manifests (one, sha256_text m) m

  put_again : put_manifest kept one m ≡ Ok (sha256_text m, kept)
  put_again = rw (fits, read, there) (simp (get-insert {X = Unit {0}} link_cmp_total) refl)

  manifest_is_answered : get_manifest kept one (sha256_text m) ≡ Ok m
  manifest_is_answered = rw there refl

  blob_is_referenced : delete kept one abc ≡ Err (Referenced (sha256_text m))
  blob_is_referenced = simp (get-insert {X = Unit {0}} link_cmp_total, entries-insert {X = Text} link_cmp_total, entries-empty) (rw read refl)

  abbrev gone : Catalog
  gone = record kept { manifests = remove kept.manifests (one, sha256_text m) }

  manifest_is_deleted : delete_manifest kept one (sha256_text m) ≡ Ok (tt, gone)
  manifest_is_deleted = rw there refl

  deleted_again : delete_manifest gone one (sha256_text m) ≡ Err ManifestUnknown
  deleted_again = rw (get-remove_same link_cmp_total exact_link kept.manifests (one, sha256_text m)) refl

  blob_is_deleted : delete gone one abc ≡ Ok (tt, record gone { links = set.remove gone.links (one, abc) })
  blob_is_deleted =
      ap (λ ms. delete (record kept { manifests = ms }) one abc) (remove-insert_new link_cmp_total exact_link empty (one, sha256_text m) m (get-empty _ (one, sha256_text m)))
      ∙ simp (get-insert {X = Unit {0}} link_cmp_total, entries-empty) refl
      ∙ ap (λ ms. Ok (tt, record kept { links = set.remove kept.links (one, abc); manifests = ms })) (sym (remove-insert_new link_cmp_total exact_link empty (one, sha256_text m) m (get-empty _ (one, sha256_text m))))

  put_elsewhere : put_manifest both_linked fresh m ≡ Err (ManifestBlobUnknown obj)
  put_elsewhere = rw (fits, read) (simp (get-insert {X = Unit {0}} link_cmp_total, get-empty) refl)

  kept_text : flat_map manifest_text (entries kept.manifests) ≡ manifest_line (sha256_text m) (length m) 2 ++ []
  kept_text = simp (entries-insert {X = Text} link_cmp_total, entries-empty) (rw read refl)

-- an index refers to no blob
module _ (m : Text) (fits : nat_lt max_manifest (length m) ≡ false) (read : refs_of m ≡ Some []) where
  index_is_put : put_manifest empty_book one m ≡ Ok (sha256_text m, with_manifest empty_book one m)
  index_is_put = rw (fits, read) (simp (get-empty, entries-empty) refl)

  index_is_answered : get_manifest (with_manifest empty_book one m) one (sha256_text m) ≡ Ok m
  index_is_answered = rw (get-insert_at link_cmp_total exact_link empty_book.manifests (one, sha256_text m) m) refl

no_manifest : (m : Text) → nat_lt max_manifest (length m) ≡ false → refs_of m ≡ None → put_manifest empty_book one m ≡ Err ManifestInvalid
no_manifest m fits read = rw (fits, read) refl

too_long : (m : Text) → nat_lt max_manifest (length m) ≡ true → put_manifest empty_book one m ≡ Err SizeInvalid
too_long m long = rw long refl

-- ---- there are such bytes

-- what ASCII bytes refer to, by the value that they read as
refs_read : (bytes : Text) (refs : Option (List Text)) → list_all (λ b. nat_lt b 128) bytes ≡ true → option_map distinct_texts (option_and_then named (json_value bytes)) ≡ refs → refs_of bytes ≡ refs
unfolding refs_of
refs_read bytes refs ascii is =
    ap (λ b. option_map distinct_texts (option_and_then named (if b then json_value bytes else None))) (is_utf8-from_IsUtf8 bytes (IsUtf8-from_ascii bytes (IsAscii-from_test bytes ascii))) ∙ is

-- an image manifest whose config is the empty object, and whose one layer has three bytes
abbrev image : Text
image = codes "{\"schemaVersion\":2,\"config\":{\"digest\":\"sha256:44136fa355b3678a1146ad16f7e8649e94fb4fc21fe77e8310c060f61caaff8a\"},\"layers\":[{\"digest\":\"sha256:ba7816bf8f01cfea414140de5dae2223b00361a396177a9cb410ff61f20015ad\"}]}"

image_is_met : (nat_lt max_manifest (length image) ≡ false) × (refs_of image ≡ Some (obj ∷ abc ∷ []))
unfolding number_of lex punctuate items members value content word after_number scan
image_is_met = (refl, refs_read image _ refl refl)

abbrev index : Text
index = codes "{\"schemaVersion\":2,\"manifests\":[]}"

index_is_met : (nat_lt max_manifest (length index) ≡ false) × (refs_of index ≡ Some [])
unfolding number_of lex punctuate items members value content word after_number scan
index_is_met = (refl, refs_read index _ refl refl)

nothing_is_met : (nat_lt max_manifest (length obj_bytes) ≡ false) × (refs_of obj_bytes ≡ None)
unfolding lex punctuate items members value content word
nothing_is_met = (refl, refs_read obj_bytes _ refl refl)

-- one byte more than a manifest may have
long_is_met : (m : Text) × (nat_lt max_manifest (length m) ≡ true)
long_is_met = of_length (max_manifest + 1) refl
  where
    of_length : (n : ℕ) → nat_lt max_manifest n ≡ true → (m : Text) × (nat_lt max_manifest (length m) ≡ true)
    of_length n more = (replicate n 32, rw (length-replicate {A = ℕ} n 32) more)
