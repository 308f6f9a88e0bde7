-- The references of a manifest, by cases on the JSON value that its bytes read as (OCI Image Specification 1.1, "Image Manifest", "Image Index" and "Content Descriptors"; RFC 8259).
use Rattle.std.specs.Prelude.{◌≡◌, ◌⊎◌, ◌<◌, ◌≤◌, ◌==◌, ◌∷◌, ◌++◌, ◌&&◌, ◌||◌, ℕ, List, [], Bool, true, false, not, if◌then◌else◌, Option, Some, None, is_some, option_and_then, option_map, codes, fold, length, Vec}
use Rattle.std.specs.Global.{Global}
use Rattle.std.specs.Borrow.{Bor}
use Rattle.std.specs.List.{list_any}
use Rattle.std.specs.Option.{option_map_or}
use Rattle.std.specs.Str.{is_utf8}
use Rattle.serde_json.specs.Data.{Data, null, boolean, number, string, array, object, Items, no_items, item}
use Rattle.serde_json.specs.Find.{get, as_array, as_number, as_object, as_str, as_u64}
use Rattle.serde_json.specs.Read.{read}
use Rattle.serde_json.specs.View.{items_view, view}
use Rattle.serde_json.specs.declared.value.Value.{Value}
use Rattle.blob_digest.specs.Digests.{is_digest_text, sha256_text}
use Rattle.blob_digest.specs.declared.refusal.Refusal.{Refusal}
use Rattle.blob_digest.specs.declared.refusal.Refusal.TheVariants.{SizeInvalid, ManifestInvalid, Memory}
use Rattle.spec_lib.specs.Texts.{Text, same_text}

-- the text, if it is a digest
abbrev pub digest_text : Text → Option Text
digest_text text = if is_digest_text text then Some text else None

-- the digest in a descriptor, which is an object whose member `digest` is the text of a digest
abbrev pub descriptor_digest : Data → Option Text
descriptor_digest descriptor = option_and_then digest_text (option_and_then as_str (get (codes "digest") descriptor))

-- whether there is an item
abbrev pub is_filled : Items → Bool
is_filled no_items = false
is_filled (item d ds) = true

-- whether there is an array with an item
abbrev pub is_filled_array : Option Items → Bool
is_filled_array None = false
is_filled_array (Some ds) = is_filled ds

-- whether a layer is skipped, because its `urls` is an array with an element
abbrev pub is_skipped : Data → Bool
is_skipped layer = is_filled_array (option_and_then as_array (get (codes "urls") layer))

-- the texts with one more in front, if there are any
abbrev pub with_first : Text → Option (List Text) → Option (List Text)
with_first text rest = option_map (λ texts. text ∷ texts) rest

-- the digests of the layers that are not skipped, in order, if each of these has a digest
abbrev pub layer_refs : Items → Option (List Text)
layer_refs no_items = Some []
layer_refs (item layer rest) = if is_skipped layer then layer_refs rest else option_and_then (λ text. with_first text (layer_refs rest)) (descriptor_digest layer)

-- the items of a JSON value that is a list, with null as an empty list
abbrev pub list_items : Data → Option Items
list_items null = Some no_items
list_items (array ds) = Some ds
list_items (boolean b) = None
list_items (number n) = None
list_items (string s) = None
list_items (object ms) = None

-- the items of a member that is a list, with an absent member as an empty list
abbrev pub member_items : Option Data → Option Items
member_items None = Some no_items
member_items (Some d) = list_items d

-- whether the number is 2
abbrev pub is_two : Option ℕ → Bool
is_two None = false
is_two (Some n) = n == 2

-- whether `schemaVersion` is the integer 2, written without a point and without an exponent
abbrev pub is_version_2 : Data → Bool
is_version_2 root = is_two (option_and_then as_u64 (option_and_then as_number (get (codes "schemaVersion") root)))

-- the digests of an image manifest: the digest of its config, then those of its layers
abbrev pub image_refs : Data → Option (List Text)
image_refs root = option_and_then (λ config. with_first config (option_and_then layer_refs (member_items (get (codes "layers") root)))) (option_and_then descriptor_digest (get (codes "config") root))

-- the digests of an image index, which refers to no blob
abbrev pub index_refs : Data → Option (List Text)
index_refs root = option_map (λ manifests. []) (member_items (get (codes "manifests") root))

-- whether the JSON value has a member of this name
abbrev pub has_member : List ℕ → Data → Bool
has_member name root = is_some (get name root)

-- the digests in a JSON value, in order, if it is an index (with `manifests`) or an image manifest (with `config`)
abbrev pub named : Data → Option (List Text)
named root =
    if not (is_some (as_object root) && is_version_2 root) then None
    else if has_member (codes "manifests") root then (if has_member (codes "config") root || has_member (codes "layers") root then None else index_refs root)
    else if has_member (codes "config") root then image_refs root
    else None

-- the texts with one more at the end, unless they have it
abbrev pub add_new : List Text → Text → List Text
add_new seen text = if list_any (same_text text) seen then seen else seen ++ text ∷ []

-- each text once, at its first position
abbrev pub distinct_texts : List Text → List Text
distinct_texts texts = fold add_new [] texts

-- the JSON value of bytes, if they are UTF-8 and `serde_json` accepts the text
abbrev pub document_of : List ℕ → Option Data
document_of bytes = if is_utf8 bytes then read bytes else None

-- the references of bytes, each once, if they are a manifest
unfoldable pub refs_of : List ℕ → Option (List Text)
refs_of bytes = option_map distinct_texts (option_and_then named (document_of bytes))

-- whether the bytes are a manifest that refers to the digest
abbrev pub refers : Text → Text → Bool
refers manifest digest = option_map_or (list_any (same_text digest)) (refs_of manifest) false

-- the maximum length of a manifest: 4 MiB
abbrev pub max_manifest : ℕ
max_manifest = 4194304

-- the bytes are a manifest, with these references and this digest
pub record IsManifest (bytes : List ℕ) (refs : List Text) (digest : Text) : Type 0 where
  pub named : refs_of bytes ≡ Some refs
  pub agrees : digest ≡ sha256_text bytes
  pub fits : length bytes ≤ max_manifest

-- the digests of a list, if there is one
abbrev pub found_digests : Option (Vec Text Global) → Option (List Text)
found_digests found = option_map (λ digests. digests.items) found

-- the JSON value of a member, if there is one
abbrev pub member_view : Option (Bor Value) → Option Data
member_view member = option_map (λ value. view value.now) member

-- the JSON values of a slice, if there is one
abbrev pub slice_view : Option (Bor (List Value)) → Option Items
slice_view slice = option_map (λ items. items_view items.now) slice

-- the refusal is `Memory`, or it is `ManifestInvalid` and the condition holds
abbrev pub IsInvalidOnlyIf : Type 0 → Refusal → Type 0
IsInvalidOnlyIf P e = (e ≡ Memory) ⊎ ((e ≡ ManifestInvalid) × P)

-- the refusal is `SizeInvalid` of too many bytes, `ManifestInvalid` of bytes that are no manifest, or `Memory`
abbrev pub IsReadRefusal : List ℕ → Refusal → Type 0
IsReadRefusal bytes e = ((e ≡ SizeInvalid) × (max_manifest < length bytes)) ⊎ ((e ≡ ManifestInvalid) × (refs_of bytes ≡ None)) ⊎ (e ≡ Memory)
