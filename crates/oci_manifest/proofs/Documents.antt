-- The JSON value of bytes.
use Rattle.std.proofs.Common.{◌≡◌, ℕ, List, Bool, true, false, None, IsUtf8, refl}
use Rattle.std.specs.Str.{is_utf8}
use Rattle.std.proofs.lemmas.Str.{IsUtf8-from_is_utf8, is_utf8-from_IsUtf8}
use Rattle.serde_json.specs.Read.{read}
use Rattle.oci_manifest.specs.Manifests.{document_of}

-- the document of a text is the value that `serde_json` reads
pub document_of_text : (bytes : List ℕ) → IsUtf8 bytes → document_of bytes ≡ read bytes
document_of_text bytes utf8 = rw (is_utf8-from_IsUtf8 bytes utf8) refl

-- a text that `serde_json` refuses has no document
pub no_document : (bytes : List ℕ) → (IsUtf8 bytes → read bytes ≡ None) → document_of bytes ≡ None
no_document bytes h = by_test (is_utf8 bytes) refl
  where
    by_test : (test : Bool) → is_utf8 bytes ≡ test → document_of bytes ≡ None
    by_test true e = rw e (h (IsUtf8-from_is_utf8 bytes e))
    by_test false e = rw e refl
