-- A content that has a digest is vouched for by it.
use Rattle.std.proofs.Common.{◌≡◌, Bool, true, false, List, ℕ}
use Rattle.std.specs.Prelude.{if◌then◌else◌}
use Rattle.content_files.specs.Notes.{is_read}
use Rattle.blob_digest.specs.Digests.{is_digest_of, is_digest_text}
use Rattle.blob_digest.specs.Vouched.{has_digest}

-- a content with a digest has it, read or not
pub vouched : (digest content : List ℕ) → is_digest_text digest ≡ true → is_digest_of digest content ≡ true → has_digest digest content ≡ true
vouched digest content text is = by (is_read content)
  where
    by : (b : Bool) → (if b then is_digest_of digest content else is_digest_text digest) ≡ true
    by true = is
    by false = text
