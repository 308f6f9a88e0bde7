-- The digest of a content that may have parts that were not read since the start.
use Rattle.std.specs.Prelude.{Bool, if◌then◌else◌}
use Rattle.spec_lib.specs.Texts.{Text}
use Rattle.content_files.specs.Notes.{is_read}
use Rattle.blob_digest.specs.Digests.{is_digest_of, is_digest_text}

-- the content has this digest, if all of it was read; otherwise the text is that of some digest
abbrev pub has_digest : Text → Text → Bool
has_digest digest content = if is_read content then is_digest_of digest content else is_digest_text digest
