-- When a content fits a stored one, and when it has a digest.
use Rattle.std.proofs.Common.{◌≡◌, Bool, true, false, ap, length, refl}
use Rattle.std.specs.Prelude.{if◌then◌else◌}
use Rattle.std.proofs.lemmas.Bool.{eq-eqb, eqb-true}
use Rattle.spec_lib.specs.Texts.{Text}
use Rattle.spec_lib.proofs.Texts.{same_text_is, text_is_same}
use Rattle.content_files.specs.Notes.{is_read}
use Rattle.blob_digest.specs.Digests.{is_digest_of, is_digest_text}
use Rattle.blob_digest.specs.Vouched.{has_digest}
use Rattle.store_model.specs.Catalog.{ContentRules}
use Rattle.store_model.specs.Commands.{fits_content, is_named}

-- a content that fits a stored one is as long
pub fits_long : (on_disk : Bool) (stored content : Text) → fits_content on_disk stored content ≡ true → length stored ≡ length content
fits_long true stored content fits = eqb-true (length stored) (length content) fits
fits_long false stored content fits = ap length (text_is_same stored content fits)

-- a content fits itself
pub fits_same : (on_disk : Bool) (stored content : Text) → stored ≡ content → fits_content on_disk stored content ≡ true
fits_same true stored content same = eq-eqb (length stored) (length content) (ap length same)
fits_same false stored content same = same_text_is stored content same

-- a content that was read has a digest if that is the digest of its bytes
pub named_if_read : (rules : ContentRules) (digest content : Text) → is_read content ≡ true → is_named rules digest content ≡ is_digest_of digest content
named_if_read rules digest content read = by rules.on_disk
  where
    by : (on_disk : Bool) → (if on_disk then has_digest digest content else is_digest_of digest content) ≡ is_digest_of digest content
    by true = ap (λ b. if b then is_digest_of digest content else is_digest_text digest) read
    by false = refl
