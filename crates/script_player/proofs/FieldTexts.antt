-- The range that a field spells, by the tests of the field.
use Rattle.std.proofs.Common.{◌≡◌, ◌≢◌, ◌∙◌, ◌∷◌, [], Some, None, Ok, Err, length, ap, refl}
use Rattle.spec_lib.specs.Texts.{Text}
use Rattle.blob_digest.specs.Ranges.{range_of}
use Rattle.blob_digest.specs.declared.range.ByteRange.{ByteRange}
use Rattle.blob_digest.specs.declared.refusal.Refusal.TheVariants.{SizeInvalid}
use Rattle.script_player.specs.RowCommands.{range_in}
use Rattle.store_api.proofs.FieldTexts.{range_holds}
use Rattle.store_api.specs.Commands.{range_of_ends}

pub range_ok : (text : Text) (r : ByteRange) → length text ≢ 0 → range_of text ≡ Some (r.start, r.end) → range_in text ≡ Ok (Some r)
range_ok [] r some h = absurd (some refl)
range_ok (c ∷ cs) r some h = ap range_of_ends h ∙ range_holds r

pub range_bad : (text : Text) → length text ≢ 0 → range_of text ≡ None → range_in text ≡ Err SizeInvalid
range_bad [] some h = absurd (some refl)
range_bad (c ∷ cs) some h = ap range_of_ends h
