-- The blob of a slot is stored.
use Rattle.std.proofs.Common.{◌≡◌, ℕ, Option, Some, None, ap, refl, ◌∙◌}
use Rattle.std.specs.Option.{option_map}
use Rattle.spec_lib.specs.Texts.{Text}
use Rattle.spec_lib.proofs.Options.{some_same}
use Rattle.slot_table.specs.Slots.{StoredBlob, stored_blob_at}
use Rattle.store_book.specs.BookCalls.{IsStoredBlob}
use Rattle.store_book.specs.Layers.{Layers, lent_marks, book_catalog, IsBook}
use Rattle.store_book.specs.Pinned.{blob_at}
use Rattle.store_book.proofs.Layers.Ties.{slot_is_resident}
use Rattle.store_book.proofs.Slots.LeaseMarks.{length-marks}

-- the digest of a slot's blob is resident, with its content
pub stored_here : (L : Layers) → IsBook L → (slot : ℕ) (blob : Text × Text) → Some blob ≡ blob_at L.slots slot → IsStoredBlob (book_catalog L) blob
stored_here L book slot blob at = by (stored_blob_at L.slots slot) refl
  where
    by : (o : Option StoredBlob) → stored_blob_at L.slots slot ≡ o → IsStoredBlob (book_catalog L) blob
    by None none = absurd (let e : ◌≡◌ {A = Option (Text × Text)} (Some blob) None = at ∙ ap (option_map (λ (x : StoredBlob). (x.digest, x.bytes))) none in cc)
    by (Some h) is =
        let same : blob ≡ (h.digest, h.bytes) = some_same (at ∙ ap (option_map (λ (x : StoredBlob). (x.digest, x.bytes))) is) in
        let b = slot_is_resident L.slots (lent_marks L.slots) (length-marks L.slots) book.tied.distinct slot h is in
        rw same (b.0, b.1, b.2)
