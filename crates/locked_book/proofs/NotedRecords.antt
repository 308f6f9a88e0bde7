-- The records of chunks and closes whose content lies in a file, from the notes of their pieces.
use Rattle.std.proofs.Common.{◌≡◌, ◌<◌, ℕ, true, false, List, [], ◌∷◌, ap, arith, length, length-append, refl, sym, ◌∙◌}
use Prim.Native.Nat.{zero, suc}
use Rattle.std.specs.Prelude.{◌==◌, drop, take}
use Rattle.std.specs.List.{flat_map}
use Rattle.std.proofs.lemmas.Bool.{false≢true}
use Rattle.content_files.specs.Chunks.{chunk_notes, cut_in, note_bytes}
use Rattle.log_records.specs.Changes as logged
use Rattle.log_records.specs.Records.{record_bytes}
use Rattle.spec_lib.specs.Texts.{Text}
use Rattle.locked_book.specs.Logging.{chunk_record_bytes, has_log, logged_by}
use Rattle.locked_book.specs.declared.policy.LogPolicy.{LogPolicy}
use Rattle.locked_book.specs.declared.policy.LogPolicy.TheVariants as policy

-- a chunk with bytes has notes
some_notes : (b : ℕ) (bytes : List ℕ) → 0 < length (chunk_notes (b ∷ bytes))
some_notes b bytes = omega (arith, length-append (note_bytes (take 1048576 (b ∷ bytes))) (flat_map note_bytes (cut_in (length bytes) (drop 1048576 (b ∷ bytes)))))

pub some_of_test : (n : ℕ) → (n == 0) ≡ false → 0 < n
some_of_test zero unequal = absurd (false≢true (sym unequal))
some_of_test (suc n) unequal = omega arith

-- the record of some notes is that of the chunk that they are of
pub noted_chunk_is : (tenant : Text) (number : ℕ) (chunk notes : List ℕ) → chunk_notes chunk ≡ notes → 0 < length notes → record_bytes (logged.ChunkNoted tenant number notes) ≡ chunk_record_bytes true tenant number chunk
noted_chunk_is tenant number [] notes is some = absurd (omega (arith, some, ap length is))
noted_chunk_is tenant number (b ∷ bytes) notes is some = ap (λ n. record_bytes (logged.ChunkNoted tenant number n)) (sym is)

-- a chunk without notes has no record
pub no_notes_no_record : (tenant : Text) (number : ℕ) (chunk notes : List ℕ) → chunk_notes chunk ≡ notes → length notes ≡ 0 → chunk_record_bytes true tenant number chunk ≡ []
no_notes_no_record tenant number [] notes is none = refl
no_notes_no_record tenant number (b ∷ bytes) notes is none = absurd (omega (arith, none, ap length is, some_notes b bytes))

-- a store with a log records the bytes, and one without a log nothing
pub logged_if : (p : LogPolicy) (bytes : List ℕ) → has_log p ≡ true → logged_by p bytes ≡ bytes
logged_if policy.NoLog bytes has = absurd (false≢true has)
logged_if policy.Never bytes has = refl
logged_if policy.Closes bytes has = refl
logged_if policy.Each bytes has = refl

pub not_logged : (p : LogPolicy) (bytes : List ℕ) → has_log p ≡ false → logged_by p bytes ≡ []
not_logged policy.NoLog bytes has = refl
not_logged policy.Never bytes has = absurd (false≢true (sym has))
not_logged policy.Closes bytes has = absurd (false≢true (sym has))
not_logged policy.Each bytes has = absurd (false≢true (sym has))
