-- Leases as contracts see them.
use Rattle.std.specs.Prelude.{◌≡◌, ℕ, ◌+◌, ◌-◌, ◌/◌, Bool, false, true, take, drop, if◌then◌else◌, length, nat_lt}
use Rattle.std.specs.Coded.{Coded, code_by, coded×, coded_ℕ}
use Rattle.std.proofs.Common.{refl}
use Rattle.content_files.specs.LocatedNotes.{AreNotesBetween}
use Rattle.content_files.specs.Parts.{IsReadAs}
use Rattle.spec_lib.specs.Texts.{Text, coded_text}

-- a lease: its blob's bytes, and its weight
pub record LeaseView : Type 0 where
  pub bytes : Text
  pub weight : ℕ

-- a new lease of a blob of these bytes
abbrev pub new_lease : Text → LeaseView
new_lease bytes = record { bytes = bytes; weight = 1024 }

-- a lease of half the weight
abbrev pub half_lease : LeaseView → LeaseView
half_lease lease = record { bytes = lease.bytes; weight = lease.weight / 2 }

-- the bytes from `start` to `end`, both included, or to the end of all bytes
abbrev pub bytes_between : Text → ℕ → ℕ → Text
bytes_between bytes start end = take (end - start + 1) (drop start bytes)

-- the code by which proofs compare leases
abbrev pub coded_lease_view : Coded LeaseView
coded_lease_view = code_by (Text × ℕ) (coded× coded_text coded_ℕ) (λ l. (l.bytes, l.weight)) (λ p. record { bytes = p.0; weight = p.1 }) (λ _. refl)

-- bytes of a content that a reader asks for: those from `start` to `end`, both included, or to the end of all bytes
pub record Extent : Type 0 where
  pub content : Text
  pub start : ℕ
  pub end : ℕ

abbrev pub extent : Text → ℕ → ℕ → Extent
extent content start end = record { content = content; start = start; end = end }

-- these bytes, as they were stored
abbrev pub stored_bytes : Extent → Text
stored_bytes e = bytes_between e.content e.start e.end

-- A reader gets this piece for the bytes: those that were stored. If contents may lie in files, those that were read in their place, of which each
-- piece of the content has the length and the sum that were stored.
abbrev pub IsPieceRead : Bool → Extent → Text → Type 0
IsPieceRead false e piece = piece ≡ stored_bytes e
IsPieceRead true e piece = (given : Text) × IsReadAs e.content given × (piece ≡ bytes_between given e.start e.end)

-- the offset behind the last byte that is asked for
abbrev pub behind : Extent → ℕ
behind e = if nat_lt e.end (length e.content) then e.end + 1 else length e.content

-- Contents may lie in files. These are the notes of pieces of the content that have the bytes, and the first piece begins at the offset.
abbrev pub IsLocatedAt : Bool → Extent → ℕ → Text → Type 0
IsLocatedAt on_disk e offset notes = (on_disk ≡ true) × AreNotesBetween e.content e.start (behind e) offset notes
