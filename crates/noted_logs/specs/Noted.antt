-- The notes of a durable state: its contents with each chunk replaced by what a process knows of it that has not read it.
use Rattle.std.specs.Prelude.{◌≡◌, ℕ, Bool, true, false, List, Option, Some, None, map}
use Rattle.std.specs.Option.{option_map}
use Rattle.std.specs.List.{concat}
use Rattle.std.specs.FinMap as fmap
use Rattle.spec_lib.specs.Texts.{Text}
use Rattle.content_files.specs.Chunks.{chunk_notes, noted, read_notes}
use Rattle.store_model.specs.Catalog.{CheckedIn, CheckedOutWith, Chunks, Session, SessionNumber, Tenant}
use Rattle.store_model.specs.Durable.{BlobStored, Change, ChunkReceived, DurableState, SessionSealed, after_change, after_changes, initial_durable}

-- a chunk as a log keeps it: itself or, if contents may lie in files, what is known of it by its notes
abbrev pub as_kept : Bool → Text → Text
as_kept false bytes = bytes
as_kept true bytes = noted bytes

-- a change as a log keeps it, if contents are in memory or may lie in files
abbrev pub kept_change : Bool → Change → Change
kept_change files (ChunkReceived key bytes) = ChunkReceived key (as_kept files bytes)
kept_change files (SessionSealed key digest last) = SessionSealed key digest (as_kept files last)
kept_change files (BlobStored digest bytes) = BlobStored digest (as_kept files bytes)
kept_change files c = c

-- a change as a log of notes keeps it
abbrev pub noted_change : Change → Change
noted_change c = kept_change true c

-- the chunks of a session, noted
abbrev pub noted_chunks : Chunks → Chunks
noted_chunks (CheckedIn chunks) = CheckedIn (map noted chunks)
noted_chunks (CheckedOutWith received reserved) = CheckedOutWith received reserved

-- a session with its chunks noted
abbrev pub noted_session : Session → Session
noted_session s = record s { chunks = noted_chunks s.chunks }

-- a content that consists of some chunks, and what is noted of them
abbrev pub IsNotedContent : Text → Text → Type 0
IsNotedContent content notes = (chunks : List Text) × (concat chunks ≡ content) × (concat (map noted chunks) ≡ notes)

-- both are missing, or the second one has the notes of the first
abbrev pub AreNotedContents : Option Text → Option Text → Type 0
AreNotedContents None None = Unit {0}
AreNotedContents None (Some n) = ⊥
AreNotedContents (Some c) None = ⊥
AreNotedContents (Some c) (Some n) = IsNotedContent c n

-- The second state is the first one with notes in place of contents.
pub record IsNoted (D N : DurableState) : Type 0 where
  pub tenants : N.tenants ≡ D.tenants
  pub repos : N.repos ≡ D.repos
  pub links : N.links ≡ D.links
  pub manifests : N.manifests ≡ D.manifests
  pub next : N.next ≡ D.next
  pub sessions : (key : SessionNumber) → fmap.get N.sessions key ≡ option_map noted_session (fmap.get D.sessions key)
  pub contents : (digest : Text) → AreNotedContents (fmap.get D.contents digest) (fmap.get N.contents digest)

-- two durable states have the same notes
abbrev pub HaveSameNotes : DurableState → DurableState → Type 0
HaveSameNotes D E = (N : DurableState) × IsNoted D N × IsNoted E N

-- a change leaves a state whose notes are those that the noted change leaves
abbrev pub NotesStep : Type 0
NotesStep = (D N : DurableState) (c : Change) → IsNoted D N → IsNoted (after_change D c) (after_change N (noted_change c))

-- two lists of changes with the same notes leave a new store in states with the same notes
abbrev pub NotesDetermine : Type 0
NotesDetermine = (tenants : List Tenant) (cs ds : List Change) → map noted_change cs ≡ map noted_change ds →
    HaveSameNotes (after_changes (initial_durable tenants) cs) (after_changes (initial_durable tenants) ds)

-- the notes of a chunk are read as what a process knows of it that has not read it
abbrev pub NotesAreReadBack : Type 0
NotesAreReadBack = (bytes : Text) → read_notes (chunk_notes bytes) ≡ noted bytes
