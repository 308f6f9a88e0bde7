-- The sessions that an inventory needs.
use Rattle.std.specs.Prelude.{ℕ, List, map}
use Rattle.std.specs.BTreeMap as tree
use Rattle.log_rewriting.specs.declared.inventory.Inventory.{Inventory}
use Rattle.log_rewriting.specs.Keeping.{blob_session, last_session}

-- the open sessions
abbrev pub open_sessions : Inventory → List (ℕ × ℕ)
open_sessions I = tree.keys I.sessions

-- the sessions whose seals made the blobs that tenants hold
abbrev pub held_sessions : Inventory → List (ℕ × ℕ)
held_sessions I = map blob_session I.blobs.blobs.entries

-- the sessions of the last seals by notes of the digests that tenants hold
abbrev pub last_sessions : Inventory → List (ℕ × ℕ)
last_sessions I = map last_session I.blobs.last.entries
