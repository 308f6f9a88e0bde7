-- The sums over checked-out sessions, and over all sessions.
use Rattle.std.specs.Prelude.{ℕ, sum_by, length, if◌then◌else◌}
use Rattle.std.specs.Option.{option_map_or}
use Rattle.std.specs.FinMap as fmap
use Rattle.store_model.specs.Sessions.{HandRecord, are_checked_in, received_length, reserved_of}
use Rattle.store_model.specs.Catalog.{Catalog, SessionNumber, Session}

-- 1 if a session is checked out, else 0
abbrev pub checked_out_count_of : SessionNumber × Session → ℕ
checked_out_count_of e = if are_checked_in e.1.chunks then 0 else 1

-- the number of checked-out sessions
abbrev pub checked_out_count : Catalog → ℕ
checked_out_count C = sum_by checked_out_count_of (fmap.entries C.sessions)

-- the number of bytes reserved for checked-out sessions
abbrev pub reserved_bytes : Catalog → ℕ
reserved_bytes C = sum_by (λ e. reserved_of e.1.chunks) (fmap.entries C.sessions)

-- the number of bytes that all sessions have received
abbrev pub received_in_sessions : Catalog → ℕ
received_in_sessions C = sum_by (λ e. received_length e.1) (fmap.entries C.sessions)

-- the length of the chunk that was filled into a hand, or 0
abbrev pub filled_length : HandRecord → ℕ
filled_length h = option_map_or length h.last 0
