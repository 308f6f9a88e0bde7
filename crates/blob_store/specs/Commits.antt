-- What a commit adds to the disk.
use Rattle.std.specs.Prelude.{◌≡◌, ℕ, List, ◌++◌}
use Rattle.durable_log.specs.Views.{DeviceView}

-- the buffer was written after the bytes on the disk, and all of them are durable
abbrev pub WritesAll : {E : Type 0} → DeviceView E → DeviceView E → Type 0
WritesAll old new = (new.written ≡ old.written ++ old.buffer) × (new.durable ≡ new.written)

-- exactly these bytes were written after those on the disk, and all of them are durable
abbrev pub AppendsDurably : {E : Type 0} → DeviceView E → List ℕ → DeviceView E → Type 0
AppendsDurably old bytes new = (new.written ≡ old.written ++ bytes) × (new.durable ≡ new.written)
