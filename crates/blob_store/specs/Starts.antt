-- The log of a store after its start.
use Rattle.std.specs.Prelude.{◌≡◌, ℕ, List, ◌++◌}
use Rattle.durable_log.specs.Views.{DeviceView}
use Rattle.locked_book.specs.History.{DeskView, Trace}
use Rattle.locked_book.specs.Names.{StoreNames}
use Rattle.locked_book.specs.Restoring.{RestoresItsStates, records_of}
use Rattle.store_model.specs.Histories.{Step}

-- a store that was started: a desk that has seen its history, and the device of its log
pub record StartedView : Type 0 where
  pub desk : DeskView
  pub device : DeviceView Step

-- These bytes are the records of the history that a desk has seen, and no others. The log of the history restores each state to which it leads.
-- The bytes are on the device's disk, all of them durable.
pub record StartsFrom (names : StoreNames) (bytes : List ℕ) (trace : Trace) (d : DeviceView Step) : Type 0 where
  pub records : bytes ≡ names.log.base ++ records_of names trace.seen
  pub restores : RestoresItsStates names trace.seen
  pub written : d.written ≡ bytes
  pub durable : d.durable ≡ bytes

-- a store was started from the bytes on the disk of its device
abbrev pub IsStarted : StoreNames → StartedView → Type 0
IsStarted names v = StartsFrom names v.device.written v.desk.trace v.device
