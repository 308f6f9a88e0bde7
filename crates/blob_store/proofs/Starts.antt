-- The log of a store after its start.
use Rattle.std.proofs.Common.{◌≡◌, ◌++◌, ◌∙◌, refl, sym}
use Rattle.blob_store.specs.Starts.{IsStarted, StartedView}
use Rattle.durable_log.specs.Views.{DeviceView}
use Rattle.locked_book.specs.History.{DeskView}
use Rattle.locked_book.specs.Names.{StoreNames}
use Rattle.locked_book.specs.Restoring.{IsWholeOnDisk, SeesStoreHistory}
use Rattle.store_model.specs.Histories.{Step}

-- a desk with this view and a device with this view
abbrev pub started : DeskView → DeviceView Step → StartedView
started desk device = record { desk = desk; device = device }

-- the device has the whole log of what the desk has seen, and all of it is durable
pub is_started : (names : StoreNames) {was now : DeskView} {d : DeviceView Step} → SeesStoreHistory names was now → IsWholeOnDisk names now.trace.seen d → d.durable ≡ d.written → IsStarted names (started now d)
is_started names {was} {now} {d} sees whole durable = record {
  records = whole;
  restores = sees.restores;
  written = refl;
  durable = durable;
}
