-- The slot that a row shows.
use Rattle.slot_table.specs.Slots.{Slot, SlotContent, StoredBlob, Free, Used, Retired}
use Rattle.slot_table.specs.declared.row.Row.TheInside.{Inside}
use Rattle.slot_table.specs.declared.row.FilledRow.{FilledRow}
use Rattle.slot_table.specs.declared.row.Cell.{Cell}
use Rattle.slot_table.specs.declared.row.Cell.TheVariants as cell

-- the blob of a used row with its marks and its links
abbrev pub stored_blob_shown : FilledRow → StoredBlob
stored_blob_shown f = record { digest = f.blob.value.0; bytes = f.blob.value.1; condemned = f.condemned; lent = f.lent; links = f.links }

-- the content of a cell
abbrev pub content_shown : Cell → SlotContent
content_shown cell.Free = Free
content_shown (cell.Used f) = Used (stored_blob_shown f)
content_shown cell.Retired = Retired

-- the slot of a row
abbrev pub slot_shown : Inside → Slot
slot_shown r = record { generation = r.generation; content = content_shown r.cell }
