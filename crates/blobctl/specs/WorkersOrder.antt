-- Several workers write what their rows do in some order.
use Rattle.std.specs.Prelude.{◌<◌, ℕ, List}
use Rattle.std.specs.List.{AllByRecursion}
use Rattle.spec_lib.specs.Texts.{Text}
use Rattle.blob_digest.specs.Tenants.{Tenant}
use Rattle.blob_store.specs.RowOrders.{AreCountable, HasOrder, IsContentionFreeAnswer}
use Rattle.script_player.specs.Rows.{RowView}
use Rattle.blobctl.specs.Ending.{PlayedByWorkers}

-- if no reply is `Busy` or `Quota`, workers write the replies and the book of the rows, played one whole row after another in some order
-- that keeps each worker's
abbrev pub WorkersHaveOrders : Type 0
WorkersHaveOrders = (workers : ℕ) (tenants : List Tenant) (slots max_blob : ℕ) (rows : List RowView) (text : Text) (one : PlayedByWorkers workers tenants slots max_blob rows text) →
    0 < workers → AreCountable rows → AllByRecursion IsContentionFreeAnswer one.answers → HasOrder one.first workers rows one.answers one.last
