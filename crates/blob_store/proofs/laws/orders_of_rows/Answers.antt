use Rattle.blob_store.proofs.RowOrders.Together.{rows_have_orders}
use Rattle.blob_store.proofs.laws.orders_of_rows.Goals as goal

pub returns : goal.returns
returns c = record { orders = rows_have_orders }
