-- The layers and the state of a book, from its fields.
use Rattle.store_book.specs.BookState.{BookState}
use Rattle.store_book.specs.Layers.{Layers, book_catalog, book_state}
use Rattle.store_book.specs.declared.book.Book.TheInside.{Inside}

-- the layers of a book
abbrev pub layers : Inside → Layers
layers b = record { links = b.links; uploads = b.uploads; slots = b.slots.slots; contents = record { max_blob = b.max_blob; on_disk = b.on_disk } }

-- the state of a book
abbrev pub state : Inside → BookState
state b = book_state (book_catalog (layers b)) b.slots
