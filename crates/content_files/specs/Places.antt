-- The content that a place shows.
use Rattle.std.specs.Prelude.{ℕ, List}
use Rattle.content_files.specs.declared.content.Place.{Place}
use Rattle.content_files.specs.declared.content.Place.TheVariants as place

-- the content of a place
abbrev pub content_shown : Place → List ℕ
content_shown (place.Resident bytes) = bytes.items
content_shown (place.OnDisk content) = content
