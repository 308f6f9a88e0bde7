-- A script without bad rows has a text, and only one if none of its rows leases a blob.
use Rattle.std.specs.Prelude.{◌≡◌, ◌≢◌, ℕ, List, [], ◌∷◌}
use Rattle.spec_lib.specs.Texts.{Text}
use Rattle.blob_digest.specs.Tenants.{Tenant}
use Rattle.store_model.specs.Catalog.{Catalog, in_memory}
use Rattle.store_book.specs.Openings.{OpensCatalog}
use Rattle.blobctl.specs.Played.{Played}
use Rattle.script_player.specs.Rows.{RowView}
use Rattle.blobctl.specs.Script.{AreRowsOf}
use Rattle.store_api.specs.declared.verb.Verb.TheVariants as verb

-- no row leases a blob
abbrev pub LeaseNothing : List RowView → Type 0
LeaseNothing [] = Unit {0}
LeaseNothing (row ∷ rows) = (row.verb ≢ verb.Lease) × LeaseNothing rows

-- a script whose rows lease no blob has at most one text
abbrev pub HasOneText : Type 0
HasOneText = (tenants : List Tenant) (slots max_blob : ℕ) (script text other : Text) (one : Played tenants slots max_blob script text) → LeaseNothing one.rows → Played tenants slots max_blob script other → text ≡ other

-- a script without bad rows has a text on each opening catalog
abbrev pub HasText : Type 0
HasText = (tenants : List Tenant) (slots max_blob : ℕ) (first : Catalog) (script : Text) (rows : List RowView) → OpensCatalog tenants slots (in_memory max_blob) first → AreRowsOf script rows → (text : Text) × Played tenants slots max_blob script text
