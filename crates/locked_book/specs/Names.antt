-- The names of a store, which its type parameter carries.
use Rattle.std.specs.Prelude.{◌≡◌, ℕ, List, [], Option, None, length}
use Rattle.atomic_table.specs.Seated.{TableId}
use Rattle.durable_log.specs.Names as durable
use Rattle.locked_book.specs.Totals.{ledger_parts}
use Rattle.locked_book.specs.declared.policy.LogPolicy.{LogPolicy}
use Rattle.locked_book.specs.declared.policy.LogPolicy.TheVariants as policy
use Rattle.store_book.specs.BookState.{BookState}
use Rattle.store_model.specs.Catalog.{Catalog, Tenant, opening, ContentRules, in_memory}
use Rattle.store_model.specs.Invariant.{Sound}

-- the setting of a store, which no command changes: its tenants with their quotas in the order of their numbers, its slots, and its blob size limit
pub record Setting : Type 0 where
  pub tenants : List Tenant
  pub slots : ℕ
  pub contents : ContentRules

-- the setting that a catalog has
abbrev pub setting_of : Catalog → Setting
setting_of C = record { tenants = C.tenants; slots = C.slots; contents = C.contents }

-- the catalog of a new store with this setting
abbrev pub new_catalog : Setting → Catalog
new_catalog setting = opening setting.tenants setting.slots setting.contents

-- the catalog is that of a new store
abbrev pub IsNewCatalog : Catalog → Type 0
IsNewCatalog C = C ≡ new_catalog (setting_of C)

-- a ledger: its name, and the number of parts of all its shares
pub record LedgerName : Type 0 where
  pub name : ℕ
  pub parts : ℕ

-- a store: the table of its pins, its number of slots, its setting, its ledgers, its log with the policy of it and the length of the longest content
-- whose bytes the log has (without one, it has all), and its opening catalog
pub record StoreNames : Type 0 where
  pub table : TableId
  pub slots : ℕ
  pub setting : Setting
  pub commands : LedgerName
  pub received : LedgerName
  pub closed : LedgerName
  pub abandoned : LedgerName
  pub log : durable.Names
  pub policy : LogPolicy
  pub longest : Option ℕ
  pub opening : Catalog

-- the book has the table, the slots and the setting of the store
abbrev pub BelongsTo : BookState → StoreNames → Type 0
BelongsTo book names = (book.table ≡ names.table) × (length book.slots ≡ names.slots) × (setting_of book.catalog ≡ names.setting)

-- the store opens as a new one with its setting, and its opening catalog is sound
pub record OpensNew (names : StoreNames) : Type 0 where
  pub new : names.opening ≡ new_catalog names.setting
  pub sound : Sound names.opening

-- a new ledger of this name and these parts is the named one, with a part for each desk and one that stays
abbrev pub IsLedger : ℕ → ℕ → LedgerName → Type 0
IsLedger name parts ledger = (name ≡ ledger.name) × (parts ≡ ledger.parts) × (parts ≡ ledger_parts)

-- a table of no words
abbrev pub no_table : TableId
no_table = record { words = 0; slots = 0; views_name = 0; atom = 0; block = 0; offset = 0; slot_names = [] }

-- the names of no store
abbrev pub no_names : StoreNames
no_names = record {
  table = no_table;
  slots = 0;
  setting = record { tenants = []; slots = 0; contents = in_memory 0 };
  commands = record { name = 0; parts = 0 };
  received = record { name = 0; parts = 0 };
  closed = record { name = 0; parts = 0 };
  abandoned = record { name = 0; parts = 0 };
  log = durable.no_names;
  policy = policy.NoLog;
  longest = None;
  opening = opening [] 0 (in_memory 0);
}
