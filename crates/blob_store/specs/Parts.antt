-- A store's parts as contracts see them, and the names of the store that is made of them.
use Rattle.std.specs.Prelude.{◌≡◌, ℕ, List, [], Option, length}
use Rattle.std.proofs.Common.{refl, suc, zero}
use Rattle.std.specs.Coded.{Coded, code_by, coded×, coded_ℕ, coded_option}
use Rattle.atomic_table.specs.Seated.{TableId, table_id_coded}
use Rattle.durable_log.specs.Names as durable
use Rattle.ghost_log.specs.Calls as calls
use Rattle.ghost_log.specs.declared.view.Entry.{Entry}
use Rattle.spec_lib.specs.Texts.{coded_text}
use Rattle.store_model.specs.Histories.{Step}
use Rattle.blob_digest.specs.declared.refusal.Refusal.{Refusal}
use Rattle.store_book.specs.BookState.{BookState, coded_state}
use Rattle.store_book.specs.Openings.{OpensBook, RefusesBook, tenants_shown, rules_of}
use Rattle.store_book.specs.declared.config.Config.{Config}
use Rattle.durable_log.specs.Views.{BacklogView}
use Rattle.store_model.specs.Amounts.{zero_amounts}
use Rattle.locked_book.specs.Totals.{Counts}
use Rattle.locked_book.specs.Names.{BelongsTo, IsNewCatalog, LedgerName, StoreNames, setting_of}
use Rattle.locked_book.specs.declared.policy.LogPolicy.{LogPolicy}
use Rattle.locked_book.specs.declared.policy.LogPolicy.TheVariants as policy

-- a new book, four new ledgers, an empty history with its log, the policy of the log, and the length of the longest content whose bytes it has
pub record PartsView : Type 0 where
  pub book : BookState
  pub commands : LedgerName
  pub received : LedgerName
  pub closed : LedgerName
  pub abandoned : LedgerName
  pub log : durable.Names
  pub policy : LogPolicy
  pub longest : Option ℕ

-- a ledger's name as two numbers
abbrev pub coded_ledger : Coded LedgerName
coded_ledger = code_by (ℕ × ℕ) (coded× coded_ℕ coded_ℕ) (λ m. (m.name, m.parts)) (λ p. record { name = p.0; parts = p.1 }) (λ _. refl)

-- the names of a log as a tuple of coded values
abbrev pub coded_log : Coded durable.Names
coded_log =
    code_by ((TableId × TableId) × (TableId × List ℕ)) (coded× (coded× table_id_coded table_id_coded) (coded× table_id_coded coded_text))
    (λ n. ((n.history, n.durable_marks), (n.taken_marks, n.base))) (λ p. record { history = p.0.0; durable_marks = p.0.1; taken_marks = p.1.0; base = p.1.1 }) (λ _. refl)

-- a policy as a number, and the policy of a number
abbrev pub number_of_policy : LogPolicy → ℕ
number_of_policy policy.NoLog = 0
number_of_policy policy.Never = 1
number_of_policy policy.Closes = 2
number_of_policy policy.Each = 3

abbrev pub policy_of_number : ℕ → LogPolicy
policy_of_number zero = policy.NoLog
policy_of_number (suc zero) = policy.Never
policy_of_number (suc (suc zero)) = policy.Closes
policy_of_number (suc (suc (suc n))) = policy.Each

-- a policy as a coded value
abbrev pub coded_policy : Coded LogPolicy
coded_policy = code_by ℕ coded_ℕ number_of_policy policy_of_number same
  where
    same : (p : LogPolicy) → policy_of_number (number_of_policy p) ≡ p
    same policy.NoLog = refl
    same policy.Never = refl
    same policy.Closes = refl
    same policy.Each = refl

-- a log of marks that has none
abbrev pub IsNewMarks : calls.Log (List (Entry Step)) → Type 0
IsNewMarks l = (l.entries ≡ []) × (l.writers ≡ 0)

-- the parts as a tuple of coded values
abbrev pub coded_parts : Coded PartsView
coded_parts =
    code_by ((BookState × (durable.Names × (LogPolicy × Option ℕ))) × ((LedgerName × LedgerName) × (LedgerName × LedgerName))) (coded× (coded× coded_state (coded× coded_log (coded× coded_policy (coded_option coded_ℕ)))) (coded× (coded× coded_ledger coded_ledger) (coded× coded_ledger coded_ledger)))
    (λ p. ((p.book, (p.log, (p.policy, p.longest))), ((p.commands, p.received), (p.closed, p.abandoned))))
    (λ q. record { book = q.0.0; log = q.0.1.0; policy = q.0.1.1.0; longest = q.0.1.1.1; commands = q.1.0.0; received = q.1.0.1; closed = q.1.1.0; abandoned = q.1.1.1 })
    (λ _. refl)

-- the names of the store that is made of these parts
abbrev pub names_of : PartsView → StoreNames
names_of p = record {
  table = p.book.table;
  slots = length p.book.slots;
  setting = setting_of p.book.catalog;
  commands = p.commands;
  received = p.received;
  closed = p.closed;
  abandoned = p.abandoned;
  log = p.log;
  policy = p.policy;
  longest = p.longest;
  opening = p.book.catalog;
}

-- parts that have the names of a store: its pins, its new book, counters of nothing, an empty history, the policy of its log, and what it has notes of
abbrev pub AreOfNewStore : StoreNames → TableId → BookState → Counts → BacklogView Step → LogPolicy → Option ℕ → Type 0
AreOfNewStore names pins book counts backlog p longest =
    (pins ≡ names.table)
    × IsNewCatalog book.catalog
    × BelongsTo book names
    × (book.catalog ≡ names.opening)
    × (counts ≡ record { totals = zero_amounts; settled = zero_amounts; desks = 0 })
    × (backlog.history ≡ [])
    × (backlog.writers ≡ 0)
    × (p ≡ names.policy)
    × (longest ≡ names.longest)

-- the parts have the new book of this configuration
abbrev pub OpensParts : Config → PartsView → Type 0
OpensParts config parts = OpensBook (tenants_shown config.tenants.items) config.slots (rules_of config) config.first_generation parts.book

-- the error is one with which a book of this configuration fails
abbrev pub RefusesParts : Config → Refusal → Type 0
RefusesParts config e = RefusesBook e (tenants_shown config.tenants.items) config.slots config.max_blob
