-- The arguments of the program, and the options that they give.
use Rattle.std.specs.Prelude.{⊤, ◌≡◌, ◌≢◌, ◌⊎◌, ℕ, List, [], ◌∷◌, MatchOption, Option, Some, codes, false, pos, true, unwrap_or}
use Rattle.std.specs.Str.Parse.{IsNumeral, digits_value, without_leading_plus}
use Rattle.clap.specs.Faults.{fault_of}
use Rattle.clap.specs.Kinds.{IsAmong}
use Rattle.clap.specs.Lexer.{usize_max}
use Rattle.clap.specs.Simple.{App, matches_of, new_app, new_rule, with_rule}
use Rattle.clap.specs.Walk.{Row, Rule, all_of, one_of}
use Rattle.clap.specs.declared.builder.action.ArgAction.TheVariants.{Append}
use Rattle.clap.specs.declared.builder.value_parser.ValueParser.TheVariants.{Signed, Unsigned}
use Rattle.clap.specs.declared.error.kind.ErrorKind.{ErrorKind}
use Rattle.clap.specs.declared.error.kind.ErrorKind.TheVariants.{DisplayHelp}
use Rattle.spec_lib.specs.Texts.{Text}
use Rattle.store_book.specs.Openings.{IsSized, tenants_shown}
use Rattle.blobctl.specs.Options.{IsWorkerCount}
use Rattle.tenant_args.specs.Tenants.{HasBadTenant, SpellTenants}
use Rattle.blobctl.specs.declared.options.Options.{Options}
use Rattle.blobctl.specs.declared.options.Stop.{Stop}
use Rattle.blobctl.specs.declared.options.Stop.TheVariants.{Help, Usage, BadTenant, NotUtf8, Memory}

-- ---- the arguments of the program

-- `--slots N`, from 1 to 65536; the default is 64
abbrev pub slots_rule : Rule
slots_rule = record (new_rule (codes "slots")) {
  long = Some (codes "slots");
  value_names = 1;
  parser = Some (Signed (pos 1) (pos 65536));
  defaults = codes "64" ∷ [];
}

-- `--max-blob N`, from 0 to 2^40; the default is 1048576
abbrev pub max_blob_rule : Rule
max_blob_rule = record (new_rule (codes "max-blob")) {
  long = Some (codes "max-blob");
  value_names = 1;
  parser = Some (Unsigned 0 1099511627776);
  defaults = codes "1048576" ∷ [];
}

-- `--workers N`, from 1 to 64; the default is 1
abbrev pub workers_rule : Rule
workers_rule = record (new_rule (codes "workers")) {
  long = Some (codes "workers");
  value_names = 1;
  parser = Some (Signed (pos 1) (pos 64));
  defaults = codes "1" ∷ [];
}

-- one or more words for the tenants
abbrev pub tenants_rule : Rule
tenants_rule = record (new_rule (codes "tenants")) {
  value_names = 1;
  range = Some (record { start_inclusive = 1; end_inclusive = usize_max });
  action = Some Append;
  required = true;
}

abbrev pub program : App
program = with_rule (with_rule (with_rule (with_rule (new_app (codes "blobctl")) slots_rule) max_blob_rule) workers_rule) tenants_rule

-- ---- the options that `clap` finds in the words

-- the option has a numeral of this value
pub record HasNumber (rows : List Row) (id : Text) (n : ℕ) : Type 0 where
  pub text : Text
  pub given : one_of id rows ≡ Some text
  pub numeral : IsNumeral 10 (without_leading_plus text)
  pub value : n ≡ digits_value 10 (without_leading_plus text)

-- the options have these numbers, within their limits
pub record HaveNumbers (rows : List Row) (slots max_blob : ℕ) : Type 0 where
  pub slots_given : HasNumber rows (codes "slots") slots
  pub max_blob_given : HasNumber rows (codes "max-blob") max_blob
  pub sized : IsSized slots max_blob

-- the options have this number of workers, within its limits
pub record HaveWorkers (rows : List Row) (workers : ℕ) : Type 0 where
  pub workers_given : HasNumber rows (codes "workers") workers
  pub enough : IsWorkerCount workers

-- the options have no such numbers
abbrev pub HaveNoNumbers : List Row → Type 0
HaveNoNumbers rows = (slots max_blob : ℕ) → HaveNumbers rows slots max_blob → ⊥

-- the options have no such number of workers
abbrev pub HaveNoWorkers : List Row → Type 0
HaveNoWorkers rows = (workers : ℕ) → HaveWorkers rows workers → ⊥

-- the value is the numbers of the options, or `None` if these have none
abbrev pub ReadsNumbers : List Row → Option (ℕ × ℕ) → Type 0
ReadsNumbers rows value = MatchOption value (HaveNoNumbers rows) (λ n. HaveNumbers rows n.0 n.1)

-- the value is the number of workers, or `None` if the options have none
abbrev pub ReadsWorkers : List Row → Option ℕ → Type 0
ReadsWorkers rows value = MatchOption value (HaveNoWorkers rows) (HaveWorkers rows)

-- the words for the tenants, in their order
abbrev pub tenant_args : List Row → List Text
tenant_args rows = unwrap_or (all_of (codes "tenants") rows) []

-- the options are those of the found words, with contents in memory, and slots of generation 0 at first
pub record AreOptionsOf (rows : List Row) (options : Options) : Type 0 where
  pub numbers : HaveNumbers rows options.store.slots options.store.max_blob
  pub tenants : SpellTenants false (tenant_args rows) (tenants_shown options.store.tenants.items)
  pub kept_in_memory : options.store.on_disk ≡ false
  pub first : options.store.first_generation ≡ 0
  pub workers : HaveWorkers rows options.workers

-- why the found words give no options: a number out of its limits, or a bad tenant; `Memory` may replace either
abbrev pub RefusesFound : List Row → Stop → Type 0
RefusesFound rows (Help text) = ⊥
RefusesFound rows (Usage text) = HaveNoNumbers rows ⊎ HaveNoWorkers rows
RefusesFound rows BadTenant = HasBadTenant false (tenant_args rows)
RefusesFound rows NotUtf8 = ⊥
RefusesFound rows Memory = ⊤

-- ---- the words

-- `clap` accepts the words, and these are their options
pub record SpellOptions (words : List Text) (options : Options) : Type 0 where
  pub taken : fault_of program words ≡ []
  pub found : AreOptionsOf (matches_of program words) options

-- why the words give no options: the first fault of the words, help included, or else the found options; `Memory` may replace either
abbrev pub RefusesWords : List Text → Stop → Type 0
RefusesWords words (Help text) = IsAmong DisplayHelp (fault_of program words)
RefusesWords words (Usage text) = ((kind : ErrorKind) × (kind ≢ DisplayHelp) × IsAmong kind (fault_of program words)) ⊎ ((fault_of program words ≡ []) × RefusesFound (matches_of program words) (Usage text))
RefusesWords words BadTenant = (fault_of program words ≡ []) × HasBadTenant false (tenant_args (matches_of program words))
RefusesWords words NotUtf8 = ⊥
RefusesWords words Memory = ⊤
