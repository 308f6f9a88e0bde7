-- The arguments of the command line.
use Rattle.std.specs.Prelude.{⊤, ◌≡◌, ◌≢◌, ◌⊎◌, ◌%◌, ◌≤◌, ℕ, List, [], ◌∷◌, Bool, true, false, Option, Some, None, MatchOption, String, bytes_eq, codes, is_some, length, map, string_bytes}
use Rattle.std.specs.declared.alloc.Global.{Global}
use Rattle.std.specs.List.{after_first, before_first}
use Rattle.spec_lib.specs.Texts.{Text}
use Rattle.blob_digest.specs.Ranges.{number_of}
use Rattle.store_book.specs.declared.config.Config.{Config}
use Rattle.store_book.specs.Openings.{HasNames, IsSized, IsWithinLimits, tenants_shown}
use Rattle.tenant_args.specs.Tenants.{HasBadTenant, SpellTenants}
use Rattle.server_cli.specs.declared.stop.Stop.{Stop}
use Rattle.server_cli.specs.declared.stop.Stop.TheVariants.{Usage, Memory}
use Rattle.server_cli.specs.declared.arguments.Options.{Options}
use Rattle.server_cli.specs.Flags.{AskForLog, FlagValues, IsWithoutFolder, flags_of}

-- the argument `--`, which ends the tenants
abbrev pub is_end_of_tenants : Text → Bool
is_end_of_tenants word = bytes_eq word (codes "--")

-- the texts of arguments
abbrev pub texts_of : List (String Global) → List Text
texts_of words = map string_bytes words

-- the number is the one that the text spells, if it spells one up to the limit
abbrev pub IsNumberWithin : Text → ℕ → Option ℕ → Type 0
IsNumberWithin text most number = MatchOption number ((n : ℕ) → number_of text ≡ Some n → n ≤ most → ⊥) (λ n. (number_of text ≡ Some n) × (n ≤ most))

-- the arguments after the options spell the settings: slots, limit of blobs, tenants up to `--`, and two paths for each connection
pub record SpellsSettings (words : List Text) (store : Config) (given : List Text) : Type 0 where
  pub slots : Text
  pub max_blob : Text
  pub rest : List Text
  pub parts : words ≡ slots ∷ max_blob ∷ rest
  pub slots_are : number_of slots ≡ Some store.slots
  pub max_blob_is : number_of max_blob ≡ Some store.max_blob
  pub tenants : SpellTenants true (before_first is_end_of_tenants rest) (tenants_shown store.tenants.items)
  pub paths : given ≡ after_first is_end_of_tenants rest
  pub paired : length (after_first is_end_of_tenants rest) % 2 ≡ 0

-- the arguments after the program's name spell the options: those of the log, and the settings
pub record SpellsOptions (words : List Text) (options : Options) : Type 0 where
  pub program : Text
  pub after : List Text
  pub flags : FlagValues
  pub settings : List Text
  pub parts : words ≡ program ∷ after
  pub flags_are : flags_of after ≡ Some (flags, settings)
  pub log : AskForLog flags options.log
  pub place : options.store.on_disk ≡ is_some options.log
  pub spelled : SpellsSettings settings options.store (texts_of options.paths.now)

-- a store can be made by the settings
pub record IsWithin (store : Config) : Type 0 where
  pub sized : IsSized store.slots store.max_blob
  pub names : HasNames (tenants_shown store.tenants.items)
  pub limits : IsWithinLimits (tenants_shown store.tenants.items)
  pub first : store.first_generation ≡ 0

-- there are too few settings, or a number is missing or past its limit, or a tenant is wrong, or the number of paths is odd
abbrev pub AreWrongSettings : List Text → Type 0
AreWrongSettings (slots ∷ max_blob ∷ rest) =
    ((s m : ℕ) → number_of slots ≡ Some s → number_of max_blob ≡ Some m → IsSized s m → ⊥)
    ⊎ HasBadTenant true (before_first is_end_of_tenants rest)
    ⊎ (length (after_first is_end_of_tenants rest) % 2 ≢ 0)
AreWrongSettings words = ⊤

-- the settings are refused because they are wrong, or memory ran out
abbrev pub RefusesSettings : List Text → Stop → Type 0
RefusesSettings words Usage = AreWrongSettings words
RefusesSettings words Memory = ⊤
RefusesSettings words stop = ⊥

-- an option is wrong or there twice, or an option needs a folder, or the settings are wrong
abbrev pub AreWrongAfter : Option (FlagValues × List Text) → Type 0
AreWrongAfter None = ⊤
AreWrongAfter (Some (flags, settings)) = IsWithoutFolder flags ⊎ AreWrongSettings settings

-- there is no argument, or those after the program's name are wrong
abbrev pub AreWrongArguments : List Text → Type 0
AreWrongArguments [] = ⊤
AreWrongArguments (program ∷ words) = AreWrongAfter (flags_of words)

-- the arguments are refused because they are wrong, or memory ran out
abbrev pub RefusesArguments : List Text → Stop → Type 0
RefusesArguments words Usage = AreWrongArguments words
RefusesArguments words Memory = ⊤
RefusesArguments words stop = ⊥
