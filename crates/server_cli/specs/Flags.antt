-- The options in front of the settings.
use Rattle.std.specs.Prelude.{◌≡◌, ◌≢◌, ℕ, Bool, true, false, List, ◌∷◌, Option, Some, None, MatchOption, bytes_eq, codes, cond}
use Rattle.std.specs.Option.{option_and_then, option_map, unwrap_or}
use Rattle.spec_lib.specs.Texts.{Text}
use Rattle.blob_digest.specs.Ranges.{number_of}
use Rattle.locked_book.specs.declared.policy.LogPolicy.{LogPolicy}
use Rattle.locked_book.specs.declared.policy.LogPolicy.TheVariants.{Never, Closes, Each}
use Rattle.server_cli.specs.declared.flags.Flags.{Flags}
use Rattle.server_cli.specs.declared.flags.LogOptions.{LogOptions}

-- the values of the options: the folder, the policy, the offset at which a damaged log may be cut, and whether contents are hashed by SHA-512 too
pub record FlagValues : Type 0 where
  pub folder : Option Text
  pub sync : Option LogPolicy
  pub loss : Option ℕ
  pub sha512 : Bool

-- the values of these options
abbrev pub flags_shown : Flags → FlagValues
flags_shown flags = record { folder = option_map (λ f. f.now) flags.folder; sync = flags.sync; loss = flags.loss; sha512 = flags.sha512 }

-- no option
abbrev pub no_flags : FlagValues
no_flags = record { folder = None; sync = None; loss = None; sha512 = false }

-- the policy that a word names
abbrev pub sync_of : Text → Option LogPolicy
sync_of word =
    cond (bytes_eq word (codes "closes")) (Some Closes)
    (cond (bytes_eq word (codes "each")) (Some Each)
    (cond (bytes_eq word (codes "never")) (Some Never) None))

-- the value, unless there is one already
abbrev pub set_once : {A : Type 0} → Option A → A → Option A
set_once (Some old) value = None
set_once None value = Some value

-- the options with this folder, if there was none
abbrev pub with_folder : FlagValues → Text → Option FlagValues
with_folder flags folder = option_map (λ f. record flags { folder = Some f }) (set_once flags.folder folder)

-- the options with this policy, if there is one and there was none
abbrev pub with_sync : FlagValues → Option LogPolicy → Option FlagValues
with_sync flags sync = option_map (λ s. record flags { sync = Some s }) (option_and_then (set_once flags.sync) sync)

-- the options with this offset, if there is one and there was none
abbrev pub with_loss : FlagValues → Option ℕ → Option FlagValues
with_loss flags loss = option_map (λ l. record flags { loss = Some l }) (option_and_then (set_once flags.loss) loss)

-- the options with SHA-512 too, if it was not there
abbrev pub with_sha512 : FlagValues → Option FlagValues
with_sha512 flags = cond flags.sha512 None (Some (record flags { sha512 = true }))

-- the options, if they are right, and the other arguments
abbrev pub and_rest : List Text → Option FlagValues → Option (FlagValues × List Text)
and_rest rest flags = option_map (λ f. (f, rest)) flags

-- the options with the one that the first two arguments spell, if they spell one, and the other arguments
abbrev pub next_flag : FlagValues → List Text → Option (FlagValues × List Text)
next_flag flags (name ∷ value ∷ rest) =
    cond (bytes_eq name (codes "--sha512")) (and_rest (value ∷ rest) (with_sha512 flags))
    (cond (bytes_eq name (codes "--data")) (and_rest rest (with_folder flags value))
    (cond (bytes_eq name (codes "--sync")) (and_rest rest (with_sync flags (sync_of value)))
    (cond (bytes_eq name (codes "--accept-loss-after")) (and_rest rest (with_loss flags (number_of value)))
    (Some (flags, name ∷ value ∷ rest)))))
next_flag flags words = Some (flags, words)

-- the options with one more, if the arguments that are left spell one, and the other arguments
abbrev pub next_of : FlagValues × List Text → Option (FlagValues × List Text)
next_of r = next_flag r.0 r.1

-- The options at the front of the arguments, at most one of each of the four kinds, and the other arguments. Nothing if a value is wrong.
abbrev pub flags_of : List Text → Option (FlagValues × List Text)
flags_of words = option_and_then next_of (option_and_then next_of (option_and_then next_of (next_flag no_flags words)))

-- there is an option, and no folder
abbrev pub IsWithoutFolder : FlagValues → Type 0
IsWithoutFolder flags = (flags.folder ≡ None) × (flags ≢ no_flags)

-- the options ask for this log, with the policy `closes` unless they name another; without options there is none
abbrev pub AskForLog : FlagValues → Option LogOptions → Type 0
AskForLog flags None = flags ≡ no_flags
AskForLog flags (Some log) = (flags.folder ≡ Some log.folder.now) × (log.policy ≡ unwrap_or flags.sync Closes) × (log.accepted_loss ≡ flags.loss) × (log.sha512 ≡ flags.sha512)
