-- Options that are read.
use Rattle.std.proofs.Common.{◌≡◌, ◌∷◌, List, Some, bytes_eq, codes, false, true, refl}
use Rattle.spec_lib.specs.Texts.{Text}
use Rattle.blob_digest.specs.Ranges.{number_of}
use Rattle.server_cli.specs.Flags.{FlagValues, next_flag, sync_of, with_loss, with_sha512, with_sync}

-- an option `--sha512` is read
pub next_flag-sha512 : (flags : FlagValues) (name value : Text) (rest : List Text) (after : FlagValues) → bytes_eq name (codes "--sha512") ≡ true
    → with_sha512 flags ≡ Some after → next_flag flags (name ∷ value ∷ rest) ≡ Some (after, value ∷ rest)
next_flag-sha512 flags name value rest after is_sha512 added = rw (is_sha512, added) refl

-- an option `--sync` is read
pub next_flag-sync : (flags : FlagValues) (name value : Text) (rest : List Text) (after : FlagValues) → bytes_eq name (codes "--sha512") ≡ false → bytes_eq name (codes "--data") ≡ false → bytes_eq name (codes "--sync") ≡ true
    → with_sync flags (sync_of value) ≡ Some after → next_flag flags (name ∷ value ∷ rest) ≡ Some (after, rest)
next_flag-sync flags name value rest after not_sha512 not_data is_sync added = rw (not_sha512, not_data, is_sync, added) refl

-- an option `--accept-loss-after` is read
pub next_flag-loss : (flags : FlagValues) (name value : Text) (rest : List Text) (after : FlagValues) → bytes_eq name (codes "--sha512") ≡ false → bytes_eq name (codes "--data") ≡ false → bytes_eq name (codes "--sync") ≡ false
    → bytes_eq name (codes "--accept-loss-after") ≡ true → with_loss flags (number_of value) ≡ Some after → next_flag flags (name ∷ value ∷ rest) ≡ Some (after, rest)
next_flag-loss flags name value rest after not_sha512 not_data not_sync is_loss added = rw (not_sha512, not_data, not_sync, is_loss, added) refl
