-- Leases as contracts see them.
use Rattle.std.specs.Prelude.{◌≡◌, ◌-◌, ◌⊎◌, ◌++◌, ℕ, List, [], drop, length, min, take}
use Rattle.atomic_table.specs.Seated.{TableId}
use Rattle.blob_digest.specs.declared.refusal.Refusal.{Refusal}
use Rattle.blob_digest.specs.declared.refusal.Refusal.TheVariants.{Memory, WeightSpent}
use Rattle.spec_lib.specs.Texts.{Text}
use Rattle.pin_core.specs.declared.world.PinRecord.{PinRecord}
use Rattle.pin_core.specs.Events.{half}
use Rattle.store_book.specs.Pinned.{blob_bytes, blob_digest}

-- the bytes of a blob, with the slot, the generation, the digest and the weight of its pin
pub record LeaseValue : Type 0 where
  pub bytes : Text
  pub hold : PinRecord

-- the same lease with half the weight
abbrev pub half_lease : LeaseValue → LeaseValue
half_lease l = record { bytes = l.bytes; hold = half l.hold }

-- both leases are this one with half the weight
abbrev pub AreHalves : LeaseValue → LeaseValue → LeaseValue → Type 0
AreHalves left right l = (left ≡ half_lease l) × (right ≡ half_lease l)

-- the blob has the bytes of the lease and the digest of its pin
abbrev pub IsBlobOf : LeaseValue → Text × Text → Type 0
IsBlobOf l blob = (blob_bytes blob ≡ l.bytes) × (blob_digest blob ≡ l.hold.digest)

-- sharing the lease is out of memory, or the lease weighs 1
abbrev pub RefusesShare : Refusal → LeaseValue → Type 0
RefusesShare e l = (e ≡ Memory) ⊎ ((e ≡ WeightSpent) × (l.hold.weight ≡ 1))

-- n bytes from an offset on, as many as there are and fit, are at the begin of a buffer, whose rest is unchanged
pub record ReadsAt (bytes : Text) (offset : ℕ) (old new : List ℕ) (n : ℕ) : Type 0 where
  pub count : n ≡ min (length old) (length bytes - offset)
  pub copied : new ≡ take n (drop offset bytes) ++ drop n old

-- the table of no pin
abbrev pub no_table : TableId
no_table = record { words = 0; slots = 0; views_name = 0; atom = 0; block = 0; offset = 0; slot_names = [] }
