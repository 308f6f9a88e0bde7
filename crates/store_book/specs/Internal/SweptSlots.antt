-- The effect of a sweep on the slots and their bounds.
use Rattle.std.specs.Prelude.{◌≡◌, ◌+◌, ◌<◌, ◌≤◌, ◌^◌, ◌==◌, ◌&&◌, not, ℕ, Bool, true, false, Some, count_by, cond, drop, length, slice_get, slice_index}
use Rattle.std.specs.Option.{option_map_or}
use Rattle.pin_table.specs.declared.reclaim.Reclaim.{Reclaim}
use Rattle.pin_table.specs.declared.reclaim.Reclaim.TheVariants as reclaim
use Rattle.slot_table.specs.Slots.{Slot, stored_blob_in, is_orphan, is_retired, on_stored_blob, mark, freed_slot, retire}
use Rattle.store_book.specs.Layers.{is_lent}
use Rattle.store_book.specs.Pinned.{Pinned}
use Rattle.store_book.specs.SweepParts.{is_between}
use Rattle.store_model.specs.declared.swept.Swept.{Swept}

-- whether a slot holds a live blob without links
abbrev pub is_live_orphan : Slot → Bool
is_live_orphan s = option_map_or (λ h. h.links == 0 && not h.condemned) (stored_blob_in s.content) false

-- the counts with one more orphan, which was live or not and whose slot became this
abbrev pub counts_with : Bool → Reclaim → Swept → Swept
counts_with live reclaim.Freed n = record { condemned = n.condemned + cond live 1 0; freed = n.freed + 1; held = n.held; retired = n.retired }
counts_with live reclaim.Retired n = record { condemned = n.condemned + cond live 1 0; freed = n.freed; held = n.held; retired = n.retired + 1 }
counts_with live (reclaim.Held weight) n = record { condemned = n.condemned + cond live 1 0; freed = n.freed; held = n.held + 1; retired = n.retired }

-- A slot s with its bound became t with its new one: unchanged if it holds no orphan. Else it is condemned and held by pins, which only
-- happens to a leased blob; or it is free in the next generation, or retired in the last one.
pub data IsSweptTo (s : Slot) (bound : ℕ) (t : Slot) (now : ℕ) : Type 0 where
  kept : is_orphan s ≡ false → t ≡ s → now ≡ bound → IsSweptTo s bound t now
  held : is_orphan s ≡ true → is_lent s ≡ true → t ≡ on_stored_blob (mark true) s → now ≤ bound → IsSweptTo s bound t now
  freed : is_orphan s ≡ true → s.generation + 1 < 2 ^ 32 → t ≡ freed_slot s → now ≡ 0 → IsSweptTo s bound t now
  retired : is_orphan s ≡ true → s.generation + 1 ≡ 2 ^ 32 → t ≡ retire s → now ≡ 0 → IsSweptTo s bound t now

-- A slot that was reached was swept. Another one is unchanged with its bound.
abbrev pub IsLeftBy : Bool → Slot → ℕ → Slot → ℕ → Type 0
IsLeftBy true s bound t now = IsSweptTo s bound t now
IsLeftBy false s bound t now = (t ≡ s) × (now ≡ bound)

-- Each slot from a place up to another was swept once. The counts are those of the orphans there: the live ones, the remaining ones, and all of
-- them.
pub record Sweeps (from to : ℕ) (p q : Pinned) (swept : Swept) : Type 0 where
  pub table : q.table ≡ p.table
  pub long : length q.slots ≡ length p.slots
  pub onwards : from ≤ to
  pub each : (k : ℕ) (s : Slot) → slice_get p.slots k ≡ Some s → (t : Slot) × (slice_get q.slots k ≡ Some t) × IsLeftBy (is_between from to k) s (slice_index p.bounds k) t (slice_index q.bounds k)
  pub condemned : swept.condemned + count_by is_live_orphan (drop to p.slots) ≡ count_by is_live_orphan (drop from p.slots)
  pub held : swept.held + count_by is_orphan (drop to q.slots) ≡ count_by is_orphan (drop from q.slots)
  pub gone : count_by is_orphan q.slots + (swept.freed + swept.retired) ≡ count_by is_orphan p.slots
  pub retired : count_by is_retired q.slots ≡ count_by is_retired p.slots + swept.retired
  pub last : 0 < swept.retired → (k : ℕ) × (s : Slot) × (slice_get p.slots k ≡ Some s) × (s.generation + 1 ≡ 2 ^ 32)
