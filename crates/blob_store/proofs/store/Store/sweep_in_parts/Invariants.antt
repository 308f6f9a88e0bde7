use Rattle.std.proofs.Common.{◌+◌, ◌≤◌, ◌-◌, ℕ, Option, suc}
use Rattle.std.specs.Option.{option_map_or}
use Rattle.blob_digest.specs.Slots.{greatest_slots}
use Rattle.store_book.specs.SweepParts.{visited_count}
use Rattle.store_model.specs.declared.swept.Swept.{Swept}
use Rattle.blob_store.specs.SweepParts.{MakesParts}
use Rattle.blob_store.proofs.store.Store.sweep_in_parts.Given as goal

-- where the next part starts, or the number of slots
abbrev pub place : ℕ → Option ℕ → ℕ
place count from = option_map_or (λ k. k) from count

abbrev pub invariant-parts : goal.invariant-parts
invariant-parts g l =
    MakesParts g.S.Naming.names (place g.S.Naming.names.slots l.from) l.swept l.fn.desk l.desk
    × (visited_count l.swept ≤ place g.S.Naming.names.slots l.from)
    × (l.swept.condemned ≤ visited_count l.swept)
    × (place g.S.Naming.names.slots l.from ≤ g.S.Naming.names.slots)

abbrev pub decreases-parts : goal.decreases-parts
decreases-parts g l = option_map_or (λ k. suc (g.S.Naming.names.slots - k)) l.from 0
