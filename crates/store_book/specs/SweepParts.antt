-- A part of a sweep, which goes over the slots from one place up to another.
use Rattle.std.specs.Prelude.{◌≡◌, ◌≤◌, ◌<◌, ◌+◌, ◌&&◌, ℕ, Bool, false, List, Option, None, nat_le, nat_lt, position}
use Rattle.std.specs.Option.{option_map_or}
use Rattle.blob_digest.specs.Slots.{greatest_slots}
use Rattle.spec_lib.specs.Texts.{Text, same_text}
use Rattle.store_book.specs.BookState.{BookState, SlotView}
use Rattle.store_book.specs.declared.sweep.SweptPart.{SweptPart}
use Rattle.store_model.specs.Sweep.{IsSweepOf}
use Rattle.store_model.specs.declared.swept.Swept.{Swept}

-- whether a place is not below `from`, and below `to`
abbrev pub is_between : ℕ → ℕ → ℕ → Bool
is_between from to k = nat_le from k && nat_lt k to

-- the place of the slot that has the blob of a digest
abbrev pub place_of : List SlotView → Text → Option ℕ
place_of slots d = position (λ s. option_map_or (λ e. same_text e d) s.digest false) slots

-- whether the slot of a digest is one of those from a place up to another
abbrev pub is_reached : ℕ → ℕ → List SlotView → Text → Bool
is_reached from to slots d = option_map_or (is_between from to) (place_of slots d) false

-- the part goes over the slots from a place up to another
abbrev pub IsPartOfSweep : ℕ → ℕ → BookState → Swept → BookState → Type 0
IsPartOfSweep from to old swept new = IsSweepOf (is_reached from to old.slots) old.catalog swept new.catalog

-- the number of blobs without links that a part of a sweep went over
abbrev pub visited_count : Swept → ℕ
visited_count swept = swept.freed + swept.held + swept.retired

-- the place at which a part ended: that of the next slot, or the number of slots
abbrev pub end_of : ℕ → SweptPart → ℕ
end_of count part = option_map_or (λ k. k) part.next count

-- A part that starts at a place and visits at most so many blobs. It ends after the last slot if it visits fewer.
pub record IsBoundedPart (from most count : ℕ) (part : SweptPart) : Type 0 where
  pub few : count ≤ greatest_slots
  pub within : end_of count part ≤ count
  pub visited : visited_count part.swept ≤ most
  pub condemned : part.swept.condemned ≤ visited_count part.swept
  pub onwards : from + visited_count part.swept ≤ end_of count part
  pub ends : visited_count part.swept < most → part.next ≡ None
