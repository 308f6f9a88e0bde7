use Rattle.std.proofs.Common.{◌≡◌, ◌-◌, ◌*◌, ◌<◌, ◌≤◌, ◌++◌, ◌∷◌, [], length, true, false, refl, Result, Ok, Err, None, Some, sym, ◌∙◌, ap, arith}
use Rattle.std.specs.Prelude.{slice_get}
use Rattle.std.specs.Result.{is_err, OnOk, OnErr}
use Rattle.std.specs.Vec.{vec_len, vec_capacity}
use Rattle.slot_table.specs.Slots.{fill, slot_of}
use Rattle.slot_table.specs.Indexes.{IsSlotIndex}
use Rattle.slot_table.proofs.Stacking.{stacked_free, free_within, popped}
use Rattle.slot_table.proofs.Padding.{restocked, none_free, some_free, slot_of-padded, free_phase, with_slot-padded, room-noted}
use Rattle.slot_table.proofs.Changes.{placed, taken_back, index_unchanged}
use Rattle.slot_table.proofs.SlotSets.{orphans-set}
use Rattle.slot_table.proofs.table.SlotTable.place.Goals as goal

is_done : {T E P : Type 0} (r : Result T E) → is_err r ≡ false → OnOk r P → P
is_done (Ok v) e p = p
is_done (Err v) e p = absurd cc

is_failed : {T E P : Type 0} (r : Result T E) → is_err r ≡ true → OnErr r P → P
is_failed (Ok v) e p = absurd cc
is_failed (Err v) e p = p

pub index_mut-requires : goal.index_mut-requires
index_mut-requires c =
    let n = c.self.inside.slots in
    let g = c.self.inside.first_generation in
    let rows = c.restock.new.rows.items in
    let stack = c.restock.new.stack.items in
    let stock = restocked n g c.self.inside.rows.items rows c.self.inside.index c.self.inside.free.items stack c.self.inside.orphans (vec_capacity c.self.inside.rows) (vec_capacity c.self.inside.free) (vec_capacity c.restock.new.rows) (vec_capacity c.restock.new.stack)
    c.self.invariant.0 c.self.invariant.1 c.self.invariant.2 c.self.invariant.3 c.restock.ensures.row_room c.restock.ensures.stack_room c.restock.ensures.made in
    let slot = c.in-Some.slot in
    let top : slice_get stack (length stack - 1) ≡ Some slot = sym (c.in-Some.ensures ∙ c.last.ensures.value ∙ ap (λ xs. slice_get xs (length xs - 1)) c.deref.ensures.value) in
    let free = stacked_free rows stack (length stack - 1) slot stock.indexed.stacked top in
    let within : slot < length rows = free_within rows slot free in
    omega arith

pub set-requires : goal.set-requires
set-requires c =
    let n = c.self.inside.slots in
    let g = c.self.inside.first_generation in
    let rows = c.restock.new.rows.items in
    let stack = c.restock.new.stack.items in
    let stock = restocked n g c.self.inside.rows.items rows c.self.inside.index c.self.inside.free.items stack c.self.inside.orphans (vec_capacity c.self.inside.rows) (vec_capacity c.self.inside.free) (vec_capacity c.restock.new.rows) (vec_capacity c.restock.new.stack)
    c.self.invariant.0 c.self.invariant.1 c.self.invariant.2 c.self.invariant.3 c.restock.ensures.row_room c.restock.ensures.stack_room c.restock.ensures.made in
    let slot = c.in-Some.slot in
    let top : slice_get stack (length stack - 1) ≡ Some slot = sym (c.in-Some.ensures ∙ c.last.ensures.value ∙ ap (λ xs. slice_get xs (length xs - 1)) c.deref.ensures.value) in
    let free = stacked_free rows stack (length stack - 1) slot stock.indexed.stacked top in
    let within : slot < length rows = free_within rows slot free in
    let roomy : length rows ≤ 64 * length c.self.inside.orphans = stock.noted.roomy in
    omega arith

pub returns-in-Ok-clause-free : goal.returns-in-Ok-clause-free
returns-in-Ok-clause-free c =
    let n = c.self.inside.slots in
    let g = c.self.inside.first_generation in
    let rows = c.restock.new.rows.items in
    let stack = c.restock.new.stack.items in
    let stock = restocked n g c.self.inside.rows.items rows c.self.inside.index c.self.inside.free.items stack c.self.inside.orphans (vec_capacity c.self.inside.rows) (vec_capacity c.self.inside.free) (vec_capacity c.restock.new.rows) (vec_capacity c.restock.new.stack)
    c.self.invariant.0 c.self.invariant.1 c.self.invariant.2 c.self.invariant.3 c.restock.ensures.row_room c.restock.ensures.stack_room c.restock.ensures.made in
    let slot = c.in-Some.slot in
    let top : slice_get stack (length stack - 1) ≡ Some slot = sym (c.in-Some.ensures ∙ c.last.ensures.value ∙ ap (λ xs. slice_get xs (length xs - 1)) c.deref.ensures.value) in
    let free = stacked_free rows stack (length stack - 1) slot stock.indexed.stacked top in
    rw (← c.self.view_is, ← stock.same) (free_phase n g rows slot free)

pub invariant_of-self-in-Ok : goal.invariant_of-self-in-Ok
invariant_of-self-in-Ok c =
    let n = c.self.inside.slots in
    let g = c.self.inside.first_generation in
    let rows = c.restock.new.rows.items in
    let stack = c.restock.new.stack.items in
    let stock = restocked n g c.self.inside.rows.items rows c.self.inside.index c.self.inside.free.items stack c.self.inside.orphans (vec_capacity c.self.inside.rows) (vec_capacity c.self.inside.free) (vec_capacity c.restock.new.rows) (vec_capacity c.restock.new.stack)
    c.self.invariant.0 c.self.invariant.1 c.self.invariant.2 c.self.invariant.3 c.restock.ensures.row_room c.restock.ensures.stack_room c.restock.ensures.made in
    let slot = c.in-Some.slot in
    let top : slice_get stack (length stack - 1) ≡ Some slot = sym (c.in-Some.ensures ∙ c.last.ensures.value ∙ ap (λ xs. slice_get xs (length xs - 1)) c.deref.ensures.value) in
    let free = stacked_free rows stack (length stack - 1) slot stock.indexed.stacked top in
    let within : slot < length rows = free_within rows slot free in
    let none : slot_of rows c.args.blob.0 ≡ None = sym (slot_of-padded n g rows c.args.blob.0 stock.roomy.made stock.roomy.few stock.sound) ∙ ap (λ s. slot_of s c.args.blob.0) stock.same ∙ (rw (← c.self.view_is) at c.requires) in
    let put = (is_done c.insert.result (sym c.is_err.ensures.value ∙ c.if-is_err.false) c.insert.ensures.updates).0 in
    let row = c.index_mut.result.now in
    let items : stack ≡ c.pop.new.self.items ++ slot ∷ [] = popped stack c.pop.new.self.items (vec_len c.restock.new.stack) slot c.pop.result (omega arith) top c.pop.ensures.value c.pop.ensures.items in
    let filled : c.fill.new.self ≡ fill c.args.blob row = c.fill.ensures ∙ ap (λ b. fill b row) c.in-Ok.ensures.ok in
    let kept : IsSlotIndex rows c.self.inside.index (c.pop.new.self.items ++ slot ∷ []) (vec_capacity c.pop.new.self) = rw (← items, c.pop.ensures.capacity) stock.indexed in
    let table = placed rows slot row c.args.blob c.self.inside.index c.insert.new.self c.pop.new.self.items (vec_capacity c.pop.new.self)
    stock.sound kept none free c.index_mut.ensures.value (rw c.digest-digest.ensures.value at put) in
    rw filled (
      table.0,
      table.1,
      orphans-set rows slot (fill c.args.blob row) true c.self.inside.orphans c.set.new.self within refl c.set.ensures.each c.set.ensures.len stock.noted,
      rw c.pop.ensures.capacity (room-noted slot (fill c.args.blob row) c.set.ensures.len stock.roomy),
    )

pub invariant_of-self-in-Err : goal.invariant_of-self-in-Err
invariant_of-self-in-Err c =
    let n = c.self.inside.slots in
    let g = c.self.inside.first_generation in
    let rows = c.restock.new.rows.items in
    let stack = c.restock.new.stack.items in
    let stock = restocked n g c.self.inside.rows.items rows c.self.inside.index c.self.inside.free.items stack c.self.inside.orphans (vec_capacity c.self.inside.rows) (vec_capacity c.self.inside.free) (vec_capacity c.restock.new.rows) (vec_capacity c.restock.new.stack)
    c.self.invariant.0 c.self.invariant.1 c.self.invariant.2 c.self.invariant.3 c.restock.ensures.row_room c.restock.ensures.stack_room c.restock.ensures.made in
    let none : slot_of rows c.args.blob.0 ≡ None = sym (slot_of-padded n g rows c.args.blob.0 stock.roomy.made stock.roomy.few stock.sound) ∙ ap (λ s. slot_of s c.args.blob.0) stock.same ∙ (rw (← c.self.view_is) at c.requires) in
    let put = (is_done c.insert.result (sym c.is_err.ensures.value ∙ c.if-is_err.false) c.insert.ensures.updates).0 in
    let kept = stock.indexed in (
      stock.sound,
      record {
        found = taken_back rows c.in-Some.slot c.digest-digest.result c.self.inside.index c.insert.new.self c.remove.new.self (rw c.digest-digest.ensures.value none) kept.found put c.remove.ensures.updates.0;
        stacked = kept.stacked;
        counted = kept.counted;
        roomy = kept.roomy;
      },
      stock.noted,
      stock.roomy,
    )

pub returns-in-Ok-clause-ok : goal.returns-in-Ok-clause-ok
returns-in-Ok-clause-ok c =
    let n = c.self.inside.slots in
    let g = c.self.inside.first_generation in
    let rows = c.restock.new.rows.items in
    let stack = c.restock.new.stack.items in
    let stock = restocked n g c.self.inside.rows.items rows c.self.inside.index c.self.inside.free.items stack c.self.inside.orphans (vec_capacity c.self.inside.rows) (vec_capacity c.self.inside.free) (vec_capacity c.restock.new.rows) (vec_capacity c.restock.new.stack)
    c.self.invariant.0 c.self.invariant.1 c.self.invariant.2 c.self.invariant.3 c.restock.ensures.row_room c.restock.ensures.stack_room c.restock.ensures.made in
    let slot = c.in-Some.slot in
    let top : slice_get stack (length stack - 1) ≡ Some slot = sym (c.in-Some.ensures ∙ c.last.ensures.value ∙ ap (λ xs. slice_get xs (length xs - 1)) c.deref.ensures.value) in
    let free = stacked_free rows stack (length stack - 1) slot stock.indexed.stacked top in
    let within : slot < length rows = free_within rows slot free in
    let row = c.index_mut.result.now in
    rw (← c.self.view_is, ← stock.same) (with_slot-padded n g rows slot row c.fill.new.self (fill c.args.blob) within c.index_mut.ensures.value (c.fill.ensures ∙ ap (λ b. fill b row) c.in-Ok.ensures.ok))

pub invariant_of-self : goal.invariant_of-self
invariant_of-self c =
    let n = c.self.inside.slots in
    let g = c.self.inside.first_generation in
    let rows = c.restock.new.rows.items in
    let stack = c.restock.new.stack.items in
    let stock = restocked n g c.self.inside.rows.items rows c.self.inside.index c.self.inside.free.items stack c.self.inside.orphans (vec_capacity c.self.inside.rows) (vec_capacity c.self.inside.free) (vec_capacity c.restock.new.rows) (vec_capacity c.restock.new.stack)
    c.self.invariant.0 c.self.invariant.1 c.self.invariant.2 c.self.invariant.3 c.restock.ensures.row_room c.restock.ensures.stack_room c.restock.ensures.made in
    (stock.sound, stock.indexed, stock.noted, stock.roomy)

pub invariant_of-self-then-is_err : goal.invariant_of-self-then-is_err
invariant_of-self-then-is_err c =
    let n = c.self.inside.slots in
    let g = c.self.inside.first_generation in
    let rows = c.restock.new.rows.items in
    let stack = c.restock.new.stack.items in
    let stock = restocked n g c.self.inside.rows.items rows c.self.inside.index c.self.inside.free.items stack c.self.inside.orphans (vec_capacity c.self.inside.rows) (vec_capacity c.self.inside.free) (vec_capacity c.restock.new.rows) (vec_capacity c.restock.new.stack)
    c.self.invariant.0 c.self.invariant.1 c.self.invariant.2 c.self.invariant.3 c.restock.ensures.row_room c.restock.ensures.stack_room c.restock.ensures.made in
    let same = is_failed c.insert.result (sym c.is_err.ensures.value ∙ c.if-is_err.true) c.insert.ensures.err in
    (stock.sound, index_unchanged rows c.self.inside.index c.insert.new.self stack (vec_capacity c.restock.new.stack) same stock.indexed, stock.noted, stock.roomy)

pub returns-in_default-clause-refused : goal.returns-in_default-clause-refused
returns-in_default-clause-refused c =
    let n = c.self.inside.slots in
    let g = c.self.inside.first_generation in
    let rows = c.restock.new.rows.items in
    let stack = c.restock.new.stack.items in
    let stock = restocked n g c.self.inside.rows.items rows c.self.inside.index c.self.inside.free.items stack c.self.inside.orphans (vec_capacity c.self.inside.rows) (vec_capacity c.self.inside.free) (vec_capacity c.restock.new.rows) (vec_capacity c.restock.new.stack)
    c.self.invariant.0 c.self.invariant.1 c.self.invariant.2 c.self.invariant.3 c.restock.ensures.row_room c.restock.ensures.stack_room c.restock.ensures.made in
    let top : slice_get stack (length stack - 1) ≡ None = sym (c.in_default.ensures ∙ c.last.ensures.value ∙ ap (λ xs. slice_get xs (length xs - 1)) c.deref.ensures.value) in
    rw (← c.self.view_is) (λ _. (refl, none_free stock top))

pub returns-in_default-clause-err : goal.returns-in_default-clause-err
returns-in_default-clause-err c =
    let n = c.self.inside.slots in
    let g = c.self.inside.first_generation in
    let rows = c.restock.new.rows.items in
    let stack = c.restock.new.stack.items in
    let stock = restocked n g c.self.inside.rows.items rows c.self.inside.index c.self.inside.free.items stack c.self.inside.orphans (vec_capacity c.self.inside.rows) (vec_capacity c.self.inside.free) (vec_capacity c.restock.new.rows) (vec_capacity c.restock.new.stack)
    c.self.invariant.0 c.self.invariant.1 c.self.invariant.2 c.self.invariant.3 c.restock.ensures.row_room c.restock.ensures.stack_room c.restock.ensures.made in
    stock.same ∙ c.self.view_is

pub returns-then-is_err-clause-err : goal.returns-then-is_err-clause-err
returns-then-is_err-clause-err c =
    let n = c.self.inside.slots in
    let g = c.self.inside.first_generation in
    let rows = c.restock.new.rows.items in
    let stack = c.restock.new.stack.items in
    let stock = restocked n g c.self.inside.rows.items rows c.self.inside.index c.self.inside.free.items stack c.self.inside.orphans (vec_capacity c.self.inside.rows) (vec_capacity c.self.inside.free) (vec_capacity c.restock.new.rows) (vec_capacity c.restock.new.stack)
    c.self.invariant.0 c.self.invariant.1 c.self.invariant.2 c.self.invariant.3 c.restock.ensures.row_room c.restock.ensures.stack_room c.restock.ensures.made in
    stock.same ∙ c.self.view_is

pub returns-in-Err-clause-err : goal.returns-in-Err-clause-err
returns-in-Err-clause-err c =
    let n = c.self.inside.slots in
    let g = c.self.inside.first_generation in
    let rows = c.restock.new.rows.items in
    let stack = c.restock.new.stack.items in
    let stock = restocked n g c.self.inside.rows.items rows c.self.inside.index c.self.inside.free.items stack c.self.inside.orphans (vec_capacity c.self.inside.rows) (vec_capacity c.self.inside.free) (vec_capacity c.restock.new.rows) (vec_capacity c.restock.new.stack)
    c.self.invariant.0 c.self.invariant.1 c.self.invariant.2 c.self.invariant.3 c.restock.ensures.row_room c.restock.ensures.stack_room c.restock.ensures.made in
    stock.same ∙ c.self.view_is

pub returns-then-is_err-clause-memory : goal.returns-then-is_err-clause-memory
returns-then-is_err-clause-memory c =
    let n = c.self.inside.slots in
    let g = c.self.inside.first_generation in
    let rows = c.restock.new.rows.items in
    let stack = c.restock.new.stack.items in
    let stock = restocked n g c.self.inside.rows.items rows c.self.inside.index c.self.inside.free.items stack c.self.inside.orphans (vec_capacity c.self.inside.rows) (vec_capacity c.self.inside.free) (vec_capacity c.restock.new.rows) (vec_capacity c.restock.new.stack)
    c.self.invariant.0 c.self.invariant.1 c.self.invariant.2 c.self.invariant.3 c.restock.ensures.row_room c.restock.ensures.stack_room c.restock.ensures.made in
    let slot = c.in-Some.slot in
    let top : slice_get stack (length stack - 1) ≡ Some slot = sym (c.in-Some.ensures ∙ c.last.ensures.value ∙ ap (λ xs. slice_get xs (length xs - 1)) c.deref.ensures.value) in
    rw (← c.self.view_is) (λ _. some_free stock slot top)

pub returns-in-Err-clause-memory : goal.returns-in-Err-clause-memory
returns-in-Err-clause-memory c =
    let n = c.self.inside.slots in
    let g = c.self.inside.first_generation in
    let rows = c.restock.new.rows.items in
    let stack = c.restock.new.stack.items in
    let stock = restocked n g c.self.inside.rows.items rows c.self.inside.index c.self.inside.free.items stack c.self.inside.orphans (vec_capacity c.self.inside.rows) (vec_capacity c.self.inside.free) (vec_capacity c.restock.new.rows) (vec_capacity c.restock.new.stack)
    c.self.invariant.0 c.self.invariant.1 c.self.invariant.2 c.self.invariant.3 c.restock.ensures.row_room c.restock.ensures.stack_room c.restock.ensures.made in
    let slot = c.in-Some.slot in
    let top : slice_get stack (length stack - 1) ≡ Some slot = sym (c.in-Some.ensures ∙ c.last.ensures.value ∙ ap (λ xs. slice_get xs (length xs - 1)) c.deref.ensures.value) in
    rw (← c.self.view_is) (λ _. some_free stock slot top)
