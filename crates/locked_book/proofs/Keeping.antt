-- Calls keep the invariant: each checked-out session can still be counted, and the totals are balanced.
use Rattle.std.proofs.Common.{◌≡◌, ℕ, Bool, not, Result, Ok, ap, length, arith, refl, subst, sym, ◌∙◌}
use Rattle.blob_digest.specs.declared.refusal.Refusal.{Refusal}
use Rattle.blob_digest.specs.declared.refusal.Refusal.TheVariants.{LimitReached}
use Rattle.spec_lib.specs.Outcomes.{refuse}
use Rattle.store_model.specs.Amounts.{Amounts, command_amounts_of, add_amounts}
use Rattle.store_model.specs.Catalog.{Catalog}
use Rattle.spec_lib.specs.Texts.{Text}
use Rattle.store_model.specs.Sweep.{IsSweepOf}
use Rattle.store_model.specs.declared.swept.Swept.{Swept}
use Rattle.store_book.specs.BookState.{BookState}
use Rattle.locked_book.specs.Counting.{StoreContent, IsKeptState, has_room}
use Rattle.locked_book.specs.Names.{StoreNames, setting_of}
use Rattle.locked_book.specs.Totals.{Counts}
use Rattle.locked_book.proofs.Rooms.{added, room_given}
use Rattle.locked_book.proofs.SessionSums.{Sums, still_sums}

-- the invariant holds after a command that receives nothing, checks nothing out and abandons this many bytes
pub counted_kept : (names : StoreNames) (b b' : BookState) (k k' : Counts) (seen : StoreContent) (hands reserve left : ℕ) (u : Unit {0}) → IsKeptState names b k hands reserve → Sums b.catalog b'.catalog 0 0 0 0 0 left
    → k' ≡ record k { totals = add_amounts k.totals (command_amounts_of 0 0 left) } → ◌≡◌ {A = StoreContent} (record { book = b; counts = k }) seen → ◌≡◌ {A = Result (Unit {0}) Refusal} (Ok u) (refuse (not (has_room seen 0)) LimitReached)
    → b'.table ≡ b.table → length b'.slots ≡ length b.slots → IsKeptState names b' k' hands reserve
counted_kept names b b' k k' seen hands reserve left u was sums counts same has table slots =
    let out = sums.hands in
    let held = sums.reserve in
    let bytes = sums.bytes in
    let totals = added k k' (command_amounts_of 0 0 left) counts in
    let room = room_given (record { book = b; counts = k }) seen 0 u same has in (
      omega (arith, was.0, out),
      omega (arith, was.1, held),
      omega (arith, was.0, room.0, totals.commands),
      omega (arith, was.1, room.1, totals.received),
      omega (arith, was.4, bytes, totals.received, totals.closed, totals.abandoned),
      table ∙ was.5,
      slots ∙ was.6,
      sums.setting ∙ was.7,
    )

-- the invariant holds after a call that counts nothing and changes no session
pub uncounted_kept : (names : StoreNames) (b b' : BookState) (k k' : Counts) (hands reserve : ℕ) → IsKeptState names b k hands reserve → Sums b.catalog b'.catalog 0 0 0 0 0 0 → k' ≡ k → b'.table ≡ b.table → length b'.slots ≡ length b.slots → IsKeptState names b' k' hands reserve
uncounted_kept names b b' k k' hands reserve was sums counted table slots =
    let out = sums.hands in
    let held = sums.reserve in
    let bytes = sums.bytes in
    let commands = ap (λ (c : Counts). c.totals.commands) counted in
    let received = ap (λ (c : Counts). c.totals.received) counted in
    let closed = ap (λ (c : Counts). c.totals.closed) counted in
    let abandoned = ap (λ (c : Counts). c.totals.abandoned) counted in (
      omega (arith, was.0, out),
      omega (arith, was.1, held),
      omega (arith, was.2, commands),
      omega (arith, was.3, received),
      omega (arith, was.4, bytes, received, closed, abandoned),
      table ∙ was.5,
      slots ∙ was.6,
      sums.setting ∙ was.7,
    )

-- so it does after a sweep or part of one
pub swept_kept : (reached : Text → Bool) (names : StoreNames) (b b' : BookState) (k : Counts) (hands reserve : ℕ) (swept : Swept) → IsKeptState names b k hands reserve → IsSweepOf reached b.catalog swept b'.catalog → b'.table ≡ b.table → length b'.slots ≡ length b.slots → IsKeptState names b' k hands reserve
swept_kept reached names b b' k hands reserve swept was sweeps table slots =
    uncounted_kept names b b' k k hands reserve was (still_sums b.catalog b'.catalog (ap (λ (C : Catalog). C.sessions) sweeps.rest) (ap setting_of sweeps.rest)) refl table slots

-- and after desks were settled
pub settled_kept : (names : StoreNames) (b : BookState) (k k' : Counts) (hands reserve : ℕ) → k'.totals ≡ k.totals → IsKeptState names b k hands reserve → IsKeptState names b k' hands reserve
settled_kept names b k k' hands reserve same was = subst (λ (t : Amounts). IsKeptState names b (record k' { totals = t }) hands reserve) (sym same) was
