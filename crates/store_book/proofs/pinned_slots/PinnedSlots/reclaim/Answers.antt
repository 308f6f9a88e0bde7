use Rattle.std.proofs.Common.{◌≡◌, ◌+◌, ◌<◌, ◌^◌, ap, ◌∙◌, arith}
use Rattle.slot_table.specs.declared.phase.Phase.TheVariants as phase
use Rattle.slot_table.specs.Slots.{freed_slot, generation_at, phase_at, retire}
use Rattle.store_book.specs.Pinned.{Pinned}
use Rattle.slot_table.proofs.Finding.{condemned_within}
use Rattle.store_book.proofs.Slots.Pinned.{one_each-looked}
use Rattle.store_book.proofs.Slots.Reclaimed.{generation_row, IsPinned-freed, IsPinned-retired}
use Rattle.store_book.proofs.pinned_slots.PinnedSlots.reclaim.Goals as goal

pub share_of-blob-requires : goal.share_of-blob-requires
share_of-blob-requires c =
    condemned_within c.self.inside.slots c.args.slot (ap (λ (p : Pinned). phase_at p.slots c.args.slot) c.self.view_is ∙ c.requires.condemned)

pub invariant_of-self : goal.invariant_of-self
invariant_of-self c =
    let e = c.in-Freed.ensures.answer in
    let is : phase_at c.self.inside.slots c.args.slot ≡ phase.Condemned = ap (λ (p : Pinned). phase_at p.slots c.args.slot) c.self.view_is ∙ c.requires.condemned in
    rw (c.free.ensures, e.1) (IsPinned-freed c.self.inside.slots c.self.inside.keeper.rows c.self.inside.keeper.bounds c.self.invariant.0 c.args.slot is e.0, one_each-looked c.self.inside.slots c.self.inside.keeper.looks c.args.slot freed_slot c.self.invariant.1)

pub invariant_of-self-in-Retired : goal.invariant_of-self-in-Retired
invariant_of-self-in-Retired c =
    let e = c.in-Retired.ensures.answer in
    let is : phase_at c.self.inside.slots c.args.slot ≡ phase.Condemned = ap (λ (p : Pinned). phase_at p.slots c.args.slot) c.self.view_is ∙ c.requires.condemned in
    rw (c.retire.ensures, e.1) (IsPinned-retired c.self.inside.slots c.self.inside.keeper.rows c.self.inside.keeper.bounds c.self.invariant.0 c.args.slot is e.0, one_each-looked c.self.inside.slots c.self.inside.keeper.looks c.args.slot retire c.self.invariant.1)

pub returns-in-Freed-clause-answer : goal.returns-in-Freed-clause-answer
returns-in-Freed-clause-answer c =
    let e = c.in-Freed.ensures.answer in
    let is : phase_at c.self.inside.slots c.args.slot ≡ phase.Condemned = ap (λ (p : Pinned). phase_at p.slots c.args.slot) c.self.view_is ∙ c.requires.condemned in
    let young : generation_at c.self.inside.slots c.args.slot + 1 < 2 ^ 32 = (let g = generation_row c.self.inside.slots c.self.inside.keeper.rows c.self.inside.keeper.bounds c.self.invariant.0 c.args.slot is in let y = e.0 in omega arith) in
    rw (c.in-Freed.is, ← c.self.view_is) (young, (λ i. record { table = (e.1 i).table; slots = c.free.ensures i; bounds = (e.1 i).bounds; looks = (e.1 i).looks }))

pub returns-in-Retired-clause-answer : goal.returns-in-Retired-clause-answer
returns-in-Retired-clause-answer c =
    let e = c.in-Retired.ensures.answer in
    let is : phase_at c.self.inside.slots c.args.slot ≡ phase.Condemned = ap (λ (p : Pinned). phase_at p.slots c.args.slot) c.self.view_is ∙ c.requires.condemned in
    let last : generation_at c.self.inside.slots c.args.slot + 1 ≡ 2 ^ 32 = (let g = generation_row c.self.inside.slots c.self.inside.keeper.rows c.self.inside.keeper.bounds c.self.invariant.0 c.args.slot is in let y = e.0 in omega arith) in
    rw (c.in-Retired.is, ← c.self.view_is) (last, (λ i. record { table = (e.1 i).table; slots = c.retire.ensures i; bounds = (e.1 i).bounds; looks = (e.1 i).looks }))
