use Rattle.std.proofs.Common.{◌≡◌, ◌∙◌, List, ap, arith, subst, sym, true, ℕ}
use Rattle.content_files.proofs.Held.{held_noted}
use Rattle.content_files.specs.Held.{IsHeld}
use Rattle.content_files.specs.Notes.{is_read}
use Rattle.content_files.proofs.disk_content.DiskContent.noted.Goals as goal

pub invariant_of-result : goal.invariant_of-result
invariant_of-result c =
    let front : List ℕ = c.args.content.now.items in
    let read : is_read front ≡ true = ap is_read (sym c.as_slice.ensures.value) ∙ c.reveal_read.ensures in
    let held = held_noted front c.args.name c.len-base.result c.in_ok-pieces.pieces c.add_notes.new.self c.args.notes.now c.in-Some.len c.in_ok-pieces.ensures (omega arith) c.add_notes.ensures.lies c.in_ok-add_notes.ensures.ok
    (omega (arith, c.in-Some.ensures, c.total.ensures)) read in
    subst (λ (l : List ℕ). IsHeld l c.in-Some.len c.add_notes.new.self c.first_after-first_unread.result) (λ i. (sym c.replace.ensures.value i).items)
    (subst (IsHeld front c.in-Some.len c.add_notes.new.self) (sym c.first_after-first_unread.ensures) held)
