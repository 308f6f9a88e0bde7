use Rattle.std.proofs.Common.{◌≡◌, ◌∙◌, ◌+◌, ◌++◌, ap, arith, length, length-append, subst, sym}
use Rattle.content_files.proofs.Held.{add_noted, held_grown, held_kept, held_length, held_more, kept_more, on_err}
use Rattle.content_files.specs.Chunks.{read_notes}
use Rattle.content_files.specs.Held.{IsHeld, held}
use Rattle.content_files.specs.Notes.{joined}
use Rattle.content_files.proofs.disk_content.DiskContent.add_notes.Goals as goal

pub invariant_of-self : goal.invariant_of-self
invariant_of-self c =
    (held_kept c.self.inside.front.items c.self.inside.len c.in-Some.rest c.self.inside.pieces c.cut.new.self c.self.inside.first_unread (omega (arith, c.in-Some.ensures)) c.self.invariant (c.cut.ensures.lies, c.cut.ensures.same, c.cut.ensures.long)).0

pub returns-in_err-cut-clause-err : goal.returns-in_err-cut-clause-err
returns-in_err-cut-clause-err c =
    on_err c.from_residual.result
    ((held_kept c.self.inside.front.items c.self.inside.len c.in-Some.rest c.self.inside.pieces c.cut.new.self c.self.inside.first_unread (omega (arith, c.in-Some.ensures)) c.self.invariant (c.cut.ensures.lies, c.cut.ensures.same, c.cut.ensures.long)).1 ∙ c.self.view_is)

pub invariant_of-self-in_err-add_notes : goal.invariant_of-self-in_err-add_notes
invariant_of-self-in_err-add_notes c =
    let kept = kept_more c.in-Some.rest c.self.inside.pieces c.cut.new.self c.add_notes.new.self (c.cut.ensures.lies, c.cut.ensures.same, c.cut.ensures.long) c.in_ok-cut.ensures.ok c.add_notes.ensures.lies c.add_notes.ensures.begin c.add_notes.ensures.long in
    (held_kept c.self.inside.front.items c.self.inside.len c.in-Some.rest c.self.inside.pieces c.add_notes.new.self c.self.inside.first_unread (omega (arith, c.in-Some.ensures)) c.self.invariant kept).0

pub returns-in_err-add_notes-clause-err : goal.returns-in_err-add_notes-clause-err
returns-in_err-add_notes-clause-err c =
    let kept = kept_more c.in-Some.rest c.self.inside.pieces c.cut.new.self c.add_notes.new.self (c.cut.ensures.lies, c.cut.ensures.same, c.cut.ensures.long) c.in_ok-cut.ensures.ok c.add_notes.ensures.lies c.add_notes.ensures.begin c.add_notes.ensures.long in
    on_err c.from_residual-in_err-add_notes.result
    ((held_kept c.self.inside.front.items c.self.inside.len c.in-Some.rest c.self.inside.pieces c.add_notes.new.self c.self.inside.first_unread (omega (arith, c.in-Some.ensures)) c.self.invariant kept).1 ∙ c.self.view_is)

pub invariant_of-self-in_default-checked_add : goal.invariant_of-self-in_default-checked_add
invariant_of-self-in_default-checked_add c =
    let kept = kept_more c.in-Some.rest c.self.inside.pieces c.cut.new.self c.add_notes.new.self (c.cut.ensures.lies, c.cut.ensures.same, c.cut.ensures.long) c.in_ok-cut.ensures.ok c.add_notes.ensures.lies c.add_notes.ensures.begin c.add_notes.ensures.long in
    (held_kept c.self.inside.front.items c.self.inside.len c.in-Some.rest c.self.inside.pieces c.add_notes.new.self c.self.inside.first_unread (omega (arith, c.in-Some.ensures)) c.self.invariant kept).0

pub returns-in_default-checked_add-clause-err : goal.returns-in_default-checked_add-clause-err
returns-in_default-checked_add-clause-err c =
    let kept = kept_more c.in-Some.rest c.self.inside.pieces c.cut.new.self c.add_notes.new.self (c.cut.ensures.lies, c.cut.ensures.same, c.cut.ensures.long) c.in_ok-cut.ensures.ok c.add_notes.ensures.lies c.add_notes.ensures.begin c.add_notes.ensures.long in
    (held_kept c.self.inside.front.items c.self.inside.len c.in-Some.rest c.self.inside.pieces c.add_notes.new.self c.self.inside.first_unread (omega (arith, c.in-Some.ensures)) c.self.invariant kept).1 ∙ c.self.view_is

pub invariant_of-self-2 : goal.invariant_of-self-2
invariant_of-self-2 c =
    let old = held c.self.inside.front.items c.self.inside.len c.self.inside.pieces in
    let is : c.self.inside.len ≡ length c.self.inside.front.items + c.in-Some.rest = omega (arith, c.in-Some.ensures) in
    let size : c.in-Some-checked_add.len ≡ length c.self.inside.front.items + length (joined c.add_notes.new.self.each) = omega (arith, c.in-Some-checked_add.ensures, c.total.ensures) in
    let grows : c.in-Some-checked_add.len ≡ c.self.inside.len + length (read_notes c.args.notes.now) =
    omega (arith, is, size, c.in_ok-cut.ensures.ok, ap length c.in_ok-add_notes.ensures.ok, length-append (joined c.cut.new.self.each) (read_notes c.args.notes.now)) in
    subst (IsHeld c.self.inside.front.items c.in-Some-checked_add.len c.add_notes.new.self) (sym c.first_after-self-inside.ensures)
    (held_grown c.self.inside.front.items c.self.inside.len c.in-Some.rest c.self.inside.pieces c.cut.new.self c.add_notes.new.self (read_notes c.args.notes.now) c.in-Some-checked_add.len _ c.self.invariant.base is
    (c.cut.ensures.lies, c.cut.ensures.same, c.cut.ensures.long) c.in_ok-cut.ensures.ok c.add_notes.ensures.lies c.in_ok-add_notes.ensures.ok size
    (add_noted c.self.inside.first_unread old c.args.notes.now c.self.inside.len c.in-Some-checked_add.len (held_length c.self.inside.front.items c.self.inside.len c.self.inside.pieces c.self.invariant.within) grows c.self.invariant.first))

pub returns-clause-ok : goal.returns-clause-ok
returns-clause-ok c =
    let is : c.self.inside.len ≡ length c.self.inside.front.items + c.in-Some.rest = omega (arith, c.in-Some.ensures) in
    let size : c.in-Some-checked_add.len ≡ length c.self.inside.front.items + length (joined c.add_notes.new.self.each) = omega (arith, c.in-Some-checked_add.ensures, c.total.ensures) in
    held_more c.self.inside.front.items c.self.inside.len c.in-Some.rest c.self.inside.pieces c.cut.new.self c.add_notes.new.self (read_notes c.args.notes.now) c.in-Some-checked_add.len is
    (c.cut.ensures.lies, c.cut.ensures.same, c.cut.ensures.long) c.in_ok-cut.ensures.ok c.in_ok-add_notes.ensures.ok size ∙ ap (λ l. l ++ read_notes c.args.notes.now) c.self.view_is
