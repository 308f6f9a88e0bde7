use Rattle.std.proofs.Common.{◌≡◌, ◌∙◌, ◌+◌, ◌++◌, ap, arith, length, length-append}
use Rattle.content_files.proofs.Held.{add_bytes, held_grown, held_kept, held_more, kept_more, on_err}
use Rattle.content_files.specs.Held.{held}
use Rattle.content_files.specs.Notes.{joined}
use Rattle.content_files.proofs.disk_content.DiskContent.complete.Goals as goal

pub invariant_of-self : goal.invariant_of-self
invariant_of-self g c =
    (held_kept c.self.inside.front.items c.self.inside.len c.in-Some.rest c.self.inside.pieces c.cut.new.self c.self.inside.first_unread (omega (arith, c.in-Some.ensures)) c.self.invariant (c.cut.ensures.lies, c.cut.ensures.same, c.cut.ensures.long)).0

pub returns-in_err-cut-clause-err : goal.returns-in_err-cut-clause-err
returns-in_err-cut-clause-err g c =
    on_err c.from_residual.result
    ((held_kept c.self.inside.front.items c.self.inside.len c.in-Some.rest c.self.inside.pieces c.cut.new.self c.self.inside.first_unread (omega (arith, c.in-Some.ensures)) c.self.invariant (c.cut.ensures.lies, c.cut.ensures.same, c.cut.ensures.long)).1 ∙ c.self.view_is)

pub invariant_of-self-in_err-complete : goal.invariant_of-self-in_err-complete
invariant_of-self-in_err-complete g c =
    let kept = kept_more c.in-Some.rest c.self.inside.pieces c.cut.new.self c.complete.new.self (c.cut.ensures.lies, c.cut.ensures.same, c.cut.ensures.long) c.in_ok-cut.ensures.ok c.complete.ensures.lies c.complete.ensures.begin c.complete.ensures.long in
    (held_kept c.self.inside.front.items c.self.inside.len c.in-Some.rest c.self.inside.pieces c.complete.new.self c.self.inside.first_unread (omega (arith, c.in-Some.ensures)) c.self.invariant kept).0

pub returns-in_err-complete-clause-err : goal.returns-in_err-complete-clause-err
returns-in_err-complete-clause-err g c =
    let kept = kept_more c.in-Some.rest c.self.inside.pieces c.cut.new.self c.complete.new.self (c.cut.ensures.lies, c.cut.ensures.same, c.cut.ensures.long) c.in_ok-cut.ensures.ok c.complete.ensures.lies c.complete.ensures.begin c.complete.ensures.long in
    on_err c.from_residual-in_err-complete.result
    ((held_kept c.self.inside.front.items c.self.inside.len c.in-Some.rest c.self.inside.pieces c.complete.new.self c.self.inside.first_unread (omega (arith, c.in-Some.ensures)) c.self.invariant kept).1 ∙ c.self.view_is)

pub invariant_of-self-2 : goal.invariant_of-self-2
invariant_of-self-2 g c =
    let is : c.self.inside.len ≡ length c.self.inside.front.items + c.in-Some.rest = omega (arith, c.in-Some.ensures) in
    let size : c.in-Some-checked_add.len ≡ length c.self.inside.front.items + length (joined c.complete.new.self.each) =
    omega (arith, is, c.in-Some-checked_add.ensures, c.in_ok-cut.ensures.ok, ap length c.in_ok-complete.ensures.ok, length-append (joined c.cut.new.self.each) c.args.unsynced.bytes) in
    held_grown c.self.inside.front.items c.self.inside.len c.in-Some.rest c.self.inside.pieces c.cut.new.self c.complete.new.self c.args.unsynced.bytes c.in-Some-checked_add.len c.self.inside.first_unread c.self.invariant.base is
    (c.cut.ensures.lies, c.cut.ensures.same, c.cut.ensures.long) c.in_ok-cut.ensures.ok c.complete.ensures.lies c.in_ok-complete.ensures.ok size
    (add_bytes c.self.inside.first_unread (held c.self.inside.front.items c.self.inside.len c.self.inside.pieces) c.args.unsynced.bytes c.reveal_read.ensures c.self.invariant.first)

pub returns-clause-ok : goal.returns-clause-ok
returns-clause-ok g c =
    let is : c.self.inside.len ≡ length c.self.inside.front.items + c.in-Some.rest = omega (arith, c.in-Some.ensures) in
    let size : c.in-Some-checked_add.len ≡ length c.self.inside.front.items + length (joined c.complete.new.self.each) =
    omega (arith, is, c.in-Some-checked_add.ensures, c.in_ok-cut.ensures.ok, ap length c.in_ok-complete.ensures.ok, length-append (joined c.cut.new.self.each) c.args.unsynced.bytes) in
    held_more c.self.inside.front.items c.self.inside.len c.in-Some.rest c.self.inside.pieces c.cut.new.self c.complete.new.self c.args.unsynced.bytes c.in-Some-checked_add.len is
    (c.cut.ensures.lies, c.cut.ensures.same, c.cut.ensures.long) c.in_ok-cut.ensures.ok c.in_ok-complete.ensures.ok size ∙ ap (λ l. l ++ c.args.unsynced.bytes) c.self.view_is
