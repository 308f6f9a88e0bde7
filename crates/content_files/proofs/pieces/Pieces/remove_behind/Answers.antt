use Rattle.std.proofs.Common.{◌∙◌, ◌-◌, ap, arith, length, subst, sym, take}
use Rattle.content_files.proofs.Joined.{forgotten, without_last}
use Rattle.content_files.specs.Notes.{joined}
use Rattle.content_files.specs.Pieces.{Pieces}
use Rattle.content_files.specs.Shown.{AreNotesOf}
use Rattle.content_files.proofs.pieces.Pieces.remove_behind.Goals as goal

pub overflow_sub-before : goal.overflow_sub-before
overflow_sub-before c = (without_last c.pop.new.self.items c.self.inside.notes.items c.in-Some.note c.self.inside.total c.self.inside.trace.each c.self.invariant c.in-Some.ensures.items).0

pub invariant_of-self : goal.invariant_of-self
invariant_of-self c =
    subst (AreNotesOf c.pop.new.self.items (c.self.inside.total - c.in-Some.note.len)) (sym (ap (λ (p : Pieces). p.each) c.in_ok-trace.ensures))
    (without_last c.pop.new.self.items c.self.inside.notes.items c.in-Some.note c.self.inside.total c.self.inside.trace.each c.self.invariant c.in-Some.ensures.items).1

pub returns-then-len-before-clause-same : goal.returns-then-len-before-clause-same
returns-then-len-before-clause-same c =
    let shown = (λ (p : Pieces). take c.args.len (joined p.each)) in
    ap shown c.in_ok-trace.ensures
    ∙ forgotten c.pop.new.self.items c.self.inside.notes.items c.in-Some.note c.args.len c.self.inside.total c.self.inside.trace.each c.self.invariant c.in-Some.ensures.items c.if-len-before.true
    ∙ ap shown c.self.view_is

pub returns-then-len-before-clause-long : goal.returns-then-len-before-clause-long
returns-then-len-before-clause-long c =
    let others = (without_last c.pop.new.self.items c.self.inside.notes.items c.in-Some.note c.self.inside.total c.self.inside.trace.each c.self.invariant c.in-Some.ensures.items).1 in
    omega (arith, others.total, ap (λ (p : Pieces). length (joined p.each)) c.in_ok-trace.ensures, c.if-len-before.true)
