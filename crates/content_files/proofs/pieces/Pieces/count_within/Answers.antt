use Rattle.std.proofs.Common.{IfSome, subst}
use Rattle.std.proofs.lemmas.Option.{IfSome_then}
use Rattle.content_files.specs.Parts.{IsCountIn}
use Rattle.content_files.specs.Pieces.{Pieces}
use Rattle.content_files.proofs.Parts.{counted}
use Rattle.content_files.proofs.pieces.Pieces.count_within.Goals as goal

pub returns : goal.returns
returns c =
    let found = rw c.as_slice.ensures.value at c.count_within.ensures in
    subst (λ (p : Pieces). IfSome c.count_within.result (IsCountIn p.each c.args.len)) c.self.view_is
    (IfSome_then c.count_within.result found (λ k is. counted c.self.inside.notes.items c.self.inside.total c.args.len k c.self.inside.trace.each c.self.invariant is))
