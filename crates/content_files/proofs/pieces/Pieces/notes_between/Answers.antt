use Rattle.std.proofs.Common.{◌<◌, ◌+◌, ℕ, List, ap, arith, length, subst, sym, take}
use Rattle.std.proofs.lemmas.List.{length-map}
use Rattle.content_files.specs.LocatedNotes.{AreNotesBetween}
use Rattle.content_files.specs.Notes.{note_of}
use Rattle.content_files.specs.Parts.{IsCountIn}
use Rattle.content_files.specs.Pieces.{Pieces, bytes_of}
use Rattle.content_files.specs.Shown.{note_shown}
use Rattle.content_files.proofs.LocatedNotes.{AreNotedFrom, located_in, one_noted_more}
use Rattle.content_files.proofs.Parts.{begins_at, notes_within}
use Rattle.content_files.proofs.pieces.Pieces.notes_between.Goals as goal

pub index-note-requires : goal.index-note-requires
index-note-requires c =
    let few : IsCountIn c.self.inside.trace.each c.args.len c.in-Some.count = subst (λ (p : Pieces). IsCountIn p.each c.args.len c.in-Some.count) (sym c.self.view_is) c.in-Some.ensures in
    omega (arith, c.loop-index-test.true, few.0, ap length c.self.invariant.each, length-map c.self.inside.notes.items note_shown, length-map c.self.inside.trace.each note_of)

pub loop-index-preserved : goal.loop-index-preserved
loop-index-preserved c =
    let few : IsCountIn c.self.inside.trace.each c.args.len c.in-Some.count = subst (λ (p : Pieces). IsCountIn p.each c.args.len c.in-Some.count) (sym c.self.view_is) c.in-Some.ensures in
    let there : c.loop-index.index < length c.self.inside.notes.items = omega (arith, c.loop-index-test.true, few.0, ap length c.self.invariant.each, length-map c.self.inside.notes.items note_shown, length-map c.self.inside.trace.each note_of) in
    let before = subst (λ (p : Pieces). AreNotedFrom p.each c.in-Some-find.first c.loop-index.index c.in-Some-find.begin c.loop-index.at c.loop-index.notes.items) (sym c.self.view_is) c.loop-index.invariant in
    let more = one_noted_more c.self.inside.notes.items c.self.inside.total c.self.inside.trace.each c.in-Some-find.first c.loop-index.index c.in-Some-find.begin c.loop-index.at c.index-note.result.now c.loop-index.notes.items c.write.new.out.items c.self.invariant there c.index-note.ensures c.write.ensures.fits.0 c.write.ensures.fits.1 before c.in_ok-write.ensures.written in
    let next = subst (λ (p : Pieces). AreNotedFrom p.each c.in-Some-find.first (c.loop-index.index + 1) c.in-Some-find.begin (c.loop-index.at + c.index-note.result.now.len) c.write.new.out.items) c.self.view_is more in
    (next.0, omega (arith, next.1, c.in-Some-checked_add.ensures), next.2, next.3)

pub returns-then-end-next : goal.returns-then-end-next
returns-then-end-next c =
    let at = rw c.as_slice.ensures.value at c.in-Some-find.ensures in
    let few : IsCountIn c.self.inside.trace.each c.args.len c.in-Some.count = subst (λ (p : Pieces). IsCountIn p.each c.args.len c.in-Some.count) (sym c.self.view_is) c.in-Some.ensures in
    let there : c.loop-index.index < length c.self.inside.notes.items = omega (arith, c.loop-index-test.true, few.0, ap length c.self.invariant.each, length-map c.self.inside.notes.items note_shown, length-map c.self.inside.trace.each note_of) in
    let before = subst (λ (p : Pieces). AreNotedFrom p.each c.in-Some-find.first c.loop-index.index c.in-Some-find.begin c.loop-index.at c.loop-index.notes.items) (sym c.self.view_is) c.loop-index.invariant in
    let more = one_noted_more c.self.inside.notes.items c.self.inside.total c.self.inside.trace.each c.in-Some-find.first c.loop-index.index c.in-Some-find.begin c.loop-index.at c.index-note.result.now c.loop-index.notes.items c.write.new.out.items c.self.invariant there c.index-note.ensures c.write.ensures.fits.0 c.write.ensures.fits.1 before c.in_ok-write.ensures.written in
    let pieces : List (List ℕ) = c.self.inside.trace.each in
    let count : ℕ = c.in-Some.count in
    let notes = notes_within c.self.inside.notes.items c.self.inside.total pieces count c.self.invariant in
    let begins = begins_at (take count c.self.inside.notes.items) _ (take count pieces) c.args.start c.in-Some-find.first c.in-Some-find.begin notes at in
    subst (λ (p : Pieces). AreNotesBetween (take c.args.len (bytes_of p)) c.args.start c.args.end c.in-Some-find.begin c.write.new.out.items) c.self.view_is
    (located_in pieces c.in-Some-find.first (c.loop-index.index + 1) count c.args.len c.in-Some-find.begin c.args.start c.args.end (c.loop-index.at + c.index-note.result.now.len) c.write.new.out.items few (omega (arith, c.loop-index-test.true)) more begins at.from (omega (arith, c.if-end-next.true, c.in-Some-checked_add.ensures)))
