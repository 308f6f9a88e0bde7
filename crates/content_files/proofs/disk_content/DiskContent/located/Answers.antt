use Rattle.std.proofs.Common.{◌≡◌, ◌∙◌, ◌+◌, ◌++◌, ◌∷◌, [], ℕ, List, ap, arith, subst, sym, take}
use Rattle.std.specs.Int.{w64, to_le_bytes}
use Rattle.content_files.proofs.Chunks.{note_written}
use Rattle.content_files.proofs.Held.{held_after}
use Rattle.content_files.proofs.LocatedNotes.{located_across, located_after, located_front}
use Rattle.content_files.specs.Chunks.{note_bytes}
use Rattle.content_files.specs.LocatedNotes.{AreNotesBetween, FitWords}
use Rattle.content_files.specs.Notes.{PieceNote, joined, note_of}
use Rattle.content_files.specs.Shown.{note_shown}
use Rattle.content_files.proofs.disk_content.DiskContent.located.Goals as goal

pub returns-then-base-start : goal.returns-then-base-start
returns-then-base-start c =
    let front = c.self.inside.front.items in
    let base : ℕ = c.len-base.result in
    let rest : ℕ = c.in-Some.rest in
    let whole : front ++ take rest (joined c.self.inside.pieces.each) ≡ c.args.self.now = sym (held_after front c.self.inside.len rest c.self.inside.pieces (omega arith)) ∙ c.self.view_is in
    subst (λ (l : List ℕ). AreNotesBetween l c.args.start c.args.end (base + c.in_ok-begin.begin) c.in_ok-begin.notes.items) whole
    (located_after front (take rest (joined c.self.inside.pieces.each)) base c.args.start c.args.end c.in_ok-begin.begin c.in_ok-begin.notes.items (omega arith) (omega (arith, c.if-base-start.true)) (omega (arith, c.if-base-start.true, c.requires)) c.in_ok-begin.ensures)

pub returns-then-end-base : goal.returns-then-end-base
returns-then-end-base c =
    let front = c.self.inside.front.items in
    let base : ℕ = c.len-base.result in
    let rest : ℕ = c.in-Some.rest in
    let whole : front ++ take rest (joined c.self.inside.pieces.each) ≡ c.args.self.now = sym (held_after front c.self.inside.len rest c.self.inside.pieces (omega arith)) ∙ c.self.view_is in
    let noted : note_shown c.of.result ≡ note_of front = c.of.ensures ∙ ap note_of c.as_slice.ensures.value in
    let fit : FitWords (front ∷ []) = (omega (arith, c.write.ensures.fits, ap (λ (x : PieceNote). x.len) noted), omega (arith, c.write.ensures.fits, ap (λ (x : PieceNote). x.sum) noted), tt) in
    let first : c.write.new.out.items ≡ note_bytes front = c.in_ok-write.ensures.written ∙ ap (λ l. l ++ (to_le_bytes w64 c.of.result.len ++ to_le_bytes w64 c.of.result.sum)) c.new-notes.ensures.items ∙ note_written c.of.result front (omega arith) noted in
    subst (λ (l : List ℕ). AreNotesBetween l c.args.start c.args.end 0 c.write.new.out.items) whole
    (located_front front (take rest (joined c.self.inside.pieces.each)) base c.args.start c.args.end c.write.new.out.items (omega arith) (omega (arith, c.if-end-base.true)) fit first)

pub returns : goal.returns
returns c =
    let front = c.self.inside.front.items in
    let base : ℕ = c.len-base.result in
    let rest : ℕ = c.in-Some.rest in
    let whole : front ++ take rest (joined c.self.inside.pieces.each) ≡ c.args.self.now = sym (held_after front c.self.inside.len rest c.self.inside.pieces (omega arith)) ∙ c.self.view_is in
    let noted : note_shown c.of.result ≡ note_of front = c.of.ensures ∙ ap note_of c.as_slice.ensures.value in
    let fit : FitWords (front ∷ []) = (omega (arith, c.write.ensures.fits, ap (λ (x : PieceNote). x.len) noted), omega (arith, c.write.ensures.fits, ap (λ (x : PieceNote). x.sum) noted), tt) in
    let first : c.write.new.out.items ≡ note_bytes front = c.in_ok-write.ensures.written ∙ ap (λ l. l ++ (to_le_bytes w64 c.of.result.len ++ to_le_bytes w64 c.of.result.sum)) c.new-notes.ensures.items ∙ note_written c.of.result front (omega arith) noted in
    let all : c.extend_from_slice.new.self.items ≡ c.write.new.out.items ++ c.in_ok-others.others.items = c.in_ok-extend_from_slice.ensures.items ∙ ap (λ l. c.write.new.out.items ++ l) c.as_slice-2.ensures.value in
    subst (λ (l : List ℕ). AreNotesBetween l c.args.start c.args.end 0 c.extend_from_slice.new.self.items) whole
    (located_across front (take rest (joined c.self.inside.pieces.each)) base c.args.start c.args.end c.in_ok-others.field-0-0 c.write.new.out.items c.in_ok-others.others.items c.extend_from_slice.new.self.items (omega arith) (omega (arith, c.if-base-start.false)) (omega (arith, c.if-end-base.false)) fit first c.in_ok-others.ensures all)
