use Rattle.std.proofs.Common.{◌≡◌, ◌∙◌, arith, length, sym, take-append-drop}
use Rattle.std.specs.Prelude.{◌++◌}
use Rattle.std.proofs.lemmas.Bool.{eqb-true}
use Rattle.std.proofs.lemmas.List.{nil_from_length}
use Rattle.content_files.proofs.FirstNotes.{first_of, last_of}
use Rattle.content_files.proofs.noted_chunk.first_note.Goals as goal

pub returns-then-note : goal.returns-then-note
returns-then-note c =
    let whole : c.args.notes.now ≡ c.split_at.result.0.now ++ c.split_at.result.1.now = sym ((λ i. c.split_at.ensures.front i ++ c.split_at.ensures.back i) ∙ take-append-drop 16 c.args.notes.now) in
    first_of c.args.notes.now c.split_at.result.0.now c.split_at.result.1.now c.read-note.result
    (record { size = omega arith; len = c.read-note.ensures.len; sum = c.read-note.ensures.sum; written = c.read-note.ensures.written; small = omega arith }) whole c.if-note.true

pub returns-then-note-2 : goal.returns-then-note-2
returns-then-note-2 c =
    let whole : c.args.notes.now ≡ c.split_at.result.0.now ++ c.split_at.result.1.now = sym ((λ i. c.split_at.ensures.front i ++ c.split_at.ensures.back i) ∙ take-append-drop 16 c.args.notes.now) in
    last_of c.args.notes.now c.split_at.result.0.now c.split_at.result.1.now c.read-note.result
    (record { size = omega arith; len = c.read-note.ensures.len; sum = c.read-note.ensures.sum; written = c.read-note.ensures.written; small = omega arith }) whole
    c.if-note-gt0.true (omega arith) (nil_from_length c.split_at.result.1.now (eqb-true (length c.split_at.result.1.now) 0 (sym c.is_empty.ensures ∙ c.if-is_empty.true)))
