use Rattle.std.proofs.Common.{◌≤◌, ◌<◌, ◌+◌, ℕ, List, ap, arith, length, subst, sym, take}
use Rattle.std.proofs.lemmas.List.{length-map}
use Rattle.std.proofs.lemmas.Result.{IfOk-weaker}
use Rattle.content_files.specs.Notes.{note_of}
use Rattle.content_files.specs.Shown.{note_shown}
use Rattle.content_files.proofs.Parts.{AreReadFrom, begins_at, notes_within, one_read_more, read_between, read_within}
use Rattle.content_files.specs.Parts.{IsCountIn, IsReadWithin}
use Rattle.content_files.specs.Pieces.{Pieces}
use Rattle.content_files.proofs.pieces.Pieces.read_between.Goals as goal

pub loop-index-preserved : goal.loop-index-preserved
loop-index-preserved g c =
    let inv = c.loop-index.invariant in
    let few : IsCountIn c.self.inside.trace.each c.args.len c.in-Some.count = subst (λ (p : Pieces). IsCountIn p.each c.args.len c.in-Some.count) (sym c.self.view_is) c.in-Some.ensures in
    let there : c.loop-index.index < length c.self.inside.notes.items = omega (arith, c.loop-index-test.true, few.0, ap length c.self.invariant.each, length-map c.self.inside.notes.items note_shown, length-map c.self.inside.trace.each note_of) in
    let read = subst (λ (p : Pieces). AreReadFrom p.each c.in-Some-find.first c.loop-index.index c.loop-index.bytes.items) (sym c.self.view_is) inv.2 in
    let more = one_read_more c.self.inside.notes.items c.self.inside.total c.self.inside.trace.each c.in-Some-find.first c.loop-index.index c.index-note.result.now c.loop-index.bytes.items c.add_read.new.out.items c.self.invariant inv.0 there c.index-note.ensures read c.in_ok-add_read.ensures.ok in
    (omega (arith, inv.0), omega (arith, inv.1, more.1, c.in-Some-checked_add-2.ensures), subst (λ (p : Pieces). AreReadFrom p.each c.in-Some-find.first (c.loop-index.index + 1) c.add_read.new.out.items) c.self.view_is more.0)

pub returns-then-end-next-clause-read : goal.returns-then-end-next-clause-read
returns-then-end-next-clause-read g c =
    let inv = c.loop-index.invariant in
    let at = rw c.as_slice.ensures.value at c.in-Some-find.ensures in
    let few : IsCountIn c.self.inside.trace.each c.args.len c.in-Some.count = subst (λ (p : Pieces). IsCountIn p.each c.args.len c.in-Some.count) (sym c.self.view_is) c.in-Some.ensures in
    let there : c.loop-index.index < length c.self.inside.notes.items = omega (arith, c.loop-index-test.true, few.0, ap length c.self.invariant.each, length-map c.self.inside.notes.items note_shown, length-map c.self.inside.trace.each note_of) in
    let read = subst (λ (p : Pieces). AreReadFrom p.each c.in-Some-find.first c.loop-index.index c.loop-index.bytes.items) (sym c.self.view_is) inv.2 in
    let more = one_read_more c.self.inside.notes.items c.self.inside.total c.self.inside.trace.each c.in-Some-find.first c.loop-index.index c.index-note.result.now c.loop-index.bytes.items c.add_read.new.out.items c.self.invariant inv.0 there c.index-note.ensures read c.in_ok-add_read.ensures.ok in
    let pieces : List (List ℕ) = c.self.inside.trace.each in
    let count : ℕ = c.in-Some.count in
    let notes = notes_within c.self.inside.notes.items c.self.inside.total pieces count c.self.invariant in
    let begins = begins_at (take count c.self.inside.notes.items) _ (take count pieces) c.args.start c.in-Some-find.first c.in-Some-find.begin notes at in
    let long : c.args.end ≤ c.in-Some-find.begin + length c.add_read.new.out.items = omega (arith, c.if-end-next.true, c.in-Some-checked_add-2.ensures, inv.1, more.1) in
    let within = read_within pieces c.in-Some-find.first (c.loop-index.index + 1) count c.add_read.new.out.items (omega (arith, inv.0)) (omega (arith, c.loop-index-test.true)) more.0 in
    IfOk-weaker c.part_of.result _ _ (λ v is.
    subst (λ (p : Pieces). IsReadWithin p.each c.args.len c.args.start c.args.end v.items) c.self.view_is record {
      count = count;
      counted = few;
      read = read_between (take count pieces) c.in-Some-find.first (c.loop-index.index + 1) c.in-Some-find.begin c.args.start c.args.end c.add_read.new.out.items v.items within begins at.from long
          (rw (← c.as_slice-then-end-next.ensures.value) is) (omega (arith, c.requires));
    }) c.part_of.ensures
