use Rattle.std.proofs.Common.{◌≡◌, ◌∙◌, ◌<◌, ◌≤◌, ap, arith, length, refl}
use Rattle.std.proofs.Math.Seq.{take-length}
use Rattle.std.proofs.lemmas.List.{length-take-le, length-drop}
use Rattle.content_files.specs.Notes.{joined}
use Rattle.content_files.specs.Placed.{Placed}
use Rattle.content_files.proofs.Chunks.{noted_last, noted_none, noted_one, on_ok}
use Rattle.content_files.proofs.Joined.{added_one, sizes}
use Rattle.content_files.proofs.pieces.Pieces.add_written.Goals as goal

pub add_piece-requires-clause-fits : goal.add_piece-requires-clause-fits
add_piece-requires-clause-fits c =
    let rest = c.loop-rest.rest.bytes in
    let piece : length c.split_at-piece.result.0.bytes ≡ 1048576 = ap (λ (w : Placed). length w.bytes) c.split_at-piece.ensures.first ∙ length-take-le 1048576 rest (omega arith) in
    omega (arith, piece, sizes (joined c.loop-rest.self.each) rest (joined c.args.self.now.each) c.args.written.bytes c.loop-rest.invariant.0.2)

pub loop-rest-smaller : goal.loop-rest-smaller
loop-rest-smaller c =
    omega (arith, ap (λ (w : Placed). length w.bytes) c.split_at-piece.ensures.second, length-drop 1048576 c.loop-rest.rest.bytes)

pub loop-rest-preserved : goal.loop-rest-preserved
loop-rest-preserved c =
    let long : 1048576 < length c.loop-rest.rest.bytes = omega arith in (
      added_one c.args.self.now c.args.written.bytes c.loop-rest.self c.loop-rest.rest c.split_at-piece.result.0 c.split_at-piece.result.1 1048576 c.add_piece.new.self (omega arith)
          c.split_at-piece.ensures.first c.split_at-piece.ensures.second c.in_ok-add_piece.ensures.ok c.loop-rest.invariant.0,
      noted_one c.args.notes.now.items c.args.written.bytes c.loop-rest.notes.items c.loop-rest.rest.bytes c.split_at-piece.result.0.bytes c.split_at-piece.result.1.bytes c.add_piece.new.notes.items long
          (ap (λ (w : Placed). w.bytes) c.split_at-piece.ensures.first) (ap (λ (w : Placed). w.bytes) c.split_at-piece.ensures.second) c.in_ok-add_piece.ensures.noted c.loop-rest.invariant.1,
    )

pub add_piece-requires-2-clause-fits : goal.add_piece-requires-2-clause-fits
add_piece-requires-2-clause-fits c =
    omega (arith, sizes (joined c.loop-rest.self.each) c.loop-rest.rest.bytes (joined c.args.self.now.each) c.args.written.bytes c.loop-rest.invariant.0.2)

pub loop-rest-init : goal.loop-rest-init
loop-rest-init c =
    (((refl, refl), c.requires.at, refl, take-length (joined c.args.self.now.each), omega arith), noted_none c.args.notes.now.items c.args.written.bytes c.requires.some)

pub returns-clause-noted : goal.returns-clause-noted
returns-clause-noted c =
    let short : length c.loop-rest.rest.bytes ≤ 1048576 = omega arith in
    on_ok c.add_piece-2.result (λ is. noted_last c.args.notes.now.items c.args.written.bytes c.loop-rest.notes.items c.loop-rest.rest.bytes c.add_piece-2.new.notes.items short is c.loop-rest.invariant.1)
    c.add_piece-2.ensures.noted
