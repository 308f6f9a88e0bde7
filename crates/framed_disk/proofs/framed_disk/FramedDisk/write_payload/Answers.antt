use Rattle.std.proofs.Common.{◌≡◌, ◌∙◌, ◌∷◌, [], List, ap, arith, inl, rules, Some, Option}
use Rattle.std.specs.Option.{is_some}
use Rattle.log_disk.specs.declared.disk.DiskError.{DiskError}
use Rattle.log_frames.specs.Frames.{Frame, frame_of}
use Rattle.framed_disk.specs.Deeds.{after_deed, after_deeds}
use Rattle.framed_disk.proofs.Steps.{adds_frame, adds_now, adds_part_now, after_deeds-snoc}
use Rattle.framed_disk.proofs.framed_disk.FramedDisk.write_payload.Goals as goal

pub invariant_of-self : goal.invariant_of-self
invariant_of-self g c =
    let old = c.self.inside in
    let at : List Frame × List Frame = after_deeds ([], []) old.deeds.entries in
    let deed : Option (List Frame) = Some (frame_of old.synced c.args.payload.now ∷ []) in
    let more : after_deeds ([], []) c.add_frame.new.log.entries ≡ after_deed at deed = ap (λ l. after_deeds ([], []) l.entries) c.add_frame.ensures.log ∙ after_deeds-snoc ([], []) old.deeds.entries old.writer.number deed in
    let next = adds_now old.id at _ (g.D.Disk.written old.raw) (g.D.Disk.synced old.raw) (g.D.Disk.written c.write_frame-written.new.disk) (g.D.Disk.synced c.write_frame-written.new.disk) (is_some old.failure) old.cursor c.in-Ok.cursor old.synced old.stated c.args.payload.now more c.in-Ok.ensures.kept c.self.invariant.2 (ap is_some c.in_default.is) (c.has_room.ensures.yes c.if-not-has_room.false) c.in-Ok.ensures.ok c.in-Ok.ensures.after in
    (search rules, omega arith, next)

pub invariant_of-self-in-Err : goal.invariant_of-self-in-Err
invariant_of-self-in-Err g c =
    let old = c.self.inside in
    let at : List Frame × List Frame = after_deeds ([], []) old.deeds.entries in
    let deed : Option (List Frame) = Some (frame_of old.synced c.args.payload.now ∷ []) in
    let more : after_deeds ([], []) c.add_frame.new.log.entries ≡ after_deed at deed = ap (λ l. after_deeds ([], []) l.entries) c.add_frame.ensures.log ∙ after_deeds-snoc ([], []) old.deeds.entries old.writer.number deed in
    let next = adds_part_now old.id at _ (g.D.Disk.written old.raw) (g.D.Disk.synced old.raw) (g.D.Disk.written c.write_frame-written.new.disk) (g.D.Disk.synced c.write_frame-written.new.disk) (is_some old.failure) old.cursor old.synced old.stated c.args.payload.now more c.in-Err.ensures.kept c.self.invariant.2 (ap is_some c.in_default.is) (c.has_room.ensures.yes c.if-not-has_room.false) c.in-Err.ensures.err in
    (search rules, omega arith, next)

pub returns-in-Ok-clause-ok : goal.returns-in-Ok-clause-ok
returns-in-Ok-clause-ok g c =
    let old = c.self.inside in
    let at : List Frame × List Frame = after_deeds ([], []) old.deeds.entries in
    let deed : Option (List Frame) = Some (frame_of old.synced c.args.payload.now ∷ []) in
    let more : after_deeds ([], []) c.add_frame.new.log.entries ≡ after_deed at deed = ap (λ l. after_deeds ([], []) l.entries) c.add_frame.ensures.log ∙ after_deeds-snoc ([], []) old.deeds.entries old.writer.number deed in
    adds_frame c.args.self.now old.id at _ _ _ _ _ _ _ old.synced c.args.payload.now c.self.view_is c.self.invariant.2.known more c.in-Ok.ensures.kept

pub returns-in-Err-clause-err : goal.returns-in-Err-clause-err
returns-in-Err-clause-err g c =
    let old = c.self.inside in
    let at : List Frame × List Frame = after_deeds ([], []) old.deeds.entries in
    let deed : Option (List Frame) = Some (frame_of old.synced c.args.payload.now ∷ []) in
    let more : after_deeds ([], []) c.add_frame.new.log.entries ≡ after_deed at deed = ap (λ l. after_deeds ([], []) l.entries) c.add_frame.ensures.log ∙ after_deeds-snoc ([], []) old.deeds.entries old.writer.number deed in
    inl (adds_frame c.args.self.now old.id at _ _ _ _ _ _ _ old.synced c.args.payload.now c.self.view_is c.self.invariant.2.known more c.in-Err.ensures.kept)
