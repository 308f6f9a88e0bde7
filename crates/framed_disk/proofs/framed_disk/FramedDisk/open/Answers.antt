use Rattle.std.proofs.Common.{◌≡◌, ◌∙◌, [], List, ap, rules, Some, None}
use Rattle.log_frames.specs.Frames.{Frame}
use Rattle.framed_disk.specs.Deeds.{after_deed, after_deeds}
use Rattle.framed_disk.proofs.Steps.{after_deeds-snoc, opens_now}
use Rattle.framed_disk.proofs.framed_disk.FramedDisk.open.Goals as goal

pub invariant_of-result : goal.invariant_of-result
invariant_of-result g c =
    let frames = g.P.FramesName.frames in
    let none : c.writer-writer.new.self.entries ≡ [] = ap (λ l. l.entries) c.writer-writer.ensures.log ∙ c.in-Ok-new.ensures.0 in
    let added : after_deeds ([], []) c.add_named.new.log.entries ≡ (frames, []) =
    ap (λ l. after_deeds ([], []) l.entries) c.add_named.ensures.log ∙ after_deeds-snoc ([], []) c.writer-writer.new.self.entries c.writer-writer.result.number (Some frames)
    ∙ ap (λ es. after_deed (after_deeds ([], []) es) (Some frames)) none in
    let all : after_deeds ([], []) c.append.new.self.entries ≡ (frames, frames) =
    ap (λ l. after_deeds ([], []) l.entries) c.append.ensures.log ∙ after_deeds-snoc ([], []) c.add_named.new.log.entries c.add_named.new.writer.number None ∙ ap (λ (at : List Frame × List Frame). after_deed at None) added in
    let next = opens_now c.args.id _ frames (g.D.Disk.written c.args.raw) (g.D.Disk.synced c.args.raw) c.args.cursor all c.requires.frames c.requires.cursor c.requires.written c.requires.synced in
    (search rules, c.in-Ok.ensures.capacity, next)
