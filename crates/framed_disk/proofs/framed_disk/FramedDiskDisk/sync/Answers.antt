use Rattle.std.proofs.Common.{◌≡◌, ◌∙◌, [], List, ap, rules, sym, None, Option}
use Rattle.std.specs.Option.{is_some}
use Rattle.log_frames.specs.Frames.{Frame, payloads}
use Rattle.framed_disk.specs.Deeds.{after_deed, after_deeds}
use Rattle.framed_disk.specs.Views.{FramedView}
use Rattle.framed_disk.proofs.Steps.{after_deeds-snoc, syncs_now}
use Rattle.framed_disk.proofs.framed_disk.FramedDiskDisk.sync.Goals as goal

pub invariant_of-self-2 : goal.invariant_of-self-2
invariant_of-self-2 g c =
    let old = c.self.inside in
    let at : List Frame × List Frame = after_deeds ([], []) old.deeds.entries in
    let all : after_deeds ([], []) c.append.new.self.entries ≡ after_deed at None = ap (λ l. after_deeds ([], []) l.entries) c.append.ensures.log ∙ after_deeds-snoc ([], []) old.deeds.entries old.writer.number None in
    let next = syncs_now old.id at _ (g.D.Disk.written old.raw) (g.D.Disk.synced old.raw) (g.D.Disk.written c.sync.new.self) (g.D.Disk.synced c.sync.new.self) (is_some old.failure) old.cursor old.synced old.stated all c.self.invariant.2 (ap is_some c.in_default.is) c.in_default-sync.ensures.same c.in_default-sync.ensures.ok in
    (search rules, c.self.invariant.1, next)

pub returns-clause-same : goal.returns-clause-same
returns-clause-same g c =
    let old = c.self.inside in
    let all : after_deeds ([], []) c.append.new.self.entries ≡ after_deed (after_deeds ([], []) old.deeds.entries) None = ap (λ l. after_deeds ([], []) l.entries) c.append.ensures.log ∙ after_deeds-snoc ([], []) old.deeds.entries old.writer.number None in
    ap (λ (p : List Frame × List Frame). payloads p.0) all ∙ ap (λ (v : FramedView). payloads v.frames) c.self.view_is

pub returns-clause-ok : goal.returns-clause-ok
returns-clause-ok g c =
    let old = c.self.inside in
    let all : after_deeds ([], []) c.append.new.self.entries ≡ after_deed (after_deeds ([], []) old.deeds.entries) None = ap (λ l. after_deeds ([], []) l.entries) c.append.ensures.log ∙ after_deeds-snoc ([], []) old.deeds.entries old.writer.number None in
    ap (λ (p : List Frame × List Frame). payloads p.1) all ∙ ap (λ (v : FramedView). payloads v.frames) c.self.view_is

pub returns-clause-frames : goal.returns-clause-frames
returns-clause-frames g c =
    let old = c.self.inside in
    let all : after_deeds ([], []) c.append.new.self.entries ≡ after_deed (after_deeds ([], []) old.deeds.entries) None = ap (λ l. after_deeds ([], []) l.entries) c.append.ensures.log ∙ after_deeds-snoc ([], []) old.deeds.entries old.writer.number None in
    ap (λ (p : List Frame × List Frame). p.1) all ∙ sym (ap (λ (p : List Frame × List Frame). p.0) all)

pub returns-clause-unwritten : goal.returns-clause-unwritten
returns-clause-unwritten g c =
    let old = c.self.inside in
    let all : after_deeds ([], []) c.append.new.self.entries ≡ after_deed (after_deeds ([], []) old.deeds.entries) None = ap (λ l. after_deeds ([], []) l.entries) c.append.ensures.log ∙ after_deeds-snoc ([], []) old.deeds.entries old.writer.number None in
    record { id = ap (λ (v : FramedView). v.id) c.self.view_is; frames = ap (λ (p : List Frame × List Frame). p.0) all ∙ ap (λ (v : FramedView). v.frames) c.self.view_is }
