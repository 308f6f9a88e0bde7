use Rattle.std.proofs.Common.{◌∙◌, ap, [], None}
use Rattle.log_disk.specs.Deeds.{after_deed, after_deeds}
use Rattle.log_disk.proofs.Files.{after_deeds-snoc}
use Rattle.log_disk.proofs.deed_log.DeedLog.add_sync.Goals as goal

pub returns : goal.returns
returns c =
    let deed = None in
    ap (λ l. after_deeds ([], []) l.entries) c.append.ensures.log ∙ (after_deeds-snoc ([], []) c.self.inside.deeds.entries c.self.inside.writer.number deed ∙ ap (λ at. after_deed at deed) c.self.view_is)
