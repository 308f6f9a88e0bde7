use Rattle.std.proofs.Common.{sym, ap, ◌∙◌, Ok}
use Rattle.std.specs.FinMap.{get}
use Rattle.spec_lib.proofs.Trees.{insert_is}
use Rattle.link_table.specs.ManifestTable.{ManifestBytes}
use Rattle.link_table.proofs.Groups.{bare}
use Rattle.link_table.proofs.ManifestTableRows.{put_there, put_refused}
use Rattle.link_table.proofs.manifest_table.ManifestTable.put_first.Goals as goal

pub returns-in_ok-insert-in-Ok : goal.returns-in_ok-insert-in-Ok
returns-in_ok-insert-in-Ok c =
    let rows = c.self.inside.rows in
    let none = bare rows c.args.repo.now (λ d. ap (λ (m : ManifestBytes). get m (c.args.repo.now, d)) c.self.view_is ∙ c.requires d) in
    rw (← c.self.view_is) (put_there rows c.args.repo.now c.args.limit c.insert.new.self c.new-group.result c.put.new.self c.args.manifest.value (Ok (tt {0}))
    (none ∙ sym c.new-group.ensures) (insert_is rows c.insert.new.self c.args.repo.now c.put.new.self (rw c.in_ok-clone-in-Ok.ensures.cases at c.in_ok-insert-in-Ok.ensures.updates.0)) c.in-Ok.ensures)

pub returns-in-Err : goal.returns-in-Err
returns-in-Err c =
    let rows = c.self.inside.rows in
    let none = bare rows c.args.repo.now (λ d. ap (λ (m : ManifestBytes). get m (c.args.repo.now, d)) c.self.view_is ∙ c.requires d) in
    rw (← c.self.view_is) (put_refused rows c.args.repo.now c.args.limit c.new-group.result c.put.new.self c.args.manifest.value c.in-Err.refusal (none ∙ sym c.new-group.ensures) c.in-Err.ensures)
