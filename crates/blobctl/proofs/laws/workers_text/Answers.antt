use Rattle.std.proofs.Common.{◌∙◌, arith, subst, sym}
use Rattle.script_player.specs.Leases.{no_leases}
use Rattle.script_player.proofs.PlayedRows.{one_each}
use Rattle.blobctl.specs.Played.{CatalogLeads}
use Rattle.blobctl.proofs.OneHistory.{one_history}
use Rattle.blobctl.proofs.OneRun.{rows_are_one}
use Rattle.blobctl.proofs.WorkersText.{Play, same_texts}
use Rattle.blobctl.proofs.laws.workers_text.Goals as goal

pub returns-clause-history : goal.returns-clause-history
returns-clause-history c tenants slots max_blob script text one neither = one_history one.first one.last one.left one.rows one.answers neither one.run

pub returns-clause-one : goal.returns-clause-one
returns-clause-one c tenants slots max_blob workers script text other rows all one several some are_apart alone free free' =
    let alone_play =
    subst (λ rs. Play tenants slots max_blob rs one.first one.answers one.last) (rows_are_one script one.rows rows one.all all)
    (record { opened = one.opened; workers = 1; some = omega arith; one_each = one_each CatalogLeads (one.first, no_leases) (one.last, one.left) one.rows one.answers one.run; run = alone; free = free }) in
    let same =
    same_texts tenants slots max_blob rows c.interleavings.ensures.same several.first one.first several.last one.last several.answers one.answers
    (record { opened = several.opened; workers = workers; some = some; one_each = several.one_each; run = several.run; free = free' }) alone_play are_apart in
    one.written ∙ sym same ∙ sym several.written

pub returns-clause-several : goal.returns-clause-several
returns-clause-several c tenants slots max_blob n m text other rows one two some some' are_apart free free' =
    one.written
    ∙ same_texts tenants slots max_blob rows c.interleavings.ensures.same one.first two.first one.last two.last one.answers two.answers
    (record { opened = one.opened; workers = n; some = some; one_each = one.one_each; run = one.run; free = free })
    (record { opened = two.opened; workers = m; some = some'; one_each = two.one_each; run = two.run; free = free' }) are_apart
    ∙ sym two.written
