use Rattle.std.proofs.Common.{◌∙◌, ap, sym}
use Rattle.store_model.specs.Catalog.{in_memory}
use Rattle.script_player.specs.Leases.{no_leases}
use Rattle.blobctl.proofs.OneOpening.{one_opening}
use Rattle.blobctl.proofs.ScriptRuns.{fair_from, plays_run, spelled_commands, spelled_of}
use Rattle.blobctl.proofs.laws.tenants_rows.Goals as goal

pub returns-clause-runs : goal.returns-clause-runs
returns-clause-runs c tenants slots max_blob script text one =
    let x = plays_run (one.first, no_leases) (one.last, one.left) one.rows one.answers one.run in
    (x.0, record { told = x.1; run = x.2 })

pub returns-clause-books : goal.returns-clause-books
returns-clause-books c tenants slots max_blob script text other written one two a b rows =
    let ts = one.first.tenants in
    let first = one_opening tenants slots (in_memory max_blob) two.first one.first two.opened one.opened in
    let fair = fair_from ts slots (in_memory max_blob) one.first one.last a.events one.opened.empty (a.is_run.run, a.no_collision) in
    let fair' = fair_from ts slots (in_memory max_blob) two.first two.last b.events (first ∙ one.opened.empty) (b.is_run.run, b.no_collision) in
    c.isolation.ensures.same_text ts slots (in_memory max_blob) a.events b.events one.last two.last fair a.uncrowded fair' b.uncrowded (λ t.
    spelled_of ts t one.rows one.answers a.events a.is_run.told a.unnamed ∙ ap spelled_commands (rows t) ∙ sym (spelled_of ts t two.rows two.answers b.events b.is_run.told b.unnamed))
