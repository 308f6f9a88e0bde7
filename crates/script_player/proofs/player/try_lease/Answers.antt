use Rattle.std.proofs.Common.{◌≡◌, ◌⊎◌, None, Ok, rules}
use Rattle.std.proofs.lemmas.Result.{err_from_is_err_and}
use Rattle.blob_digest.specs.declared.refusal.Refusal.TheVariants.{Memory}
use Rattle.store_api.specs.Answers.{Bytes, Refused}
use Rattle.store_api.specs.Commands.{Calls, Lease, digest_in, repo_in}
use Rattle.script_player.specs.RowViews.{borrowed_view}
use Rattle.script_player.specs.Plays.{named_lease}
use Rattle.script_player.specs.Rows.{RowView}
use Rattle.script_player.proofs.PlayedRows.{lease_lent, lease_refused}
use Rattle.script_player.proofs.Spellings.{lease_spelled}
use Rattle.script_player.proofs.player.try_lease.Goals as goal

pub returns-in_err-size : goal.returns-in_err-size
returns-in_err-size g c =
    let p = err_from_is_err_and c.from_residual-in_err-size.result c.from_residual-in_err-size.ensures.1 in
    let line : RowView = borrowed_view c.args.row.now in
    let repo : repo_in line.repo ≡ Ok c.in_ok-repo.repo = search rules in
    let digest : digest_in line.digest ≡ Ok c.in_ok-digest.digest = search rules in
    let spells = lease_spelled line c.in_ok-repo.repo c.in_ok-digest.digest c.requires repo digest in
    let free : named_lease c.args.leases.now line ≡ None = search rules in
    let same : c.lend.new.leases ≡ c.args.leases.now = c.in_err-size.ensures.0 in
    let why : ((c.in_err-size.field-0.0 ≡ Memory) × (c.lend.new.backend ≡ c.args.backend.now)) ⊎ g.B.Backend.acts c.args.backend.now (Calls (Lease line.repo line.digest)) (Refused c.in_err-size.field-0.0) c.lend.new.backend = search rules in
    rw (p.1, p.2) (lease_refused g.B.Backend.acts c.args.backend.now c.lend.new.backend c.args.leases.now c.lend.new.leases line c.in_err-size.field-0.0 c.requires spells free same why)

pub returns : goal.returns
returns g c =
    let line : RowView = borrowed_view c.args.row.now in
    let repo : repo_in line.repo ≡ Ok c.in_ok-repo.repo = search rules in
    let digest : digest_in line.digest ≡ Ok c.in_ok-digest.digest = search rules in
    let spells = lease_spelled line c.in_ok-repo.repo c.in_ok-digest.digest c.requires repo digest in
    let free : named_lease c.args.leases.now line ≡ None = search rules in
    let lent = c.in_ok-size.ensures in
    let does : g.B.Backend.acts c.args.backend.now (Calls (Lease line.repo line.digest)) (Bytes lent.0) c.lend.new.backend = search rules in
    let kept = rw c.lease_name_of-name.ensures at lent.3 in
    lease_lent g.B.Backend.acts c.args.backend.now c.lend.new.backend c.args.leases.now c.lend.new.leases line lent.0 c.in_ok-size.size c.requires spells free does lent.2 kept
