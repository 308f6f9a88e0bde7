use Rattle.std.proofs.Common.{◌∙◌, ◌++◌, List, ap, refl, subst, sym}
use Rattle.store_model.specs.Catalog.{Catalog, in_memory}
use Rattle.store_model.specs.BookText.{book_text}
use Rattle.store_api.specs.Answers.{Answer}
use Rattle.script_player.specs.Leases.{no_leases}
use Rattle.blobctl.specs.Played.{CatalogLeads}
use Rattle.script_player.specs.Plays.{Plays, State}
use Rattle.script_player.specs.Replies.{replies_text}
use Rattle.script_player.specs.Rows.{RowView}
use Rattle.blobctl.proofs.OneOpening.{one_opening}
use Rattle.blobctl.proofs.OneRun.{opening_none, plays_same, rows_are_one}
use Rattle.blobctl.proofs.SomeCommand.{all_fit}
use Rattle.blobctl.proofs.SomeRun.{some_run}
use Rattle.blobctl.proofs.laws.one_text.Goals as goal

pub returns-clause-most : goal.returns-clause-most
returns-clause-most c tenants slots max_blob script text other one nothing two =
    let first = one_opening tenants slots (in_memory max_blob) one.first two.first one.opened two.opened in
    let rows = rows_are_one script two.rows one.rows two.all one.all in
    let run = subst (λ (C : Catalog). Plays CatalogLeads (C, no_leases) one.rows two.answers (two.last, two.left)) (sym first) (subst (λ (ls : List RowView). Plays CatalogLeads (two.first, no_leases) ls two.answers (two.last, two.left)) rows two.run) in
    let same = plays_same (one.first, no_leases) (one.last, one.left) (two.last, two.left) one.rows one.answers two.answers (opening_none one.first one.first.tenants slots (in_memory max_blob) one.opened.empty) nothing one.run run in
    one.written ∙ ap (λ (x : List Answer × State Catalog). replies_text x.0 ++ book_text x.1.0) same ∙ sym two.written

pub returns-clause-some : goal.returns-clause-some
returns-clause-some c tenants slots max_blob first script rows opened all =
    let run = some_run (first, no_leases) rows (all_fit all.records rows all.good) in
    let text = replies_text run.0 ++ book_text run.1.0 in
    (text, record { first = first; opened = opened; rows = rows; all = all; answers = run.0; last = run.1.0; left = run.1.1; run = run.2; written = refl })
