use Rattle.std.proofs.Common.{◌≤◌, length, refl, subst}
use Rattle.store_model.specs.Catalog.{in_memory}
use Rattle.store_book.specs.Openings.{OpensCatalog, tenants_shown}
use Rattle.store_api.specs.Answers.{answers_of}
use Rattle.blobctl.proofs.BookPlays.{AreLow, fresh_low, run_happens}
use Rattle.blobctl.proofs.one_worker.play_by_one.Goals as goal

pub returns-clause-played : goal.returns-clause-played
returns-clause-played c =
    let store = c.args.options.now.store in
    let book = c.in_ok-book.book in
    let opened = c.in_ok-book.ensures.opened in
    let fresh : AreLow 0 book.slots = fresh_low book.slots store.slots _ opened.slots c.requires.within.first refl in
    let few : length c.args.rows ≤ 65536 = c.requires.few in
    let kept : OpensCatalog (tenants_shown store.tenants.items) store.slots (in_memory store.max_blob) book.catalog =
    subst (λ b. OpensCatalog (tenants_shown store.tenants.items) store.slots (record { max_blob = store.max_blob; on_disk = b }) book.catalog) c.requires.within.kept_in_memory opened.catalog in
    run_happens (OpensCatalog (tenants_shown store.tenants.items) store.slots (in_memory store.max_blob)) c.play_on_book.result (λ p. p.0) (λ p. answers_of p.1.items) c.args.rows book kept fresh few c.play_on_book.ensures.played
