use Rattle.std.proofs.Common.{◌≡◌, ap, sym, ◌∙◌, refl}
use Rattle.std.proofs.lemmas.Result.{err_from_is_err_and}
use Rattle.std.specs.FinMap.{get}
use Rattle.blob_digest.specs.Digests.{sha256_text}
use Rattle.store_book.specs.BookState.{BookState}
use Rattle.store_book.specs.Internal.Storing.{add_manifest_outcome}
use Rattle.store_book.specs.Layers.{book_catalog}
use Rattle.store_book.proofs.Refine.Manifests.{is_some-of, read_from, put_unlinked, put_there, put_refused, put_ok, IsBook-put_manifest}
use Rattle.store_book.proofs.Refine.Start.{absent_unlinked}
use Rattle.store_book.specs.BookFields.{layers}
use Rattle.store_book.proofs.book.Book.keep_manifest.Goals as goal

pub returns-in_err-check_linked-clause-does : goal.returns-in_err-check_linked-clause-does
returns-in_err-check_linked-clause-does c =
    let i = c.self.inside in
    let bytes = c.args.manifest in
    let read = read_from bytes _ c.refs.result.now (sha256_text bytes) c.manifest.view_is c.manifest.invariant.fits c.refs.ensures refl in
    let p = err_from_is_err_and c.from_residual-in_err-check_linked.result c.from_residual-in_err-check_linked.ensures.1 in
    rw (p.1, p.2) (
      (λ other. rw (← c.self.view_is) (put_unlinked (layers i) c.in_ok-tenant.tenant c.args.repo.now bytes c.refs.result.now (sha256_text bytes) c.self.invariant (sym c.in_ok-tenant.ensures.known) read _ (sym c.in_err-check_linked.ensures))),
      refl,
    )

pub returns-then-is_some-clause-does : goal.returns-then-is_some-clause-does
returns-then-is_some-clause-does c =
    let i = c.self.inside in
    let bytes = c.args.manifest in
    let name = c.digest-digest.result in
    let read = read_from bytes _ c.refs.result.now name c.manifest.view_is c.manifest.invariant.fits c.refs.ensures c.digest-digest.ensures in
    let there = is_some-of (λ x. x.now.value) c.manifest-2.result (get i.links.manifests (c.args.repo.now, name)) _ c.manifest-2.ensures (sym c.is_some.ensures ∙ c.if-is_some.true) in
    rw (← c.self.view_is) (put_there (layers i) c.in_ok-tenant.tenant c.args.repo.now bytes c.refs.result.now name c.self.invariant (sym c.in_ok-tenant.ensures.known) read (sym c.in_ok-check_linked.ensures) there)

pub add_manifest-requires-clause-unlinked : goal.add_manifest-requires-clause-unlinked
add_manifest-requires-clause-unlinked c = absent_unlinked (layers c.self.inside) c.args.repo.now c.self.invariant

pub returns-in_err-add_manifest-clause-does : goal.returns-in_err-add_manifest-clause-does
returns-in_err-add_manifest-clause-does c =
    let i = c.self.inside in
    let repo = c.args.repo.now in
    let bytes = c.args.manifest in
    let name = c.digest-digest.result in
    let read = read_from bytes _ c.refs.result.now name c.manifest.view_is c.manifest.invariant.fits c.refs.ensures c.digest-digest.ensures in
    let absent = is_some-of (λ x. x.now.value) c.manifest-2.result (get i.links.manifests (repo, name)) _ c.manifest-2.ensures (sym c.is_some.ensures ∙ c.if-is_some.false) in
    let put : add_manifest_outcome i.links c.in_ok-tenant.tenant repo c.in_ok-manifest.manifest.value ≡ add_manifest_outcome i.links c.in_ok-tenant.tenant repo bytes = ap (add_manifest_outcome i.links c.in_ok-tenant.tenant repo) c.in_ok-manifest.ensures.ok in
    let p = err_from_is_err_and c.from_residual-in_err-add_manifest.result c.from_residual-in_err-add_manifest.ensures.1 in
    rw (p.1, p.2) (
      (λ other. rw (← c.self.view_is) (put_refused (layers i) c.in_ok-tenant.tenant repo bytes c.refs.result.now name c.self.invariant (sym c.in_ok-tenant.ensures.known) read (sym c.in_ok-check_linked.ensures) absent _ (sym put ∙ c.in_err-add_manifest.ensures.0 other))),
      ap (λ l. book_catalog (record (layers i) { links = l })) c.in_err-add_manifest.ensures.1 ∙ ap (λ (s : BookState). s.catalog) c.self.view_is,
    )

pub invariant_of-self-2 : goal.invariant_of-self-2
invariant_of-self-2 c =
    let i = c.self.inside in
    let repo = c.args.repo.now in
    let bytes = c.args.manifest in
    let name = c.digest-digest.result in
    let read = read_from bytes _ c.refs.result.now name c.manifest.view_is c.manifest.invariant.fits c.refs.ensures c.digest-digest.ensures in
    let absent = is_some-of (λ x. x.now.value) c.manifest-2.result (get i.links.manifests (repo, name)) _ c.manifest-2.ensures (sym c.is_some.ensures ∙ c.if-is_some.false) in
    let put : add_manifest_outcome i.links c.in_ok-tenant.tenant repo c.in_ok-manifest.manifest.value ≡ add_manifest_outcome i.links c.in_ok-tenant.tenant repo bytes = ap (add_manifest_outcome i.links c.in_ok-tenant.tenant repo) c.in_ok-manifest.ensures.ok in
    IsBook-put_manifest (layers i) c.in_ok-tenant.tenant repo bytes c.refs.result.now name c.self.invariant (sym c.in_ok-tenant.ensures.known) read (sym c.in_ok-check_linked.ensures) absent c.add_manifest.new.links (sym put ∙ c.in_ok-add_manifest.ensures) c.in_ok-tenant.ensures.short

pub returns-clause-does : goal.returns-clause-does
returns-clause-does c =
    let i = c.self.inside in
    let repo = c.args.repo.now in
    let bytes = c.args.manifest in
    let name = c.digest-digest.result in
    let read = read_from bytes _ c.refs.result.now name c.manifest.view_is c.manifest.invariant.fits c.refs.ensures c.digest-digest.ensures in
    let absent = is_some-of (λ x. x.now.value) c.manifest-2.result (get i.links.manifests (repo, name)) _ c.manifest-2.ensures (sym c.is_some.ensures ∙ c.if-is_some.false) in
    let put : add_manifest_outcome i.links c.in_ok-tenant.tenant repo c.in_ok-manifest.manifest.value ≡ add_manifest_outcome i.links c.in_ok-tenant.tenant repo bytes = ap (add_manifest_outcome i.links c.in_ok-tenant.tenant repo) c.in_ok-manifest.ensures.ok in
    rw (← c.self.view_is) (put_ok (layers i) c.in_ok-tenant.tenant repo bytes c.refs.result.now name c.self.invariant (sym c.in_ok-tenant.ensures.known) read (sym c.in_ok-check_linked.ensures) absent c.add_manifest.new.links (sym put ∙ c.in_ok-add_manifest.ensures))
