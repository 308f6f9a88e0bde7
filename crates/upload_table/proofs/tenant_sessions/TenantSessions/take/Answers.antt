use Rattle.std.proofs.Common.{◌≡◌, ◌+◌, Some, ap, sym, ◌∙◌, arith, set, subst}
use Rattle.std.specs.FinMap.{get}
use Rattle.store_model.specs.Sessions.{is_checked_in}
use Rattle.store_model.specs.Sessions as shown
use Rattle.upload_table.specs.Rows.{chunks_shown, content_charge, content_received, sessions_shown, HasConsistentBuffer}
use Rattle.upload_table.specs.Tenants.{SessionsByNumber, charged_in, with_chunks_here}
use Rattle.upload_table.specs.declared.upload.SessionContent.TheVariants.{InHand}
use Rattle.upload_table.specs.declared.upload.Upload.{Upload}
use Rattle.std.proofs.lemmas.Bool.{false≢true}
use Rattle.upload_table.proofs.TenantRows.{absent, charge-le, charged_kept, found, home_row, sound-set, view-set, whole_row}
use Rattle.upload_table.proofs.tenant_sessions.TenantSessions.take.Goals as goal

pub overflow_add-self : goal.overflow_add-self
overflow_add-self c =
    let kept = charged_kept c.self.inside.next c.self.inside.charged c.self.inside.rows.items c.self.invariant ∙ ap charged_in c.self.view_is in
    omega (arith, kept, c.requires.room)

pub take_chunks-requires : goal.take_chunks-requires
take_chunks-requires c = home_row c.self.inside.next c.self.inside.charged c.self.inside.rows.items c.self.invariant c.args.number c.in-Ok.i c.index_mut-row.result.now (rw c.as_slice.ensures.value at c.in-Ok.ensures.within) (rw c.as_slice.ensures.value at c.in-Ok.ensures.place) c.index_mut-row.ensures.value (rw (← c.self.view_is) at c.requires.home)

pub invariant_of-self : goal.invariant_of-self
invariant_of-self c =
    let row = c.index_mut-row.result.now in
    let received : content_received row.content ≡ content_charge row.content = ap content_received c.take_chunks.ensures.pieces ∙ sym (ap content_charge c.take_chunks.ensures.pieces) in
    rw c.take_chunks.ensures.row (sound-set c.self.inside.next c.self.inside.charged c.self.inside.rows.items c.self.invariant c.args.number c.in-Ok.i c.index_mut-row.result.now (rw c.as_slice.ensures.value at c.in-Ok.ensures.within) (rw c.as_slice.ensures.value at c.in-Ok.ensures.place) c.index_mut-row.ensures.value (InHand (content_received row.content) c.args.len) (c.self.inside.charged + c.args.len) (omega (arith, received)) tt)

pub unreachable-requires : goal.unreachable-requires
unreachable-requires c =
    let none = absent c.self.inside.next c.self.inside.charged c.self.inside.rows.items c.self.invariant c.args.number c.in-Err.field-0 (rw c.as_slice.ensures.value at c.in-Err.ensures.place) in
    false≢true (sym (ap is_checked_in none) ∙ (rw (← c.self.view_is) at c.requires.home))

pub returns-clause-whole : goal.returns-clause-whole
returns-clause-whole c = subst HasConsistentBuffer c.take_chunks.ensures.pieces (whole_row c.self.inside.next c.self.inside.charged c.self.inside.rows.items c.self.invariant c.args.number c.in-Ok.i c.index_mut-row.result.now (rw c.as_slice.ensures.value at c.in-Ok.ensures.within) (rw c.as_slice.ensures.value at c.in-Ok.ensures.place) c.index_mut-row.ensures.value)

pub returns-clause-fits : goal.returns-clause-fits
returns-clause-fits c =
    let kept = charged_kept c.self.inside.next c.self.inside.charged c.self.inside.rows.items c.self.invariant ∙ ap charged_in c.self.view_is in
    let le = charge-le c.self.inside.next c.self.inside.charged c.self.inside.rows.items c.self.invariant c.args.number c.in-Ok.i c.index_mut-row.result.now (rw c.as_slice.ensures.value at c.in-Ok.ensures.within) (rw c.as_slice.ensures.value at c.in-Ok.ensures.place) c.index_mut-row.ensures.value in
    omega (arith, kept, c.requires.room, le, ap content_charge c.take_chunks.ensures.pieces)

pub returns-clause-session : goal.returns-clause-session
returns-clause-session c =
    ap (λ (s : SessionsByNumber). get s.sessions c.args.number) (sym c.self.view_is)
    ∙ found c.self.inside.next c.self.inside.charged c.self.inside.rows.items c.self.invariant c.args.number c.in-Ok.i c.index_mut-row.result.now (rw c.as_slice.ensures.value at c.in-Ok.ensures.within) (rw c.as_slice.ensures.value at c.in-Ok.ensures.place) c.index_mut-row.ensures.value
    ∙ (λ i. Some (record { repo = sym c.of-repo.ensures i; chunks = chunks_shown (c.take_chunks.ensures.pieces i) }))

pub returns-clause-taken : goal.returns-clause-taken
returns-clause-taken c =
    let row = c.index_mut-row.result.now in
    ap (λ (u : Upload). sessions_shown c.self.inside.next (set c.self.inside.rows.items c.in-Ok.i u)) c.take_chunks.ensures.row
    ∙ view-set c.self.inside.next c.self.inside.charged c.self.inside.rows.items c.self.invariant c.args.number c.in-Ok.i c.index_mut-row.result.now (rw c.as_slice.ensures.value at c.in-Ok.ensures.within) (rw c.as_slice.ensures.value at c.in-Ok.ensures.place) c.index_mut-row.ensures.value (InHand (content_received row.content) c.args.len)
    ∙ (λ j. with_chunks_here (c.self.view_is j) c.args.number (shown.CheckedOutWith (content_received (c.take_chunks.ensures.pieces j)) c.args.len))
