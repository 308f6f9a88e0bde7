use Rattle.std.proofs.Common.{ap, sym, ◌∙◌, arith, length, is_some, ◌-◌}
use Rattle.std.proofs.lemmas.Bool.{false≢true}
use Rattle.upload_table.specs.Rows.{chunks_shown}
use Rattle.upload_table.specs.Tenants.{SessionsByNumber, with_chunks_here}
use Rattle.upload_table.specs.declared.upload.ChunkBuffer.{ChunkBuffer}
use Rattle.upload_table.specs.declared.upload.SessionContent.TheVariants.{Home}
use Rattle.upload_table.proofs.TenantRows.{absent, charge-le, sound-set, view-set, within_charge}
use Rattle.upload_table.proofs.tenant_sessions.TenantSessions.put_home.Goals as goal

pub overflow_sub-self : goal.overflow_sub-self
overflow_sub-self c =
    let less = within_charge c.self.inside.next c.self.inside.charged c.self.inside.rows.items c.self.invariant c.args.number c.in-Ok.i c.index_mut-row.result.now (rw c.as_slice.ensures.value at c.in-Ok.ensures.within) (rw c.as_slice.ensures.value at c.in-Ok.ensures.place) c.index_mut-row.ensures.value c.args.self.now (length c.args.pieces.value.bytes) c.self.view_is c.requires.less in
    omega (arith, less, c.charge_of-before.ensures, c.len-after.ensures, ap (λ (p : ChunkBuffer). length p.bytes) c.deref.ensures)

pub invariant_of-self : goal.invariant_of-self
invariant_of-self c =
    let less = within_charge c.self.inside.next c.self.inside.charged c.self.inside.rows.items c.self.invariant c.args.number c.in-Ok.i c.index_mut-row.result.now (rw c.as_slice.ensures.value at c.in-Ok.ensures.within) (rw c.as_slice.ensures.value at c.in-Ok.ensures.place) c.index_mut-row.ensures.value c.args.self.now (length c.args.pieces.value.bytes) c.self.view_is c.requires.less in
    let le = charge-le c.self.inside.next c.self.inside.charged c.self.inside.rows.items c.self.invariant c.args.number c.in-Ok.i c.index_mut-row.result.now (rw c.as_slice.ensures.value at c.in-Ok.ensures.within) (rw c.as_slice.ensures.value at c.in-Ok.ensures.place) c.index_mut-row.ensures.value in
    sound-set c.self.inside.next c.self.inside.charged c.self.inside.rows.items c.self.invariant c.args.number c.in-Ok.i c.index_mut-row.result.now (rw c.as_slice.ensures.value at c.in-Ok.ensures.within) (rw c.as_slice.ensures.value at c.in-Ok.ensures.place) c.index_mut-row.ensures.value (Home c.args.pieces) (c.self.inside.charged - (c.charge_of-before.result - c.len-after.result))
    (omega (arith, less, le, c.charge_of-before.ensures, c.len-after.ensures, ap (λ (p : ChunkBuffer). length p.bytes) c.deref.ensures)) c.requires.whole

pub unreachable-requires : goal.unreachable-requires
unreachable-requires c =
    let none = absent c.self.inside.next c.self.inside.charged c.self.inside.rows.items c.self.invariant c.args.number c.in-Err.field-0 (rw c.as_slice.ensures.value at c.in-Err.ensures.place) in
    false≢true (sym (ap is_some none) ∙ (rw (← c.self.view_is) at c.requires.there))

pub returns-clause-home : goal.returns-clause-home
returns-clause-home c =
    view-set c.self.inside.next c.self.inside.charged c.self.inside.rows.items c.self.invariant c.args.number c.in-Ok.i c.index_mut-row.result.now (rw c.as_slice.ensures.value at c.in-Ok.ensures.within) (rw c.as_slice.ensures.value at c.in-Ok.ensures.place) c.index_mut-row.ensures.value (Home c.args.pieces)
    ∙ ap (λ (s : SessionsByNumber). with_chunks_here s c.args.number (chunks_shown (Home c.args.pieces))) c.self.view_is
