use Rattle.std.proofs.Common.{ap, sym, ◌∙◌, arith, is_some, ◌-◌}
use Rattle.std.proofs.lemmas.Bool.{false≢true}
use Rattle.upload_table.specs.Tenants.{SessionsByNumber, without_number}
use Rattle.upload_table.proofs.TenantRows.{absent, charge-le, map_of, shown-remove, sound-remove}
use Rattle.upload_table.proofs.tenant_sessions.TenantSessions.remove.Goals as goal

pub invariant_of-self : goal.invariant_of-self
invariant_of-self c =
    let le = charge-le c.self.inside.next c.self.inside.charged c.self.inside.rows.items c.self.invariant c.args.number c.in-Ok.i c.index.result.now (rw c.as_slice.ensures.value at c.in-Ok.ensures.within) (rw c.as_slice.ensures.value at c.in-Ok.ensures.place) c.index.ensures in
    rw c.remove.ensures.items (sound-remove c.self.inside.next c.self.inside.charged c.self.inside.rows.items c.self.invariant c.args.number c.in-Ok.i c.index.result.now (rw c.as_slice.ensures.value at c.in-Ok.ensures.within) (rw c.as_slice.ensures.value at c.in-Ok.ensures.place) c.index.ensures (c.self.inside.charged - c.charge_of-charge.result) (omega (arith, le, c.charge_of-charge.ensures)))

pub unreachable-requires : goal.unreachable-requires
unreachable-requires c =
    let none = absent c.self.inside.next c.self.inside.charged c.self.inside.rows.items c.self.invariant c.args.number c.in-Err.field-0 (rw c.as_slice.ensures.value at c.in-Err.ensures.place) in
    false≢true (sym (ap is_some none) ∙ (rw (← c.self.view_is) at c.requires))

pub returns : goal.returns
returns c =
    (λ j. record { next = c.self.inside.next; sessions = map_of (c.remove.ensures.items j) }) ∙ (λ j. record { next = c.self.inside.next; sessions = shown-remove c.self.inside.next c.self.inside.charged c.self.inside.rows.items c.self.invariant c.args.number c.in-Ok.i c.index.result.now (rw c.as_slice.ensures.value at c.in-Ok.ensures.within) (rw c.as_slice.ensures.value at c.in-Ok.ensures.place) c.index.ensures j })
    ∙ ap (λ (s : SessionsByNumber). without_number s c.args.number) c.self.view_is
