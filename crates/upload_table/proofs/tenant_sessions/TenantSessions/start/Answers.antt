use Rattle.std.proofs.Common.{◌+◌, Ok, ap, sym, subst, ◌∙◌, refl, length}
use Rattle.std.specs.FinMap.{insert}
use Rattle.store_model.specs.Sessions as shown
use Rattle.upload_table.specs.Uploaded.{cut_chunks}
use Rattle.upload_table.specs.Rows.{IsConsistentBuffer}
use Rattle.upload_table.specs.declared.upload.Upload.{Upload}
use Rattle.upload_table.specs.declared.upload.ChunkBuffer.{ChunkBuffer}
use Rattle.upload_table.specs.declared.upload.SessionContent.TheVariants.{Home}
use Rattle.upload_table.proofs.TenantRows.{map_of, shown-push, sound-push, start_open, start_spent}
use Rattle.upload_table.proofs.tenant_sessions.TenantSessions.start.Goals as goal

pub returns-then-is_exhausted : goal.returns-then-is_exhausted
returns-then-is_exhausted c = ((λ _. start_spent c.args.limit c.args.self.now c.args.repo.now (sym c.is_exhausted.ensures ∙ c.if-is_exhausted.true)), refl)

pub invariant_of-self-2 : goal.invariant_of-self-2
invariant_of-self-2 c =
    let row : Upload = record { number = c.self.inside.next; repo = c.in_ok-clone.field-0; content = Home c.in_ok-new.field-0 } in
    rw c.in_ok-push.ensures.items (sound-push c.self.inside.next c.self.inside.charged c.self.inside.rows.items c.self.invariant row refl (ap (λ (p : ChunkBuffer). length p.bytes) c.in_ok-new.ensures.ok ∙ ap length c.new.ensures.empty) (subst IsConsistentBuffer (sym c.in_ok-new.ensures.ok) c.new.ensures.whole))

pub returns : goal.returns
returns c =
    let row : Upload = record { number = c.self.inside.next; repo = c.in_ok-clone.field-0; content = Home c.in_ok-new.field-0 } in
    let none = ap (λ (p : ChunkBuffer). cut_chunks p.lens.items p.bytes) c.in_ok-new.ensures.ok ∙ c.new.ensures.none in
    let pushed = ap map_of c.in_ok-push.ensures.items ∙ shown-push c.self.inside.next c.self.inside.charged c.self.inside.rows.items c.self.invariant row refl
    ∙ (λ j. insert (map_of c.self.inside.rows.items) c.self.inside.next (record { repo = c.in_ok-clone.ensures.cases j; chunks = shown.CheckedIn (none j) })) in
    start_open c.args.limit c.args.self.now c.args.repo.now (sym c.is_exhausted.ensures ∙ c.if-is_exhausted.false)
    ∙ rw (← c.self.view_is) (λ j. Ok (c.self.inside.next, record { next = c.self.inside.next + 1; sessions = sym pushed j }))
