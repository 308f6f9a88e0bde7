use Rattle.std.proofs.Common.{◌≡◌, ◌≢◌, [], false, Option, is_ok, length, ap, ◌∙◌, arith, subst, sym}
use Rattle.blob_digest.specs.declared.refusal.Refusal.TheVariants.{Memory}
use Rattle.store_book.proofs.Refine.Found.{ok_of}
use Rattle.std.specs.Option.{option_map_or}
use Rattle.link_table.specs.Linked.{passes_share}
use Rattle.std.specs.FinMap.{get, remove}
use Rattle.spec_lib.specs.Texts.{Text}
use Rattle.store_model.specs.Sessions.{Session, hand_content, session_of_hand}
use Rattle.upload_table.specs.Uploaded.{repo_at, reopened_table, with_sessions}
use Rattle.store_book.specs.BookState.{BookState}
use Rattle.store_book.specs.Pinned.{Pinned, slot_views_of}
use Rattle.store_book.specs.SlotSteps.{EachSlot, MayPlace}
use Rattle.store_book.proofs.Slots.Placement.{EachSlot-is_placed}
use Rattle.store_book.specs.Internal.Storing.{IsStored, CannotStore}
use Rattle.store_book.specs.Layers.{book_catalog}
use Rattle.store_model.specs.Commands.{after_cancel}
use Rattle.store_book.proofs.Refine.Finish.{found, finish_charged, finish_ok, finish_other_digest, finish_unkept, after_cancel_is, layer_finished, layer_refused, layer_unknown, reserve_charged, sealed_named, same_tenants, CanStore-finished, IsBook-finish, IsBook-after_cancel}
use Rattle.store_book.proofs.Refine.PutBack.{here_tenant}
use Rattle.store_book.proofs.Slots.Shown.{KeepsGenerations-slot_views_of}
use Rattle.store_book.specs.BookFields.{layers}
use Rattle.store_book.proofs.book.Book.finish.Goals as goal

pub discharge-requires : goal.discharge-requires
discharge-requires c =
    let p = ok_of (session_of_hand (get c.self.inside.uploads.sessions c.args.hand.key) c.args.hand) (c.in-Err.ensures.taken (λ e. c.in_default.not-UploadUnknown e)) in
    rw (c.tenant-tenant.ensures, c.reserved-reserved.ensures.value) (record {
      there = here_tenant (layers c.self.inside) c.args.hand c.self.invariant (record { pieces = c.reserved-reserved.ensures.pieces; last = c.reserved-reserved.ensures.last }) p.0 p.1;
      charged = reserve_charged (layers c.self.inside) c.args.hand c.args.digest.now c.self.invariant (record { pieces = c.reserved-reserved.ensures.pieces; last = c.reserved-reserved.ensures.last }) c.requires.full p.0 p.1;
    })

pub invariant_of-self-in_default : goal.invariant_of-self-in_default
invariant_of-self-in_default c =
    let p = ok_of (session_of_hand (get c.self.inside.uploads.sessions c.args.hand.key) c.args.hand) (c.in-Err.ensures.taken (λ e. c.in_default.not-UploadUnknown e)) in
    IsBook-after_cancel (layers c.self.inside) c.args.hand c.args.digest.now c.self.invariant (record { pieces = c.reserved-reserved.ensures.pieces; last = c.reserved-reserved.ensures.last }) c.requires.full p.0 p.1 c.discharge.new.self c.finish.new.self (rw (c.tenant-tenant.ensures, c.reserved-reserved.ensures.value) at c.discharge.ensures) c.in-Err.ensures.does.1

pub keep-requires-clause-can : goal.keep-requires-clause-can
keep-requires-clause-can c =
    let p = layer_finished c.with_files-sealing.result c.self.inside.uploads c.args.hand c.args.digest.now c.in-Ok.both.0 c.finish.new.self c.in-Ok.ensures.does in
    let at = found (layers c.self.inside) c.args.hand c.args.digest.now c.self.invariant (record { pieces = c.reserved-reserved.ensures.pieces; last = c.reserved-reserved.ensures.last }) c.requires.full p.0 p.1 in
    let repo : c.repo_of-repo.result.now ≡ p.0.repo = c.repo_of-repo.ensures ∙ (λ i. repo_at (p.4 i) (c.in-Ok.ensures.key i)) ∙ ap (λ (o : Option Session). option_map_or (λ (s : Session). s.repo) o []) at in
    rw (c.tenant-tenant.ensures, repo) (CanStore-finished (layers c.self.inside) c.args.hand c.args.digest.now c.self.invariant (record { pieces = c.reserved-reserved.ensures.pieces; last = c.reserved-reserved.ensures.last }) c.requires.full p.0 p.1 c.in-Ok.both.0 p.3)

pub discharge-requires-in-Ok-keep-clause-there : goal.discharge-requires-in-Ok-keep-clause-there
discharge-requires-in-Ok-keep-clause-there c =
    let p = layer_finished c.with_files-sealing.result c.self.inside.uploads c.args.hand c.args.digest.now c.in-Ok.both.0 c.finish.new.self c.in-Ok.ensures.does in
    let at = found (layers c.self.inside) c.args.hand c.args.digest.now c.self.invariant (record { pieces = c.reserved-reserved.ensures.pieces; last = c.reserved-reserved.ensures.last }) c.requires.full p.0 p.1 in
    let repo : c.repo_of-repo.result.now ≡ p.0.repo = c.repo_of-repo.ensures ∙ (λ i. repo_at (p.4 i) (c.in-Ok.ensures.key i)) ∙ ap (λ (o : Option Session). option_map_or (λ (s : Session). s.repo) o []) at in
    let admits = rw c.tenant-tenant.ensures at (subst (λ (b : Text × Text). passes_share c.self.inside.links c.tenant-tenant.result b.0 ≡ false) p.3 c.in-Ok-keep.ensures.share) in
    let kept = subst (λ (b : Text × Text). IsStored c.self.inside.on_disk c.self.inside.links c.self.inside.slots.slots p.0.repo b c.keep.new.links c.keep.new.slots.slots) p.3 (subst (λ (r : Text). IsStored c.self.inside.on_disk c.self.inside.links c.self.inside.slots.slots r c.in-Ok.both.0 c.keep.new.links c.keep.new.slots.slots) repo c.in-Ok-keep.ensures.ok) in
    let tenants = same_tenants (layers c.self.inside) c.args.hand c.args.digest.now c.self.invariant (record { pieces = c.reserved-reserved.ensures.pieces; last = c.reserved-reserved.ensures.last }) c.requires.full p.0 p.1 (sealed_named c.with_files-sealing.result (layers c.self.inside).contents c.args.digest.now (hand_content c.args.hand) c.with_files-sealing.ensures.by_note c.in-Ok.ensures.read ∙ p.2) c.keep.new.links c.keep.new.slots.slots kept admits in
    let there = here_tenant (layers c.self.inside) c.args.hand c.self.invariant (record { pieces = c.reserved-reserved.ensures.pieces; last = c.reserved-reserved.ensures.last }) p.0 p.1 in
    rw c.tenant-tenant.ensures (omega (arith, tenants, there))

pub discharge-requires-in-Ok-keep-clause-charged : goal.discharge-requires-in-Ok-keep-clause-charged
discharge-requires-in-Ok-keep-clause-charged c =
    let p = layer_finished c.with_files-sealing.result c.self.inside.uploads c.args.hand c.args.digest.now c.in-Ok.both.0 c.finish.new.self c.in-Ok.ensures.does in
    let at = found (layers c.self.inside) c.args.hand c.args.digest.now c.self.invariant (record { pieces = c.reserved-reserved.ensures.pieces; last = c.reserved-reserved.ensures.last }) c.requires.full p.0 p.1 in
    let repo : c.repo_of-repo.result.now ≡ p.0.repo = c.repo_of-repo.ensures ∙ (λ i. repo_at (p.4 i) (c.in-Ok.ensures.key i)) ∙ ap (λ (o : Option Session). option_map_or (λ (s : Session). s.repo) o []) at in
    let admits = rw c.tenant-tenant.ensures at (subst (λ (b : Text × Text). passes_share c.self.inside.links c.tenant-tenant.result b.0 ≡ false) p.3 c.in-Ok-keep.ensures.share) in
    let kept = subst (λ (b : Text × Text). IsStored c.self.inside.on_disk c.self.inside.links c.self.inside.slots.slots p.0.repo b c.keep.new.links c.keep.new.slots.slots) p.3 (subst (λ (r : Text). IsStored c.self.inside.on_disk c.self.inside.links c.self.inside.slots.slots r c.in-Ok.both.0 c.keep.new.links c.keep.new.slots.slots) repo c.in-Ok-keep.ensures.ok) in
    let size = c.len-size.ensures ∙ ap (λ (b : Text × Text). length b.1) p.3 in
    rw (c.tenant-tenant.ensures, size) (finish_charged (layers c.self.inside) c.args.hand c.args.digest.now c.self.invariant (record { pieces = c.reserved-reserved.ensures.pieces; last = c.reserved-reserved.ensures.last }) c.requires.full p.0 p.1 (sealed_named c.with_files-sealing.result (layers c.self.inside).contents c.args.digest.now (hand_content c.args.hand) c.with_files-sealing.ensures.by_note c.in-Ok.ensures.read ∙ p.2) c.keep.new.links c.keep.new.slots.slots kept admits)

pub invariant_of-self-in-Ok-keep : goal.invariant_of-self-in-Ok-keep
invariant_of-self-in-Ok-keep c =
    let p = layer_finished c.with_files-sealing.result c.self.inside.uploads c.args.hand c.args.digest.now c.in-Ok.both.0 c.finish.new.self c.in-Ok.ensures.does in
    let at = found (layers c.self.inside) c.args.hand c.args.digest.now c.self.invariant (record { pieces = c.reserved-reserved.ensures.pieces; last = c.reserved-reserved.ensures.last }) c.requires.full p.0 p.1 in
    let repo : c.repo_of-repo.result.now ≡ p.0.repo = c.repo_of-repo.ensures ∙ (λ i. repo_at (p.4 i) (c.in-Ok.ensures.key i)) ∙ ap (λ (o : Option Session). option_map_or (λ (s : Session). s.repo) o []) at in
    let admits = rw c.tenant-tenant.ensures at (subst (λ (b : Text × Text). passes_share c.self.inside.links c.tenant-tenant.result b.0 ≡ false) p.3 c.in-Ok-keep.ensures.share) in
    let kept = subst (λ (b : Text × Text). IsStored c.self.inside.on_disk c.self.inside.links c.self.inside.slots.slots p.0.repo b c.keep.new.links c.keep.new.slots.slots) p.3 (subst (λ (r : Text). IsStored c.self.inside.on_disk c.self.inside.links c.self.inside.slots.slots r c.in-Ok.both.0 c.keep.new.links c.keep.new.slots.slots) repo c.in-Ok-keep.ensures.ok) in
    let size = c.len-size.ensures ∙ ap (λ (b : Text × Text). length b.1) p.3 in
    let links = rw (c.tenant-tenant.ensures, size) at c.discharge-in-Ok-keep.ensures in
    let uploads = c.forget.ensures ∙ (λ i. with_sessions (p.4 i) (remove (p.4 i).sessions (c.in-Ok.ensures.key i))) in
    IsBook-finish (layers c.self.inside) c.args.hand c.args.digest.now c.self.invariant (record { pieces = c.reserved-reserved.ensures.pieces; last = c.reserved-reserved.ensures.last }) c.requires.full p.0 p.1 (sealed_named c.with_files-sealing.result (layers c.self.inside).contents c.args.digest.now (hand_content c.args.hand) c.with_files-sealing.ensures.by_note c.in-Ok.ensures.read ∙ p.2) c.keep.new.links c.keep.new.slots.slots kept admits c.discharge-in-Ok-keep.new.self c.forget.new.self links uploads

pub discharge-requires-in-Err-keep-clause-there : goal.discharge-requires-in-Err-keep-clause-there
discharge-requires-in-Err-keep-clause-there c =
    let p = layer_finished c.with_files-sealing.result c.self.inside.uploads c.args.hand c.args.digest.now c.in-Ok.both.0 c.finish.new.self c.in-Ok.ensures.does in
    rw (c.tenant-tenant.ensures, c.in-Err-keep.ensures.err.0) (here_tenant (layers c.self.inside) c.args.hand c.self.invariant (record { pieces = c.reserved-reserved.ensures.pieces; last = c.reserved-reserved.ensures.last }) p.0 p.1)

pub discharge-requires-in-Err-keep-clause-charged : goal.discharge-requires-in-Err-keep-clause-charged
discharge-requires-in-Err-keep-clause-charged c =
    let p = layer_finished c.with_files-sealing.result c.self.inside.uploads c.args.hand c.args.digest.now c.in-Ok.both.0 c.finish.new.self c.in-Ok.ensures.does in
    rw (c.tenant-tenant.ensures, c.in-Err-keep.ensures.err.0, c.reserved-reserved.ensures.value) (reserve_charged (layers c.self.inside) c.args.hand c.args.digest.now c.self.invariant (record { pieces = c.reserved-reserved.ensures.pieces; last = c.reserved-reserved.ensures.last }) c.requires.full p.0 p.1)

pub invariant_of-self-in-Err-keep : goal.invariant_of-self-in-Err-keep
invariant_of-self-in-Err-keep c =
    let p = layer_finished c.with_files-sealing.result c.self.inside.uploads c.args.hand c.args.digest.now c.in-Ok.both.0 c.finish.new.self c.in-Ok.ensures.does in
    let links = rw (c.tenant-tenant.ensures, c.in-Err-keep.ensures.err.0, c.reserved-reserved.ensures.value) at c.discharge-in-Err-keep.ensures in
    let uploads = c.reopen.ensures ∙ ap (λ (b : Text × Text). reopened_table c.finish.new.self c.in-Ok.both.1 b.1) c.in-Err-keep.ensures.back ∙ c.in-Ok.ensures.restores.1 in
    rw (ap (λ (p : Pinned). p.slots) c.in-Err-keep.ensures.err.1) (IsBook-after_cancel (layers c.self.inside) c.args.hand c.args.digest.now c.self.invariant (record { pieces = c.reserved-reserved.ensures.pieces; last = c.reserved-reserved.ensures.last }) c.requires.full p.0 p.1 c.discharge-in-Err-keep.new.self c.reopen.new.self links uploads)

pub returns-in-Ok-keep-clause-does : goal.returns-in-Ok-keep-clause-does
returns-in-Ok-keep-clause-does c =
    let p = layer_finished c.with_files-sealing.result c.self.inside.uploads c.args.hand c.args.digest.now c.in-Ok.both.0 c.finish.new.self c.in-Ok.ensures.does in
    let at = found (layers c.self.inside) c.args.hand c.args.digest.now c.self.invariant (record { pieces = c.reserved-reserved.ensures.pieces; last = c.reserved-reserved.ensures.last }) c.requires.full p.0 p.1 in
    let repo : c.repo_of-repo.result.now ≡ p.0.repo = c.repo_of-repo.ensures ∙ (λ i. repo_at (p.4 i) (c.in-Ok.ensures.key i)) ∙ ap (λ (o : Option Session). option_map_or (λ (s : Session). s.repo) o []) at in
    let admits = rw c.tenant-tenant.ensures at (subst (λ (b : Text × Text). passes_share c.self.inside.links c.tenant-tenant.result b.0 ≡ false) p.3 c.in-Ok-keep.ensures.share) in
    let kept = subst (λ (b : Text × Text). IsStored c.self.inside.on_disk c.self.inside.links c.self.inside.slots.slots p.0.repo b c.keep.new.links c.keep.new.slots.slots) p.3 (subst (λ (r : Text). IsStored c.self.inside.on_disk c.self.inside.links c.self.inside.slots.slots r c.in-Ok.both.0 c.keep.new.links c.keep.new.slots.slots) repo c.in-Ok-keep.ensures.ok) in
    let size = c.len-size.ensures ∙ ap (λ (b : Text × Text). length b.1) p.3 in
    let links = rw (c.tenant-tenant.ensures, size) at c.discharge-in-Ok-keep.ensures in
    let uploads = c.forget.ensures ∙ (λ i. with_sessions (p.4 i) (remove (p.4 i).sessions (c.in-Ok.ensures.key i))) in
    rw (← c.self.view_is, size) (finish_ok (layers c.self.inside) c.args.hand c.args.digest.now c.self.invariant (record { pieces = c.reserved-reserved.ensures.pieces; last = c.reserved-reserved.ensures.last }) c.requires.full p.0 p.1 (sealed_named c.with_files-sealing.result (layers c.self.inside).contents c.args.digest.now (hand_content c.args.hand) c.with_files-sealing.ensures.by_note c.in-Ok.ensures.read ∙ p.2) c.keep.new.links c.keep.new.slots.slots kept admits c.discharge-in-Ok-keep.new.self c.forget.new.self links uploads)

pub returns-in-Ok-keep-clause-slots : goal.returns-in-Ok-keep-clause-slots
returns-in-Ok-keep-clause-slots c = rw (← c.self.view_is) (KeepsGenerations-slot_views_of c.self.inside.slots c.keep.new.slots c.in-Ok-keep.ensures.quiet)

pub returns-in-Err-keep-clause-does : goal.returns-in-Err-keep-clause-does
returns-in-Err-keep-clause-does c =
    let p = layer_finished c.with_files-sealing.result c.self.inside.uploads c.args.hand c.args.digest.now c.in-Ok.both.0 c.finish.new.self c.in-Ok.ensures.does in
    let links = rw (c.tenant-tenant.ensures, c.in-Err-keep.ensures.err.0, c.reserved-reserved.ensures.value) at c.discharge-in-Err-keep.ensures in
    let uploads = c.reopen.ensures ∙ ap (λ (b : Text × Text). reopened_table c.finish.new.self c.in-Ok.both.1 b.1) c.in-Err-keep.ensures.back ∙ c.in-Ok.ensures.restores.1 in (
      (λ other. rw (← c.self.view_is) (finish_unkept (layers c.self.inside) c.args.hand c.args.digest.now c.self.invariant (record { pieces = c.reserved-reserved.ensures.pieces; last = c.reserved-reserved.ensures.last }) c.requires.full p.0 p.1 (sealed_named c.with_files-sealing.result (layers c.self.inside).contents c.args.digest.now (hand_content c.args.hand) c.with_files-sealing.ensures.by_note c.in-Ok.ensures.read ∙ p.2) c.in-Err-keep.refusal (subst (λ (b : Text × Text). CannotStore c.self.inside.on_disk c.self.inside.links c.self.inside.slots.slots c.args.hand.key.0 b c.in-Err-keep.refusal) p.3 (rw c.tenant-tenant.ensures at (c.in-Err-keep.ensures.refused other))))),
      ap (λ s. book_catalog (record (layers c.self.inside) { links = c.discharge-in-Err-keep.new.self; uploads = c.reopen.new.self; slots = s })) (ap (λ (p : Pinned). p.slots) c.in-Err-keep.ensures.err.1) ∙ after_cancel_is (layers c.self.inside) c.args.hand c.args.digest.now c.discharge-in-Err-keep.new.self c.reopen.new.self c.args.hand.reserved links uploads ∙ ap (λ (s : BookState). after_cancel s.catalog c.args.hand) c.self.view_is,
    )

pub invariant_of-self : goal.invariant_of-self
invariant_of-self c = rw (c.in-Err.ensures.does.1 ∙ layer_unknown c.with_files-sealing.result c.self.inside.uploads c.args.hand c.args.digest.now c.in-Err.refusal (c.in-Err.ensures.does.0 (subst (λ e. e ≢ Memory) (sym c.in-UploadUnknown.is) (λ h. absurd cc))) c.in-UploadUnknown.is) c.self.invariant

pub returns-in_default-clause-does : goal.returns-in_default-clause-does
returns-in_default-clause-does c = (
  (λ other.
      let p = layer_refused c.with_files-sealing.result c.self.inside.uploads c.args.hand c.args.digest.now c.in-Err.refusal (c.in-Err.ensures.does.0 other) (λ e. c.in_default.not-UploadUnknown e) in
      rw (← c.self.view_is, p.3) (finish_other_digest (layers c.self.inside) c.args.hand c.args.digest.now c.self.invariant (record { pieces = c.reserved-reserved.ensures.pieces; last = c.reserved-reserved.ensures.last }) c.requires.full p.0 p.1 (sealed_named c.with_files-sealing.result (layers c.self.inside).contents c.args.digest.now (hand_content c.args.hand) c.with_files-sealing.ensures.by_note (λ _. c.in-Err.ensures.read p.3) ∙ p.2))),
  after_cancel_is (layers c.self.inside) c.args.hand c.args.digest.now c.discharge.new.self c.finish.new.self c.reserved-reserved.result (rw c.tenant-tenant.ensures at c.discharge.ensures) c.in-Err.ensures.does.1 ∙ ap (λ (s : BookState). after_cancel s.catalog c.args.hand) c.self.view_is,
)

pub returns-in-Ok-keep-clause-housed : goal.returns-in-Ok-keep-clause-housed
returns-in-Ok-keep-clause-housed c =
    let p = layer_finished c.with_files-sealing.result c.self.inside.uploads c.args.hand c.args.digest.now c.in-Ok.both.0 c.finish.new.self c.in-Ok.ensures.does in
    rw (← c.self.view_is) (subst (λ (b : Text × Text). EachSlot (MayPlace b.0) (slot_views_of c.self.inside.slots) (slot_views_of c.keep.new.slots)) p.3
    (EachSlot-is_placed c.self.inside.on_disk c.self.inside.slots c.keep.new.slots c.self.inside.links c.keep.new.links c.repo_of-repo.result.now c.in-Ok.both.0 c.in-Ok-keep.ensures.quiet c.in-Ok-keep.ensures.ok))

pub returns-in_default-clause-taken : goal.returns-in_default-clause-taken
returns-in_default-clause-taken c =
    let p = ok_of (session_of_hand (get c.self.inside.uploads.sessions c.args.hand.key) c.args.hand) (c.in-Err.ensures.taken (λ e. c.in_default.not-UploadUnknown e)) in
    λ _. rw (← c.self.view_is) (ap is_ok p.1)

pub returns-in-Err-keep-clause-taken : goal.returns-in-Err-keep-clause-taken
returns-in-Err-keep-clause-taken c =
    let p = layer_finished c.with_files-sealing.result c.self.inside.uploads c.args.hand c.args.digest.now c.in-Ok.both.0 c.finish.new.self c.in-Ok.ensures.does in
    λ _. rw (← c.self.view_is) (ap is_ok p.1)

pub returns-in-Ok-keep-clause-read : goal.returns-in-Ok-keep-clause-read
returns-in-Ok-keep-clause-read c = λ is. c.in-Ok.ensures.read (c.with_files-sealing.ensures.by_hash is)
