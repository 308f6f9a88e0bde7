use Rattle.std.proofs.Common.{◌≡◌, length, ap, refl, sym, ◌∙◌, arith, is_some}
use Rattle.std.specs.List.{sum_by}
use Rattle.std.specs.FinMap.{get}
use Rattle.spec_lib.proofs.Options.{some_same}
use Rattle.store_model.specs.Sessions.{CheckedIn, hand_content, with_chunks}
use Rattle.upload_table.specs.Uploaded.{with_sessions}
use Rattle.upload_table.proofs.HandCalls.{brought, can-reopen, finish_other, found_as, given, put_fits, reopens, sealed_if_read, taken_value}
use Rattle.upload_table.proofs.uploads.Uploads.finish.Goals as goal

pub bring_home-requires-clause-there : goal.bring_home-requires-clause-there
bring_home-requires-clause-there c =
    let v = c.args.self.now in
    let h = c.args.hand in
    let x = taken_value (get v.sessions h.key) h (sym c.in-Some.ensures) in
    let key : (c.tenant-tenant.result, c.number-number.result) ≡ h.key = (λ j. (c.tenant-tenant.ensures j, c.number-number.ensures j)) in
    ap is_some (found_as v h x.0 x.1 _ key)

pub bring_home-requires-clause-less : goal.bring_home-requires-clause-less
bring_home-requires-clause-less c = λ y is.
    let v = c.args.self.now in
    let h = c.args.hand in
    let x = taken_value (get v.sessions h.key) h (sym c.in-Some.ensures) in
    let key : (c.tenant-tenant.result, c.number-number.result) ≡ h.key = (λ j. (c.tenant-tenant.ensures j, c.number-number.ensures j)) in
    put_fits v h x.0 x.1 c.in-Err.pieces.value c.in-Err.ensures.whole (omega (arith, ap (sum_by length) c.in-Err.ensures.chunks)) y (some_same (sym is ∙ found_as v h x.0 x.1 _ key))

pub returns-in-Ok-clause-restores : goal.returns-in-Ok-clause-restores
returns-in-Ok-clause-restores c =
    let v = c.args.self.now in
    let h = c.args.hand in
    let x = taken_value (get v.sessions h.key) h (sym c.in-Some.ensures) in
    let rest = c.in-Ok.ensures.rest in
    (can-reopen v h x.0 x.1 c.in-Ok.sealed.1 c.in-Ok.sealed.0.1 rest.1 rest.2 rest.0, reopens v h x.0 x.1 c.in-Ok.sealed.1 c.in-Ok.sealed.0.1 rest.1 rest.2)

pub returns-in-Differs-clause-does : goal.returns-in-Differs-clause-does
returns-in-Differs-clause-does c =
    let v = c.args.self.now in
    let h = c.args.hand in
    let x = taken_value (get v.sessions h.key) h (sym c.in-Some.ensures) in
    let key : (c.tenant-tenant.result, c.number-number.result) ≡ h.key = (λ j. (c.tenant-tenant.ensures j, c.number-number.ensures j)) in
    let after = c.bring_home.ensures.home ∙ brought v h x.0 x.1 _ _ key ∙ (λ j. with_sessions v (with_chunks v.sessions h.key x.0 (CheckedIn (c.in-Err.ensures.chunks j)))) in
    (λ _. finish_other v h x.0 x.1 c.args.sealing c.args.digest.now (sealed_if_read c.args.sealing c.args.digest.now (hand_content h) (c.in-Err.ensures.other c.in-Differs.is).1 ∙ (c.in-Err.ensures.other c.in-Differs.is).0), after ∙ ap (with_sessions v) (sym (given v h x.0 x.1)))

pub returns-in-Unhashed-clause-does : goal.returns-in-Unhashed-clause-does
returns-in-Unhashed-clause-does c =
    let v = c.args.self.now in
    let h = c.args.hand in
    let x = taken_value (get v.sessions h.key) h (sym c.in-Some.ensures) in
    let key : (c.tenant-tenant.result, c.number-number.result) ≡ h.key = (λ j. (c.tenant-tenant.ensures j, c.number-number.ensures j)) in
    let after = c.bring_home.ensures.home ∙ brought v h x.0 x.1 _ _ key ∙ (λ j. with_sessions v (with_chunks v.sessions h.key x.0 (CheckedIn (c.in-Err.ensures.chunks j)))) in
    (λ other. absurd (other refl), after ∙ ap (with_sessions v) (sym (given v h x.0 x.1)))
