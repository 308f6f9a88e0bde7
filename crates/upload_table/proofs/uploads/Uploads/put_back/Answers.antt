use Rattle.std.proofs.Common.{◌≡◌, Ok, length, ap, sym, ◌∙◌, arith, is_some}
use Rattle.std.specs.List.{sum_by}
use Rattle.std.specs.FinMap.{get}
use Rattle.spec_lib.proofs.Options.{some_same}
use Rattle.store_model.specs.Sessions.{CheckedIn, with_chunks}
use Rattle.upload_table.specs.Uploaded.{with_sessions}
use Rattle.upload_table.proofs.HandCalls.{brought, found_as, put_back_known, put_fits, taken_value, whole_length}
use Rattle.upload_table.proofs.uploads.Uploads.put_back.Goals as goal

pub bring_home-requires-clause-there : goal.bring_home-requires-clause-there
bring_home-requires-clause-there c =
    let v = c.args.self.now in
    let h = c.args.hand in
    let x = taken_value (get v.sessions h.key) h (sym c.in-Some.ensures) in
    let key : (c.tenant-tenant.result, c.number-number.result) ≡ h.key = (λ j. (c.tenant-tenant.ensures j, c.number-number.ensures j)) in
    ap is_some (found_as v h x.0 x.1 _ key)

pub bring_home-requires-clause-less : goal.bring_home-requires-clause-less
bring_home-requires-clause-less c = λ y is.
    let v = c.args.self.now in
    let h = c.args.hand in
    let x = taken_value (get v.sessions h.key) h (sym c.in-Some.ensures) in
    let key : (c.tenant-tenant.result, c.number-number.result) ≡ h.key = (λ j. (c.tenant-tenant.ensures j, c.number-number.ensures j)) in
    let p = c.into_pieces-pieces.ensures in
    put_fits v h x.0 x.1 c.into_pieces-pieces.result.value p.whole (omega (arith, ap (sum_by length) p.chunks, p.fits)) y (some_same (sym is ∙ found_as v h x.0 x.1 _ key))

pub returns : goal.returns
returns c =
    let v = c.args.self.now in
    let h = c.args.hand in
    let x = taken_value (get v.sessions h.key) h (sym c.in-Some.ensures) in
    let key : (c.tenant-tenant.result, c.number-number.result) ≡ h.key = (λ j. (c.tenant-tenant.ensures j, c.number-number.ensures j)) in
    let p = c.into_pieces-pieces.ensures in
    let after = c.bring_home.ensures.home ∙ brought v h x.0 x.1 _ _ key ∙ (λ j. with_sessions v (with_chunks v.sessions h.key x.0 (CheckedIn (p.chunks j)))) in
    put_back_known v h x.0 x.1 c.bring_home.result (c.bring_home.ensures.len ∙ sym (whole_length c.into_pieces-pieces.result.value p.whole) ∙ ap (sum_by length) p.chunks) ∙ (λ j. Ok (c.bring_home.result, sym after j))
