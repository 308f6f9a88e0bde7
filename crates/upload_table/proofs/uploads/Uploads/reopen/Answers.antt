use Rattle.std.proofs.Common.{◌≡◌, length, ap, sym, ◌∙◌, arith, is_some}
use Rattle.std.specs.Prelude.{sum}
use Rattle.std.specs.List.{sum_by}
use Rattle.std.specs.FinMap.{get}
use Rattle.spec_lib.proofs.Options.{some_same}
use Rattle.store_model.specs.Sessions.{charged_length}
use Rattle.upload_table.specs.Uploaded.{HandRemainder, checked_in_with}
use Rattle.upload_table.proofs.Cuts.{sum_by-cut_chunks}
use Rattle.upload_table.proofs.HandCalls.{whole_length}
use Rattle.upload_table.proofs.uploads.Uploads.reopen.Goals as goal

pub bring_home-requires-clause-there : goal.bring_home-requires-clause-there
bring_home-requires-clause-there c =
    let v = c.args.self.now in
    let can = c.requires.there in
    let key : (c.sealed.inside.tenant, c.sealed.inside.number) ≡ c.args.sealed.key = ap (λ (r : HandRemainder). r.key) c.sealed.view_is in
    let found = ap (get v.sessions) key ∙ can.2 in
    ap is_some found

pub bring_home-requires-clause-less : goal.bring_home-requires-clause-less
bring_home-requires-clause-less c = λ y is.
    let v = c.args.self.now in
    let can = c.requires.there in
    let key : (c.sealed.inside.tenant, c.sealed.inside.number) ≡ c.args.sealed.key = ap (λ (r : HandRemainder). r.key) c.sealed.view_is in
    let found = ap (get v.sessions) key ∙ can.2 in
    let p = c.into_pieces-pieces.ensures in
    let same = some_same (sym is ∙ found) in
    let len : length c.into_pieces-pieces.result.value.bytes ≡ sum c.args.sealed.lens = sym (whole_length c.into_pieces-pieces.result.value p.whole) ∙ ap (sum_by length) p.chunks ∙ sum_by-cut_chunks c.args.sealed.lens c.args.blob.1 c.requires.begins.within in
    omega (arith, len, ap charged_length same)

pub returns : goal.returns
returns c =
    let v = c.args.self.now in
    let can = c.requires.there in
    let key : (c.sealed.inside.tenant, c.sealed.inside.number) ≡ c.args.sealed.key = ap (λ (r : HandRemainder). r.key) c.sealed.view_is in
    let found = ap (get v.sessions) key ∙ can.2 in
    c.bring_home.ensures.home ∙ (λ j. checked_in_with v (key j) (c.into_pieces-pieces.ensures.chunks j))
