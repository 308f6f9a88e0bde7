use Rattle.std.proofs.Common.{◌≡◌, ap, ◌∙◌, arith, is_some}
use Rattle.std.specs.FinMap.{get, remove}
use Rattle.spec_lib.proofs.Options.{some_value}
use Rattle.upload_table.specs.Uploaded.{HandRemainder, with_sessions}
use Rattle.upload_table.proofs.TableCalls.{after-without_number, found_here, within}
use Rattle.upload_table.proofs.uploads.Uploads.forget.Goals as goal

pub index_mut-requires : goal.index_mut-requires
index_mut-requires c =
    let tenants = c.self.inside.tenants.items in
    let v = c.args.self.now in
    let x = some_value (get v.sessions c.args.sealed.key) c.requires in
    let key : (c.sealed.inside.tenant, c.sealed.inside.number) ≡ c.args.sealed.key = ap (λ (r : HandRemainder). r.key) c.sealed.view_is in
    let found = ap (get v.sessions) key ∙ x.1 in
    omega (arith, within tenants v c.self.view_is c.sealed.inside.tenant c.sealed.inside.number x.0 found, c.self.inside.tenants.ok.0)

pub remove-requires : goal.remove-requires
remove-requires c =
    let tenants = c.self.inside.tenants.items in
    let v = c.args.self.now in
    let x = some_value (get v.sessions c.args.sealed.key) c.requires in
    let key : (c.sealed.inside.tenant, c.sealed.inside.number) ≡ c.args.sealed.key = ap (λ (r : HandRemainder). r.key) c.sealed.view_is in
    let found = ap (get v.sessions) key ∙ x.1 in
    ap is_some (found_here tenants v c.self.view_is c.sealed.inside.tenant c.sealed.inside.number x.0 found c.index_mut.result.now c.index_mut.ensures.value)

pub returns : goal.returns
returns c =
    let tenants = c.self.inside.tenants.items in
    let v = c.args.self.now in
    let x = some_value (get v.sessions c.args.sealed.key) c.requires in
    let key : (c.sealed.inside.tenant, c.sealed.inside.number) ≡ c.args.sealed.key = ap (λ (r : HandRemainder). r.key) c.sealed.view_is in
    let found = ap (get v.sessions) key ∙ x.1 in
    after-without_number tenants v c.self.view_is c.sealed.inside.tenant c.sealed.inside.number x.0 found c.index_mut.result.now c.index_mut.ensures.value c.remove.new.self c.remove.ensures ∙ (λ j. with_sessions v (remove v.sessions (key j)))
