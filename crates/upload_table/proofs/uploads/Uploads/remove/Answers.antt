use Rattle.std.proofs.Common.{ap, arith, is_some}
use Rattle.std.specs.FinMap.{get}
use Rattle.upload_table.proofs.TableCalls.{after-without_number, found_here, home_value, within}
use Rattle.upload_table.proofs.uploads.Uploads.remove.Goals as goal

pub index_mut-requires : goal.index_mut-requires
index_mut-requires c =
    let tenants = c.self.inside.tenants.items in
    let v = c.args.self.now in
    let x = home_value (get v.sessions (c.args.tenant, c.args.number)) c.requires in
    omega (arith, within tenants v c.self.view_is c.args.tenant c.args.number x.0 x.1, c.self.inside.tenants.ok.0)

pub remove-requires : goal.remove-requires
remove-requires c =
    let tenants = c.self.inside.tenants.items in
    let v = c.args.self.now in
    let x = home_value (get v.sessions (c.args.tenant, c.args.number)) c.requires in
    ap is_some (found_here tenants v c.self.view_is c.args.tenant c.args.number x.0 x.1 c.index_mut.result.now c.index_mut.ensures.value)

pub returns : goal.returns
returns c =
    let tenants = c.self.inside.tenants.items in
    let v = c.args.self.now in
    let x = home_value (get v.sessions (c.args.tenant, c.args.number)) c.requires in
    after-without_number tenants v c.self.view_is c.args.tenant c.args.number x.0 x.1 c.index_mut.result.now c.index_mut.ensures.value c.remove.new.self c.remove.ensures
