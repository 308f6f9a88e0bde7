use Rattle.std.proofs.Common.{ap, sym, ◌∙◌, arith}
use Rattle.std.specs.FinMap.{get}
use Rattle.store_model.specs.Sessions.{is_checked_in}
use Rattle.upload_table.proofs.HandCalls.{hand_is, take_is}
use Rattle.upload_table.proofs.TableCalls.{after-chunks, charged_here, found_here, home_value, within}
use Rattle.upload_table.proofs.uploads.Uploads.take.Goals as goal

pub index_mut-requires : goal.index_mut-requires
index_mut-requires c =
    let tenants = c.self.inside.tenants.items in
    let v = c.args.self.now in
    let x = home_value (get v.sessions (c.args.tenant, c.args.number)) c.requires.home in
    omega (arith, within tenants v c.self.view_is c.args.tenant c.args.number x.0 x.1, c.self.inside.tenants.ok.0)

pub take-repo-requires-clause-home : goal.take-repo-requires-clause-home
take-repo-requires-clause-home c =
    let tenants = c.self.inside.tenants.items in
    let v = c.args.self.now in
    let x = home_value (get v.sessions (c.args.tenant, c.args.number)) c.requires.home in
    ap is_checked_in (found_here tenants v c.self.view_is c.args.tenant c.args.number x.0 x.1 c.index_mut.result.now c.index_mut.ensures.value ∙ sym x.1) ∙ c.requires.home

pub take-repo-requires-clause-room : goal.take-repo-requires-clause-room
take-repo-requires-clause-room c =
    let tenants = c.self.inside.tenants.items in
    let v = c.args.self.now in
    let x = home_value (get v.sessions (c.args.tenant, c.args.number)) c.requires.home in
    omega (arith, c.requires.room, charged_here tenants v c.self.view_is c.args.tenant c.args.number x.0 x.1 c.index_mut.result.now c.index_mut.ensures.value)

pub returns-clause-hand : goal.returns-clause-hand
returns-clause-hand c =
    let tenants = c.self.inside.tenants.items in
    let v = c.args.self.now in
    let x = home_value (get v.sessions (c.args.tenant, c.args.number)) c.requires.home in
    let home = sym (found_here tenants v c.self.view_is c.args.tenant c.args.number x.0 x.1 c.index_mut.result.now c.index_mut.ensures.value) ∙ c.take-repo.ensures.session in
    c.new.ensures ∙ hand_is v (c.args.tenant, c.args.number) c.args.len x.0 x.1 c.take-repo.result.0.value c.take-repo.result.1.value c.take-repo.ensures.whole home

pub returns-clause-taken : goal.returns-clause-taken
returns-clause-taken c =
    let tenants = c.self.inside.tenants.items in
    let v = c.args.self.now in
    let x = home_value (get v.sessions (c.args.tenant, c.args.number)) c.requires.home in
    let home = sym (found_here tenants v c.self.view_is c.args.tenant c.args.number x.0 x.1 c.index_mut.result.now c.index_mut.ensures.value) ∙ c.take-repo.ensures.session in
    after-chunks tenants v c.self.view_is c.args.tenant c.args.number x.0 x.1 c.index_mut.result.now c.index_mut.ensures.value c.take-repo.new.self _ c.take-repo.ensures.taken
    ∙ take_is v (c.args.tenant, c.args.number) c.args.len x.0 x.1 c.take-repo.result.0.value c.take-repo.result.1.value c.take-repo.ensures.whole home
