use Rattle.std.proofs.Common.{◌∙◌, ap, arith, is_some, sym}
use Rattle.std.specs.Option.{option_map_or}
use Rattle.spec_lib.proofs.Options.{some_value}
use Rattle.store_model.specs.Sessions.{CheckedIn, Session, with_chunks}
use Rattle.upload_table.specs.Uploaded.{cut_chunks, with_sessions}
use Rattle.upload_table.proofs.TableCalls.{after-chunks, found_here, within}
use Rattle.upload_table.proofs.uploads.Uploads.bring_home.Goals as goal

pub index_mut-requires : goal.index_mut-requires
index_mut-requires c =
    let x = some_value _ c.requires.there in
    omega (arith, within c.self.inside.tenants.items c.args.self.now c.self.view_is c.args.tenant c.args.number x.0 x.1, c.self.inside.tenants.ok.0)

pub put_home-requires-clause-there : goal.put_home-requires-clause-there
put_home-requires-clause-there c =
    let x = some_value _ c.requires.there in
    ap is_some (found_here c.self.inside.tenants.items c.args.self.now c.self.view_is c.args.tenant c.args.number x.0 x.1 c.index_mut.result.now c.index_mut.ensures.value)

pub put_home-requires-clause-less : goal.put_home-requires-clause-less
put_home-requires-clause-less c = λ y is.
    let x = some_value _ c.requires.there in
    let found = found_here c.self.inside.tenants.items c.args.self.now c.self.view_is c.args.tenant c.args.number x.0 x.1 c.index_mut.result.now c.index_mut.ensures.value in
    c.requires.less y (x.1 ∙ sym found ∙ is)

pub returns-clause-home : goal.returns-clause-home
returns-clause-home c =
    let x = some_value _ c.requires.there in
    let chunks = CheckedIn (cut_chunks c.args.pieces.value.lens.items c.args.pieces.value.bytes) in
    after-chunks c.self.inside.tenants.items c.args.self.now c.self.view_is c.args.tenant c.args.number x.0 x.1 c.index_mut.result.now c.index_mut.ensures.value c.put_home.new.self _ c.put_home.ensures.home
    ∙ sym (ap (λ o. with_sessions c.args.self.now (option_map_or (λ (s : Session). with_chunks c.args.self.now.sessions (c.args.tenant, c.args.number) s chunks) o c.args.self.now.sessions)) x.1)
