use Rattle.std.proofs.Common.{rules}
use Rattle.log_rewriting.specs.Held.{held_sessions, open_sessions}
use Rattle.log_rewriting.proofs.Sessions.{HasSessions-grows}
use Rattle.log_rewriting.proofs.inventory.Inventory.filter.Goals as goal

pub returns-clause-open : goal.returns-clause-open
returns-clause-open c =
    let held = HasSessions-grows c.add_open.new.kept c.add_held.new.kept (open_sessions c.args.self.now) c.add_held.ensures.kept c.in_ok-add_open.ensures.there in
    HasSessions-grows c.add_held.new.kept c.add_last.new.kept (open_sessions c.args.self.now) c.add_last.ensures.kept held

pub returns-clause-held : goal.returns-clause-held
returns-clause-held c =
    HasSessions-grows c.add_held.new.kept c.add_last.new.kept (held_sessions c.args.self.now) c.add_last.ensures.kept (search rules)
