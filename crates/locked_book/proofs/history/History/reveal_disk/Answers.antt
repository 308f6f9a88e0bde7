use Rattle.std.proofs.Common.{◌++◌, subst}
use Rattle.ghost_log.specs.Entries.{IsPrefix}
use Rattle.durable_log.proofs.Encodings.{encode_prefix}
use Rattle.durable_log.proofs.Prefixes.{prefix_after, prefix_trans}
use Rattle.locked_book.specs.Logging.{recorded_bytes}
use Rattle.locked_book.specs.Restoring.{records_of}
use Rattle.locked_book.proofs.history.History.reveal_disk.Goals as goal

pub returns-clause-taken : goal.returns-clause-taken
returns-clause-taken g c = subst (IsPrefix c.args.device.now.taken) c.self.view_is c.reveal_order.ensures.whole.of

pub returns-clause-written : goal.returns-clause-written
returns-clause-written g c =
    let names = g.S.Naming.names in
    let d = c.args.device.now in
    let history = c.self.inside.backlog.history in
    let whole = c.reveal_order.ensures.whole in
    subst (λ h. IsPrefix d.written (names.log.base ++ records_of names h)) c.self.view_is
    (prefix_trans d.written (names.log.base ++ records_of names d.taken) (names.log.base ++ records_of names history) whole.in_order
    (prefix_after names.log.base (records_of names d.taken) (records_of names history) (encode_prefix (recorded_bytes names.policy names.longest) d.taken history whole.of)))
