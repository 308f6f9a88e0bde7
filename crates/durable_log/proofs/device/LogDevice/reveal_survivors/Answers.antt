use Rattle.std.proofs.Common.{◌++◌, sym, subst}
use Rattle.ghost_log.specs.Entries.{IsPrefix}
use Rattle.durable_log.specs.Encoding.{encode}
use Rattle.durable_log.proofs.Prefixes.{prefix_after, prefix_trans}
use Rattle.durable_log.proofs.Encodings.{encode_prefix}
use Rattle.durable_log.proofs.device.LogDevice.reveal_survivors.Goals as goal

pub returns-clause-in_order : goal.returns-clause-in_order
returns-clause-in_order g c =
    let f = g.N.Naming.bytes in
    let base = g.N.Naming.names.base in
    let left = c.args.left.now in
    let whole = c.reveal_order.ensures.whole in
    let d = c.reveal_durable.new.self in
    let b = c.reveal_durable.new.backlog in
    let within = subst (λ v. IsPrefix left v.written) (sym c.reveal_durable.ensures.same.0) c.requires.written in
    let all = prefix_trans d.written (base ++ encode f d.taken) (base ++ encode f b.history) whole.in_order (prefix_after base (encode f d.taken) (encode f b.history) (encode_prefix f d.taken b.history whole.of)) in
    subst (λ v. IsPrefix left (base ++ encode f v.history)) c.reveal_durable.ensures.same.1 (prefix_trans left d.written (base ++ encode f b.history) within all)
