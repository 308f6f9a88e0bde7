use Rattle.std.proofs.Common.{rules}
use Rattle.std.proofs.lemmas.Iterator.{YieldsList-from_slice, YieldsList-from_map_by}
use Rattle.std.proofs.lemmas.Iterator.Consumers.{map_from_collect}
use Rattle.std.proofs.lemmas.Result.{IfOk-at_ok}
use Rattle.server_cli.proofs.arguments.texts.Goals as goal

pub returns-clause-same : goal.returns-clause-same
returns-clause-same c = IfOk-at_ok _ c.in_ok-collect.was (map_from_collect _ c.collect.ensures.ran (YieldsList-from_map_by _ _ _ (YieldsList-from_slice c.args.words.now cc) c.map.ensures.closure (λ x r q k. search rules)))
