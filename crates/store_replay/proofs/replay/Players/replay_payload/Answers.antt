use Rattle.std.proofs.Common.{◌≡◌, ◌++◌, ℕ, List, [], IfOk, arith, subst, sym}
use Rattle.std.proofs.lemmas.Grind.{common_steps}
use Rattle.store_replay.specs.Replays.{Continues}
use Rattle.store_replay.proofs.replay.Players.replay_payload.Goals as goal

pub returns-then-is_empty : goal.returns-then-is_empty
returns-then-is_empty g c =
    let none : c.args.left.items ≡ [] = grind (arith, common_steps) in
    subst (λ (left : List ℕ). IfOk c.replay_copied.result (λ r. Continues c.args.progress.device r.0.device (left ++ c.args.payload.now) r.1.items)) (sym none) c.replay_copied.ensures
