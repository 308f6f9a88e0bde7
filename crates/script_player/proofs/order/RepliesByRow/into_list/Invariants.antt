use Rattle.std.proofs.Common.{◌≡◌, ◌+◌, ◌++◌, ◌≤◌, length, vec_capacity}
use Rattle.store_api.specs.Answers.{answers_of}
use Rattle.script_player.proofs.order.RepliesByRow.into_list.Given as goal

-- the answers in the list and the remaining ones are all answers
abbrev pub invariant-loop-reply : goal.invariant-loop-reply
invariant-loop-reply g l = record {
  all : answers_of l.list.items ++ l.self ≡ l.fn.self;
  room : length l.list.items + length l.self ≤ vec_capacity l.list;
  same : vec_capacity l.list ≡ vec_capacity l.fn.list;
}

abbrev pub decreases-loop-reply : goal.decreases-loop-reply
decreases-loop-reply g l = length l.self
