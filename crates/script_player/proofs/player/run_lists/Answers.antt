use Rattle.std.proofs.Common.{◌≡◌, ◌∙◌, ◌++◌, [], ap, append_assoc, arith, length, length-append, rules, sym}
use Rattle.std.proofs.lemmas.List.{append-nil}
use Rattle.store_api.specs.Answers.{answers_of}
use Rattle.script_player.specs.JoinedRows.{joined_rows}
use Rattle.script_player.specs.Shares.{own_rows}
use Rattle.script_player.proofs.PlayedRows.{more_on}
use Rattle.script_player.proofs.WorkerRows.{own_all}
use Rattle.script_player.proofs.player.run_lists.Goals as goal

pub run_own_rows-requires : goal.run_own_rows-requires
run_own_rows-requires g c =
    let kept = c.loop-list.invariant.1 in
    let so_far = c.loop-list.invariant.0 in
    let list = c.in-Some.list in
    let rest = joined_rows c.pop_front.new.self.items in
    let own : own_rows c.alone.result.workers c.alone.result.number list ≡ list = rw (c.alone.ensures.workers, c.alone.ensures.number) (own_all list) in
    let own_size = ap length own in
    let popped = ap (λ lists. length (joined_rows lists)) c.in-Some.ensures.items ∙ length-append list rest in
    let all = ap length kept.all ∙ length-append so_far (joined_rows c.loop-list.lists.items) in
    let count = kept.count in
    let same = kept.room in
    let room = c.requires.room in
    record { room = omega (arith, own_size, popped, all, count, same, room) }

pub loop-list-preserved : goal.loop-list-preserved
loop-list-preserved g c =
    let kept = c.loop-list.invariant.1 in
    let so_far = c.loop-list.invariant.0 in
    let list = c.in-Some.list in
    let rest = joined_rows c.pop_front.new.self.items in
    let own : own_rows c.alone.result.workers c.alone.result.number list ≡ list = rw (c.alone.ensures.workers, c.alone.ensures.number) (own_all list) in
    let next = rw own at c.in_ok-run_own_rows.ensures.played in
    let one_each = rw own at c.in_ok-run_own_rows.ensures.count in
    let before = answers_of c.args.replies.now.items in
    let answers = answers_of c.loop-list.replies.items in
    let new = c.run_own_rows.new in
    let size = length-append so_far list in
    let count = kept.count in (
      so_far ++ list,
      record {
        all = kept.all ∙ ap (λ lists. so_far ++ joined_rows lists) c.in-Some.ensures.items ∙ sym (append_assoc so_far list rest);
        played = more_on g.B.Backend.acts (c.args.backend.now, c.args.leases.now) (c.loop-list.backend, c.loop-list.leases) (new.backend, new.leases) before answers (answers_of new.replies.items) so_far list kept.played next;
        count = omega (arith, one_each, size, count);
        room = c.run_own_rows.ensures.room ∙ kept.room;
      },
    )

pub returns-clause-played : goal.returns-clause-played
returns-clause-played g c =
    let kept = c.loop-list.invariant.1 in
    let so_far = c.loop-list.invariant.0 in
    let empty : c.loop-list.lists.items ≡ [] = search rules in
    let all : joined_rows c.args.lists.items ≡ so_far = kept.all ∙ ap (λ lists. so_far ++ joined_rows lists) empty ∙ append-nil so_far in
    rw all kept.played
