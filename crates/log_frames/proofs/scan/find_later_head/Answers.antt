use Rattle.std.proofs.Common.{◌≤◌, ◌-◌, ◌++◌, ◌∙◌, [], sym, subst, arith, length, length-take, length-take-le, take, drop, List, ℕ, vec_len}
use Rattle.log_frames.specs.Scans.{Finds}
use Rattle.log_frames.proofs.Scanning.{first_window, found_there, moved_window, none_found, none_of, room_first, room_on}
use Rattle.log_frames.proofs.scan.find_later_head.Goals as goal

pub loop-turn-init : goal.loop-turn-init
loop-turn-init g c = ([], [], c.requires, first_window c.args.id c.args.place (take c.args.count c.args.buffer.now.items) (g.R.Read.remaining c.args.input.now), room_first c.args.count (g.R.Read.remaining c.args.input.now) (vec_len c.args.buffer.now))

pub returns-then-is_some-clause-found : goal.returns-then-is_some-clause-found
returns-then-is_some-clause-found g c =
    let inv = c.loop-turn.invariant in
    let w = inv.3 in
    let found = subst (λ (t : List ℕ). Finds c.args.id c.args.place c.loop-turn.at (take c.loop-turn.filled t) c.later_head_in-found.result) c.as_slice.ensures.value c.later_head_in-found.ensures in
    found_there c.args.id c.args.place c.loop-turn.at (take c.args.count c.args.buffer.now.items) inv.1 inv.0 (take c.loop-turn.filled c.loop-turn.buffer.items) (g.R.Read.remaining c.args.input.now) (g.R.Read.remaining c.loop-turn.input) c.later_head_in-found.result w.read w.same w.here found (sym c.is_some.ensures ∙ c.if-is_some.true)

pub returns-in_err-filled-clause-memory : goal.returns-in_err-filled-clause-memory
returns-in_err-filled-clause-memory g c =
    let inv = c.loop-turn.invariant in
    let w = inv.3 in
    let held : c.loop-turn.filled ≤ length c.loop-turn.buffer.items = omega (arith, inv.2, c.loop-turn.buffer.ok) in
    let len = length-take-le c.loop-turn.filled c.loop-turn.buffer.items held in
    let room = rw c.copy_within.ensures.len at c.gather.ensures.memory in
    room_on c.args.count c.min-kept.result (take c.args.count c.args.buffer.now.items) inv.1 inv.0 (take c.loop-turn.filled c.loop-turn.buffer.items) (g.R.Read.remaining c.args.input.now) (g.R.Read.remaining c.loop-turn.input) (vec_len c.args.buffer.now) (vec_len c.loop-turn.buffer) (vec_len c.gather.new.buffer) w.read w.same (length-take-le c.args.count c.args.buffer.now.items (omega (arith, c.requires, c.args.buffer.now.ok))) (omega (arith, len, c.min-kept.ensures)) inv.4 room

pub returns-then-filled-kept-clause-found : goal.returns-then-filled-kept-clause-found
returns-then-filled-kept-clause-found g c =
    let inv = c.loop-turn.invariant in
    let given = c.in_ok-filled.ensures in
    let held : c.loop-turn.filled ≤ length c.loop-turn.buffer.items = omega (arith, inv.2, c.loop-turn.buffer.ok) in
    let none = none_of c.args.id c.args.place c.loop-turn.at (take c.loop-turn.filled c.loop-turn.buffer.items) c.later_head_in-found.result (sym c.is_some.ensures ∙ c.if-is_some.false) (subst (λ (t : List ℕ). Finds c.args.id c.args.place c.loop-turn.at (take c.loop-turn.filled t) c.later_head_in-found.result) c.as_slice.ensures.value c.later_head_in-found.ensures) in
    let w = moved_window c.args.id c.args.place c.loop-turn.at c.loop-turn.filled c.min-kept.result c.in_ok-filled.filled (take c.args.count c.args.buffer.now.items) inv.1 inv.0 c.loop-turn.buffer.items c.copy_within.new.self.items c.gather.new.buffer.items (g.R.Read.remaining c.args.input.now) (g.R.Read.remaining c.loop-turn.input) (g.R.Read.remaining c.gather.new.input) inv.3 (omega (arith, c.min-kept.ensures)) (λ low. omega (arith, low, c.min-kept.ensures)) held c.copy_within.ensures.items given.before given.count.0 none given.gathered in
    none_found c.args.id c.args.place (take c.args.count c.args.buffer.now.items) (inv.1 ++ drop c.min-kept.result (take c.in_ok-filled.filled c.gather.new.buffer.items)) (inv.0 ++ take (c.loop-turn.filled - c.min-kept.result) (take c.loop-turn.filled c.loop-turn.buffer.items)) (take c.in_ok-filled.filled c.gather.new.buffer.items) (g.R.Read.remaining c.args.input.now) (g.R.Read.remaining c.gather.new.input) w.read (given.ended (omega (arith, c.if-filled-kept.true))) w.same (omega (arith, c.min-kept.ensures, c.if-filled-kept.true, length-take c.in_ok-filled.filled c.gather.new.buffer.items)) w.behind

pub returns-then-filled-kept-clause-memory : goal.returns-then-filled-kept-clause-memory
returns-then-filled-kept-clause-memory g c =
    let inv = c.loop-turn.invariant in
    let w = inv.3 in
    let held : c.loop-turn.filled ≤ length c.loop-turn.buffer.items = omega (arith, inv.2, c.loop-turn.buffer.ok) in
    let len = length-take-le c.loop-turn.filled c.loop-turn.buffer.items held in
    let room = rw c.copy_within.ensures.len at c.gather.ensures.memory in
    room_on c.args.count c.min-kept.result (take c.args.count c.args.buffer.now.items) inv.1 inv.0 (take c.loop-turn.filled c.loop-turn.buffer.items) (g.R.Read.remaining c.args.input.now) (g.R.Read.remaining c.loop-turn.input) (vec_len c.args.buffer.now) (vec_len c.loop-turn.buffer) (vec_len c.gather.new.buffer) w.read w.same (length-take-le c.args.count c.args.buffer.now.items (omega (arith, c.requires, c.args.buffer.now.ok))) (omega (arith, len, c.min-kept.ensures)) inv.4 room

pub loop-turn-preserved : goal.loop-turn-preserved
loop-turn-preserved g c =
    let inv = c.loop-turn.invariant in
    let given = c.in_ok-filled.ensures in
    let held : c.loop-turn.filled ≤ length c.loop-turn.buffer.items = omega (arith, inv.2, c.loop-turn.buffer.ok) in
    let len = length-take-le c.loop-turn.filled c.loop-turn.buffer.items held in
    let none = none_of c.args.id c.args.place c.loop-turn.at (take c.loop-turn.filled c.loop-turn.buffer.items) c.later_head_in-found.result (sym c.is_some.ensures ∙ c.if-is_some.false) (subst (λ (t : List ℕ). Finds c.args.id c.args.place c.loop-turn.at (take c.loop-turn.filled t) c.later_head_in-found.result) c.as_slice.ensures.value c.later_head_in-found.ensures) in
    let w = moved_window c.args.id c.args.place c.loop-turn.at c.loop-turn.filled c.min-kept.result c.in_ok-filled.filled (take c.args.count c.args.buffer.now.items) inv.1 inv.0 c.loop-turn.buffer.items c.copy_within.new.self.items c.gather.new.buffer.items (g.R.Read.remaining c.args.input.now) (g.R.Read.remaining c.loop-turn.input) (g.R.Read.remaining c.gather.new.input) inv.3 (omega (arith, c.min-kept.ensures)) (λ low. omega (arith, low, c.min-kept.ensures)) held c.copy_within.ensures.items given.before given.count.0 none given.gathered in
    let room = rw c.copy_within.ensures.len at c.gather.ensures.memory in
    let v = inv.3 in
    let on = room_on c.args.count c.min-kept.result (take c.args.count c.args.buffer.now.items) inv.1 inv.0 (take c.loop-turn.filled c.loop-turn.buffer.items) (g.R.Read.remaining c.args.input.now) (g.R.Read.remaining c.loop-turn.input) (vec_len c.args.buffer.now) (vec_len c.loop-turn.buffer) (vec_len c.gather.new.buffer) v.read v.same (length-take-le c.args.count c.args.buffer.now.items (omega (arith, c.requires, c.args.buffer.now.ok))) (omega (arith, len, c.min-kept.ensures)) inv.4 room in
    (_, _, given.count.2, w, on)
