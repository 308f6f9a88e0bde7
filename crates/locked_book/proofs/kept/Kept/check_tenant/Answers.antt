use Rattle.std.proofs.Common.{◌∙◌, ap, sym}
use Rattle.locked_book.specs.Counting.{StoreContent, common_check}
use Rattle.locked_book.specs.History.{state_of}
use Rattle.locked_book.proofs.Unread.{unkept}
use Rattle.locked_book.proofs.kept.Kept.check_tenant.Goals as goal

pub add_unrecorded-requires-clause-allows : goal.add_unrecorded-requires-clause-allows
add_unrecorded-requires-clause-allows g c =
    let refused = c.in-Err.ensures ∙ ap (λ (k : StoreContent). common_check k c.args.repo.now) (sym c.self.view_is) in
    (state_of (record { book = c.self.inside.book; counts = c.self.inside.counters }), state_of (record { book = c.self.inside.book; counts = c.self.inside.counters }), c.self.invariant.1, unkept (record { book = c.self.inside.book; counts = c.self.inside.counters }) c.args.repo.now c.args.bytes.now c.in-Err.refusal refused)

pub invariant_of-self : goal.invariant_of-self
invariant_of-self g c =
    let refused = c.in-Err.ensures ∙ ap (λ (k : StoreContent). common_check k c.args.repo.now) (sym c.self.view_is) in
    (c.self.invariant.0, c.add_unrecorded.ensures.leads (state_of (record { book = c.self.inside.book; counts = c.self.inside.counters })) (state_of (record { book = c.self.inside.book; counts = c.self.inside.counters })) c.self.invariant.1 (unkept (record { book = c.self.inside.book; counts = c.self.inside.counters }) c.args.repo.now c.args.bytes.now c.in-Err.refusal refused))
