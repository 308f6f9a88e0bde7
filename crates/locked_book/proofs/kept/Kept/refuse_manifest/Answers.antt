use Rattle.std.proofs.Common.{◌∙◌, ap, sym, subst, Err}
use Rattle.store_model.specs.Runs.{PutManifest}
use Rattle.store_model.specs.Histories.{CommandCall, IsStep}
use Rattle.locked_book.specs.Counting.{StoreContent, common_check}
use Rattle.locked_book.specs.History.{state_of}
use Rattle.locked_book.proofs.Unread.{unkept, unread}
use Rattle.locked_book.proofs.kept.Kept.refuse_manifest.Goals as goal
use Rattle.locked_book.proofs.kept.Kept.refuse_manifest.Goals.{in-Ok, in-Err}

pub add_unrecorded-requires-clause-allows : goal.add_unrecorded-requires-clause-allows
add_unrecorded-requires-clause-allows g c =
    let step : IsStep (state_of (record { book = c.self.inside.book; counts = c.self.inside.counters })) (CommandCall (PutManifest c.args.repo.now c.args.bytes.now) (Err c.match-common_check.refusal)) (state_of (record { book = c.self.inside.book; counts = c.self.inside.counters })) = elim c.match-common_check.branch [
      | in-Ok w ↦ subst (λ r. IsStep (state_of (record { book = c.self.inside.book; counts = c.self.inside.counters })) (CommandCall (PutManifest c.args.repo.now c.args.bytes.now) (Err r)) (state_of (record { book = c.self.inside.book; counts = c.self.inside.counters }))) (sym w.refusal-is) (unread (record { book = c.self.inside.book; counts = c.self.inside.counters }) c.args.repo.now c.args.bytes.now c.args.unread tt (w.in-Ok.ensures ∙ ap (λ (k : StoreContent). common_check k c.args.repo.now) (sym c.self.view_is)) c.requires.unread)
      | in-Err w ↦ subst (λ r. IsStep (state_of (record { book = c.self.inside.book; counts = c.self.inside.counters })) (CommandCall (PutManifest c.args.repo.now c.args.bytes.now) (Err r)) (state_of (record { book = c.self.inside.book; counts = c.self.inside.counters }))) (sym w.refusal-is) (unkept (record { book = c.self.inside.book; counts = c.self.inside.counters }) c.args.repo.now c.args.bytes.now w.in-Err.refusal (w.in-Err.ensures ∙ ap (λ (k : StoreContent). common_check k c.args.repo.now) (sym c.self.view_is)))
    ] in
    (state_of (record { book = c.self.inside.book; counts = c.self.inside.counters }), state_of (record { book = c.self.inside.book; counts = c.self.inside.counters }), c.self.invariant.1, step)

pub invariant_of-self : goal.invariant_of-self
invariant_of-self g c =
    let step : IsStep (state_of (record { book = c.self.inside.book; counts = c.self.inside.counters })) (CommandCall (PutManifest c.args.repo.now c.args.bytes.now) (Err c.match-common_check.refusal)) (state_of (record { book = c.self.inside.book; counts = c.self.inside.counters })) = elim c.match-common_check.branch [
      | in-Ok w ↦ subst (λ r. IsStep (state_of (record { book = c.self.inside.book; counts = c.self.inside.counters })) (CommandCall (PutManifest c.args.repo.now c.args.bytes.now) (Err r)) (state_of (record { book = c.self.inside.book; counts = c.self.inside.counters }))) (sym w.refusal-is) (unread (record { book = c.self.inside.book; counts = c.self.inside.counters }) c.args.repo.now c.args.bytes.now c.args.unread tt (w.in-Ok.ensures ∙ ap (λ (k : StoreContent). common_check k c.args.repo.now) (sym c.self.view_is)) c.requires.unread)
      | in-Err w ↦ subst (λ r. IsStep (state_of (record { book = c.self.inside.book; counts = c.self.inside.counters })) (CommandCall (PutManifest c.args.repo.now c.args.bytes.now) (Err r)) (state_of (record { book = c.self.inside.book; counts = c.self.inside.counters }))) (sym w.refusal-is) (unkept (record { book = c.self.inside.book; counts = c.self.inside.counters }) c.args.repo.now c.args.bytes.now w.in-Err.refusal (w.in-Err.ensures ∙ ap (λ (k : StoreContent). common_check k c.args.repo.now) (sym c.self.view_is)))
    ] in
    (c.self.invariant.0, c.add_unrecorded.ensures.leads (state_of (record { book = c.self.inside.book; counts = c.self.inside.counters })) (state_of (record { book = c.self.inside.book; counts = c.self.inside.counters })) c.self.invariant.1 step)
