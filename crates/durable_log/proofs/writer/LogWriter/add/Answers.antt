use Rattle.std.proofs.Common.{◌≡◌, ◌++◌, ◌∷◌, [], ap, sym, subst, ◌∙◌, length, IfSome, true, false}
use Rattle.ghost_log.specs.Entries.{entry}
use Rattle.durable_log.specs.Encoding.{encode}
use Rattle.durable_log.specs.Invariants.{trace_of}
use Rattle.durable_log.specs.Views.{IsCommitted, IsUnconfirmed, trace_with}
use Rattle.durable_log.proofs.Writers.{committed_with, now_unconfirmed, still_unconfirmed}
use Rattle.durable_log.proofs.writer.LogWriter.add.Goals as goal
use Rattle.durable_log.proofs.writer.LogWriter.add.Goals.{then-self, else-self}

pub invariant_of-self : goal.invariant_of-self
invariant_of-self g c =
    let f = g.N.Naming.bytes in
    let promises = g.N.Naming.promises in
    let event = g.D.Event.event in
    let inv = c.self.invariant in
    let w = c.self.inside in
    let h = c.args.history.now.entries in
    let added = c.append.ensures.writer in
    let was = trace_of w.writer w.marker in
    let now = trace_of c.append.new.writer w.marker in
    let is : trace_with event h was ≡ now = ap (λ x. trace_of x w.marker) (sym added) in
    let number = ap (λ t. t.number) (sym c.self.view_is) in
    let seen : h ++ entry c.args.self.now.number event ∷ [] ≡ c.append.new.writer.seen = ap (λ n. h ++ entry n event ∷ []) number ∙ sym (ap (λ x. x.seen) added) in (
      ap (λ x. x.name) added ∙ inv.0,
      inv.1,
      inv.2,
      subst (λ es. IfSome c.args.position (λ n. n ≡ length (encode f es))) seen c.requires.position,
      elim c.if-self.branch [
        | then-self b ↦ λ (off : c.if-self.self ≡ false). absurd (let on = b.self-is in cc)
        | else-self b ↦ λ (off : c.if-self.self ≡ false). subst (IsCommitted promises) is (committed_with promises was event h (sym c.requires.promised ∙ (sym b.self-is ∙ off)) (inv.4 b.if-self.false))
      ],
      elim c.if-self.branch [
        | then-self b ↦ λ (on : c.if-self.self ≡ true). subst (IsUnconfirmed promises) is (still_unconfirmed promises was event h (inv.5 b.if-self.true))
        | else-self b ↦ λ (on : c.if-self.self ≡ true). subst (IsUnconfirmed promises) is (now_unconfirmed promises was event h (sym c.requires.promised ∙ (sym b.self-is ∙ on)) (inv.4 b.if-self.false))
      ],
    )
