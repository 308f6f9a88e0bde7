-- The prefixes of a history that desks have seen.
use Rattle.std.proofs.Common.{◌≡◌, ◌⊎◌, ap, List, [], ◌∷◌, refl, sym, subst, inl, inr, ◌∙◌}
use Rattle.ghost_log.specs.declared.view.Entry.{Entry}
use Rattle.ghost_log.specs.Entries.{IsPrefix}
use Rattle.ghost_log.specs.Calls as shared
use Rattle.atomic_table.specs.Seated.{TableId}
use Rattle.durable_log.specs.Views as durable
use Rattle.durable_log.specs.Views.{BacklogView, log_of, trace_seeing, writer_of}
use Rattle.store_model.specs.Catalog.{Catalog}
use Rattle.store_model.specs.Histories.{IsLegal, Step}
use Rattle.locked_book.specs.History.{AreInOneHistory, OneBegins, SeesAll, Trace, steps_of}
use Rattle.locked_book.proofs.Additions.{trace_of}

-- a writer of a log sees all of it
pub sees_all : (name : TableId) (b : BacklogView Step) (w : durable.Trace Step) (entries : List (Entry Step)) (was : Trace) → shared.Agrees (log_of name b) (writer_of name w) → b.history ≡ entries → trace_of w ≡ was →
    SeesAll entries was (trace_of (trace_seeing b.history w))
sees_all name b w entries was agrees all same =
    subst (λ (es : List (Entry Step)). SeesAll es was (trace_of (trace_seeing b.history w))) all
    (subst (λ (t : Trace). SeesAll b.history t (trace_of (trace_seeing b.history w))) same (record {
      began = agrees.seen;
      seen = refl;
      agrees = agrees.own;
      number = refl;
      own = refl;
      durable = refl;
    }))

module _ {A : Type 0} where
  abbrev tail : List A → List A
  tail [] = []
  tail (x ∷ xs) = xs

  abbrev head_or : A → List A → A
  head_or a [] = a
  head_or a (x ∷ xs) = x

  -- of two prefixes of a list, one is a prefix of the other
  pub beginnings : (xs ys zs : List A) → IsPrefix xs zs → IsPrefix ys zs → IsPrefix xs ys ⊎ IsPrefix ys xs
  beginnings [] ys zs p q = inl (ys, refl)
  beginnings (x ∷ xs) [] zs p q = inr (x ∷ xs, refl)
  beginnings (x ∷ xs) (y ∷ ys) [] p q = absurd (let e = p.1 in cc)
  beginnings (x ∷ xs) (y ∷ ys) (z ∷ zs) p q =
      let same : y ≡ x = ap (head_or y) (q.1 ∙ sym p.1) in
      elim (beginnings xs ys zs (p.0, ap tail p.1) (q.0, ap tail q.1)) [
        | inl h ↦ inl (h.0, λ i. (sym same) i ∷ h.1 i)
        | inr h ↦ inr (h.0, λ i. same i ∷ h.1 i)
      ]

-- two desks with the traces of these writers have seen the whole history
pub in_one_history : (C : Catalog) (whole : List (Entry Step)) (one was_one one_new other was_other other_new : Trace) → IsLegal C (steps_of whole) → one ≡ was_one → other ≡ was_other → SeesAll whole one one_new → SeesAll whole other other_new
    → AreInOneHistory C was_one one_new was_other other_new
in_one_history C whole one was_one one_new other was_other other_new legal is_one is_other a b = record {
  whole = whole;
  legal = legal;
  sees_one = subst (λ (t : Trace). SeesAll whole t one_new) is_one a;
  sees_other = subst (λ (t : Trace). SeesAll whole t other_new) is_other b;
}

pub one_begins : (whole : List (Entry Step)) (one was_one one_new other was_other other_new : Trace) → one ≡ was_one → other ≡ was_other → SeesAll whole one one_new → SeesAll whole other other_new → OneBegins was_one.seen was_other.seen
one_begins whole one was_one one_new other was_other other_new is_one is_other a b =
    let first = subst (λ (t : Trace). SeesAll whole t one_new) is_one a in
    let second = subst (λ (t : Trace). SeesAll whole t other_new) is_other b in
    beginnings was_one.seen was_other.seen whole first.began second.began
