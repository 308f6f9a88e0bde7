-- What the marks' invariant is after each step.
use Rattle.std.proofs.Common.{◌≡◌, ℕ, ◌≤◌, ◌<◌, true, false, List, [], ◌∷◌, ◌++◌, length, refl, sym, ap, subst, ◌∙◌, arith}
use Rattle.std.specs.Prelude.{◌==◌, if◌then◌else◌}
use Rattle.ghost_log.specs.declared.view.Entry.{Entry}
use Rattle.ghost_log.specs.Entries.{IsPrefix, entry, events_by}
use Rattle.ghost_log.proofs.Lists.{events_own, events_other}
use Rattle.durable_log.specs.Encoding.{encode}
use Rattle.durable_log.specs.Views.{last_of}
use Rattle.durable_log.specs.Invariants.{IsWithin, AllWithin, IsMarked, last_mark}
use Rattle.durable_log.proofs.Prefixes.{prefix_self, prefix_trans, prefix_of_longer}
use Rattle.durable_log.proofs.Encodings as logs

pub last_of-snoc : {A : Type 0} (d x : List A) (xs : List (List A)) → last_of d (xs ++ x ∷ []) ≡ x
last_of-snoc d x [] = refl
last_of-snoc d x (y ∷ ys) = last_of-snoc y x ys

-- the last mark of a marker with the number 0
pub last_mark_known : {E : Type 0} (marks : List (Entry (List (Entry E)))) (n : ℕ) (own : List (List (Entry E))) → n ≡ 0 → events_by n marks ≡ own → last_mark marks ≡ last_of [] own
last_mark_known marks n own first known = ap (λ k. last_of [] (events_by k marks)) (sym first) ∙ ap (last_of []) known

-- the last mark is the one that was added
pub last_mark_added : {E : Type 0} (marks marks' : List (Entry (List (Entry E)))) (n : ℕ) (h : List (Entry E)) → n ≡ 0 → marks' ≡ marks ++ entry n h ∷ [] → last_mark marks' ≡ h
last_mark_added marks marks' n h first grown =
    ap last_mark (grown ∙ ap (λ k. marks ++ entry k h ∷ []) first) ∙ (ap (last_of []) (events_own 0 marks (h ∷ [])) ∙ last_of-snoc [] h (events_by 0 marks))

module _ {E : Type 0} (f : E → List ℕ) where
  -- where the history is longer, and more of it is kept
  within_more : (history history' kept kept' : List (Entry E)) (marks : List (Entry (List (Entry E)))) → IsPrefix history history' → IsPrefix (encode f kept) (encode f kept')
      → AllWithin f history kept marks → AllWithin f history' kept' marks
  within_more history history' kept kept' [] p q a = tt
  within_more history history' kept kept' (e ∷ es) p q a = (
    record { of = prefix_trans e.event history history' a.0.of p; bytes_of = prefix_trans (encode f e.event) (encode f kept) (encode f kept') a.0.bytes_of q },
    within_more history history' kept kept' es p q a.1,
  )

  within_mark : (history kept : List (Entry E)) (marks : List (Entry (List (Entry E)))) (n : ℕ) (h : List (Entry E)) → IsWithin f history kept h
      → AllWithin f history kept marks → AllWithin f history kept (marks ++ entry n h ∷ [])
  within_mark history kept [] n h w a = (w, tt)
  within_mark history kept (e ∷ es) n h w a = (a.0, within_mark history kept es n h w a.1)

  -- the history has more steps
  pub marked_later : (history history' : List (Entry E)) (synced : ℕ) (marks : List (Entry (List (Entry E)))) → IsPrefix history history' → IsMarked f history synced marks
      → IsMarked f history' synced marks
  marked_later history history' synced marks p i = record {
    of = prefix_trans (last_mark marks) history history' i.of p;
    length_of = i.length_of;
    each = within_more history history' (last_mark marks) (last_mark marks) marks p (prefix_self (encode f (last_mark marks))) i.each;
  }

  -- a desk has a note of what it had seen, of which no more is recorded than is kept
  pub marked_by_writer : (history : List (Entry E)) (synced : ℕ) (marks marks' : List (Entry (List (Entry E)))) (n : ℕ) (h : List (Entry E)) → marks' ≡ marks ++ entry n h ∷ []
      → 0 < n → IsPrefix h history → length (encode f h) ≤ synced → IsMarked f history synced marks → IsMarked f history synced marks'
  marked_by_writer history synced marks marks' n h grown other p le i =
      let same : last_mark marks' ≡ last_mark marks = ap last_mark grown ∙ ap (last_of []) (events_other n 0 marks (h ∷ []) (λ e. absurd (omega arith))) in
      let shorter : IsPrefix (encode f h) (encode f (last_mark marks)) =
      prefix_of_longer (encode f h) (encode f (last_mark marks)) (encode f history) (logs.encode_prefix f h history p) (logs.encode_prefix f (last_mark marks) history i.of) (omega (arith, i.length_of)) in record {
        of = subst (λ k. IsPrefix k history) (sym same) i.of;
        length_of = ap (λ k. length (encode f k)) same ∙ i.length_of;
        each = subst (λ k. AllWithin f history k marks') (sym same) (subst (λ ns. AllWithin f history (last_mark marks) ns) (sym grown) (within_mark history (last_mark marks) marks n h (record { of = p; bytes_of = shorter }) i.each));
      }

  -- the device has a note of more than was kept
  pub marked_by_device : (history : List (Entry E)) (synced synced' : ℕ) (marks marks' : List (Entry (List (Entry E)))) (h : List (Entry E)) → marks' ≡ marks ++ entry 0 h ∷ []
      → IsPrefix h history → IsPrefix (last_mark marks) h → length (encode f h) ≡ synced' → IsMarked f history synced marks → IsMarked f history synced' marks'
  marked_by_device history synced synced' marks marks' h grown p more long i =
      let now : last_mark marks' ≡ h = ap last_mark grown ∙ (ap (last_of []) (events_own 0 marks (h ∷ [])) ∙ last_of-snoc [] h (events_by 0 marks)) in record {
        of = subst (λ k. IsPrefix k history) (sym now) p;
        length_of = ap (λ k. length (encode f k)) now ∙ long;
        each = subst (λ k. AllWithin f history k marks') (sym now) (subst (λ ns. AllWithin f history h ns) (sym grown)
            (within_mark history h marks 0 h (record { of = p; bytes_of = prefix_self (encode f h) }) (within_more history history (last_mark marks) h marks (prefix_self history) (logs.encode_prefix f (last_mark marks) h more) i.each)));
      }

  -- what a desk noted last is within what is kept
  last_within : (history kept : List (Entry E)) (marks : List (Entry (List (Entry E)))) (n : ℕ) (h : List (Entry E)) → IsWithin f history kept h → AllWithin f history kept marks
      → IsWithin f history kept (last_of h (events_by n marks))
  last_within history kept [] n h w a = w
  last_within history kept (e ∷ es) n h w a =
      elim (e.writer == n) as (λ b. IsWithin f history kept (last_of h (if b then e.event ∷ events_by n es else events_by n es))) [
        | true ↦ last_within history kept es n e.event a.0 a.1
        | false ↦ last_within history kept es n h w a.1
      ]

  pub marked_within : (history : List (Entry E)) (synced : ℕ) (marks : List (Entry (List (Entry E)))) (n : ℕ) → IsMarked f history synced marks
      → IsWithin f history (last_mark marks) (last_of [] (events_by n marks))
  marked_within history synced marks n i = last_within history (last_mark marks) marks n [] (record { of = (history, refl); bytes_of = (encode f (last_mark marks), refl) }) i.each

  pub new_marked : (h : List (Entry E)) (marks : List (Entry (List (Entry E)))) → marks ≡ [] → IsMarked f h 0 marks
  new_marked h marks none = subst (λ ns. IsMarked f h 0 ns) (sym none) (record { of = (h, refl); length_of = refl; each = tt })
