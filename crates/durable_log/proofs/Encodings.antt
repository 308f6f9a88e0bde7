-- Histories as bytes, and the backlog.
use Rattle.std.proofs.Common.{◌≡◌, ℕ, ◌+◌, true, false, List, [], ◌∷◌, ◌++◌, length, Option, Some, None, IfSome, refl, sym, ap, subst, ◌∙◌, append_assoc, length-append, arith}
use Rattle.std.proofs.lemmas.List.{append-nil}
use Rattle.ghost_log.specs.declared.view.Entry.{Entry}
use Rattle.ghost_log.specs.Entries.{IsPrefix, entry}
use Rattle.durable_log.specs.Encoding.{encode}
use Rattle.durable_log.specs.Views.{PendingView, Records}
use Rattle.durable_log.specs.Invariants.{IsBacklog, last_mark}
use Rattle.durable_log.proofs.Prefixes.{prefix_self, prefix_trans}

-- a fact of the value, if there is one
pub if_some : {A : Type 0} (P Q : A → Type 0) (x : Option A) → ((a : A) → P a → Q a) → IfSome x P → IfSome x Q
if_some P Q None f h = h
if_some P Q (Some a) f h = f a h

-- without marks nothing was taken over
pub none_taken : {E : Type 0} (history : List (Entry E)) (marks : List (Entry (List (Entry E)))) → marks ≡ [] → IsPrefix (last_mark marks) history
none_taken history marks none = subst (λ ms. IsPrefix (last_mark ms) history) (sym none) (history, refl)

module _ {E : Type 0} (f : E → List ℕ) where
  pub encode-append : (xs ys : List (Entry E)) → encode f (xs ++ ys) ≡ encode f xs ++ encode f ys
  encode-append [] ys = refl
  encode-append (x ∷ xs) ys = ap (λ w. f x.event ++ w) (encode-append xs ys) ∙ sym (append_assoc (f x.event) (encode f xs) (encode f ys))

  pub encode_more : (xs : List (Entry E)) (n : ℕ) (s : E) → encode f (xs ++ entry n s ∷ []) ≡ encode f xs ++ f s
  encode_more xs n s = encode-append xs (entry n s ∷ []) ∙ ap (λ w. encode f xs ++ w) (append-nil (f s))

  pub encode_prefix : (xs ys : List (Entry E)) → IsPrefix xs ys → IsPrefix (encode f xs) (encode f ys)
  encode_prefix xs ys p = (encode f p.0, sym (encode-append xs p.0) ∙ ap (encode f) p.1)

  -- the number of bytes of a history that has one event more
  pub length_more : (h : List (Entry E)) (n : ℕ) (s : E) → length (encode f (h ++ entry n s ∷ [])) ≡ length (encode f h) + length (f s)
  length_more h n s = ap length (encode_more h n s) ∙ length-append (encode f h) (f s)

  -- the backlog after an event
  pub backlog_after : (h h' taken : List (Entry E)) (p p' : PendingView) (n : ℕ) (s : E) → h' ≡ h ++ entry n s ∷ [] → (p'.recording ≡ true → Records p (f s) p')
      → IsBacklog f h taken p → IsBacklog f h' taken p'
  backlog_after h h' taken p p' n s e recorded b = record {
    of = prefix_trans taken h h' b.of (entry n s ∷ [], sym e);
    rest = λ on. let r = recorded on in
        ap (λ w. encode f taken ++ w) r.bytes_after ∙ (sym (append_assoc (encode f taken) p.segments.bytes (f s)) ∙ (ap (λ w. w ++ f s) (b.rest r.recording) ∙ sym (ap (encode f) e ∙ encode_more h n s)));
    length_of = λ on. let r = recorded on in
        let same = b.length_of r.recording in
        let more = length_more h n s in
        ap (λ k. length (encode f k)) e ∙ omega (arith, same, more, r.position);
  }

  -- an event of which nothing is recorded
  pub records_nothing : (p : PendingView) (s : E) → f s ≡ [] → p.recording ≡ true → Records p (f s) p
  records_nothing p s none on = record {
    recording = on;
    bytes_after = sym (append-nil p.segments.bytes) ∙ ap (λ w. p.segments.bytes ++ w) (sym none);
    position = omega (arith, ap length none);
  }

  -- the position after an event
  pub position_after : (h taken : List (Entry E)) (p p' : PendingView) (n : ℕ) (s : E) (position : Option ℕ) → (p'.recording ≡ true → Records p (f s) p') → IsBacklog f h taken p
      → IfSome position (λ k. (p'.recording ≡ true) × (k ≡ p'.position)) → IfSome position (λ k. k ≡ length (encode f (h ++ entry n s ∷ [])))
  position_after h taken p p' n s position recorded b is =
      if_some (λ k. (p'.recording ≡ true) × (k ≡ p'.position)) (λ k. k ≡ length (encode f (h ++ entry n s ∷ []))) position
      (λ k at. at.1 ∙ sym ((backlog_after h (h ++ entry n s ∷ []) taken p p' n s refl recorded b).length_of at.0)) is

  -- the position now
  pub position_now : (h taken : List (Entry E)) (p : PendingView) (position : Option ℕ) → IsBacklog f h taken p → IfSome position (λ k. (p.recording ≡ true) × (k ≡ p.position))
      → IfSome position (λ k. k ≡ length (encode f h))
  position_now h taken p position b is =
      if_some (λ k. (p.recording ≡ true) × (k ≡ p.position)) (λ k. k ≡ length (encode f h)) position (λ k at. at.1 ∙ sym (b.length_of at.0)) is

  -- a backlog that does not record
  pub closed_backlog : (h taken : List (Entry E)) (p : PendingView) → IsPrefix taken h → p.recording ≡ false → IsBacklog f h taken p
  closed_backlog h taken p within off = record { of = within; rest = λ on. cc; length_of = λ on. cc }

  -- a backlog of which the device took over all
  pub taken_backlog : (h taken : List (Entry E)) (p : PendingView) → taken ≡ h → p.segments.bytes ≡ [] → length (encode f h) ≡ p.position → IsBacklog f h taken p
  taken_backlog h taken p all empty at = record {
    of = subst (λ k. IsPrefix k h) (sym all) (prefix_self h);
    rest = λ on. ap (λ w. encode f taken ++ w) empty ∙ (append-nil (encode f taken) ∙ ap (encode f) all);
    length_of = λ on. at;
  }
