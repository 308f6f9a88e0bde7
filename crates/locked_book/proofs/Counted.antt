-- Each call that has its outcome is a step.
use Rattle.std.proofs.Common.{◌≡◌, ◌≢◌, ◌⊎◌, ℕ, Bool, true, false, Option, Some, None, Result, Ok, Err, refl, sym, ap, ◌∙◌, inl, inr, add-zero}
use Rattle.std.specs.Prelude.{not}
use Rattle.blob_digest.specs.declared.range.ByteRange.{ByteRange}
use Rattle.blob_digest.specs.declared.refusal.Refusal.{Refusal}
use Rattle.blob_digest.specs.declared.refusal.Refusal.TheVariants.{LimitReached, Memory, TooManyReaders}
use Rattle.blob_digest.specs.Outcomes.{Does, DoesExactly, OutcomeIn}
use Rattle.spec_lib.specs.Outcomes.{◌>>=◌, refuse}
use Rattle.store_model.specs.Catalog.{HandRecord, Catalog}
use Rattle.spec_lib.specs.Texts.{Text}
use Rattle.store_model.specs.declared.swept.Swept.{Swept}
use Rattle.store_model.specs.Sweep.{IsSweep, IsSweepPart}
use Rattle.store_model.specs.Runs.{Command, Lease, Answer, Bytes, outcome, map_outcome, takes_memory}
use Rattle.store_model.specs.Commands as commands
use Rattle.store_model.specs.Commands.{Outcome}
use Rattle.spec_lib.proofs.Outcomes.{bound_ok, not_refused}
use Rattle.store_model.specs.Amounts.{Amounts, zero_amounts, add_amounts, command_amounts_of}
use Rattle.locked_book.specs.Totals.{Counts}
use Rattle.locked_book.specs.Counting.{StoreContent, has_room, with_catalog, with_slots, with_counted, uncounted_outcome, accepted_outcome, reserving_outcome}
use Rattle.store_model.specs.Hands.{filled_length}
use Rattle.store_model.specs.Histories.{CommandCall, TakeCall, PutBackCall, FinishCall, SweepCall, SweepPartCall, accepted_amounts, chunk_amounts, IsUncountable, MayLeadTo, IsStep}
use Rattle.locked_book.specs.History.{state_of}
use Rattle.locked_book.specs.Performing.{HasLeaseOutcome, RepliesBy, performed_outcome}
use Rattle.blob_digest.proofs.Refusals.{is_memory}

pub plus_nothing : (a : Amounts) → a ≡ add_amounts a zero_amounts
plus_nothing a = λ i. record { commands = sym (add-zero a.commands) i; received = sym (add-zero a.received) i; closed = sym (add-zero a.closed) i; abandoned = sym (add-zero a.abandoned) i }

-- nothing changed
pub record Same (k k' : StoreContent) : Type 0 where
  pub catalog : k'.book.catalog ≡ k.book.catalog
  pub totals : k'.counts.totals ≡ add_amounts k.counts.totals zero_amounts

pub same_content : (k k' : StoreContent) → k' ≡ k → Same k k'
same_content k k' e = record { catalog = ap (λ (x : StoreContent). x.book.catalog) e; totals = ap (λ (x : StoreContent). x.counts.totals) e ∙ plus_nothing k.counts.totals }

-- a pair of a result and a state equals its parts
pub paired : {A S : Type 0} (a b : A) (s t : S) → ◌≡◌ {A = Result (A × S) Refusal} (Ok (a, s)) (Ok (b, t)) → (a ≡ b) × (s ≡ t)
paired {A} {S} a b s t h = let p : ◌≡◌ {A = A × S} (a, s) (b, t) = cc in ((λ i. (p i).0), (λ i. (p i).1))

module _ {B : Type 0} (k k' : StoreContent) (amounts : B → Amounts) (step : Catalog → Outcome B) where
  pub record Accepted (b : B) : Type 0 where
    pub steps : step k.book.catalog ≡ Ok (b, k'.book.catalog)
    pub totals : k'.counts.totals ≡ add_amounts k.counts.totals (amounts b)

  pub accepted_ok : (b : B) → accepted_outcome amounts step k ≡ Ok (b, k') → Accepted b
  accepted_ok b h =
      let x = bound_ok (step k.book.catalog) _ (b, k') h in
      let p = paired (x.0).0 b (with_counted k (x.0).1 (amounts (x.0).0)) k' x.2 in
      let catalog : (x.0).1 ≡ k'.book.catalog = ap (λ (q : StoreContent). q.book.catalog) p.1 in
      record {
        steps = x.1 ∙ (λ i. Ok (p.0 i, catalog i));
        totals = sym (ap (λ (q : StoreContent). q.counts.totals) p.1) ∙ ap (λ (y : B). add_amounts k.counts.totals (amounts y)) p.0;
      }

  abbrev counting : Outcome B → OutcomeIn StoreContent B
  counting o = do
    done ← o
    Ok (done.0, with_counted k done.1 (amounts done.0))

  pub accepted_err : (e : Refusal) → accepted_outcome amounts step k ≡ Err e → step k.book.catalog ≡ Err e
  accepted_err e h = by_case (step k.book.catalog) h
    where
      by_case : (o : Outcome B) → counting o ≡ Err e → o ≡ Err e
      by_case (Ok d) h = absurd cc
      by_case (Err f) h = let p : f ≡ e = cc in ap Err p

-- ---- commands

module _ (k k' : StoreContent) (crowded : Bool) (command : Command) where
  abbrev Left : Answer → Type 0
  Left = Accepted k k' (accepted_amounts command) (λ C. outcome crowded C command)

  pub performed_ok : (a : Answer) → performed_outcome crowded command k ≡ Ok (a, k') → Left a
  performed_ok a h =
      let x = bound_ok (refuse (not (has_room k 0)) LimitReached) _ (a, k') h in
      accepted_ok k k' (accepted_amounts command) (λ C. outcome crowded C command) a x.2

  -- a failure that is the outcome's changes nothing
  was_refused : (e : Refusal) → Same k k' → performed_outcome crowded command k ≡ Err e → IsStep (state_of k) (CommandCall command (Err e)) (state_of k')
  was_refused e same h = record { leaves = by_room (has_room k 0) refl h; counts = same.totals }
    where
      by_room : (r : Bool) → has_room k 0 ≡ r → (refuse (not r) LimitReached >>= λ _. accepted_outcome (accepted_amounts command) (λ C. outcome crowded C command) k) ≡ Err e
          → MayLeadTo (state_of k) (CommandCall command (Err e)) k'.book.catalog
      by_room true is h = inl (inl (crowded, accepted_err k k' (accepted_amounts command) (λ C. outcome crowded C command) e h), same.catalog)
      by_room false is h = let p : LimitReached ≡ e = cc in inr ((is, sym p), same.catalog)

  -- the failure of a command that allocates
  pub refused : (e : Refusal) → takes_memory command ≡ true → RepliesBy true (Err e) k k' (performed_outcome crowded command k) → IsStep (state_of k) (CommandCall command (Err e)) (state_of k')
  refused e takes h = by (is_memory e)
    where
      same : Same k k'
      same = same_content k k' h.1

      by : (e ≡ Memory) ⊎ (e ≢ Memory) → IsStep (state_of k) (CommandCall command (Err e)) (state_of k')
      by (inl m) = record { leaves = inl (inr (m, takes), same.catalog); counts = same.totals }
      by (inr n) = was_refused e same (h.0 n)

module _ (k k' : StoreContent) (command : Command) where
  was_ok : (a : Answer) → performed_outcome false command k ≡ Ok (a, k') → IsStep (state_of k) (CommandCall command (Ok a)) (state_of k')
  was_ok a h = let x = performed_ok k k' false command a h in record { leaves = x.steps; counts = x.totals }

  by_memory : (memory : Bool) → takes_memory command ≡ memory → (reply : Result Answer Refusal) → RepliesBy memory reply k k' (performed_outcome false command k)
      → IsStep (state_of k) (CommandCall command reply) (state_of k')
  by_memory true is (Ok a) h = was_ok a h
  by_memory false is (Ok a) h = was_ok a h
  by_memory true is (Err e) h = refused k k' false command e is h
  by_memory false is (Err e) h = was_refused k k' false command e (same_content k k' h.1) h.0

  -- a command that has its outcome is a step
  pub is_step : (reply : Result Answer Refusal) → RepliesBy (takes_memory command) reply k k' (performed_outcome false command k) → IsStep (state_of k) (CommandCall command reply) (state_of k')
  is_step reply h = by_memory (takes_memory command) refl reply h

-- ---- a lease, whatever happens to the slots

given_alone : (C : Catalog) (repo digest : Text) (crowded : Bool) (x : Answer × Catalog) → outcome crowded C (Lease repo digest) ≡ Ok x → outcome false C (Lease repo digest) ≡ Ok x
given_alone C repo digest crowded x h =
    let o = its_outcome (commands.lease crowded C repo digest) h in
    let a = bound_ok (commands.tenant C repo) _ o.0 o.1 in
    let b = bound_ok (commands.linked_blob C repo digest) _ o.0 a.2 in
    let c = bound_ok (refuse crowded TooManyReaders) _ o.0 b.2 in
    ap (λ (q : Bool). outcome q C (Lease repo digest)) (sym (not_refused _ _ _ c.1)) ∙ h
  where
    its_outcome : (o : Outcome Text) → map_outcome Bytes o ≡ Ok x → (y : Text × Catalog) × (o ≡ Ok y)
    its_outcome (Ok y) h = (y, refl)
    its_outcome (Err e) h = absurd cc

pub lends : (k k' : StoreContent) (repo digest : Text) (reply : Result Answer Refusal) → HasLeaseOutcome repo digest reply k k' → IsStep (state_of k) (CommandCall (Lease repo digest) reply) (state_of k')
lends k k' repo digest (Ok a) h =
    let x = performed_ok k (with_slots k' k.book.slots) h.crowded (Lease repo digest) a h.does in
    record { leaves = given_alone k.book.catalog repo digest h.crowded (a, k'.book.catalog) x.steps; counts = x.totals }
lends k k' repo digest (Err e) h = refused k (with_slots k' k.book.slots) h.crowded (Lease repo digest) e refl h.does

-- ---- check-out and check-in

module _ {B : Type 0} (k k' : StoreContent) (step : Catalog → Outcome B) where
  pub uncounted_ok : (b : B) → uncounted_outcome step k ≡ Ok (b, k') → (step k.book.catalog ≡ Ok (b, k'.book.catalog)) × (k'.counts.totals ≡ add_amounts k.counts.totals zero_amounts)
  uncounted_ok b h =
      let x = bound_ok (step k.book.catalog) _ (b, k') h in
      let p = paired (x.0).0 b (with_catalog k (x.0).1) k' x.2 in
      let catalog : (x.0).1 ≡ k'.book.catalog = ap (λ (q : StoreContent). q.book.catalog) p.1 in
      (x.1 ∙ (λ i. Ok (p.0 i, catalog i)), sym (ap (λ (q : StoreContent). q.counts.totals) p.1) ∙ plus_nothing k.counts.totals)

  abbrev going : Outcome B → OutcomeIn StoreContent B
  going o = do
    done ← o
    Ok (done.0, with_catalog k done.1)

  pub uncounted_err : (e : Refusal) → uncounted_outcome step k ≡ Err e → step k.book.catalog ≡ Err e
  uncounted_err e h = by_case (step k.book.catalog) h
    where
      by_case : (o : Outcome B) → going o ≡ Err e → o ≡ Err e
      by_case (Ok d) h = absurd cc
      by_case (Err f) h = let p : f ≡ e = cc in ap Err p

pub takes : (k k' : StoreContent) (repo : Text) (number : ℕ) (range : Option ByteRange) (len : ℕ) (result : Result HandRecord Refusal) → DoesExactly (λ h. h) result k k' (reserving_outcome len (λ C. commands.take C repo number range len) k)
    → IsStep (state_of k) (TakeCall repo number range len result) (state_of k')
takes k k' repo number range len (Ok hand) h =
    let x = bound_ok (refuse (not (has_room k len)) LimitReached) _ (hand, k') h in
    let y = uncounted_ok k k' (λ C. commands.take C repo number range len) hand x.2 in
    record { leaves = y.0; counts = y.1 }
takes k k' repo number range len (Err e) h = record { leaves = (by_room (has_room k len) refl h.0, same.catalog); counts = same.totals }
  where
    same : Same k k'
    same = same_content k k' h.1

    by_room : (r : Bool) → has_room k len ≡ r → (refuse (not r) LimitReached >>= λ _. uncounted_outcome (λ C. commands.take C repo number range len) k) ≡ Err e → (commands.take k.book.catalog repo number range len ≡ Err e) ⊎ IsUncountable (state_of k) len e
    by_room true is h = inl (uncounted_err k k' (λ C. commands.take C repo number range len) e h)
    by_room false is h = let p : LimitReached ≡ e = cc in inr (is, sym p)

chunk_of_hand : (last : Option Text) (h : HandRecord) → h.last ≡ last → last ≢ None → command_amounts_of (filled_length h) 0 0 ≡ chunk_amounts last
chunk_of_hand None h is some = absurd (some refl)
chunk_of_hand (Some b) h is some = ap (λ (o : Option Text). command_amounts_of (filled_length (record h { last = o })) 0 0) is

pub comes_back : (k k' : StoreContent) (hand : HandRecord) (result : Result ℕ Refusal) → hand.last ≢ None → DoesExactly (λ n. n) result k k' (accepted_outcome (λ _. command_amounts_of (filled_length hand) 0 0) (λ C. commands.put_back C hand) k)
    → IsStep (state_of k) (PutBackCall hand result) (state_of k')
comes_back k k' hand (Ok n) some h =
    let x = accepted_ok k k' (λ _. command_amounts_of (filled_length hand) 0 0) (λ C. commands.put_back C hand) n h in
    record { leaves = x.steps; counts = x.totals ∙ ap (λ (y : Amounts). add_amounts k.counts.totals y) (chunk_of_hand hand.last hand refl some) }
comes_back k k' hand (Err e) some h =
    let same = same_content k k' h.1 in
    record { leaves = (accepted_err k k' (λ _. command_amounts_of (filled_length hand) 0 0) (λ C. commands.put_back C hand) e h.0, same.catalog); counts = same.totals }

pub gives_up : (k k' : StoreContent) (hand : HandRecord) (result : Result ℕ Refusal) → hand.last ≡ None → DoesExactly (λ n. n) result k k' (uncounted_outcome (λ C. commands.put_back C hand) k) → IsStep (state_of k) (PutBackCall hand result) (state_of k')
gives_up k k' hand (Ok n) none h =
    let x = uncounted_ok k k' (λ C. commands.put_back C hand) n h in
    record { leaves = x.0; counts = x.1 ∙ ap (λ (o : Option Text). add_amounts k.counts.totals (chunk_amounts o)) (sym none) }
gives_up k k' hand (Err e) none h =
    let same = same_content k k' h.1 in
    record { leaves = (uncounted_err k k' (λ C. commands.put_back C hand) e h.0, same.catalog); counts = same.totals }

pub finishes : (k k' : StoreContent) (hand : HandRecord) (digest : Text) (result : Result ℕ Refusal)
    → Does (λ n. n) result (with_catalog k (commands.after_cancel k.book.catalog hand)) (with_slots k' k.book.slots) (accepted_outcome (λ n. command_amounts_of (filled_length hand) n 0) (λ C. commands.finish C hand digest) k)
    → IsStep (state_of k) (FinishCall hand digest result) (state_of k')
finishes k k' hand digest (Ok n) h =
    let x = accepted_ok k (with_slots k' k.book.slots) (λ n. command_amounts_of (filled_length hand) n 0) (λ C. commands.finish C hand digest) n h in
    record { leaves = x.steps; counts = x.totals }
finishes k k' hand digest (Err e) h =
    let same = same_content (with_catalog k (commands.after_cancel k.book.catalog hand)) (with_slots k' k.book.slots) h.1 in
    record { leaves = (λ n. accepted_err k k' (λ n. command_amounts_of (filled_length hand) n 0) (λ C. commands.finish C hand digest) e (h.0 n), same.catalog); counts = same.totals }

-- ---- sweeps

pub cleans : (k k' : StoreContent) (swept : Swept) → IsSweep k.book.catalog swept k'.book.catalog → k'.counts ≡ k.counts → IsStep (state_of k) (SweepCall swept) (state_of k')
cleans k k' swept h same = record { leaves = h; counts = ap (λ (c : Counts). c.totals) same ∙ plus_nothing k.counts.totals }

pub cleans_part : (k k' : StoreContent) (swept : Swept) → IsSweepPart k.book.catalog swept k'.book.catalog → k'.counts ≡ k.counts → IsStep (state_of k) (SweepPartCall swept) (state_of k')
cleans_part k k' swept h same = record { leaves = h; counts = ap (λ (c : Counts). c.totals) same ∙ plus_nothing k.counts.totals }
