-- A history of a store with contents on disk, step for step, is one of the store that has read them.
use Rattle.std.proofs.Common.{◌≡◌, ◌∙◌, ℕ, Bool, true, false, List, [], ◌∷◌, ◌++◌, Option, Result, Ok, Err, refl, sym, ap, subst, inl, inr}
use Rattle.blob_digest.specs.declared.range.ByteRange.{ByteRange}
use Rattle.blob_digest.specs.declared.refusal.Refusal.{Refusal}
use Rattle.blob_digest.specs.declared.refusal.Refusal.TheVariants.{Memory}
use Rattle.std.specs.Prelude.{◌⊎◌, if◌then◌else◌}
use Rattle.spec_lib.specs.Texts.{Text}
use Rattle.store_model.specs.Amounts.{add_amounts}
use Rattle.store_model.specs.Catalog.{Catalog, HandRecord, Tenant}
use Rattle.store_model.specs.Commands
use Rattle.store_model.specs.Commands.{Outcome}
use Rattle.store_model.specs.Histories.{AreSteps, CommandCall, FinishCall, IsUncountable, MayLeadTo, PutBackCall, State, Step, SweepCall, SweepPartCall, TakeCall}
use Rattle.store_model.specs.HistoryIsolation.{AreOwnReplies, uploads_of_history, uploads_of_step}
use Rattle.store_model.specs.Noninterference.{close_content, uploaded_pair, uploads_of_command}
use Rattle.store_model.specs.Sessions.{hand_content}
use Rattle.blob_digest.specs.Vouched.{has_digest}
use Rattle.blob_digest.specs.Digests.{is_digest_of}
use Rattle.std.specs.List.{AllByRecursion}
use Rattle.store_model.specs.Commands.{is_named}
use Rattle.store_model.specs.Runs.{Answer, Close, Command, outcome, takes_memory}
use Rattle.store_model.specs.declared.swept.Swept.{Swept}
use Rattle.store_model.specs.Sweep.{IsSweep, IsSweepPart}
use Rattle.unread_contents.specs.Unread.{AreHistoriesUpTo, AreStepsUpTo, IsReadAs}
use Rattle.unread_contents.proofs.Blobs.{AreRead, Blobs}
use Rattle.unread_contents.proofs.Commands.{AreAnswers, AreOutcomes, Equal, command_read, finish_read, put_back_read, take_read, with}
use Rattle.unread_contents.proofs.Lists.{both_all}
use Rattle.unread_contents.proofs.Pairs.{answers_step, full, same_amounts, same_owner, same_reply, same_uploads}
use Rattle.unread_contents.proofs.Sweeps.{some_read_sweep}

-- ---- an outcome

-- an outcome with a result that is so related, and the same catalog with its contents read
record Answered {A : Type 0} (related : A → A → Type 0) (a : A) (C' : Catalog) (y : Outcome A) : Type 0 where
  result : A
  blobs : Blobs
  outcome : y ≡ Ok (result, with C' blobs)
  is : related a result
  read : AreRead C'.residents blobs
  on_disk : C'.contents.on_disk ≡ true

answered : {A : Type 0} (related : A → A → Type 0) (a : A) (C' : Catalog) (x y : Outcome A) → AreOutcomes related x y → x ≡ Ok (a, C') → Answered related a C' y
answered related a C' x y h e = by y (subst (λ z. AreOutcomes related z y) e h)
  where
    by : (y : Outcome _) → AreOutcomes related (Ok (a, C')) y → Answered related a C' y
    by (Ok y) h = record { result = y.0; blobs = y.1.residents; outcome = ap (λ X. Ok (y.0, X)) h.1.read.rest; is = h.0; read = h.1.read.residents; on_disk = h.1.on_disk }
    by (Err e) h = absurd h

refused : {A : Type 0} (related : A → A → Type 0) (e : Refusal) (x y : Outcome A) → AreOutcomes related x y → x ≡ Err e → y ≡ Err e
refused related e x y h is = by y (subst (λ z. AreOutcomes related z y) is h)
  where
    by : (y : Outcome _) → AreOutcomes related (Err e) y → y ≡ Err e
    by (Ok y) h = absurd h
    by (Err f) h = ap (λ z. Err z) (sym h)

-- ---- a step

-- The step, or the lease that returns more of its content, leads from the catalog with its contents read to one with its contents read.
record Reached (s : State) (r : Blobs) (step : Step) (C' : Catalog) : Type 0 where
  other : Step
  blobs : Blobs
  leaves : MayLeadTo (full s r) other (with C' blobs)
  read : AreRead C'.residents blobs
  on_disk : C'.contents.on_disk ≡ true
  same : AreStepsUpTo IsReadAs step other

module _ (s : State) (r : Blobs) (read : AreRead s.catalog.residents r) (on_disk : s.catalog.contents.on_disk ≡ true) (C' : Catalog) where
  -- a step that changes no stored blob
  still : (X : Catalog) → C' ≡ X → X.residents ≡ s.catalog.residents → X.contents ≡ s.catalog.contents → (step : Step) → MayLeadTo (full s r) step (with C' r) → Reached s r step C'
  still X is blobs rules step leaves = record {
    other = step;
    blobs = r;
    leaves = leaves;
    read = subst (λ m. AreRead m r) (sym (ap (λ (Y : Catalog). Y.residents) is ∙ blobs)) read;
    on_disk = ap (λ (Y : Catalog). Y.contents.on_disk) is ∙ ap (λ x. x.on_disk) rules ∙ on_disk;
    same = inl refl;
  }

  -- an accepted step whose result does not depend on contents
  accepted : {A : Type 0} (a : A) (step : Step) (x y : Outcome A) → AreOutcomes Equal x y → x ≡ Ok (a, C') → ((blobs : Blobs) → y ≡ Ok (a, with C' blobs) → MayLeadTo (full s r) step (with C' blobs)) → Reached s r step C'
  accepted a step x y h e leaves =
      let k = answered Equal a C' x y h e in
      record { other = step; blobs = k.blobs; leaves = leaves k.blobs (k.outcome ∙ ap (λ z. Ok (z, with C' k.blobs)) (sym k.is)); read = k.read; on_disk = k.on_disk; same = inl refl }

  command_reached : (command : Command) (reply : Result Answer Refusal) → MayLeadTo s (CommandCall command reply) C' → Reached s r (CommandCall command reply) C'
  command_reached command (Ok a) leaves =
      let k = answered (AreAnswers command) a C' (outcome false s.catalog command) (outcome false (with s.catalog r) command) (command_read s.catalog r read on_disk false command) leaves in
      record { other = CommandCall command (Ok k.result); blobs = k.blobs; leaves = k.outcome; read = k.read; on_disk = k.on_disk; same = answers_step command a k.result k.is }
  command_reached command (Err e) (inl case) = still s.catalog case.1 refl refl (CommandCall command (Err e)) (inl (by case.0, ap (λ X. with X r) case.1))
    where
      by : ((crowded : Bool) × (outcome crowded s.catalog command ≡ Err e)) ⊎ ((e ≡ Memory) × (takes_memory command ≡ true)) → ((crowded : Bool) × (outcome crowded (with s.catalog r) command ≡ Err e)) ⊎ ((e ≡ Memory) × (takes_memory command ≡ true))
      by (inl crowded) = inl (crowded.0, refused (AreAnswers command) e (outcome crowded.0 s.catalog command) (outcome crowded.0 (with s.catalog r) command) (command_read s.catalog r read on_disk crowded.0 command) crowded.1)
      by (inr memory) = inr memory
  command_reached command (Err e) (inr case) = still s.catalog case.1 refl refl (CommandCall command (Err e)) (inr (case.0, ap (λ X. with X r) case.1))

  sweep_reached : (swept : Swept) → IsSweep s.catalog swept C' → Reached s r (SweepCall swept) C'
  sweep_reached swept sweep =
      let k = some_read_sweep (λ _. true) s.catalog C' r swept read sweep in
      record { other = SweepCall swept; blobs = k.0; leaves = k.2; read = k.1; on_disk = ap (λ (X : Catalog). X.contents.on_disk) sweep.rest ∙ on_disk; same = inl refl }

  part_reached : (swept : Swept) → IsSweepPart s.catalog swept C' → Reached s r (SweepPartCall swept) C'
  part_reached swept part =
      let k = some_read_sweep part.0 s.catalog C' r swept read part.1 in
      record { other = SweepPartCall swept; blobs = k.0; leaves = (part.0, k.2); read = k.1; on_disk = ap (λ (X : Catalog). X.contents.on_disk) part.1.rest ∙ on_disk; same = inl refl }

  take_reached : (repo : Text) (n : ℕ) (g : Option ByteRange) (len : ℕ) (reply : Result HandRecord Refusal) → MayLeadTo s (TakeCall repo n g len reply) C' → Reached s r (TakeCall repo n g len reply) C'
  take_reached repo n g len (Ok h) leaves = accepted h (TakeCall repo n g len (Ok h)) (Commands.take s.catalog repo n g len) (Commands.take (with s.catalog r) repo n g len) (take_read s.catalog r read on_disk repo n g len) leaves (λ blobs e. e)
  take_reached repo n g len (Err e) leaves = still s.catalog leaves.1 refl refl (TakeCall repo n g len (Err e)) (by leaves.0, ap (λ X. with X r) leaves.1)
    where
      by : (Commands.take s.catalog repo n g len ≡ Err e) ⊎ IsUncountable s len e → (Commands.take (with s.catalog r) repo n g len ≡ Err e) ⊎ IsUncountable s len e
      by (inl is) = inl (refused Equal e (Commands.take s.catalog repo n g len) (Commands.take (with s.catalog r) repo n g len) (take_read s.catalog r read on_disk repo n g len) is)
      by (inr uncountable) = inr uncountable

  put_back_reached : (h : HandRecord) (reply : Result ℕ Refusal) → MayLeadTo s (PutBackCall h reply) C' → Reached s r (PutBackCall h reply) C'
  put_back_reached h (Ok n) leaves = accepted n (PutBackCall h (Ok n)) (Commands.put_back s.catalog h) (Commands.put_back (with s.catalog r) h) (put_back_read s.catalog r read on_disk h) leaves (λ blobs e. e)
  put_back_reached h (Err e) leaves = still s.catalog leaves.1 refl refl (PutBackCall h (Err e))
      (refused Equal e (Commands.put_back s.catalog h) (Commands.put_back (with s.catalog r) h) (put_back_read s.catalog r read on_disk h) leaves.0, ap (λ X. with X r) leaves.1)

  finish_reached : (h : HandRecord) (d : Text) (reply : Result ℕ Refusal) → MayLeadTo s (FinishCall h d reply) C' → Reached s r (FinishCall h d reply) C'
  finish_reached h d (Ok n) leaves = accepted n (FinishCall h d (Ok n)) (Commands.finish s.catalog h d) (Commands.finish (with s.catalog r) h d) (finish_read s.catalog r read on_disk h d) leaves (λ blobs e. e)
  finish_reached h d (Err e) leaves = still (Commands.after_cancel s.catalog h) leaves.1 refl refl (FinishCall h d (Err e))
      (λ other. refused Equal e (Commands.finish s.catalog h d) (Commands.finish (with s.catalog r) h d) (finish_read s.catalog r read on_disk h d) (leaves.0 other), ap (λ X. with X r) leaves.1)

  reached : (step : Step) → MayLeadTo s step C' → Reached s r step C'
  reached (CommandCall command reply) = command_reached command reply
  reached (SweepCall swept) = sweep_reached swept
  reached (SweepPartCall swept) = part_reached swept
  reached (TakeCall repo n g len reply) = take_reached repo n g len reply
  reached (PutBackCall h reply) = put_back_reached h reply
  reached (FinishCall h d reply) = finish_reached h d reply

-- ---- uploads

-- the content of an upload has the digest, as far as it was read
abbrev pub HasItsDigest : Text × Text → Type 0
HasItsDigest upload = has_digest upload.0 upload.1 ≡ true

module _ (C : Catalog) (on_disk : C.contents.on_disk ≡ true) where
  pair_named : (d : Text) (x : Result Text Refusal) → AllByRecursion HasItsDigest (uploaded_pair C.contents d x)
  pair_named d (Err e) = tt
  pair_named d (Ok content) = by (is_named C.contents d content) (sym (ap (λ x. if x then has_digest d content else is_digest_of d content) on_disk))
    where
      by : (b : Bool) → has_digest d content ≡ b → AllByRecursion HasItsDigest (if b then (d, content) ∷ [] else [])
      by true is = (is, tt)
      by false is = tt

  command_named : (command : Command) → AllByRecursion HasItsDigest (uploads_of_command C command)
  command_named (Close r n d g b) = pair_named d (close_content C r n b)
  command_named command = tt

  step_named : (step : Step) → AllByRecursion HasItsDigest (uploads_of_step C step)
  step_named (CommandCall command reply) = command_named command
  step_named (FinishCall h d reply) = pair_named d (Ok (hand_content h))
  step_named (SweepCall swept) = tt
  step_named (SweepPartCall swept) = tt
  step_named (TakeCall r n g len reply) = tt
  step_named (PutBackCall h reply) = tt

-- ---- a history

-- The history with its contents read: its run, with the same uploads, and with own replies of a tenant if the other has them.
pub record Played (s : State) (r : Blobs) (steps : List Step) (s' : State) (old : AreSteps s steps s') : Type 0 where
  pub others : List Step
  pub blobs : Blobs
  pub run : AreSteps (full s r) others (full s' blobs)
  pub read : AreRead s'.catalog.residents blobs
  pub on_disk : s'.catalog.contents.on_disk ≡ true
  pub same : AreHistoriesUpTo IsReadAs steps others
  pub uploads : uploads_of_history (full s r) others (full s' blobs) run ≡ uploads_of_history s steps s' old
  pub named : AllByRecursion HasItsDigest (uploads_of_history s steps s' old)
  pub own : (ts : List Tenant) (t : ℕ) → AreOwnReplies ts t s steps s' old → AreOwnReplies ts t (full s r) others (full s' blobs) run

pub played : (steps : List Step) (s : State) (r : Blobs) (s' : State) → AreRead s.catalog.residents r → s.catalog.contents.on_disk ≡ true → (run : AreSteps s steps s') → Played s r steps s' run
played [] s r s' read on_disk run = record {
  others = [];
  blobs = r;
  run = ap (λ x. full x r) run;
  read = subst (λ (x : State). AreRead x.catalog.residents r) (sym run) read;
  on_disk = ap (λ (x : State). x.catalog.contents.on_disk) run ∙ on_disk;
  same = tt;
  uploads = refl;
  named = tt;
  own = λ ts t own. tt;
}
played (step ∷ steps) s r s' read on_disk run =
    let mid : State = run.0 in
    let k = reached s r read on_disk mid.catalog step run.1.leaves in
    let p = played steps mid k.blobs s' k.read k.on_disk run.2 in
    record {
      others = k.other ∷ p.others;
      blobs = p.blobs;
      run = (full mid k.blobs, record { leaves = k.leaves; counts = run.1.counts ∙ ap (add_amounts s.totals) (same_amounts step k.other k.same) }, p.run);
      read = p.read;
      on_disk = p.on_disk;
      same = (k.same, p.same);
      uploads = λ i. same_uploads s.catalog r step k.other k.same i ++ p.uploads i;
      named = both_all HasItsDigest (uploads_of_step s.catalog step) (uploads_of_history mid steps s' run.2) (step_named s.catalog on_disk step) p.named;
      own = λ ts t own. (λ is. same_reply s r step k.other k.same (own.0 (same_owner ts t step k.other k.same ∙ is)), p.own ts t own.1);
    }
