-- The steps that a call of the store makes for the rows of a worker.
use Rattle.std.proofs.Common.{◌≡◌, ◌⊎◌, ℕ, List, [], ◌∷◌, ◌++◌, Option, Result, Ok, Err, add-zero, arith, refl, ap, sym, ◌∙◌, inl, inr, append_assoc, subst}
use Rattle.std.proofs.lemmas.List.{append-nil}
use Rattle.std.specs.Prelude.{IfOk, OnErr, OnOk, length, map}
use Rattle.blob_digest.specs.declared.range.ByteRange.{ByteRange}
use Rattle.blob_digest.specs.declared.refusal.Refusal.{Refusal}
use Rattle.blob_digest.specs.declared.refusal.Refusal.TheVariants.{Memory}
use Rattle.spec_lib.specs.Texts.{Text}
use Rattle.store_model.specs.Amounts.{Amounts, command_amounts_of, add_amounts}
use Rattle.store_model.specs.Catalog.{Catalog, HandRecord}
use Rattle.store_model.specs.Histories.{FinishCall, CommandCall, Step, SweepPartCall, TakeCall, PutBackCall, accepted_amounts, step_amounts}
use Rattle.store_model.specs.Runs as runs
use Rattle.store_model.specs.Runs.{Mounting}
use Rattle.store_model.specs.declared.mount.Mount.TheVariants as mounting
use Rattle.locked_book.specs.History.{Adds, AppendsChunk, CancelsCheckOut, ClosesSession, DeskView, Makes, Trace, filled_hand}
use Rattle.locked_book.specs.Calls.{reply}
use Rattle.locked_book.specs.Names.{StoreNames}
use Rattle.locked_book.proofs.Counted.{plus_nothing}
use Rattle.store_api.specs.Answers.{Answer, Received, Refused, Stored, Swept, Verified, result_answer, mount_answer}
use Rattle.store_api.specs.CommandAnswers.{command_answer}
use Rattle.store_api.specs.Commands.{Append, Calls, Close, Command, Mount, SweepsInParts, Verifies}
use Rattle.store_model.specs.declared.swept.Swept.{Swept as SweptCounts}
use Rattle.blob_store.specs.SweepParts.{MakesAllParts}
use Rattle.blob_store.specs.StoreBackends.{AmountActs, AreCommandSteps, AreRequestSteps, AreUploadSteps, FindsBlob, DeskActs}

-- two steps, one after the other
two_own : (C : Catalog) (old mid new : Trace) (d e : Step) → Adds C old d mid → Adds C mid e new → new.own ≡ old.own ++ d ∷ e ∷ []
two_own C old mid new d e x y = y.own ∙ ap (λ ds. ds ++ e ∷ []) x.own ∙ append_assoc old.own (d ∷ []) (e ∷ [])

-- the steps of an append or a close
pub uploaded : (C : Catalog) (old new : Trace) (repo : Text) (number : ℕ) (range : Option ByteRange) (bytes : Text) (last : HandRecord → Result ℕ Refusal → Step) (f : ℕ → Answer) (result : Result ℕ Refusal)
    → ((e : Refusal) × (result ≡ Err e) × Adds C old (TakeCall repo number range (length bytes) (Err e)) new)
    ⊎ ((hand : HandRecord) × (mid : Trace) × Adds C old (TakeCall repo number range (length bytes) (Ok hand)) mid × Adds C mid (last (filled_hand hand bytes) result) new)
    ⊎ ((result ≡ Err Memory) × CancelsCheckOut C old repo number range bytes new)
    → (new.number ≡ old.number) × ((steps : List Step) × AreUploadSteps repo number range bytes last f (result_answer f result) steps × (new.own ≡ old.own ++ steps))
uploaded C old new repo number range bytes last f result (inl x) =
    (x.2.number, (TakeCall repo number range (length bytes) (Err x.0) ∷ [], inl (x.0, refl, ap (result_answer f) x.1), x.2.own))
uploaded C old new repo number range bytes last f result (inr (inl x)) =
    let d = TakeCall repo number range (length bytes) (Ok x.0) in
    let e = last (filled_hand x.0 bytes) result in
    (x.3.number ∙ x.2.number, (d ∷ e ∷ [], inr (inl (x.0, result, refl, refl)), two_own C old x.1 new d e x.2 x.3))
uploaded C old new repo number range bytes last f result (inr (inr x)) =
    let d = TakeCall repo number range (length bytes) (Ok x.1.hand) in
    let e = PutBackCall x.1.hand x.1.back in
    (x.1.put_back.number ∙ x.1.take.number, (d ∷ e ∷ [], inr (inr (x.1.hand, x.1.back, refl, ap (result_answer f) x.0)), two_own C old x.1.mid new d e x.1.take x.1.put_back))

-- an upload's amounts with its steps
pub both : (names : StoreNames) (old new : DeskView) (command : Command) (answer : Answer) (steps : (new.trace.number ≡ old.trace.number) × ((steps : List Step) × AreRequestSteps (Calls command) answer steps × (new.trace.own ≡ old.trace.own ++ steps))) → AmountActs old.amounts (Calls command) answer new.amounts → DeskActs names old (Calls command) answer new
both names old new command answer steps amounts = record { work = record { amounts = amounts; steps = steps.1 }; number = steps.0; finds = tt }

-- a failed command adds nothing
pub adds_nothing : (old new : Amounts) (command : Command) (e : Refusal) → new ≡ old → AmountActs old (Calls command) (Refused e) new
adds_nothing old new command e same =
    let commands : new.commands ≡ old.commands = ap (λ a. a.commands) same in
    let received : new.received ≡ old.received = ap (λ a. a.received) same in
    let closed : new.closed ≡ old.closed = ap (λ a. a.closed) same in
    record {
      commands = omega (arith, commands);
      received = omega (arith, received);
      closed = omega (arith, closed);
      abandoned = λ _. ap (λ a. a.abandoned) same;
    }

pub appended : (names : StoreNames) (old new : DeskView) (repo : Text) (number : ℕ) (range : Option ByteRange) (bytes : Text) (result : Result ℕ Refusal)
    → OnOk result (new.amounts ≡ add_amounts old.amounts (command_amounts_of (length bytes) 0 0)) → OnErr result (new.amounts ≡ old.amounts) → AppendsChunk names.opening old.trace repo number range bytes result new.trace
    → DeskActs names old (Calls (Append repo number range bytes)) (result_answer Received result) new
appended names old new repo number range bytes (Ok n) ok err history =
    both names old new (Append repo number range bytes) (Received n) (uploaded names.opening old.trace new.trace repo number range bytes PutBackCall Received (Ok n) history) (record {
      commands = ap (λ (a : Amounts). a.commands) ok;
      received = ap (λ (a : Amounts). a.received) ok;
      closed = ap (λ (a : Amounts). a.closed) ok;
      abandoned = λ _. ap (λ (a : Amounts). a.abandoned) ok ∙ add-zero old.amounts.abandoned;
    })
appended names old new repo number range bytes (Err e) ok err history =
    let command = Append repo number range bytes in
    both names old new command (Refused e) (uploaded names.opening old.trace new.trace repo number range bytes PutBackCall Received (Err e) history) (adds_nothing old.amounts new.amounts command e err)

pub closed : (names : StoreNames) (old new : DeskView) (repo : Text) (number : ℕ) (digest : Text) (range : Option ByteRange) (bytes : Text) (result : Result ℕ Refusal)
    → IfOk result (λ n. new.amounts ≡ add_amounts old.amounts (command_amounts_of (length bytes) n 0)) → OnErr result (new.amounts ≡ old.amounts) → ClosesSession names.opening old.trace repo number digest range bytes result new.trace
    → DeskActs names old (Calls (Close repo number digest range bytes)) (result_answer Stored result) new
closed names old new repo number digest range bytes (Ok n) ok err history =
    both names old new (Close repo number digest range bytes) (Stored n) (uploaded names.opening old.trace new.trace repo number range bytes (λ hand r. FinishCall hand digest r) Stored (Ok n) history) (record {
      commands = ap (λ (a : Amounts). a.commands) ok;
      received = ap (λ (a : Amounts). a.received) ok;
      closed = ap (λ (a : Amounts). a.closed) ok;
      abandoned = λ _. ap (λ (a : Amounts). a.abandoned) ok ∙ add-zero old.amounts.abandoned;
    })
closed names old new repo number digest range bytes (Err e) ok err history =
    let command = Close repo number digest range bytes in
    both names old new command (Refused e) (uploaded names.opening old.trace new.trace repo number range bytes (λ hand r. FinishCall hand digest r) Stored (Err e) history) (adds_nothing old.amounts new.amounts command e err)

-- ---- a command that is one step

-- the amounts that an accepted command adds
abbrev pub CountsAs : {A : Type 0} → Amounts → Command → (A → runs.Answer) → (A → Answer) → Type 0
CountsAs {A} old command f g = (a : A) → AmountActs old (Calls command) (g a) (add_amounts old (accepted_amounts command (f a)))

amounts_acts : {A : Type 0} (old new : Amounts) (command : Command) (f : A → runs.Answer) (g : A → Answer) (result : Result A Refusal) → CountsAs old command f g → new ≡ add_amounts old (step_amounts (CommandCall command (reply f result))) → AmountActs old (Calls command) (result_answer g result) new
amounts_acts old new command f g (Ok a) counts h = rw h (counts a)
amounts_acts old new command f g (Err e) counts h = adds_nothing old new command e (h ∙ sym (plus_nothing old))

answers_so : {A : Type 0} (command : Command) (f : A → runs.Answer) (g : A → Answer) (result : Result A Refusal) → ((a : A) → command_answer command (f a) ≡ g a) → result_answer (command_answer command) (reply f result) ≡ result_answer g result
answers_so command f g (Ok a) each = each a
answers_so command f g (Err e) each = refl

pub made : {A : Type 0} (names : StoreNames) (old new : DeskView) (command : Command) (f : A → runs.Answer) (g : A → Answer) (result : Result A Refusal)
    → ((r : Result runs.Answer Refusal) → AreCommandSteps command (result_answer (command_answer command) r) (CommandCall command r ∷ []))
    → ((a : A) → command_answer command (f a) ≡ g a) → CountsAs old.amounts command f g
    → Makes names.opening (CommandCall command (reply f result)) old new → DeskActs names old (Calls command) (result_answer g result) new
made names old new command f g result steps each counts makes =
    let step = CommandCall command (reply f result) in
    let is : AreCommandSteps command (result_answer g result) (step ∷ []) = subst (λ (a : Answer). AreCommandSteps command a (step ∷ [])) (answers_so command f g result each) (steps (reply f result)) in
    record {
      work = record {
        amounts = amounts_acts old.amounts new.amounts command f g result counts makes.amounts;
        steps = (step ∷ [], is, makes.adds.own);
      };
      number = makes.adds.number;
      finds = tt;
    }

pub mount_counts : (old : Amounts) (repo digest : Text) (from : Option Text) → CountsAs old (Mount repo digest from) Mounting mount_answer
mount_counts old repo digest from mounting.Mounted = record { commands = refl; received = refl; closed = refl; abandoned = λ _. add-zero old.abandoned }
mount_counts old repo digest from (mounting.Session number) = record { commands = refl; received = refl; closed = refl; abandoned = λ _. add-zero old.abandoned }

-- a check of a lease adds nothing
pub looked : (names : StoreNames) (desk : DeskView) (size : ℕ) → FindsBlob names size → DeskActs names desk (Verifies size) (Verified size) desk
looked names desk size found = record {
  work = record {
    amounts = record {
      commands = sym (add-zero desk.amounts.commands);
      received = sym (add-zero desk.amounts.received);
      closed = sym (add-zero desk.amounts.closed);
      abandoned = λ _. refl;
    };
    steps = ([], (refl, refl), sym (append-nil desk.trace.own));
  };
  number = refl;
  finds = found;
}

-- a sweep in parts counts nothing
pub swept_in_parts : (names : StoreNames) (old new : DeskView) (swept : SweptCounts) → MakesAllParts names swept old new → DeskActs names old SweepsInParts (Swept swept) new
swept_in_parts names old new swept made = record {
  work = record {
    amounts = record {
      commands = ap (λ (a : Amounts). a.commands) made.amounts ∙ sym (add-zero old.amounts.commands);
      received = ap (λ (a : Amounts). a.received) made.amounts ∙ sym (add-zero old.amounts.received);
      closed = ap (λ (a : Amounts). a.closed) made.amounts ∙ sym (add-zero old.amounts.closed);
      abandoned = λ _. ap (λ (a : Amounts). a.abandoned) made.amounts;
    };
    steps = (map SweepPartCall made.parts, (made.parts, refl, ap Swept made.sums), made.own);
  };
  number = made.number;
  finds = tt;
}
