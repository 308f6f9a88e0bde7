-- The result of a book's method as the reply of a backend.
use Rattle.std.proofs.Common.{◌≡◌, ◌∙◌, ℕ, List, Option, Result, Ok, Err, ap, inl, refl, sym}
use Rattle.spec_lib.specs.Texts.{Text}
use Rattle.blob_digest.specs.Outcomes.{Answers, Does, DoesExactly}
use Rattle.blob_digest.specs.declared.refusal.Refusal.{Refusal}
use Rattle.store_model.specs.Catalog.{Catalog}
use Rattle.store_model.specs.Commands as commands
use Rattle.store_model.specs.Commands.{Outcome}
use Rattle.store_model.specs.Runs as runs
use Rattle.store_model.specs.declared.mount.Mount.{Mount as Mounted}
use Rattle.store_model.specs.declared.mount.Mount.TheVariants as mounting
use Rattle.store_book.specs.BookState.{SlotView}
use Rattle.store_api.specs.Answers.{Answer, Body, Received, result_answer, mount_answer}
use Rattle.store_api.specs.CommandAnswers.{command_answer}
use Rattle.store_api.specs.Commands.{Command, GetManifest, Mount, Status}
use Rattle.blobctl.specs.Played.{BookActsCommand, command_outcome}

-- the reply of an outcome of the model
abbrev answer_outcome : {B : Type 0} → Command → (B → runs.Answer) → Outcome B → Outcome Answer
answer_outcome command f step = runs.map_outcome (command_answer command) (runs.map_outcome f step)

-- a method whose result is its command's outcome acts as the command
-- (`accepts` computes a reply that is no refusal)
pub does_acts : {A B : Type 0} (view : A → B) (result : Result A Refusal) (C C' : Catalog) (seen : List SlotView) (command : Command) (f : B → runs.Answer) (g : A → Answer) (step : Outcome B)
    → command_outcome C command ≡ answer_outcome command f step → ((a : A) → command_answer command (f (view a)) ≡ g a)
    → ((a : A) → command_outcome C command ≡ Ok (g a, C') → BookActsCommand C seen command (g a) C')
    → Does view result C C' step → BookActsCommand C seen command (result_answer g result) C'
does_acts view (Ok a) C C' seen command f g step is each accepts h = accepts a (is ∙ ap (answer_outcome command f) h ∙ ap (λ (x : Answer). Ok (x, C')) (each a))
does_acts view (Err e) C C' seen command f g step is each accepts h = (λ other. inl (is ∙ ap (answer_outcome command f) (h.0 other)), h.1)

exactly : {A B : Type 0} (view : A → B) (result : Result A Refusal) (C C' : Catalog) (step : Outcome B) → DoesExactly view result C C' step → Does view result C C' step
exactly view (Ok a) C C' step h = h
exactly view (Err e) C C' step h = (λ other. h.0, h.1)

pub does_exactly : {A B : Type 0} (view : A → B) (result : Result A Refusal) (C C' : Catalog) (seen : List SlotView) (command : Command) (f : B → runs.Answer) (g : A → Answer) (step : Outcome B)
    → command_outcome C command ≡ answer_outcome command f step → ((a : A) → command_answer command (f (view a)) ≡ g a)
    → ((a : A) → command_outcome C command ≡ Ok (g a, C') → BookActsCommand C seen command (g a) C')
    → DoesExactly view result C C' step → BookActsCommand C seen command (result_answer g result) C'
does_exactly view result C C' seen command f g step is each accepts h = does_acts view result C C' seen command f g step is each accepts (exactly view result C C' step h)

pub mount_accepts : (C C' : Catalog) (seen : List SlotView) (repo digest : Text) (from : Option Text) (m : Mounted) → command_outcome C (Mount repo digest from) ≡ Ok (mount_answer m, C') → BookActsCommand C seen (Mount repo digest from) (mount_answer m) C'
mount_accepts C C' seen repo digest from mounting.Mounted h = h
mount_accepts C C' seen repo digest from (mounting.Session number) h = h

-- ---- the two commands that change nothing

abbrev read_outcome : {A : Type 0} → Catalog → Command → (A → runs.Answer) → Result A Refusal → Outcome Answer
read_outcome C command f r = runs.map_outcome (command_answer command) (runs.reading_outcome f C r)

pub status_acts : (result : Result ℕ Refusal) (C : Catalog) (seen : List SlotView) (repo : Text) (number : ℕ) → result ≡ commands.status C repo number → BookActsCommand C seen (Status repo number) (result_answer Received result) C
status_acts (Ok n) C seen repo number h = ap (read_outcome C (Status repo number) runs.Number) (sym h)
status_acts (Err e) C seen repo number h = (λ _. inl (ap (read_outcome C (Status repo number) runs.Number) (sym h)), refl)

pub manifest_acts : {A : Type 0} (view : A → Text) (result : Result A Refusal) (C : Catalog) (seen : List SlotView) (repo digest : Text) → Answers view result (commands.get_manifest C repo digest) → BookActsCommand C seen (GetManifest repo digest) (result_answer (λ m. Body (view m)) result) C
manifest_acts view (Ok m) C seen repo digest h = ap (read_outcome C (GetManifest repo digest) runs.Bytes) h
manifest_acts view (Err e) C seen repo digest h = (λ other. inl (ap (read_outcome C (GetManifest repo digest) runs.Bytes) (h other)), refl)
