-- A tenant's rows alone: their steps and their replies.
use Rattle.std.proofs.Common.{◌≡◌, ◌≢◌, ℕ, List, [], ◌∷◌, ◌++◌, Option, Some, None, Result, Ok, Err, refl, sym, ap, ◌∙◌, subst, inl, inr}
use Rattle.std.specs.Prelude.{length}
use Rattle.blob_digest.specs.declared.range.ByteRange.{ByteRange}
use Rattle.blob_digest.specs.declared.refusal.Refusal.{Refusal}
use Rattle.blob_digest.specs.declared.refusal.Refusal.TheVariants.{Memory}
use Rattle.spec_lib.specs.Texts.{Text}
use Rattle.store_model.specs.Catalog.{Catalog, HandRecord}
use Rattle.store_model.specs.Commands.{finish, put_back, take}
use Rattle.store_model.specs.Histories.{FinishCall, CommandCall, PutBackCall, Step, TakeCall}
use Rattle.store_model.specs.HistoryIsolation.{Take, catalog_after_request, catalog_after_requests, requests_of, isolated_steps, reply_of_outcome, with_slot}
use Rattle.store_model.specs.Noninterference.{isolated_outcome, reply_of}
use Rattle.store_api.specs.Answers.{Answer, NoLease, Received, Refused, Stored, result_answer}
use Rattle.store_api.specs.CommandAnswers.{command_answer}
use Rattle.store_api.specs.Commands.{Append, Close, Command}
use Rattle.script_player.specs.RowCommands.{command_of}
use Rattle.script_player.specs.Rows.{RowView}
use Rattle.locked_book.specs.History.{filled_hand}
use Rattle.blob_store.specs.StoreBackends.{AreCommandSteps, AreUploadSteps}
use Rattle.blob_store.proofs.OneText.RowSteps.{AreLineSteps, AreRowSteps, Line, answers_of, rows_of}

-- steps are those that their requests cause, from a catalog on
abbrev pub AreAlone : Catalog → List Step → Type 0
AreAlone D steps = isolated_steps D (requests_of steps) ≡ steps

-- ---- requests and replies

-- the result of an upload, by the result of checking its session out; `last` is its last step
abbrev upload_alone : Catalog → Text → ℕ → Option ByteRange → Text → (HandRecord → Result ℕ Refusal → Step) → (HandRecord → Result ℕ Refusal) → (ℕ → Answer) → Result HandRecord Refusal → List Step × Answer
upload_alone D r n g b last ends f (Err e) = (TakeCall r n g (length b) (Err e) ∷ [], Refused e)
upload_alone D r n g b last ends f (Ok hand) = (TakeCall r n g (length b) (Ok hand) ∷ last (filled_hand hand b) (ends (filled_hand hand b)) ∷ [], result_answer f (ends (filled_hand hand b)))

-- the catalog in which an upload ends
abbrev catalog_after_take : Catalog → Text → ℕ → Option ByteRange → Text → Catalog
catalog_after_take D r n g b = catalog_after_request D (Take r n g (length b))

abbrev command_alone : Catalog → Command → List Step × Answer
command_alone D (Append r n g b) = upload_alone D r n g b PutBackCall (λ h. reply_of_outcome (put_back (catalog_after_take D r n g b) h)) Received (reply_of_outcome (take D r n g (length b)))
command_alone D (Close r n d g b) = upload_alone D r n g b (λ h x. FinishCall h d x) (λ h. reply_of_outcome (finish (with_slot (catalog_after_take D r n g b)) h d)) Stored (reply_of_outcome (take D r n g (length b)))
command_alone D command = (CommandCall command (reply_of (isolated_outcome D command)) ∷ [], result_answer (command_answer command) (reply_of (isolated_outcome D command)))

-- a row without a command is none of these
abbrev spelled_alone : Catalog → Result (Option Command) Refusal → List Step × Answer
spelled_alone D (Ok (Some command)) = command_alone D command
spelled_alone D (Ok None) = ([], NoLease)
spelled_alone D (Err e) = ([], Refused e)

-- the steps of rows, and their replies
abbrev pub rows_alone : Catalog → List RowView → List Step × List Answer
rows_alone D [] = ([], [])
rows_alone D (row ∷ rows) =
    let here = spelled_alone D (command_of row) in
    let after = rows_alone (catalog_after_requests D (requests_of here.0)) rows in
    (here.0 ++ after.0, here.1 ∷ after.1)

-- ---- caused steps

-- a row's steps and reply are these, and the next steps continue from there
record Follows (D : Catalog) (first rest : List Step) (answer : Answer) (alone : List Step × Answer) : Type 0 where
  steps : first ≡ alone.0
  answer_is : answer ≡ alone.1
  after : AreAlone (catalog_after_requests D (requests_of first)) rest

-- the last step of an upload determines its result
abbrev Ends : Catalog → (HandRecord → Result ℕ Refusal → Step) → (HandRecord → Result ℕ Refusal) → Type 0
Ends D last ends = (h : HandRecord) (x : Result ℕ Refusal) (rest : List Step) → AreAlone D (last h x ∷ rest) → (ends h ≡ x) × AreAlone (catalog_after_requests D (requests_of (last h x ∷ []))) rest

module _ (D : Catalog) (answer : Answer) (first rest : List Step) (not_memory : answer ≢ Refused Memory) (alone : AreAlone D (first ++ rest)) where
  module _ (r : Text) (n : ℕ) (g : Option ByteRange) (b : Text) where
    -- the result of checking the session out
    taken : (x : Result HandRecord Refusal) (more : List Step) → AreAlone D (TakeCall r n g (length b) x ∷ more) → (reply_of_outcome (take D r n g (length b)) ≡ x) × AreAlone (catalog_after_take D r n g b) more
    taken x more are = (let e = are in cc, let e = are in cc)

    upload_follows : (last : HandRecord → Result ℕ Refusal → Step) (ends : HandRecord → Result ℕ Refusal) (f : ℕ → Answer) → Ends (catalog_after_take D r n g b) last ends → AreUploadSteps r n g b last f answer first
        → Follows D first rest answer (upload_alone D r n g b last ends f (reply_of_outcome (take D r n g (length b))))
    upload_follows last ends f ended (inl x) =
        let t = taken (Err x.0) rest (subst (λ xs. AreAlone D (xs ++ rest)) x.1 alone) in
        record {
          steps = x.1 ∙ ap (λ o. (upload_alone D r n g b last ends f o).0) (sym t.0);
          answer_is = x.2 ∙ ap (λ o. (upload_alone D r n g b last ends f o).1) (sym t.0);
          after = subst (λ xs. AreAlone (catalog_after_requests D (requests_of xs)) rest) (sym x.1) t.1;
        }
    upload_follows last ends f ended (inr (inl x)) =
        let h = filled_hand x.0 b in
        let t = taken (Ok x.0) (last h x.1 ∷ rest) (subst (λ xs. AreAlone D (xs ++ rest)) x.2 alone) in
        let l = ended h x.1 rest t.1 in
        record {
          steps = x.2 ∙ ap (λ y. TakeCall r n g (length b) (Ok x.0) ∷ last h y ∷ []) (sym l.0) ∙ ap (λ o. (upload_alone D r n g b last ends f o).0) (sym t.0);
          answer_is = x.3 ∙ ap (result_answer f) (sym l.0) ∙ ap (λ o. (upload_alone D r n g b last ends f o).1) (sym t.0);
          after = subst (λ xs. AreAlone (catalog_after_requests D (requests_of xs)) rest) (sym x.2) l.1;
        }
    upload_follows last ends f ended (inr (inr x)) = absurd (not_memory x.3)

  command_follows : (command : Command) → AreCommandSteps command answer first → Follows D first rest answer (command_alone D command)
  command_follows (Append r n g b) are = upload_follows r n g b PutBackCall (λ h. reply_of_outcome (put_back (catalog_after_take D r n g b) h)) Received (λ h x more e. (let k = e in cc, let k = e in cc)) are
  command_follows (Close r n d g b) are = upload_follows r n g b (λ h x. FinishCall h d x) (λ h. reply_of_outcome (finish (with_slot (catalog_after_take D r n g b)) h d)) Stored (λ h x more e. (let k = e in cc, let k = e in cc)) are
  command_follows command are =
      let e = subst (λ xs. AreAlone D (xs ++ rest)) are.1 alone in
      let same : reply_of (isolated_outcome D command) ≡ are.0 = cc in
      record {
        steps = are.1 ∙ ap (λ y. CommandCall command y ∷ []) (sym same);
        answer_is = are.2 ∙ ap (result_answer (command_answer command)) (sym same);
        after = subst (λ xs. AreAlone (catalog_after_requests D (requests_of xs)) rest) (sym are.1) (let k = e in cc);
      }

  spelled_follows : (o : Result (Option Command) Refusal) → AreRowSteps o answer first → Follows D first rest answer (spelled_alone D o)
  spelled_follows (Ok (Some command)) are = command_follows command are
  spelled_follows (Ok None) are = absurd are
  spelled_follows (Err e) are = record { steps = are.1; answer_is = are.0; after = subst (λ xs. AreAlone (catalog_after_requests D (requests_of xs)) rest) (sym are.1) (subst (λ xs. AreAlone D (xs ++ rest)) are.1 alone) }

-- if the steps of rows are those that their requests cause, the rows alone determine them and their replies
pub told_alone : (lines : List Line) (steps : List Step) (D : Catalog) → AreLineSteps lines steps → AreAlone D steps → (steps ≡ (rows_alone D (rows_of lines)).0) × (answers_of lines ≡ (rows_alone D (rows_of lines)).1)
told_alone [] steps D are alone = (are, refl)
told_alone (l ∷ lines) steps D are alone =
    let here = spelled_follows D l.1 are.0 are.1 are.3 (subst (AreAlone D) are.5 alone) (command_of l.0) are.2 in
    let after = told_alone lines are.1 (catalog_after_requests D (requests_of (spelled_alone D (command_of l.0)).0)) are.4 (subst (λ xs. AreAlone (catalog_after_requests D (requests_of xs)) are.1) here.steps here.after) in
    (are.5 ∙ (λ i. here.steps i ++ after.0 i), λ i. here.answer_is i ∷ after.1 i)
