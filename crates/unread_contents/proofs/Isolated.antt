-- A tenant's isolated history, and its view, from a catalog and from the same with its contents read.
use Rattle.std.proofs.Common.{◌≡◌, ℕ, ◌+◌, true, List, [], ◌∷◌, Ok, Err, refl, sym, ap, subst, inl}
use Rattle.std.specs.FinMap.{entries}
use Rattle.spec_lib.specs.Texts.{Text}
use Rattle.store_model.specs.Catalog.{Catalog, HandRecord, tenant_holds}
use Rattle.store_model.specs.Commands
use Rattle.store_model.specs.Commands.{Outcome}
use Rattle.store_model.specs.Histories.{CommandCall, FinishCall, PutBackCall, TakeCall}
use Rattle.store_model.specs.HistoryIsolation.{Finish, Perform, Return, StepRequest, Take, catalog_after_or, catalog_after_request, catalog_after_requests, isolated_step, isolated_steps, reply_of_outcome, with_slot}
use Rattle.store_model.specs.Noninterference.{catalog_after, isolated_outcome, reply_of, tenant_view}
use Rattle.store_model.specs.Runs.{Answer, Command}
use Rattle.unread_contents.specs.Unread.{AreHistoriesUpTo, AreStepsUpTo, AreViewsUpTo, IsReadAs}
use Rattle.unread_contents.proofs.Blobs.{AreRead, Blobs, contents_read, entries_read, len_read}
use Rattle.unread_contents.proofs.Commands.{AreAnswers, AreBoth, AreOutcomes, Equal, cancel_read, finish_read, isolated_read, put_back_read, take_read, with}
use Rattle.unread_contents.proofs.Pairs.{answers_step}

-- a catalog and the same with its contents read, from its blobs
pub both : (C : Catalog) (r : Blobs) → AreRead C.residents r → C.contents.on_disk ≡ true → AreBoth C (with C r)
both C r read on_disk = record { read = record { residents = read; rest = refl }; on_disk = on_disk }

-- ---- one request

-- the steps of one request, and the catalogs after it
abbrev AreNext : Catalog → Catalog → StepRequest → Type 0
AreNext C F q = AreStepsUpTo IsReadAs (isolated_step C q) (isolated_step F q) × AreBoth (catalog_after_request C q) (catalog_after_request F q)

performed : (C F : Catalog) → AreBoth C F → (command : Command) (x y : Outcome Answer) → AreOutcomes (AreAnswers command) x y →
    AreStepsUpTo IsReadAs (CommandCall command (reply_of x)) (CommandCall command (reply_of y)) × AreBoth (catalog_after C x) (catalog_after F y)
performed C F now command (Ok x) (Ok y) h = (answers_step command x.0 y.0 h.0, h.1)
performed C F now command (Ok x) (Err f) h = absurd h
performed C F now command (Err e) (Ok y) h = absurd h
performed C F now command (Err e) (Err f) h = (inl (ap (λ x. CommandCall command (Err x)) h), now)

replied : {A : Type 0} (C F : Catalog) → AreBoth C F → (x y : Outcome A) → AreOutcomes Equal x y → (reply_of_outcome x ≡ reply_of_outcome y) × AreBoth (catalog_after_or C x) (catalog_after_or F y)
replied C F now (Ok x) (Ok y) h = (ap (λ a. Ok a) h.0, h.1)
replied C F now (Ok x) (Err f) h = absurd h
replied C F now (Err e) (Ok y) h = absurd h
replied C F now (Err e) (Err f) h = (ap (λ a. Err a) h, now)

module _ (C : Catalog) (r : Blobs) (read : AreRead C.residents r) (on_disk : C.contents.on_disk ≡ true) where
  slot_finish : (h : HandRecord) (d : Text) → AreOutcomes Equal (Commands.finish (with_slot C) h d) (Commands.finish (with_slot (with C r)) h d)
  slot_finish h d =
      subst (λ n. AreOutcomes Equal (Commands.finish (with_slot C) h d) (Commands.finish (record C { residents = r; slots = n + C.retired + 1 }) h d)) (len_read C.residents r read)
      (finish_read (with_slot C) r read on_disk h d)

  next : (q : StepRequest) → AreNext C (with C r) q
  next (Perform command) = performed C (with C r) (both C r read on_disk) command (isolated_outcome C command) (isolated_outcome (with C r) command) (isolated_read C r read on_disk command)
  next (Take repo n g size) =
      let k = replied C (with C r) (both C r read on_disk) (Commands.take C repo n g size) (Commands.take (with C r) repo n g size) (take_read C r read on_disk repo n g size) in
      (inl (ap (λ x. TakeCall repo n g size x) k.0), k.1)
  next (Return h) =
      let k = replied C (with C r) (both C r read on_disk) (Commands.put_back C h) (Commands.put_back (with C r) h) (put_back_read C r read on_disk h) in
      (inl (ap (λ x. PutBackCall h x) k.0), k.1)
  next (Finish h d) =
      let k = replied (Commands.after_cancel C h) (Commands.after_cancel (with C r) h) (cancel_read C r read on_disk h) (Commands.finish (with_slot C) h d) (Commands.finish (with_slot (with C r)) h d) (slot_finish h d) in
      (inl (ap (λ x. FinishCall h d x) k.0), k.1)

  with_view : (t : ℕ) → AreViewsUpTo IsReadAs (tenant_view C t) (tenant_view (with C r) t)
  with_view t = record { blobs = contents_read (tenant_holds C t) (entries C.residents) (entries r) (entries_read C.residents r read); rest = refl }

-- ---- a list of requests

pub requests_read : (qs : List StepRequest) (C F : Catalog) → AreBoth C F → AreHistoriesUpTo IsReadAs (isolated_steps C qs) (isolated_steps F qs) × AreBoth (catalog_after_requests C qs) (catalog_after_requests F qs)
requests_read [] C F now = (tt, now)
requests_read (q ∷ qs) C F now =
    let k : AreNext C F q = subst (λ X. AreNext C X q) (sym now.read.rest) (next C F.residents now.read.residents now.on_disk q) in
    let rest = requests_read qs (catalog_after_request C q) (catalog_after_request F q) k.1 in
    ((k.0, rest.0), rest.1)

pub view_read : (C F : Catalog) (t : ℕ) → AreBoth C F → AreViewsUpTo IsReadAs (tenant_view C t) (tenant_view F t)
view_read C F t now = subst (λ X. AreViewsUpTo IsReadAs (tenant_view C t) (tenant_view X t)) (sym now.read.rest) (with_view C F.residents now.read.residents now.on_disk t)
