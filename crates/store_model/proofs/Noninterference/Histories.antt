-- Isolation of tenants in histories: the induction over the steps.
use Rattle.std.proofs.Common.{◌≡◌, ℕ, Bool, true, false, cond, List, [], ◌∷◌, Option, Some, Result, Ok, Err, refl, sym, ap, ◌∙◌, subst, ⊎_elim}
use Rattle.std.specs.Prelude.{◌==◌}
use Rattle.std.proofs.lemmas.Bool.{false≢true}
use Rattle.std.specs.FinMap.{get-empty}
use Rattle.blob_digest.specs.declared.range.ByteRange.{ByteRange}
use Rattle.blob_digest.specs.declared.refusal.Refusal.{Refusal}
use Rattle.spec_lib.specs.Texts.{Text}
use Rattle.spec_lib.proofs.Options.{nothing}
use Rattle.store_model.specs.Catalog.{Catalog, CheckedIn, HandRecord, Tenant, is_repo_of, next_number_of, session_number_cmp, opening, tenant_of, ContentRules}
use Rattle.store_model.specs.Commands
use Rattle.store_model.specs.Commands.{Outcome, after_cancel, finish, has_slot, put_back, take}
use Rattle.store_model.specs.Histories.{AreSteps, SweepCall, SweepPartCall, FinishCall, MayLeadTo, CommandCall, PutBackCall, State, Step, TakeCall, initial_state}
use Rattle.store_model.specs.HistoryIsolation.{AreOwnReplies, Finish, HistoriesLeaveTheSameText, IsCollisionFreeHistory, IsOwnRefusal, IsOwnReply, IsUnaffectedHistory, Perform, StepRequest, Return, Take, TenantsAreIsolatedInHistories, catalog_after_request, uploads_of_history, uploads_of_step, catalog_after_requests, is_step_of, catalog_after_or, requests_of, isolated_step, isolated_steps, steps_of, reply_of_outcome, with_slot}
use Rattle.store_model.specs.Noninterference.{AreTenantsAlike, IsUnaffectedByOthers, blobs_of, uploads_of_command, uploaded_pair}
use Rattle.store_model.specs.Runs as runs
use Rattle.store_model.specs.Runs.{Answer, CommandEvent, Command, IsCommandCase, outcome, repo_of}
use Rattle.store_model.specs.Sessions.{at_home, hand_content, with_chunk}
use Rattle.store_model.specs.Sweep.{IsSweep, IsSweepPart}
use Rattle.store_model.proofs.Noninterference.Consistency.{consistent_command, consistent_sweep, unseen_sweep}
use Rattle.store_model.proofs.Noninterference.Hands.{Owned, changed_leaves, consistent_cancel, consistent_finish, consistent_put_back, consistent_take, finish_leaves, cancel_leaves, own_cancel, own_finish, own_put_back, own_take, owned_cancel, owned_chunks, owned_finish, owned_put_back, owned_session, owned_take, owned_without, put_back_leaves, take_leaves, unseen_cancel, unseen_finish, unseen_put_back, unseen_take}
use Rattle.store_model.proofs.Noninterference.LocalRespect.{Leaves, abandon_leaves, alike_itself, alike_through, answers_leave, append_leaves, close_leaves, delete_leaves, delete_manifest_leaves, lease_leaves, mount_leaves, put_leaves, reading_leave, remove_repo_leaves, start_leaves, tenants_alike_themselves, tenants_stay, unseen_command}
use Rattle.store_model.proofs.Noninterference.Runs.{brought_same, consistent_opening, content_of, fits_both, fits_content, opening_alike, own_called, same_part}
use Rattle.store_model.proofs.Noninterference.SameFor.{Alike, Consistent}
use Rattle.store_model.proofs.Noninterference.StepConsistency.{Fits, Matches}
use Rattle.store_model.proofs.Noninterference.Texts.{alike_back, same_text_of}

-- ---- the catalog after a step

-- every catalog after a step has the property
abbrev Keeps : (Catalog → Type 0) → Catalog → Step → Type 0
Keeps P C (CommandCall command reply) = P C × Leaves P (outcome false C command)
Keeps P C (SweepCall swept) = (X : Catalog) → IsSweep C swept X → P X
Keeps P C (SweepPartCall swept) = (X : Catalog) → IsSweepPart C swept X → P X
Keeps P C (TakeCall r n g len reply) = P C × Leaves P (take C r n g len)
Keeps P C (PutBackCall h reply) = P C × Leaves P (put_back C h)
Keeps P C (FinishCall h d reply) = P (after_cancel C h) × Leaves P (finish C h d)

leaves_of : (P : Catalog → Type 0) (s : State) (step : Step) (C' : Catalog) → MayLeadTo s step C' → Keeps P s.catalog step → P C'
leaves_of P s (CommandCall command (Ok a)) C' h keeps = subst (λ x. Leaves P x) h keeps.1
leaves_of P s (CommandCall command (Err e)) C' h keeps = subst P (sym (⊎_elim (λ x. x.1) (λ x. x.1) h)) keeps.0
leaves_of P s (SweepCall swept) C' h keeps = keeps C' h
leaves_of P s (SweepPartCall swept) C' h keeps = keeps C' h
leaves_of P s (TakeCall r n g len (Ok hand)) C' h keeps = subst (λ x. Leaves P x) h keeps.1
leaves_of P s (TakeCall r n g len (Err e)) C' h keeps = subst P (sym h.1) keeps.0
leaves_of P s (PutBackCall hand (Ok n)) C' h keeps = subst (λ x. Leaves P x) h keeps.1
leaves_of P s (PutBackCall hand (Err e)) C' h keeps = subst P (sym h.1) keeps.0
leaves_of P s (FinishCall hand d (Ok n)) C' h keeps = subst (λ x. Leaves P x) h keeps.1
leaves_of P s (FinishCall hand d (Err e)) C' h keeps = subst P (sym h.1) keeps.0

-- the tenants stay as they are
same_tenants : (C : Catalog) (step : Step) → Keeps (λ X. X.tenants ≡ C.tenants) C step
same_tenants C (CommandCall command reply) = (refl, tenants_stay C command)
same_tenants C (SweepCall swept) = λ X sweep. ap (λ (Y : Catalog). Y.tenants) sweep.rest
same_tenants C (SweepPartCall swept) = λ X sweep. ap (λ (Y : Catalog). Y.tenants) sweep.1.rest
same_tenants C (TakeCall r n g len reply) = (refl, take_leaves (λ X. X.tenants ≡ C.tenants) C r n g len (λ t _. refl))
same_tenants C (PutBackCall h reply) = (refl, put_back_leaves (λ X. X.tenants ≡ C.tenants) C h (λ s _. refl))
same_tenants C (FinishCall h d reply) = (cancel_leaves (λ X. X.tenants ≡ C.tenants) C h refl (λ s _. refl), finish_leaves (λ X. X.tenants ≡ C.tenants) C h d (λ s _ _. refl))

pub tenants_left : (s : State) (step : Step) (C' : Catalog) → MayLeadTo s step C' → C'.tenants ≡ s.catalog.tenants
tenants_left s step C' leaves = leaves_of (λ X. X.tenants ≡ s.catalog.tenants) s step C' leaves (same_tenants s.catalog step)

-- each session is for a repository of its tenant
module _ (C : Catalog) (owned : Owned C) where
  owned_new : (r : Text) (t : ℕ) → tenant_of C.tenants r ≡ Some t → Owned (Commands.with_new_session C t r)
  owned_new r t known = owned_session C owned (t, next_number_of C t) (record { repo = r; chunks = CheckedIn [] }) known

  owned_command : (command : Command) → Leaves Owned (outcome false C command)
  owned_command (runs.Start r) = answers_leave Owned runs.Number _ (start_leaves Owned C r (owned_new r))
  owned_command (runs.Status r n) = reading_leave Owned runs.Number C (Commands.status C r n) owned
  owned_command (runs.Append r n g b) = answers_leave Owned runs.Number _ (append_leaves Owned C r n g b (λ t _.
      changed_leaves Owned C owned (t, n) (λ s. CheckedIn (with_chunk (at_home s.chunks) b)) (λ s found. owned_chunks C owned (t, n) s (CheckedIn (with_chunk (at_home s.chunks) b)) found)))
  owned_command (runs.Close r n d g b) = answers_leave Owned runs.Number _ (close_leaves Owned C r has_slot n d g b (λ t after _ _ _. owned_without C owned (t, n)))
  owned_command (runs.Abandon r n) = answers_leave Owned runs.Number _ (abandon_leaves Owned C r n (λ t _. owned_without C owned (t, n)))
  owned_command (runs.Mount r d from) = answers_leave Owned runs.Mounting _ (mount_leaves Owned C r d from (owned_new r) (λ t _ _. owned))
  owned_command (runs.Delete r d) = answers_leave Owned (λ _. runs.Done) _ (delete_leaves Owned C r d owned)
  owned_command (runs.PutManifest r b) = answers_leave Owned runs.Bytes _ (put_leaves Owned C r b owned (λ t _. owned))
  owned_command (runs.GetManifest r m) = reading_leave Owned runs.Bytes C (Commands.get_manifest C r m) owned
  owned_command (runs.DeleteManifest r m) = answers_leave Owned (λ _. runs.Done) _ (delete_manifest_leaves Owned C r m owned)
  owned_command (runs.RemoveRepo r) = answers_leave Owned (λ _. runs.Done) _ (remove_repo_leaves Owned C r (λ _ _. owned))
  owned_command (runs.Lease r d) = answers_leave Owned runs.Bytes _ (lease_leaves Owned C r false d (λ b _. owned))

  owned_step : (step : Step) → Keeps Owned C step
  owned_step (CommandCall command reply) = (owned, owned_command command)
  owned_step (SweepCall swept) = λ X sweep. subst (λ (Y : Catalog). Owned Y) (sym sweep.rest) owned
  owned_step (SweepPartCall swept) = λ X sweep. subst (λ (Y : Catalog). Owned Y) (sym sweep.1.rest) owned
  owned_step (TakeCall r n g len reply) = (owned, owned_take C owned r n g len)
  owned_step (PutBackCall h reply) = (owned, owned_put_back C owned h)
  owned_step (FinishCall h d reply) = (owned_cancel C owned h, owned_finish C owned h d)

consistent_step : (content : Text → Text) (C : Catalog) → Consistent content C → (step : Step) → Fits content (uploads_of_step C step) → Keeps (Consistent content) C step
consistent_step content C consistent (CommandCall command reply) fits = (consistent, (consistent_command content C consistent command fits).0)
consistent_step content C consistent (SweepCall swept) fits = λ X sweep. consistent_sweep content (λ _. true) C X swept consistent sweep
consistent_step content C consistent (SweepPartCall swept) fits = λ X sweep. consistent_sweep content sweep.0 C X swept consistent sweep.1
consistent_step content C consistent (TakeCall r n g len reply) fits = (consistent, consistent_take content C consistent r n g len)
consistent_step content C consistent (PutBackCall h reply) fits = (consistent, consistent_put_back content C consistent h)
consistent_step content C consistent (FinishCall h d reply) fits = (consistent_cancel content C consistent h, consistent_finish content C consistent h d fits)

-- another tenant's step, or a sweep, changes nothing for the tenant
unseen_step : (t : ℕ) (C : Catalog) → Owned C → (step : Step) → is_step_of C.tenants t step ≡ false → Keeps (λ X. Alike t X C) C step
unseen_step t C owned (CommandCall command reply) other = (alike_itself t C, unseen_command C t command other)
unseen_step t C owned (SweepCall swept) other = λ X sweep. unseen_sweep t (λ _. true) C X swept sweep
unseen_step t C owned (SweepPartCall swept) other = λ X sweep. unseen_sweep t sweep.0 C X swept sweep.1
unseen_step t C owned (TakeCall r n g len reply) other = (alike_itself t C, unseen_take t C r n g len other)
unseen_step t C owned (PutBackCall h reply) other = (alike_itself t C, unseen_put_back t C h other)
unseen_step t C owned (FinishCall h d reply) other = (unseen_cancel t C h other, unseen_finish t C h other owned d)

-- ---- a tenant's own step

module _ (content : Text → Text) (t : ℕ) where
  -- a request leads to the same step in the isolated history, and to equivalent catalogs
  record Same (D mid : Catalog) (step : Step) (request : StepRequest) : Type 0 where
    same : isolated_step D request ≡ step
    alike : Alike t mid (catalog_after_request D request)
    consistent : Consistent content (catalog_after_request D request)

  -- the same for an outcome in the isolated history, by the reply and catalog with other tenants present
  record Agrees {A : Type 0} (mid : Catalog) (reply : Result A Refusal) (refused : Catalog) (y : Outcome A) : Type 0 where
    replies : reply_of_outcome y ≡ reply
    alike : Alike t mid (catalog_after_or refused y)
    consistent : Consistent content (catalog_after_or refused y)

  accepted : {A : Type 0} (mid refused : Catalog) (a : A) (y : Outcome A) → Matches t (Ok (a, mid)) y → Leaves (Consistent content) y → Agrees mid (Ok a) refused y
  accepted mid refused a (Ok y) m s = record { replies = ap (λ x. Ok x) (sym m.0); alike = m.1; consistent = s }
  accepted mid refused a (Err f) m s = absurd m

  denied : {A : Type 0} (mid refused : Catalog) (e : Refusal) (y : Outcome A) → IsOwnRefusal e → Matches t (Err e) y → Alike t mid refused → Consistent content refused → Agrees mid (Err e) refused y
  denied mid refused e (Ok y) free m a s = absurd (free.1 m)
  denied mid refused e (Err f) free m a s = record { replies = ap (λ x. Err x) (sym m); alike = a; consistent = s }

  module _ (s : State) (D mid : Catalog) (alike : Alike t s.catalog D) (c : Consistent content s.catalog) (d : Consistent content D) where
    unchanged : mid ≡ s.catalog → Alike t mid D
    unchanged is = subst (λ X. Alike t X D) (sym is) alike

    by_case : (command : Command) (r : Result Answer Refusal) → IsCommandCase s.catalog command r mid → IsUnaffectedByOthers (CommandEvent command r) → is_repo_of s.catalog t (repo_of command) ≡ true → Fits content (uploads_of_command s.catalog command) →
        Same D mid (CommandCall command r) (Perform command)
    by_case command r case free own fits =
        let k = own_called content t s.catalog D mid command r case free own alike c d fits (subst (λ x. Fits content x) (brought_same t s.catalog D alike command own) fits) in
        record { same = ap (λ x. CommandCall command x) (sym k.told); alike = k.alike; consistent = k.consistent }

    own_performed : (command : Command) (r : Result Answer Refusal) → MayLeadTo s (CommandCall command r) mid → IsOwnReply s (CommandCall command r) → is_repo_of s.catalog t (repo_of command) ≡ true → Fits content (uploads_of_command s.catalog command) →
        Same D mid (CommandCall command r) (Perform command)
    own_performed command (Ok a) leaves free own fits = by_case command (Ok a) leaves tt own fits
    own_performed command (Err e) leaves free own fits = by_case command (Err e) (⊎_elim (λ x. x) (λ x. absurd (free.1 x.0)) leaves) free.0 own fits

    module _ (r : Text) (n : ℕ) (g : Option ByteRange) (len : ℕ) where
      took_same : (x : Result HandRecord Refusal) → Agrees mid x D (take D r n g len) → Same D mid (TakeCall r n g len x) (Take r n g len)
      took_same x k = record { same = ap (λ y. TakeCall r n g len y) k.replies; alike = k.alike; consistent = k.consistent }

      own_took : (x : Result HandRecord Refusal) → MayLeadTo s (TakeCall r n g len x) mid → IsOwnReply s (TakeCall r n g len x) → is_repo_of s.catalog t r ≡ true → Same D mid (TakeCall r n g len x) (Take r n g len)
      own_took (Ok h) leaves free own = took_same (Ok h) (
          accepted mid D h (take D r n g len) (subst (λ x. Matches t x (take D r n g len)) leaves (own_take content t s.catalog D alike c d r n g len own)) (consistent_take content D d r n g len))
      own_took (Err e) leaves free own = took_same (Err e) (
          denied mid D e (take D r n g len) free.0
          (subst (λ x. Matches t x (take D r n g len)) (⊎_elim (λ x. x) (λ x. absurd (free.1 x)) leaves.0) (own_take content t s.catalog D alike c d r n g len own)) (unchanged leaves.1) d)

    module _ (h : HandRecord) (own : (h.key.0 == t) ≡ true) where
      own_returned : (x : Result ℕ Refusal) → MayLeadTo s (PutBackCall h x) mid → IsOwnReply s (PutBackCall h x) → Same D mid (PutBackCall h x) (Return h)
      own_returned (Ok n) leaves free =
          let k = accepted mid D n (put_back D h) (subst (λ x. Matches t x (put_back D h)) leaves (own_put_back content t s.catalog D alike c d h own)) (consistent_put_back content D d h) in
          record { same = ap (λ x. PutBackCall h x) k.replies; alike = k.alike; consistent = k.consistent }
      own_returned (Err e) leaves free =
          let k = denied mid D e (put_back D h) free (subst (λ x. Matches t x (put_back D h)) leaves.0 (own_put_back content t s.catalog D alike c d h own)) (unchanged leaves.1) d in
          record { same = ap (λ x. PutBackCall h x) k.replies; alike = k.alike; consistent = k.consistent }

      module _ (digest : Text) (fits : Fits content (uploaded_pair s.catalog.contents digest (Ok (hand_content h)))) where
        own_finished : (x : Result ℕ Refusal) → MayLeadTo s (FinishCall h digest x) mid → IsOwnReply s (FinishCall h digest x) → Same D mid (FinishCall h digest x) (Finish h digest)
        own_finished (Ok n) leaves free =
            let k = accepted mid (after_cancel D h) n (finish (with_slot D) h digest)
            (subst (λ x. Matches t x (finish (with_slot D) h digest)) leaves (own_finish content t s.catalog D alike c d h own digest fits)) (consistent_finish content (with_slot D) d h digest (subst (λ r. Fits content (uploaded_pair r digest (Ok (hand_content h)))) alike.contents fits)) in
            record { same = ap (λ x. FinishCall h digest x) k.replies; alike = k.alike; consistent = k.consistent }
        own_finished (Err e) leaves free =
            let k = denied mid (after_cancel D h) e (finish (with_slot D) h digest) free
            (subst (λ x. Matches t x (finish (with_slot D) h digest)) (leaves.0 free.0) (own_finish content t s.catalog D alike c d h own digest fits))
            (subst (λ X. Alike t X (after_cancel D h)) (sym leaves.1) (own_cancel content t s.catalog D alike c d h own)) (consistent_cancel content D d h) in
            record { same = ap (λ x. FinishCall h digest x) k.replies; alike = k.alike; consistent = k.consistent }

-- ---- a history

-- a tenant's view after a history, by its own steps from another catalog
pub record Follows (content : Text → Text) (t : ℕ) (C' D : Catalog) (own : List Step) : Type 0 where
  pub replies : isolated_steps D (requests_of own) ≡ own
  pub alike : Alike t C' (catalog_after_requests D (requests_of own))
  pub consistent : Consistent content C'
  pub consistent_alone : Consistent content (catalog_after_requests D (requests_of own))

module _ (content : Text → Text) (tenants : List Tenant) (t : ℕ) where
  -- the rest of the tenant's steps, from any catalogs that are equivalent for it
  abbrev Onward : Catalog → Catalog → List Step → Type 0
  Onward mid C' own = (D : Catalog) → Alike t mid D → Consistent content D → Follows content t C' D own

  and_then : (D mid C' : Catalog) (step : Step) (request : StepRequest) (own : List Step) → requests_of (step ∷ own) ≡ request ∷ requests_of own → Same content t D mid step request → Onward mid C' own → Follows content t C' D (step ∷ own)
  and_then D mid C' step request own asks k rest =
      let f = rest (catalog_after_request D request) k.alike k.consistent in
      record {
        replies = ap (isolated_steps D) asks ∙ (λ i. k.same i ∷ f.replies i);
        alike = subst (λ qs. Alike t C' (catalog_after_requests D qs)) (sym asks) f.alike;
        consistent = f.consistent;
        consistent_alone = subst (λ qs. Consistent content (catalog_after_requests D qs)) (sym asks) f.consistent_alone;
      }

  module _ (s : State) (D mid C' : Catalog) (alike : Alike t s.catalog D) (c : Consistent content s.catalog) (d : Consistent content D) (own : List Step) (rest : Onward mid C' own) where
    and_own : (step : Step) → MayLeadTo s step mid → is_step_of s.catalog.tenants t step ≡ true → IsOwnReply s step → Fits content (uploads_of_step s.catalog step) → Follows content t C' D (step ∷ own)
    and_own (CommandCall command r) leaves is free fits = and_then D mid C' (CommandCall command r) (Perform command) own refl (own_performed content t s D mid alike c d command r leaves free is fits) rest
    and_own (SweepCall swept) leaves is free fits = absurd (false≢true is)
    and_own (SweepPartCall swept) leaves is free fits = absurd (false≢true is)
    and_own (TakeCall r n g len x) leaves is free fits = and_then D mid C' (TakeCall r n g len x) (Take r n g len) own refl (own_took content t s D mid alike c d r n g len x leaves free is) rest
    and_own (PutBackCall h x) leaves is free fits = and_then D mid C' (PutBackCall h x) (Return h) own refl (own_returned content t s D mid alike c d h is x leaves free) rest
    and_own (FinishCall h digest x) leaves is free fits = and_then D mid C' (FinishCall h digest x) (Finish h digest) own refl (own_finished content t s D mid alike c d h is digest fits x leaves free) rest

    and_any : Owned s.catalog → s.catalog.tenants ≡ tenants → (step : Step) → MayLeadTo s step mid → (is_step_of tenants t step ≡ true → IsOwnReply s step) → Fits content (uploads_of_step s.catalog step) →
        (b : Bool) → is_step_of tenants t step ≡ b → Follows content t C' D (cond b (step ∷ own) own)
    and_any owned are step leaves free fits true is = and_own step leaves (ap (λ ts. is_step_of ts t step) are ∙ is) (free is) fits
    and_any owned are step leaves free fits false is =
        rest D (alike_through t mid s.catalog D (leaves_of (λ X. Alike t X s.catalog) s step mid leaves (unseen_step t s.catalog owned step (ap (λ ts. is_step_of ts t step) are ∙ is))) alike) d

  pub follows : (steps : List Step) (s s' : State) (D : Catalog) → s.catalog.tenants ≡ tenants → (run : AreSteps s steps s') → Fits content (uploads_of_history s steps s' run) → Alike t s.catalog D → Consistent content s.catalog → Owned s.catalog →
      Consistent content D → AreOwnReplies tenants t s steps s' run → Follows content t s'.catalog D (steps_of tenants t steps)
  follows [] s s' D are run fits alike c owned d free = record {
    replies = refl;
    alike = subst (λ (X : State). Alike t X.catalog D) (sym run) alike;
    consistent = subst (λ (X : State). Consistent content X.catalog) (sym run) c;
    consistent_alone = d;
  }
  follows (step ∷ steps) s s' D are run fits alike c owned d free =
      let mid : State = run.0 in
      let leaves : MayLeadTo s step mid.catalog = run.1.leaves in
      let both = fits_both content (uploads_of_step s.catalog step) (uploads_of_history mid steps s' run.2) fits in
      let next : Consistent content mid.catalog = leaves_of (Consistent content) s step mid.catalog leaves (consistent_step content s.catalog c step both.0) in
      let there : Owned mid.catalog = leaves_of Owned s step mid.catalog leaves (owned_step s.catalog owned step) in
      let same : mid.catalog.tenants ≡ s.catalog.tenants = tenants_left s step mid.catalog leaves in
      and_any s D mid.catalog s'.catalog alike c d (steps_of tenants t steps) (λ E a e. follows steps mid s' E (same ∙ are) run.2 both.1 a next there e free.1)
      owned are step leaves free.0 both.0 (is_step_of tenants t step) refl

-- ---- the theorems

owned_opening : (tenants : List Tenant) (slots : ℕ) (contents : ContentRules) → Owned (opening tenants slots contents)
owned_opening tenants slots contents k s h = nothing (get-empty session_number_cmp k) h

module _ (tenants : List Tenant) (slots : ℕ) (contents : ContentRules) (steps : List Step) (s : State) (fair : IsCollisionFreeHistory tenants slots contents steps s) where
  abbrev start : Catalog
  start = opening tenants slots contents

  -- the content that was uploaded with a digest
  abbrev content : Text → Text
  content = content_of (uploads_of_history (initial_state start) steps s fair.run)

  followed : (t : ℕ) (others : List Tenant) → AreTenantsAlike t tenants others → IsUnaffectedHistory tenants slots contents t steps s fair → Follows content t s.catalog (opening others slots contents) (steps_of tenants t steps)
  followed t others same free =
      follows content tenants t steps (initial_state start) s (opening others slots contents) refl fair.run (fits_content (uploads_of_history (initial_state start) steps s fair.run) fair.no_collision)
      (opening_alike t tenants others slots contents same) (consistent_opening content tenants slots contents) (owned_opening tenants slots contents) (consistent_opening content others slots contents) free

pub alone_in_histories : TenantsAreIsolatedInHistories
alone_in_histories tenants others slots contents t steps s same fair free =
    let h = followed tenants slots contents steps s fair t others same free in
    record { replies = h.replies; tenant_view = same_part (content tenants slots contents steps s fair) t s.catalog (catalog_after_requests (opening others slots contents) (requests_of (steps_of tenants t steps))) h.alike h.consistent h.consistent_alone }

pub same_text_after : HistoriesLeaveTheSameText
same_text_after tenants slots contents one two s s' fair free fair' free' same =
    let itself : (t : ℕ) → AreTenantsAlike t tenants tenants = λ t. tenants_alike_themselves t tenants in
    let a : (t : ℕ) → _ = λ t. followed tenants slots contents one s fair t tenants (itself t) (free t) in
    let b : (t : ℕ) → _ = λ t. followed tenants slots contents two s' fair' t tenants (itself t) (free' t) in
    let alone_a : (t : ℕ) → Catalog = λ t. catalog_after_requests (opening tenants slots contents) (requests_of (steps_of tenants t one)) in
    let alone_b : (t : ℕ) → Catalog = λ t. catalog_after_requests (opening tenants slots contents) (requests_of (steps_of tenants t two)) in
    let alone_same : (t : ℕ) → alone_a t ≡ alone_b t = λ t. ap (catalog_after_requests (opening tenants slots contents)) (same t) in
    let alike : (t : ℕ) → Alike t s.catalog s'.catalog = λ t. alike_through t s.catalog (alone_a t) s'.catalog (a t).alike (subst (λ X. Alike t X s'.catalog) (sym (alone_same t)) (alike_back t s'.catalog (alone_b t) (b t).alike)) in
    let blobs : (t : ℕ) → blobs_of s.catalog t ≡ blobs_of s'.catalog t = λ t.
    ap (λ p. p.blobs) (alone_in_histories tenants tenants slots contents t one s (itself t) fair (free t)).tenant_view
    ∙ ap (λ X. blobs_of X t) (alone_same t)
    ∙ sym (ap (λ p. p.blobs) (alone_in_histories tenants tenants slots contents t two s' (itself t) fair' (free' t)).tenant_view) in
    same_text_of (content tenants slots contents one s fair) (content tenants slots contents two s' fair') s.catalog s'.catalog (a 0).consistent (b 0).consistent alike blobs
