-- A history's changes, applied to a durable state, keep its agreement with the catalog: the induction over the steps.
use Rattle.std.proofs.Common.{◌≡◌, ◌≢◌, ℕ, Bool, true, false, not, List, [], ◌∷◌, length, Option, Some, None, Result, Ok, Err, refl, sym, ap, ◌∙◌, subst, ⊎_elim}
use Rattle.std.specs.Prelude.{if◌then◌else◌}
use Rattle.std.proofs.lemmas.Bool.{and_right}
use Rattle.std.specs.Option.{option_map_or}
use Rattle.std.specs.List.{AllByRecursion, cons_option, sum_by}
use Rattle.std.specs.FinMap.{contains_key, empty, get, get-empty, insert}
use Rattle.blob_digest.specs.declared.range.ByteRange.{ByteRange}
use Rattle.blob_digest.specs.declared.refusal.Refusal.{Refusal}
use Rattle.blob_digest.specs.declared.refusal.Refusal.TheVariants.{DigestInvalid}
use Rattle.blob_digest.specs.Digests.{sha256_text}
use Rattle.spec_lib.specs.Outcomes.{refuse}
use Rattle.blob_digest.proofs.KeyOrders.{number_cmp_total, exact_number}
use Rattle.spec_lib.specs.Sets as set
use Rattle.spec_lib.specs.Texts.{Text}
use Rattle.spec_lib.proofs.Maps.{get-insert_at, get-insert_other}
use Rattle.spec_lib.proofs.Options.{no_member, some_same}
use Rattle.spec_lib.proofs.Outcomes.{bound_ok, ok_pair}
use Rattle.store_model.specs.Catalog.{Catalog, CheckedIn, CheckedOutWith, Chunks, HandRecord, Resident, Session, SessionNumber, Tenant, link_cmp, opening, received_length, session_number_cmp, tenant_of, ContentRules}
use Rattle.store_model.specs.Commands.{check_share, after_cancel, finish, has_slot, is_digest_accepted, put_back, take, was_leased, with_stored_blob}
use Rattle.store_model.specs.Durable.{Agrees, AgreesOnChunks, AgreesOnSession, AreReturnedAsTaken, Change, DurableState, IsReturnedAsTaken, LogsAgree, LogsExtend, ManifestPut, SessionSealed, TakenSessions, after_change, after_changes, after_seal, change_of, changes_of, chunk_change, filled_chunk, initial_durable, taken_after_step, taken_after_steps}
use Rattle.store_model.specs.Histories.{AreSteps, CommandCall, FinishCall, MayLeadTo, PutBackCall, State, Step, SweepCall, SweepPartCall, TakeCall, initial_state}
use Rattle.store_model.specs.Invariant.{WellFormed}
use Rattle.store_model.specs.Sessions.{chunks_of, hand_content, put_back_outcome_in, session_of_hand, with_chunk, with_chunks, with_old_chunks}
use Rattle.store_model.specs.Sweep.{IsAfterSweep, IsSweepOf, is_orphan}
use Rattle.store_model.specs.declared.swept.Swept.{Swept}
use Rattle.store_model.proofs.Commands.Accepted.{left_by}
use Rattle.store_model.proofs.Commands.ByHand.{taken_hand, taken_leaves, taken_received}
use Rattle.store_model.proofs.Commands.Hands.{TookIn, taken_found, took}
use Rattle.store_model.proofs.Durable.Agreement.{Agrees-receive as comes_home, Agrees-same_session, Agrees-seal, after_record, durable_session}
use Rattle.store_model.proofs.Durable.Commands.{command_agrees}
use Rattle.store_model.proofs.Invariant.SessionTenants.{session_owner}
use Rattle.store_model.proofs.Noninterference.Consistency.{no_orphan}

-- ---- hands

module _ (taken : TakenSessions) (D : DurableState) (C X : Catalog) (a : Agrees taken D C) where
  -- a session that is checked out keeps its durable chunks
  takes : (r : Text) (n len : ℕ) (g : Option ByteRange) (h : HandRecord) → take C r n g len ≡ Ok (h, X) → Agrees (insert taken h.key (h.repo, h.chunks)) D X
  takes r n len g h is =
      subst (λ (y : HandRecord). Agrees (insert taken y.key (y.repo, y.chunks)) D X) (taken_hand C X r n len g h is)
      (subst (λ (Y : Catalog). Agrees (insert taken key was) D Y) (taken_leaves C X r n len g h is)
      (Agrees-same_session taken D C a key (record p.checked.s { chunks = CheckedOutWith (received_length p.checked.s) len }) (insert taken key was)
      (λ q other. get-insert_other number_cmp_total exact_number taken key was q other) (a.uploaded_to key p.checked.s p.checked.found)
      (p.checked.chunks, has.1 ∙ ap (λ cs. Some (record { repo = p.checked.s.repo; chunks = CheckedIn cs })) (sym same), subst (λ cs. AllByRecursion (λ x. x ≢ []) cs) (sym same) has.2, (taken_received C X r n len g h is, get-insert_at number_cmp_total exact_number taken key was))))
    where
      p : TookIn C X r n len g h is
      p = took C X r n len g h is

      key : SessionNumber
      key = (p.t, n)

      was : Text × List Text
      was = (p.checked.s.repo, p.checked.chunks)

      has : AgreesOnSession (get taken key) (get D.sessions key) (Some p.checked.s)
      has = durable_session taken D C a key p.checked.s p.checked.found

      same : p.checked.chunks ≡ has.0
      same = subst (λ (y : Chunks). AgreesOnChunks (get taken key) p.checked.s.repo y has.0) p.checked.home has.3

module _ (taken : TakenSessions) (D : DurableState) (C : Catalog) (a : Agrees taken D C) (h : HandRecord) (returned : get taken h.key ≡ Some (h.repo, h.chunks)) where
  -- the session has the hand's repository, and its durable chunks are the hand's
  as_taken : (s : Session) → session_of_hand (get C.sessions h.key) h ≡ Ok s → (has : AgreesOnSession (get taken h.key) (get D.sessions h.key) (Some s)) → (s.repo ≡ h.repo) × (has.0 ≡ h.chunks)
  as_taken s here has =
      let out : AgreesOnChunks (get taken h.key) s.repo (CheckedOutWith (sum_by length h.chunks) h.reserved) has.0 = subst (λ (y : Chunks). AgreesOnChunks (get taken h.key) s.repo y has.0) (taken_found (get C.sessions h.key) h s here).1 has.3 in
      let same : (s.repo, has.0) ≡ (h.repo, h.chunks) = some_same (sym out.1 ∙ returned) in
      (ap (λ p. p.0) same, ap (λ p. p.1) same)

  -- the durable chunks are the hand's
  pub durable_hand : (s : Session) → session_of_hand (get C.sessions h.key) h ≡ Ok s →
      (get C.sessions h.key ≡ Some s) × (get D.sessions h.key ≡ Some (record { repo = s.repo; chunks = CheckedIn h.chunks })) × AllByRecursion (λ c. c ≢ []) h.chunks
  durable_hand s here =
      let f = taken_found (get C.sessions h.key) h s here in
      let has = durable_session taken D C a h.key s f.0 in
      let same : has.0 ≡ h.chunks = (as_taken s here has).1 in
      (f.0, has.1 ∙ ap (λ cs. Some (record { repo = s.repo; chunks = CheckedIn cs })) same, subst (λ cs. AllByRecursion (λ c. c ≢ []) cs) same has.2)

  -- the session has the hand's repository, which belongs to the hand's tenant
  pub returned_owner : WellFormed C → (s : Session) → session_of_hand (get C.sessions h.key) h ≡ Ok s → (s.repo ≡ h.repo) × (tenant_of C.tenants h.repo ≡ Some h.key.0)
  returned_owner lawful s here =
      let found = (taken_found (get C.sessions h.key) h s here).0 in
      let same = (as_taken s here (durable_session taken D C a h.key s found)).0 in
      (same, ap (tenant_of C.tenants) (sym same) ∙ session_owner C lawful h.key s found)

  pub puts_back : (n : ℕ) (X : Catalog) → put_back C h ≡ Ok (n, X) → Agrees taken (after_record D (chunk_change h.key (filled_chunk h))) X
  puts_back n X is =
      let b = bound_ok (put_back_outcome_in C.sessions h) _ (n, X) is in
      let c = bound_ok (session_of_hand (get C.sessions h.key) h) _ b.0 b.1 in
      let home : with_chunks C.sessions h.key c.0 (CheckedIn (chunks_of h)) ≡ b.0.1 = (ok_pair c.2).1 in
      let has = durable_hand c.0 c.1 in
      subst (λ (Y : Catalog). Agrees taken (after_record D (chunk_change h.key (filled_chunk h))) Y) ((λ i. record C { sessions = home i }) ∙ left_by b.2)
      (subst (λ cs. Agrees taken (after_record D (chunk_change h.key (filled_chunk h))) (record C { sessions = with_chunks C.sessions h.key c.0 (CheckedIn cs) })) (all_of h.last)
      (comes_home taken D C a h.key c.0 h.chunks (filled_chunk h) has.0 has.1 has.2))
    where
      all_of : (last : Option Text) → with_chunk h.chunks (filled_chunk (record h { last = last })) ≡ chunks_of (record h { last = last })
      all_of None = refl
      all_of (Some b) = refl

  finishes : (d : Text) (n : ℕ) (X : Catalog) → finish C h d ≡ Ok (n, X) → Agrees taken (after_change D (SessionSealed h.key d (filled_chunk h))) X
  finishes d n X is =
      let b = bound_ok (session_of_hand (get C.sessions h.key) h) _ (n, X) is in
      let c = bound_ok (refuse (not (is_digest_accepted C d (hand_content h))) DigestInvalid) _ (n, X) b.2 in
      let share = bound_ok (check_share C h.key.0 d) _ (n, X) c.2 in
      let e = bound_ok (has_slot C d) _ (n, X) share.2 in
      let left : with_stored_blob C h.key.0 b.0.repo h.key.1 d (hand_content h) ≡ X = left_by e.2 in
      let has = durable_hand b.0 b.1 in
      let blob : Resident = record { bytes = hand_content h; condemned = false; lent = was_leased (get C.residents d) } in
      subst (λ (Y : Catalog). Agrees taken (after_change D (SessionSealed h.key d (filled_chunk h))) Y) left
      (Agrees-seal taken D C a h.key b.0 h.chunks d (filled_chunk h) blob has.0 has.1 refl)

  -- a failed finish checks the session in again
  gives_up : Agrees taken D (after_cancel C h)
  gives_up = by (session_of_hand (get C.sessions h.key) h) refl
    where
      by : (o : Result Session Refusal) → session_of_hand (get C.sessions h.key) h ≡ o → Agrees taken D (record C { sessions = with_old_chunks C.sessions h o })
      by (Ok s) here =
          let has = durable_hand s here in
          Agrees-same_session taken D C a h.key (record s { chunks = CheckedIn h.chunks }) taken (λ q other. refl) (a.uploaded_to h.key s has.0) (h.chunks, has.1, has.2, refl)
      by (Err e) here = a

-- ---- sweeps

pub sweeps : (reached : Text → Bool) (taken : TakenSessions) (D : DurableState) (C X : Catalog) (swept : Swept) → Agrees taken D C → IsSweepOf reached C swept X → Agrees taken D X
sweeps reached taken D C X swept a sweep = subst (λ (Y : Catalog). Agrees taken D Y) (sym sweep.rest) (record {
  tenants = a.tenants;
  repos = a.repos;
  links = a.links;
  manifests = a.manifests;
  next = a.next;
  sessions = a.sessions;
  contents = λ l h. let has = a.contents l h in
      (has.0, subst (λ o. IsAfterSweep o has.0 (get X.residents l.1)) (and_right (reached l.1) (is_orphan C l.1) (no_orphan C l.0 l.1 (a.linked_in l h) h)) (sweep.orphans l.1 has.0 has.1), has.2);
  linked_in = a.linked_in;
  uploaded_to = a.uploaded_to;
})

-- ---- steps

pub step_agrees : (taken : TakenSessions) (D : DurableState) (s : State) (step : Step) (X : Catalog) → Agrees taken D s.catalog → MayLeadTo s step X → IsReturnedAsTaken taken step →
    Agrees (taken_after_step taken step) (after_record D (change_of s.catalog.tenants step)) X
step_agrees taken D s (CommandCall command (Ok x)) X a leaves returned = command_agrees taken D s.catalog a command x X leaves
step_agrees taken D s (CommandCall command (Err e)) X a leaves returned = subst (λ (Y : Catalog). Agrees taken D Y) (sym (⊎_elim (λ y. y.1) (λ y. y.1) leaves)) a
step_agrees taken D s (SweepCall swept) X a leaves returned = sweeps (λ _. true) taken D s.catalog X swept a leaves
step_agrees taken D s (SweepPartCall swept) X a leaves returned = sweeps leaves.0 taken D s.catalog X swept a leaves.1
step_agrees taken D s (TakeCall r n g len (Ok h)) X a leaves returned = takes taken D s.catalog X a r n len g h leaves
step_agrees taken D s (TakeCall r n g len (Err e)) X a leaves returned = subst (λ (Y : Catalog). Agrees taken D Y) (sym leaves.1) a
step_agrees taken D s (PutBackCall h (Ok n)) X a leaves returned = puts_back taken D s.catalog a h returned n X leaves
step_agrees taken D s (PutBackCall h (Err e)) X a leaves returned = subst (λ (Y : Catalog). Agrees taken D Y) (sym leaves.1) a
step_agrees taken D s (FinishCall h d (Ok n)) X a leaves returned = finishes taken D s.catalog a h returned d n X leaves
step_agrees taken D s (FinishCall h d (Err e)) X a leaves returned = subst (λ (Y : Catalog). Agrees taken D Y) (sym leaves.1) (gives_up taken D s.catalog a h returned)

-- ---- histories

-- a change keeps the tenants
after_change_tenants : (D : DurableState) (c : Change) → (after_change D c).tenants ≡ D.tenants
after_change_tenants D (SessionSealed key digest last) = by (get D.sessions key)
  where
    by : (o : Option Session) → (option_map_or (after_seal D key digest last) o D).tenants ≡ D.tenants
    by None = refl
    by (Some s) = refl
after_change_tenants D (ManifestPut repo bytes) = by (contains_key D.manifests (repo, sha256_text bytes))
  where
    by : (b : Bool) → (if b then D else record D { repos = set.insert D.repos repo; manifests = insert D.manifests (repo, sha256_text bytes) bytes }).tenants ≡ D.tenants
    by true = refl
    by false = refl
after_change_tenants D c = refl

pub after_record_tenants : (D : DurableState) (o : Option Change) → (after_record D o).tenants ≡ D.tenants
after_record_tenants D None = refl
after_record_tenants D (Some c) = after_change_tenants D c

-- the change of the first step is applied before those of the rest
pub after_changes_first : (D : DurableState) (step : Step) (steps : List Step) (tenants : List Tenant) → after_changes (after_record D (change_of tenants step)) (changes_of tenants steps) ≡ after_changes D (changes_of tenants (step ∷ steps))
after_changes_first D step steps tenants = by (change_of tenants step)
  where
    by : (o : Option Change) → after_changes (after_record D o) (changes_of tenants steps) ≡ after_changes D (cons_option o (changes_of tenants steps))
    by None = refl
    by (Some c) = refl

steps_agree : (tenants : List Tenant) (steps : List Step) (taken : TakenSessions) (D : DurableState) (s s' : State) → Agrees taken D s.catalog → D.tenants ≡ tenants → AreSteps s steps s' → AreReturnedAsTaken taken steps →
    Agrees (taken_after_steps taken steps) (after_changes D (changes_of tenants steps)) s'.catalog
steps_agree tenants [] taken D s s' a known run returned = subst (λ (x : State). Agrees taken D x.catalog) (sym run) a
steps_agree tenants (step ∷ steps) taken D s s' a known run returned =
    let mid : State = run.0 in
    let moved : Agrees (taken_after_step taken step) (after_record D (change_of tenants step)) mid.catalog =
    subst (λ ts. Agrees (taken_after_step taken step) (after_record D (change_of ts step)) mid.catalog) (sym a.tenants ∙ known) (step_agrees taken D s step mid.catalog a run.1.leaves returned.0) in
    subst (λ E. Agrees (taken_after_steps taken (step ∷ steps)) E s'.catalog) (after_changes_first D step steps tenants)
    (steps_agree tenants steps (taken_after_step taken step) (after_record D (change_of tenants step)) mid s' moved (after_record_tenants D (change_of tenants step) ∙ known) run.2 returned.1)

-- the initial durable state agrees with the catalog of a new store
pub new_stores_agree : (tenants : List Tenant) (slots : ℕ) (contents : ContentRules) → Agrees empty (initial_durable tenants) (opening tenants slots contents)
new_stores_agree tenants slots contents = record {
  tenants = refl;
  repos = refl;
  links = refl;
  manifests = refl;
  next = refl;
  sessions = λ key. subst (λ o. AgreesOnSession (get {R = session_number_cmp} empty key) (get {R = session_number_cmp} empty key) o) (sym (get-empty session_number_cmp key)) (get-empty session_number_cmp key);
  contents = λ l h. no_member (get-empty link_cmp l) h;
  linked_in = λ l h. no_member (get-empty link_cmp l) h;
  uploaded_to = λ key s h. absurd (let none : None ≡ Some s = sym (get-empty session_number_cmp key) ∙ h in cc);
}

pub logs_extend : LogsExtend
logs_extend taken D s steps s' a run returned = steps_agree D.tenants steps taken D s s' a refl run returned

pub logs_agree : LogsAgree
logs_agree tenants slots contents steps s run returned = logs_extend empty (initial_durable tenants) (initial_state (opening tenants slots contents)) steps s (new_stores_agree tenants slots contents) run returned
