-- Lanes whose steps are paired return every hand as it was taken: no two of them hold hands of one session.
use Rattle.std.proofs.Common.{◌≡◌, ◌≢◌, ℕ, Bool, true, false, List, [], ◌∷◌, length, Option, Some, None, Ok, Err, refl, sym, ap, ◌∙◌, subst, inl, inr, ⊎_elim}
use Rattle.std.specs.Prelude.{◌==◌, ◌⊎◌, if◌then◌else◌}
use Rattle.std.specs.Option.{option_map_or}
use Rattle.std.specs.List.{AllByRecursion}
use Rattle.std.specs.FinMap.{empty, get, insert, remove}
use Rattle.std.proofs.lemmas.Bool.{eq-eqb, eqb-false, eqb-true, false≢true, ne_eqb}
use Rattle.blob_digest.specs.declared.range.ByteRange.{ByteRange}
use Rattle.blob_digest.proofs.KeyOrders.{number_cmp_total, exact_number}
use Rattle.spec_lib.specs.Texts.{Text}
use Rattle.spec_lib.proofs.Maps.{get-insert_at, get-insert_other, get-remove_other}
use Rattle.spec_lib.proofs.Options.{nothing, some_none, some_same}
use Rattle.store_model.specs.Catalog.{Catalog, CheckedIn, CheckedOutWith, HandRecord, Session, SessionNumber, next_number_of, received_length}
use Rattle.store_model.specs.Commands
use Rattle.store_model.specs.Commands.{Outcome, after_append_in, after_cancel, check_quota, chunk_length_check, finish, has_slot, not_busy, put_back, session, take}
use Rattle.store_model.specs.Durable.{Agrees, AreReturnedAsTaken, DurableState, IsReturnedAsTaken, TakenSessions, change_of, taken_after_step}
use Rattle.store_model.specs.Histories.{AreSteps, CommandCall, FinishCall, MayLeadTo, PutBackCall, State, Step, SweepCall, SweepPartCall, TakeCall, initial_state}
use Rattle.store_model.specs.Invariant.{Sound, WellFormed}
use Rattle.store_model.specs.Lanes.{IsHeldHand, IsPaired, LaneSteps, LanesReturnHands, all_steps, steps_by}
use Rattle.store_model.specs.Recovery.{IsWellFormedStep}
use Rattle.store_model.specs.Runs as runs
use Rattle.store_model.specs.Runs.{Command, outcome}
use Rattle.store_model.specs.Sessions.{Sessions, are_checked_in, at_home, with_chunk, with_chunks}
use Rattle.store_model.proofs.Commands.Accepted.{session_found}
use Rattle.store_model.proofs.Commands.ByHand.{taken_hand, taken_leaves}
use Rattle.store_model.proofs.Commands.Hands.{TookIn, checked_home, home_chunks, took}
use Rattle.store_model.proofs.Durable.Agreement.{after_record}
use Rattle.store_model.proofs.Durable.Histories.{step_agrees}
use Rattle.store_model.proofs.Durable.Commands.{left_ok}
use Rattle.store_model.proofs.Durable.Crashes.{step_sound}
use Rattle.store_model.proofs.Invariant.Sessions.{fresh}
use Rattle.store_model.proofs.Noninterference.Hands.{cancel_leaves, finish_leaves, put_back_leaves}
use Rattle.store_model.proofs.Noninterference.LocalRespect.{Leaves, answers_leave, close_leaves, delete_leaves, delete_manifest_leaves, lease_leaves, mount_leaves, of_tenant, past, put_leaves, reading_leave, remove_repo_leaves, start_leaves}

-- ---- a checked-out session

abbrev IsOut : Catalog → SessionNumber → Type 0
IsOut C k = (s : Session) × (get C.sessions k ≡ Some s) × (are_checked_in s.chunks ≡ false)

-- a checked-out session is not a checked-in one
not_home : (C : Catalog) (k q : SessionNumber) (s : Session) (chunks : List Text) → IsOut C k → get C.sessions q ≡ Some s → s.chunks ≡ CheckedIn chunks → k ≢ q
not_home C k q s chunks out found home e =
    let same : out.0 ≡ s = some_same (sym out.1 ∙ ap (get C.sessions) e ∙ found) in
    false≢true (sym out.2 ∙ ap (λ (x : Session). are_checked_in x.chunks) same ∙ ap are_checked_in home)

with_other : (C : Catalog) (k q : SessionNumber) (s : Session) → IsOut C k → k ≢ q → IsOut (record C { sessions = insert C.sessions q s }) k
with_other C k q s out other = (out.0, get-insert_other number_cmp_total exact_number C.sessions q s k other ∙ out.1, out.2)

without_other : (C : Catalog) (k q : SessionNumber) → IsOut C k → k ≢ q → IsOut (record C { sessions = remove C.sessions q }) k
without_other C k q out other = (out.0, get-remove_other number_cmp_total exact_number C.sessions q k other ∙ out.1, out.2)

module _ (C : Catalog) (lawful : WellFormed C) (k : SessionNumber) (out : IsOut C k) where
  abbrev P : Catalog → Type 0
  P X = IsOut X k

  -- no command changes it
  new_leaves : (t : ℕ) (r : Text) → P (Commands.with_new_session C t r)
  new_leaves t r = with_other C k (t, next_number_of C t) (record { repo = r; chunks = CheckedIn [] }) out (λ e. nothing (fresh C t r lawful) (ap (get C.sessions) (sym e) ∙ out.1))

  append_leaves_it : (r : Text) (n : ℕ) (g : Option ByteRange) (b : Text) → Leaves P (Commands.append C r n g b)
  append_leaves_it r n g b = of_tenant P C r _ (λ t known. past P (chunk_length_check C t r n g (length b)) _ (λ after checked. past P (check_quota C t (length b)) _ (λ _ _.
      let c = checked_home C t n r g (length b) after checked in
      subst (λ (m : Sessions). P (record C { sessions = m })) (sym (ap (λ o. option_map_or (λ s. with_chunks C.sessions (t, n) s (CheckedIn (with_chunk (at_home s.chunks) b))) o C.sessions) c.found))
      (with_other C k (t, n) (record c.s { chunks = CheckedIn (with_chunk (at_home c.s.chunks) b) }) out (not_home C k (t, n) c.s c.chunks out c.found c.home)))))

  abandon_leaves_it : (r : Text) (n : ℕ) → Leaves P (Commands.abandon C r n)
  abandon_leaves_it r n = of_tenant P C r _ (λ t known. past P (session C t r n) _ (λ s found. past P (not_busy s.chunks) _ (λ u home.
      let h = home_chunks s.chunks u home in
      without_other C k (t, n) out (not_home C k (t, n) s h.0 out (session_found (get C.sessions (t, n)) r s found).0 h.1))))

  command_leaves_it : (command : Command) → Leaves P (outcome false C command)
  command_leaves_it (runs.Start r) = answers_leave P runs.Number _ (start_leaves P C r (λ t _. new_leaves t r))
  command_leaves_it (runs.Status r n) = reading_leave P runs.Number C (Commands.status C r n) out
  command_leaves_it (runs.Append r n g b) = answers_leave P runs.Number _ (append_leaves_it r n g b)
  command_leaves_it (runs.Close r n d g b) = answers_leave P runs.Number _ (close_leaves P C r has_slot n d g b (λ t after _ checked _.
      let c = checked_home C t n r g (length b) after checked in without_other C k (t, n) out (not_home C k (t, n) c.s c.chunks out c.found c.home)))
  command_leaves_it (runs.Abandon r n) = answers_leave P runs.Number _ (abandon_leaves_it r n)
  command_leaves_it (runs.Mount r d from) = answers_leave P runs.Mounting _ (mount_leaves P C r d from (λ t _. new_leaves t r) (λ t _ _. out))
  command_leaves_it (runs.Delete r d) = answers_leave P (λ _. runs.Done) _ (delete_leaves P C r d out)
  command_leaves_it (runs.PutManifest r b) = answers_leave P runs.Bytes _ (put_leaves P C r b out (λ t _. out))
  command_leaves_it (runs.GetManifest r m) = reading_leave P runs.Bytes C (Commands.get_manifest C r m) out
  command_leaves_it (runs.DeleteManifest r m) = answers_leave P (λ _. runs.Done) _ (delete_manifest_leaves P C r m out)
  command_leaves_it (runs.RemoveRepo r) = answers_leave P (λ _. runs.Done) _ (remove_repo_leaves P C r (λ _ _. out))
  command_leaves_it (runs.Lease r d) = answers_leave P runs.Bytes _ (lease_leaves P C r false d (λ b _. out))

  -- the return of another session's hand does not change it
  put_back_leaves_it : (h : HandRecord) → k ≢ h.key → Leaves P (put_back C h)
  put_back_leaves_it h other = put_back_leaves P C h (λ s _. with_other C k h.key _ out other)

  finish_leaves_it : (h : HandRecord) (d : Text) → k ≢ h.key → Leaves P (finish C h d)
  finish_leaves_it h d other = finish_leaves P C h d (λ s _ _. without_other C k h.key out other)

  cancel_leaves_it : (h : HandRecord) → k ≢ h.key → P (after_cancel C h)
  cancel_leaves_it h other = cancel_leaves P C h out (λ s _. with_other C k h.key _ out other)

-- the step returns no hand of this session
abbrev IsOther : SessionNumber → Step → Type 0
IsOther k (PutBackCall h reply) = k ≢ h.key
IsOther k (FinishCall h d reply) = k ≢ h.key
IsOther k step = Unit {0}

stays_out : (s : State) (step : Step) (X : Catalog) → WellFormed s.catalog → MayLeadTo s step X → (k : SessionNumber) → IsOut s.catalog k → IsOther k step → IsOut X k
stays_out s (CommandCall command (Ok x)) X lawful leaves k out other = left_ok (λ Y. IsOut Y k) _ x X (command_leaves_it s.catalog lawful k out command) leaves
stays_out s (CommandCall command (Err e)) X lawful leaves k out other = subst (λ (Y : Catalog). IsOut Y k) (sym (⊎_elim (λ y. y.1) (λ y. y.1) leaves)) out
stays_out s (SweepCall counts) X lawful leaves k out other = subst (λ (Y : Catalog). IsOut Y k) (sym leaves.rest) out
stays_out s (SweepPartCall counts) X lawful leaves k out other = subst (λ (Y : Catalog). IsOut Y k) (sym leaves.1.rest) out
stays_out s (TakeCall r n g len (Ok h)) X lawful leaves k out other =
    let p : TookIn s.catalog X r n len g h leaves = took s.catalog X r n len g h leaves in
    subst (λ (Y : Catalog). IsOut Y k) (taken_leaves s.catalog X r n len g h leaves)
    (with_other s.catalog k (p.t, n) (record p.checked.s { chunks = CheckedOutWith (received_length p.checked.s) len }) out (not_home s.catalog k (p.t, n) p.checked.s p.checked.chunks out p.checked.found p.checked.home))
stays_out s (TakeCall r n g len (Err e)) X lawful leaves k out other = subst (λ (Y : Catalog). IsOut Y k) (sym leaves.1) out
stays_out s (PutBackCall h (Ok n)) X lawful leaves k out other = left_ok (λ Y. IsOut Y k) _ n X (put_back_leaves_it s.catalog lawful k out h other) leaves
stays_out s (PutBackCall h (Err e)) X lawful leaves k out other = subst (λ (Y : Catalog). IsOut Y k) (sym leaves.1) out
stays_out s (FinishCall h d (Ok n)) X lawful leaves k out other = left_ok (λ Y. IsOut Y k) _ n X (finish_leaves_it s.catalog lawful k out h d other) leaves
stays_out s (FinishCall h d (Err e)) X lawful leaves k out other = subst (λ (Y : Catalog). IsOut Y k) (sym leaves.1) (cancel_leaves_it s.catalog lawful k out h other)

-- ---- the hands of all lanes

-- each lane's hand is as it was taken, its session is checked out, and no two lanes hold hands of one session
record Known (taken : TakenSessions) (C : Catalog) (hands : ℕ → Option HandRecord) : Type 0 where
  held : (w : ℕ) (h : HandRecord) → hands w ≡ Some h → (get taken h.key ≡ Some (h.repo, h.chunks)) × IsOut C h.key
  apart : (w v : ℕ) (h g : HandRecord) → hands w ≡ Some h → hands v ≡ Some g → h.key ≡ g.key → w ≡ v

module _ (w : ℕ) (hands : ℕ → Option HandRecord) where
  -- the hands of all lanes after a step of one lane
  abbrev put_at : Option HandRecord → ℕ → Option HandRecord
  put_at o v = if v == w then o else hands v

  as_before : (v : ℕ) (h : HandRecord) → put_at (hands w) v ≡ Some h → hands v ≡ Some h
  as_before v h = by (v == w) refl
    where
      by : (b : Bool) → (v == w) ≡ b → (if b then hands w else hands v) ≡ Some h → hands v ≡ Some h
      by true e is = ap hands (eqb-true v w e) ∙ is
      by false e is = is

  another : (v : ℕ) (h : HandRecord) → put_at None v ≡ Some h → (hands v ≡ Some h) × ((v == w) ≡ false)
  another v h = by (v == w) refl
    where
      by : (b : Bool) → (v == w) ≡ b → (if b then None else hands v) ≡ Some h → (hands v ≡ Some h) × ((v == w) ≡ false)
      by true e is = some_none (sym is)
      by false e is = (is, e)

  new_or_old : (new : HandRecord) (v : ℕ) (h : HandRecord) → put_at (Some new) v ≡ Some h → ((v ≡ w) × (new ≡ h)) ⊎ ((hands v ≡ Some h) × ((v == w) ≡ false))
  new_or_old new v h = by (v == w) refl
    where
      by : (b : Bool) → (v == w) ≡ b → (if b then Some new else hands v) ≡ Some h → ((v ≡ w) × (new ≡ h)) ⊎ ((hands v ≡ Some h) × ((v == w) ≡ false))
      by true e is = inl (eqb-true v w e, some_same is)
      by false e is = inr (is, e)

  paired_rest : (o : Option HandRecord) (rest : LaneSteps) → IsPaired o (steps_by w rest) → ((v : ℕ) → (w == v) ≡ false → IsPaired (hands v) (steps_by v rest)) → (v : ℕ) → IsPaired (put_at o v) (steps_by v rest)
  paired_rest o rest own others v = by (v == w) refl
    where
      by : (b : Bool) → (v == w) ≡ b → IsPaired (if b then o else hands v) (steps_by v rest)
      by true e = subst (λ x. IsPaired o (steps_by x rest)) (sym (eqb-true v w e)) own
      by false e = others v (ne_eqb w v (λ same. eqb-false v w e (sym same)))

  -- ---- a step of a lane

  -- a step returns a hand as it was taken, and the lane's further steps are paired with the hand that it then holds
  record Next (taken : TakenSessions) (step : Step) (X : Catalog) (own : List Step) : Type 0 where
    out : Option HandRecord
    returned : IsReturnedAsTaken taken step
    known : Known (taken_after_step taken step) X (put_at out)
    paired : IsPaired out own

  module _ (taken : TakenSessions) (s : State) (known : Known taken s.catalog hands) (lawful : WellFormed s.catalog) (X : Catalog) where
    -- the step changes no hand
    same_hands : (step : Step) → MayLeadTo s step X → ((k : SessionNumber) → IsOther k step) → Known taken X (put_at (hands w))
    same_hands step leaves other = record {
      held = λ v h is. let old = known.held v h (as_before v h is) in (old.0, stays_out s step X lawful leaves h.key old.1 (other h.key));
      apart = λ v u h g a b. known.apart v u h g (as_before v h a) (as_before u g b);
    }

    -- the lane returns its hand
    back : (step : Step) → MayLeadTo s step X → (t : HandRecord) → hands w ≡ Some t → ((k : SessionNumber) → k ≢ t.key → IsOther k step) → Known taken X (put_at None)
    back step leaves t is other = record {
      held = λ v h a.
          let was = another v h a in
          let old = known.held v h was.0 in
          (old.0, stays_out s step X lawful leaves h.key old.1 (other h.key (λ e. eqb-false v w was.1 (known.apart v w h t was.0 is e))));
      apart = λ v u h g a b. known.apart v u h g (another v h a).0 (another u g b).0;
    }

    -- the lane takes a hand of a checked-in session
    takes : (r : Text) (n : ℕ) (g : Option ByteRange) (len : ℕ) (h : HandRecord) → take s.catalog r n g len ≡ Ok (h, X) → Known (insert taken h.key (h.repo, h.chunks)) X (put_at (Some h))
    takes r n g len h is = record {
      held = λ v x a. elim (new_or_old h v x a) [
        | inl new ↦ subst (λ y. (get (insert taken h.key (h.repo, h.chunks)) y.key ≡ Some (y.repo, y.chunks)) × IsOut X y.key) new.1 (get-insert_at number_cmp_total exact_number taken h.key (h.repo, h.chunks), here)
        | inr old ↦ let was = known.held v x old.0 in
            (get-insert_other number_cmp_total exact_number taken h.key (h.repo, h.chunks) x.key (other x.key was.1) ∙ was.0, stays_out s (TakeCall r n g len (Ok h)) X lawful is x.key was.1 tt)
      ];
      apart = λ v u x y a b same. elim (new_or_old h v x a) [
        | inl new ↦ elim (new_or_old h u y b) [
          | inl new2 ↦ new.0 ∙ sym new2.0
          | inr old ↦ absurd (other y.key (known.held u y old.0).1 (sym same ∙ ap (λ (z : HandRecord). z.key) (sym new.1)))
        ]
        | inr old ↦ elim (new_or_old h u y b) [
          | inl new ↦ absurd (other x.key (known.held v x old.0).1 (same ∙ ap (λ (z : HandRecord). z.key) (sym new.1)))
          | inr old2 ↦ known.apart v u x y old.0 old2.0 same
        ]
      ];
    }
      where
        p : TookIn s.catalog X r n len g h is
        p = took s.catalog X r n len g h is

        key_is : (p.t, n) ≡ h.key
        key_is = ap (λ (y : HandRecord). y.key) (taken_hand s.catalog X r n len g h is)

        other : (k : SessionNumber) → IsOut s.catalog k → k ≢ h.key
        other k out = subst (λ (q : SessionNumber). k ≢ q) key_is (not_home s.catalog k (p.t, n) p.checked.s p.checked.chunks out p.checked.found p.checked.home)

        here : IsOut X h.key
        here = subst (λ (q : SessionNumber). IsOut X q) key_is (subst (λ (Y : Catalog). IsOut Y (p.t, n)) (taken_leaves s.catalog X r n len g h is)
            (record p.checked.s { chunks = CheckedOutWith (received_length p.checked.s) len }, get-insert_at number_cmp_total exact_number s.catalog.sessions (p.t, n) _, refl))

    own_hand : (h : HandRecord) → IsHeldHand (hands w) h → get taken h.key ≡ Some (h.repo, h.chunks)
    own_hand h hand = let held = known.held w hand.0 hand.1 in ap (get taken) hand.2 ∙ held.0 ∙ (λ i. Some (sym hand.3 i, sym hand.4 i))

    next : (step : Step) (own : List Step) → MayLeadTo s step X → IsPaired (hands w) (step ∷ own) → Next taken step X own
    next (CommandCall command reply) own leaves paired = record { out = hands w; returned = tt; known = same_hands (CommandCall command reply) leaves (λ k. tt); paired = paired.1 }
    next (SweepCall counts) own leaves paired = record { out = hands w; returned = tt; known = same_hands (SweepCall counts) leaves (λ k. tt); paired = paired.1 }
    next (SweepPartCall counts) own leaves paired = record { out = hands w; returned = tt; known = same_hands (SweepPartCall counts) leaves (λ k. tt); paired = paired.1 }
    next (TakeCall r n g len (Ok h)) own leaves paired = record { out = Some h; returned = tt; known = takes r n g len h leaves; paired = paired.1 }
    next (TakeCall r n g len (Err e)) own leaves paired = record { out = hands w; returned = tt; known = same_hands (TakeCall r n g len (Err e)) leaves (λ k. tt); paired = paired.1 }
    next (PutBackCall h reply) own leaves paired =
        let hand = paired.0 in
        record {
          out = None;
          returned = own_hand h hand;
          known = back (PutBackCall h reply) leaves hand.0 hand.1 (λ k other e. other (e ∙ hand.2));
          paired = paired.1;
        }
    next (FinishCall h d reply) own leaves paired =
        let hand = paired.0 in
        record {
          out = None;
          returned = own_hand h hand;
          known = back (FinishCall h d reply) leaves hand.0 hand.1 (λ k other e. other (e ∙ hand.2));
          paired = paired.1;
        }

-- ---- histories

all_returned : (entries : LaneSteps) (taken : TakenSessions) (D : DurableState) (s s' : State) (hands : ℕ → Option HandRecord) → Agrees taken D s.catalog → Sound s.catalog → AreSteps s (all_steps entries) s' → AllByRecursion IsWellFormedStep (all_steps entries) →
    Known taken s.catalog hands → ((lane : ℕ) → IsPaired (hands lane) (steps_by lane entries)) → AreReturnedAsTaken taken (all_steps entries)
all_returned [] taken D s s' hands a sound run right known paired = tt
all_returned (e ∷ entries) taken D s s' hands a sound run right known paired =
    let mid : State = run.0 in
    let own : IsPaired (hands e.0) (e.1 ∷ steps_by e.0 entries) = subst (λ b. IsPaired (hands e.0) (if b then e.1 ∷ steps_by e.0 entries else steps_by e.0 entries)) (eq-eqb e.0 e.0 refl) (paired e.0) in
    let n : Next e.0 hands taken e.1 mid.catalog (steps_by e.0 entries) = next e.0 hands taken s known sound.lawful mid.catalog e.1 (steps_by e.0 entries) run.1.leaves own in (
      n.returned,
      all_returned entries (taken_after_step taken e.1) (after_record D (change_of s.catalog.tenants e.1)) mid s' (put_at e.0 hands n.out) (step_agrees taken D s e.1 mid.catalog a run.1.leaves n.returned)
          (step_sound taken D s e.1 mid.catalog a run.1.leaves n.returned right.0 sound) run.2 right.1 n.known
          (paired_rest e.0 hands n.out entries n.paired (λ v other. subst (λ b. IsPaired (hands v) (if b then e.1 ∷ steps_by v entries else steps_by v entries)) other (paired v))),
    )

pub lanes_return_hands : LanesReturnHands
lanes_return_hands D C entries s opens sound run right paired =
    all_returned entries empty D (initial_state C) s (λ _. None) opens sound run right (record { held = λ w h is. some_none (sym is); apart = λ w v h g a b same. some_none (sym a) }) paired
