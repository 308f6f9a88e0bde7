-- A history is a run of whole commands: the induction over the steps.
use Rattle.std.proofs.Common.{◌≡◌, ◌≢◌, ℕ, ◌+◌, Bool, true, false, List, [], ◌∷◌, ◌++◌, length, Option, Some, None, Result, Ok, Err, refl, sym, ap, ◌∙◌, subst, arith, inl, inr, ⊎_elim}
use Rattle.std.specs.Prelude.{nat_lt}
use Rattle.std.specs.Option.{ok_or}
use Rattle.std.specs.List.{AllByRecursion, sum_by}
use Rattle.std.specs.FinMap.{empty, get, get-empty, insert, remove, same_map}
use Rattle.std.proofs.lemmas.Bool.{ltb-true}
use Rattle.blob_digest.specs.declared.range.ByteRange.{ByteRange}
use Rattle.blob_digest.specs.declared.refusal.Refusal.{Refusal}
use Rattle.blob_digest.specs.declared.refusal.Refusal.TheVariants.{Memory, NameUnknown, Quota}
use Rattle.blob_digest.proofs.KeyOrders.{number_cmp_total, exact_number}
use Rattle.spec_lib.specs.Outcomes.{refuse}
use Rattle.spec_lib.specs.Texts.{Text, same_text}
use Rattle.spec_lib.proofs.Maps.{get-insert_at}
use Rattle.spec_lib.proofs.Outcomes.{bound_ok, ok_err}
use Rattle.spec_lib.proofs.Rows.{insert_same}
use Rattle.spec_lib.proofs.Texts.{same_itself}
use Rattle.store_model.specs.Catalog.{Catalog, CheckedIn, CheckedOutWith, SessionNumber, Session, HandRecord, session_number_cmp, opening, quota_of, received_length, charged_length, used_bytes}
use Rattle.store_model.specs.Commands.{after_cancel, append, chunk_length_check, close, finish, hand_in, not_busy, put_back, session_in, take, tenant, check_quota}
use Rattle.store_model.specs.Histories.{AreSteps, SweepCall, SweepPartCall, FinishCall, MayLeadTo, CommandCall, PutBackCall, State, Step, TakeCall, initial_state}
use Rattle.store_model.specs.Invariant.{Sound}
use Rattle.store_model.specs.Runs as runs
use Rattle.store_model.specs.Runs.{Answer, CommandEvent, Command, Event, IsCommandCase, Happens, HasShortName, IsRun, SweepEvent, SweepPartEvent, map_outcome, outcome, takes_memory}
use Rattle.store_model.specs.Sessions.{Sessions, at_home, chunks_in, length_after, repo_in, after_take_in, with_chunks}
use Rattle.store_model.specs.Sweep.{IsSweepOf}
use Rattle.store_model.specs.declared.swept.Swept.{Swept as SweptCounts}
use Rattle.store_model.specs.WholeCommands.{AreContentionFree, AreWholeCommands, CorrespondsTo, CheckedOutSessions, HistoriesAreRuns, IsContentionFree, IsContentionFreeStep, IsUpload, CheckedOut, length_reply}
use Rattle.store_model.proofs.Commands.Accepted.{left_by, session_found, tenant_there}
use Rattle.store_model.proofs.Commands.ByHand.{append_by_hand, append_is, append_refused, back_by_hand, close_by_hand, close_refused, insert_twice, refused_by_hand, taken_hand, taken_leaves, taken_received}
use Rattle.store_model.proofs.Commands.Hands.{Sound-after_take, TookIn, took}
use Rattle.store_model.proofs.Commands.Runs.{Sound-case}
use Rattle.store_model.proofs.Commands.Sweep.{Sound-sweep}
use Rattle.store_model.proofs.Invariant.Chunks.{Sound-chunks, used_bytes-chunks}
use Rattle.store_model.proofs.WholeCommands.AtHome.{AreOne, AtHome, IsLent, as_found, bring, found_out, lend}
use Rattle.store_model.proofs.WholeCommands.Commands.{SameAtHome, same_outcome}
use Rattle.blob_digest.proofs.Refusals.{is_memory}

-- the reply is not an error that a checked-out hand may cause
abbrev ContentionFreeReply : Result Answer Refusal → Type 0
ContentionFreeReply (Ok a) = Unit {0}
ContentionFreeReply (Err e) = IsContentionFree e

-- ---- a step, and the catalogs after every hand was checked in

-- the events lead from one catalog with every hand checked in to another
record Moved (D : Catalog) (events : List Event) (hands : CheckedOutSessions) (X : Catalog) : Type 0 where
  home : Sessions
  run : (rest : List Event) (last : Catalog) → IsRun (record X { sessions = home }) rest last → IsRun D (events ++ rest) last
  at_home : AtHome hands X home
  sound : Sound X

as_told : (D : Catalog) {events es : List Event} {hands hs : CheckedOutSessions} (X : Catalog) → events ≡ es → hands ≡ hs → Moved D es hs X → Moved D events hands X
as_told D {events} {es} {hands} {hs} X a b moved = subst (λ x. Moved D x hands X) (sym a) (subst (λ x. Moved D es x X) (sym b) moved)

-- a whole command
by_case : (hands : CheckedOutSessions) (C : Catalog) (m : Sessions) → AtHome hands C m → Sound C → (command : Command) (reply : Result Answer Refusal) (X : Catalog) →
    IsCommandCase C command reply X → HasShortName (CommandEvent command reply) → ContentionFreeReply reply → Moved (record C { sessions = m }) (CommandEvent command reply ∷ []) hands X
by_case hands C m home sound command (Ok a) X case named calm =
    let t : SameAtHome hands (Ok (a, X)) (outcome false (record C { sessions = m }) command) =
    subst (λ x. SameAtHome hands x (outcome false (record C { sessions = m }) command)) case (same_outcome hands C m home sound.lawful false command) in
    record { home = t.0; run = λ rest last r. (record X { sessions = t.0 }, t.1, r); at_home = t.2; sound = Sound-case C X command (Ok a) named case sound }
by_case hands C m home sound command (Err e) X case named calm = record {
  home = m;
  run = λ rest last r. (record X { sessions = m }, (⊎_elim (λ x. inl (x.0, told x.0 x.1)) (λ x. inr x) case.0, ap (λ (Y : Catalog). record Y { sessions = m }) case.1), r);
  at_home = subst (λ (Y : Catalog). AtHome hands Y m) (sym case.1) home;
  sound = subst (λ (Y : Catalog). Sound Y) (sym case.1) sound;
}
  where
    told : (crowded : Bool) → outcome crowded C command ≡ Err e → outcome crowded (record C { sessions = m }) command ≡ Err e
    told crowded is = (subst (λ x. SameAtHome hands x (outcome crowded (record C { sessions = m }) command)) is (same_outcome hands C m home sound.lawful crowded command)) calm

-- a sweep or part of one, also with other sessions
with_sessions : (reached : Text → Bool) (C X : Catalog) (swept : SweptCounts) (m : Sessions) → IsSweepOf reached C swept X → IsSweepOf reached (record C { sessions = m }) swept (record X { sessions = m })
with_sessions reached C X swept m sweep = record {
  orphans = sweep.orphans;
  no_others = sweep.no_others;
  rest = ap (λ (Y : Catalog). record Y { sessions = m }) sweep.rest;
  condemned = sweep.condemned;
  gone = sweep.gone;
  held = sweep.held;
}

-- the event of a sweep or of part of one
by_sweep : (reached : Text → Bool) (hands : CheckedOutSessions) (C : Catalog) (m : Sessions) → AtHome hands C m → Sound C → (swept : SweptCounts) (X : Catalog) → IsSweepOf reached C swept X → (event : Event) →
    (IsSweepOf reached (record C { sessions = m }) swept (record X { sessions = m }) → Happens (record C { sessions = m }) event (record X { sessions = m })) → Moved (record C { sessions = m }) (event ∷ []) hands X
by_sweep reached hands C m home sound swept X sweep event happens = record {
  home = m;
  run = λ rest last r. (record X { sessions = m }, happens (with_sessions reached C X swept m sweep), r);
  at_home = subst (λ (Y : Catalog). AtHome hands Y m) (sym sweep.rest) home;
  sound = Sound-sweep reached C X swept sweep sound.lawful sound.quotas sound.shares sound.slots;
}

-- ---- check-outs

-- an upload fails with the error of its check-out
upload_refused : (C : Catalog) (r : Text) (n : ℕ) (g : Option ByteRange) (bytes : Text) (e : Refusal) (command : Command) → IsUpload r n g bytes command → take C r n g (length bytes) ≡ Err e → outcome false C command ≡ Err e
upload_refused C r n g bytes e command upload refused =
    ⊎_elim (λ is. ap (outcome false C) is ∙ ap (map_outcome runs.Number) (append_refused C r n g bytes e refused))
    (λ x. ap (outcome false C) x.1 ∙ ap (map_outcome runs.Number) (close_refused C r n g bytes e refused x.0)) upload

upload_takes_memory : (r : Text) (n : ℕ) (g : Option ByteRange) (bytes : Text) (command : Command) → IsUpload r n g bytes command → takes_memory command ≡ true
upload_takes_memory r n g bytes command upload = ⊎_elim (λ is. ap takes_memory is) (λ x. ap takes_memory x.1) upload

module _ (hands : CheckedOutSessions) (C X : Catalog) (m : Sessions) (home : AtHome hands C m) (sound : Sound C) (r : Text) (n len : ℕ) (g : Option ByteRange) (h : HandRecord) (stepped : take C r n g len ≡ Ok (h, X)) where
  abbrev p : TookIn C X r n len g h stepped
  p = took C X r n len g h stepped

  abbrev s : Session
  s = p.checked.s

  abbrev key : SessionNumber
  key = (p.t, n)

  abbrev hand : HandRecord
  hand = record { repo = s.repo; key = key; chunks = p.checked.chunks; reserved = len; last = None }

  abbrev lent_as : HandRecord → CheckedOut
  lent_as x = record { hand = x; repo = r; range = g }

  received_is : received_length s ≡ sum_by length p.checked.chunks
  received_is = taken_received C X r n len g h stepped

  fits : length_after C.contents.max_blob (sum_by length p.checked.chunks) g len ≡ Ok p.after
  fits =
      let a = bound_ok (session_in (get C.sessions key) r) _ p.after p.check_ok in
      let b = bound_ok (not_busy a.0.chunks) _ p.after a.2 in
      let same : a.0 ≡ s = (let e : Some a.0 ≡ Some s = sym (session_found (get C.sessions key) r a.0 a.1).0 ∙ p.checked.found in cc) in
      ap (λ x. length_after C.contents.max_blob x g len) (sym (ap received_length same ∙ received_is)) ∙ b.2

  lent : IsLent C.tenants C.contents.max_blob key (record s { chunks = CheckedOutWith (received_length s) len }) (lent_as hand)
  lent = record {
    key = refl;
    unfilled = refl;
    repo = p.checked.of_repo;
    named = refl;
    known = p.known;
    chunks = λ i. CheckedOutWith (received_is i) len;
    pieces = subst (λ cs. AllByRecursion (λ c. c ≢ []) cs) (ap at_home p.checked.home) (sound.lawful.sessions key s p.checked.found).chunks;
    after = p.after;
    fits = fits;
  }

  -- nothing happens yet
  taken : Moved (record C { sessions = m }) [] (insert hands h.key (lent_as h)) X
  taken = record {
    home = m;
    run = λ rest last goes_on. subst (λ (Y : Catalog). IsRun Y rest last) (sym (ap (λ (Y : Catalog). record Y { sessions = m }) (taken_leaves C X r n len g h stepped))) goes_on;
    at_home = subst (λ (x : HandRecord). AtHome (insert hands x.key (lent_as x)) X m) (taken_hand C X r n len g h stepped) (subst (λ (Y : Catalog). AtHome (insert hands key (lent_as hand)) Y m) (taken_leaves C X r n len g h stepped)
        (lend hands C m home key s len (lent_as hand) p.checked.found p.checked.home lent));
    sound = Sound-after_take C X r n len g h stepped sound;
  }

-- ---- check-ins

module _ (hands : CheckedOutSessions) (C : Catalog) (m : Sessions) (home : AtHome hands C m) (sound : Sound C) (h : HandRecord) (out : CheckedOut) (is_out : get hands h.key ≡ Some out) where
  abbrev f : (s : Session) × (get C.sessions h.key ≡ Some s) × IsLent C.tenants C.contents.max_blob h.key s out × (get m h.key ≡ Some (record s { chunks = CheckedIn out.hand.chunks }))
  f = found_out hands C m home h.key out is_out

  abbrev session : Session
  session = f.0

  abbrev lent_is : IsLent C.tenants C.contents.max_blob h.key session out
  lent_is = f.2

  abbrev there : Session
  there = record session { chunks = CheckedIn out.hand.chunks }

  -- the catalog after only this hand was checked in
  abbrev back : Catalog
  back = record C { sessions = with_chunks C.sessions h.key session (CheckedIn out.hand.chunks) }

  counts : charged_length session ≡ sum_by length out.hand.chunks + out.hand.reserved
  counts = rw lent_is.chunks refl

  counts_home : charged_length there ≡ sum_by length out.hand.chunks
  counts_home = omega arith

  found_back : get back.sessions h.key ≡ Some there
  found_back = get-insert_at number_cmp_total exact_number C.sessions h.key there

  sound_back : Sound back
  sound_back =
      let small = (sound.lawful.sessions h.key session f.1).small in
      let a = counts in
      let b = counts_home in
      Sound-chunks C h.key session (CheckedIn out.hand.chunks) f.1 lent_is.pieces (omega arith) (λ inside. let keeps = sound.quotas h.key.0 inside in omega arith) sound

  home_back : AtHome (remove hands h.key) back m
  home_back = bring hands C m home h.key session out f.3

  -- its session can be checked out again for the same chunk
  again : take back out.repo h.key.1 out.range out.hand.reserved ≡ Ok (out.hand, C)
  again = rw (tenant_ok, check_ok, quota_ok) (λ i. Ok (hand_is i, record C { sessions = sessions_is i }))
    where
      tenant_ok : tenant back out.repo ≡ Ok h.key.0
      tenant_ok = ap (λ o. ok_or o NameUnknown) lent_is.known

      found_in : session_in (get back.sessions h.key) out.repo ≡ Ok there
      found_in = rw found_back (rw (subst (λ (x : Text). same_text x out.repo ≡ true) (sym lent_is.repo) (same_itself out.repo)) refl)

      check_ok : chunk_length_check back h.key.0 out.repo h.key.1 out.range out.hand.reserved ≡ Ok lent_is.after
      check_ok = rw found_in lent_is.fits

      quota_ok : check_quota back h.key.0 out.hand.reserved ≡ Ok tt
      quota_ok = by (nat_lt (quota_of C h.key.0) (used_bytes back h.key.0 + out.hand.reserved)) refl
        where
          by : (b : Bool) → nat_lt (quota_of C h.key.0) (used_bytes back h.key.0 + out.hand.reserved) ≡ b → refuse b (Quota (used_bytes back h.key.0) (quota_of C h.key.0)) ≡ Ok tt
          by false is = refl
          by true is = absurd (
              let more = ltb-true (quota_of C h.key.0) (used_bytes back h.key.0 + out.hand.reserved) is in
              let keeps = sound.quotas h.key.0 (tenant_there C.tenants out.repo h.key.0 lent_is.known) in
              let change = used_bytes-chunks C h.key session (CheckedIn out.hand.chunks) f.1 in
              let a = counts in
              let b = counts_home in
              omega arith)

      hand_is : hand_in back.sessions h.key out.hand.reserved ≡ out.hand
      hand_is = (λ i. record { repo = repo_is i; key = sym lent_is.key i; chunks = chunks_is i; reserved = out.hand.reserved; last = sym lent_is.unfilled i })
        where
          repo_is : repo_in back.sessions h.key ≡ out.hand.repo
          repo_is = rw found_back lent_is.named

          chunks_is : chunks_in back.sessions h.key ≡ out.hand.chunks
          chunks_is = rw found_back refl

      sessions_is : after_take_in back.sessions h.key out.hand.reserved ≡ C.sessions
      sessions_is =
          let in_hand : record session { chunks = CheckedOutWith (received_length there) out.hand.reserved } ≡ session = (λ i. record session { chunks = sym lent_is.chunks i }) in
          rw found_back (insert_twice C.sessions h.key there (record session { chunks = CheckedOutWith (received_length there) out.hand.reserved })
          ∙ insert_same session_number_cmp number_cmp_total exact_number C.sessions h.key _ (f.1 ∙ ap (λ x. Some x) (sym in_hand)))

  -- ---- with a chunk of the reserved length

  module _ (bytes : Text) (fills : length bytes ≡ out.hand.reserved) where
    abbrev D : Catalog
    D = record C { sessions = m }

    takes : take back out.repo h.key.1 out.range (length bytes) ≡ Ok (out.hand, C)
    takes = ap (take back out.repo h.key.1 out.range) fills ∙ again

    -- a check-in with a chunk is an append
    module _ (is : h ≡ record out.hand { last = Some bytes }) where
      same_append : put_back C h ≡ append back out.repo h.key.1 out.range bytes
      same_append = ap (put_back C) is ∙ append_by_hand back C out.repo h.key.1 out.range bytes out.hand takes

      appended : (s : State) → s.catalog ≡ C → (X : Catalog) (reply : Result ℕ Refusal) → MayLeadTo s (PutBackCall h reply) X → HasShortName (CommandEvent (runs.Append out.repo h.key.1 out.range bytes) (length_reply reply)) →
          Moved D (CommandEvent (runs.Append out.repo h.key.1 out.range bytes) (length_reply reply) ∷ []) (remove hands h.key) X
      appended s at X (Ok n) leaves named =
          by_case (remove hands h.key) back m home_back sound_back (runs.Append out.repo h.key.1 out.range bytes) (Ok (runs.Number n)) X
          (ap (map_outcome runs.Number) (sym same_append ∙ ap (λ Y. put_back Y h) (sym at) ∙ leaves)) named tt
      appended s at X (Err e) leaves named =
          ok_err (sym (append_is back C out.repo h.key.1 out.range bytes out.hand takes) ∙ sym same_append ∙ ap (λ Y. put_back Y h) (sym at) ∙ leaves.0)

      -- a finish with a chunk is a close
      same_close : (digest : Text) → finish C h digest ≡ close back out.repo h.key.1 digest out.range bytes
      same_close digest = ap (λ x. finish C x digest) is ∙ close_by_hand back C out.repo h.key.1 out.range bytes out.hand takes digest

      closed : (s : State) → s.catalog ≡ C → (digest : Text) (X : Catalog) (reply : Result ℕ Refusal) → MayLeadTo s (FinishCall h digest reply) X → IsContentionFreeStep s (FinishCall h digest reply) →
          HasShortName (CommandEvent (runs.Close out.repo h.key.1 digest out.range bytes) (length_reply reply)) → Moved D (CommandEvent (runs.Close out.repo h.key.1 digest out.range bytes) (length_reply reply) ∷ []) (remove hands h.key) X
      closed s at digest X (Ok n) leaves calm named =
          by_case (remove hands h.key) back m home_back sound_back (runs.Close out.repo h.key.1 digest out.range bytes) (Ok (runs.Number n)) X
          (ap (map_outcome runs.Number) (sym (same_close digest) ∙ ap (λ Y. finish Y h digest) (sym at) ∙ leaves)) named tt
      closed s at digest X (Err e) leaves calm named =
          by_case (remove hands h.key) back m home_back sound_back (runs.Close out.repo h.key.1 digest out.range bytes) (Err e) X
          (⊎_elim (λ is. inr (is, refl)) (λ other. inl (false, ap (map_outcome runs.Number) (sym (same_close digest) ∙ ap (λ Y. finish Y h digest) (sym at) ∙ leaves.0 other))) (is_memory e), cancelled) named calm
        where
          cancelled : X ≡ back
          cancelled = leaves.1 ∙ ap (λ Y. after_cancel Y h) at ∙ ap (after_cancel C) is ∙ refused_by_hand back C out.repo h.key.1 out.range bytes out.hand takes

    -- a hand that is checked in unchanged is an upload that failed with `Memory`
    given_back : h ≡ out.hand → (s : State) → s.catalog ≡ C → (X : Catalog) (reply : Result ℕ Refusal) → MayLeadTo s (PutBackCall h reply) X → (command : Command) → IsUpload out.repo h.key.1 out.range bytes command →
        HasShortName (CommandEvent command (Err Memory)) → Moved D (CommandEvent command (Err Memory) ∷ []) (remove hands h.key) X
    given_back is s at X (Ok n) leaves command upload named =
        by_case (remove hands h.key) back m home_back sound_back command (Err Memory) X (inr (refl, upload_takes_memory out.repo h.key.1 out.range bytes command upload), left_by (sym leaves ∙ (λ i. put_back (at i) (is i)) ∙ back_by_hand back C out.repo h.key.1 out.range bytes out.hand takes)) named
        ((λ e. absurd cc), (λ a b e. absurd cc))
    given_back is s at X (Err e) leaves command upload named =
        ok_err (sym (back_by_hand back C out.repo h.key.1 out.range bytes out.hand takes) ∙ sym (λ i. put_back (at i) (is i)) ∙ leaves.0)

-- ---- any step

named_one : (events : List Event) (e : Event) → events ≡ e ∷ [] → AllByRecursion HasShortName events → HasShortName e
named_one events e is all = (subst (λ es. AllByRecursion HasShortName es) is all).0

step_moves : (s : State) (hands : CheckedOutSessions) (m : Sessions) → AtHome hands s.catalog m → Sound s.catalog → (step : Step) (X : Catalog) → MayLeadTo s step X → IsContentionFreeStep s step →
    (events : List Event) (after : CheckedOutSessions) → CorrespondsTo hands step events after → AllByRecursion HasShortName events → Moved (record s.catalog { sessions = m }) events after X
step_moves s hands m home sound (CommandCall command (Ok a)) X leaves calm events after comes named =
    as_told (record s.catalog { sessions = m }) X comes.0 comes.1 (by_case hands s.catalog m home sound command (Ok a) X leaves (named_one events _ comes.0 named) tt)
step_moves s hands m home sound (CommandCall command (Err e)) X leaves calm events after comes named =
    as_told (record s.catalog { sessions = m }) X comes.0 comes.1
    (by_case hands s.catalog m home sound command (Err e) X (⊎_elim (λ x. x) (λ x. absurd (calm.1 x.0)) leaves) (named_one events _ comes.0 named) calm.0)
step_moves s hands m home sound (SweepCall swept) X leaves calm events after comes named =
    as_told (record s.catalog { sessions = m }) X comes.0 comes.1 (by_sweep (λ _. true) hands s.catalog m home sound swept X leaves (SweepEvent swept) (λ h. h))
step_moves s hands m home sound (SweepPartCall swept) X leaves calm events after comes named =
    as_told (record s.catalog { sessions = m }) X comes.0 comes.1 (by_sweep leaves.0 hands s.catalog m home sound swept X leaves.1 (SweepPartEvent swept) (λ h. (leaves.0, h)))
step_moves s hands m home sound (TakeCall r n g len (Ok h)) X leaves calm events after comes named =
    as_told (record s.catalog { sessions = m }) X comes.0 comes.1 (taken hands s.catalog X m home sound r n len g h leaves)
step_moves s hands m home sound (TakeCall r n g len (Err e)) X leaves calm events after comes named =
    let upload = comes.0 in
    let refused : take s.catalog r n g (length upload.1) ≡ Err e = ap (take s.catalog r n g) upload.2 ∙ ⊎_elim (λ x. x) (λ x. absurd (calm.1 x)) leaves.0 in
    as_told (record s.catalog { sessions = m }) X upload.4 comes.1
    (by_case hands s.catalog m home sound upload.0 (Err e) X (inl (false, upload_refused s.catalog r n g upload.1 e upload.0 upload.3 refused), leaves.1) (named_one events _ upload.4 named) calm.0)
step_moves s hands m home sound (PutBackCall h reply) X leaves calm events after comes named =
    let out : CheckedOut = comes.0 in
    as_told (record s.catalog { sessions = m }) X refl comes.3 (
    ⊎_elim
    (λ filled. as_told (record s.catalog { sessions = m }) X filled.2 refl
    (appended hands s.catalog m home sound h out comes.1 filled.0 filled.1.0 filled.1.1 s refl X reply leaves (named_one events _ filled.2 named)))
    (λ unfilled. let upload = unfilled.1 in as_told (record s.catalog { sessions = m }) X upload.4 refl
    (given_back hands s.catalog m home sound h out comes.1 upload.1 upload.2 unfilled.0 s refl X reply leaves upload.0 upload.3 (named_one events _ upload.4 named)))
    comes.2)
step_moves s hands m home sound (FinishCall h digest reply) X leaves calm events after comes named =
    let out : CheckedOut = comes.0 in
    let filled = comes.2 in
    as_told (record s.catalog { sessions = m }) X filled.2 comes.3
    (closed hands s.catalog m home sound h out comes.1 filled.0 filled.1.0 filled.1.1 s refl digest X reply leaves calm (named_one events _ filled.2 named))

-- ---- a history

named_both : (first rest : List Event) → AllByRecursion HasShortName (first ++ rest) → AllByRecursion HasShortName first × AllByRecursion HasShortName rest
named_both [] rest all = (tt, all)
named_both (e ∷ first) rest all = let both = named_both first rest all.1 in ((all.0, both.0), both.1)

all_home : (hands : CheckedOutSessions) (C : Catalog) (m : Sessions) → AtHome hands C m → hands ≡ empty → C ≡ record C { sessions = m }
all_home hands C m home none = λ i. record C { sessions = sessions_same i }
  where
    at : (k : SessionNumber) (s : Option Session) (out : Option CheckedOut) (h : Option Session) → out ≡ None → AreOne C.tenants C.contents.max_blob k s out h → s ≡ h
    at k None None h e one = sym one
    at k None (Some out) h e one = absurd one
    at k (Some s) None h e one = sym one.1
    at k (Some s) (Some out) h e one = absurd cc

    sessions_same : C.sessions ≡ m
    sessions_same = same_map number_cmp_total exact_number C.sessions m (λ k. at k (get C.sessions k) (get hands k) (get m k) (ap (λ x. get x k) none ∙ get-empty session_number_cmp k) (home k))

pub whole : (steps : List Step) (s s' : State) (hands : CheckedOutSessions) (m : Sessions) (events : List Event) → AtHome hands s.catalog m → Sound s.catalog → (run : AreSteps s steps s') → AreContentionFree s steps s' run → AreWholeCommands hands steps events →
    AllByRecursion HasShortName events → IsRun (record s.catalog { sessions = m }) events s'.catalog
whole [] s s' hands m events home sound run calm are named =
    subst (λ es. IsRun (record s.catalog { sessions = m }) es s'.catalog) (sym are.1) (ap (λ (x : State). x.catalog) run ∙ all_home hands s.catalog m home are.0)
whole (step ∷ steps) s s' hands m events home sound run calm are named =
    let mid : State = run.0 in
    let both = named_both are.0 are.1 (subst (λ es. AllByRecursion HasShortName es) are.4 named) in
    let moved : Moved (record s.catalog { sessions = m }) are.0 are.2 mid.catalog = step_moves s hands m home sound step mid.catalog run.1.leaves calm.0 are.0 are.2 are.3 both.0 in
    subst (λ es. IsRun (record s.catalog { sessions = m }) es s'.catalog) (sym are.4)
    (moved.run are.1 s'.catalog (whole steps mid s' are.2 moved.home are.1 moved.at_home moved.sound run.2 calm.1 are.5 both.1))

pub histories_are_runs : HistoriesAreRuns
histories_are_runs tenants slots contents steps s events sound run calm are named =
    let C : Catalog = opening tenants slots contents in
    whole steps (initial_state C) s empty C.sessions events
    (λ k. as_found tenants contents.max_blob k {out = None} (get-empty session_number_cmp k) (get-empty session_number_cmp k) (get-empty session_number_cmp k) refl) sound run calm are named
