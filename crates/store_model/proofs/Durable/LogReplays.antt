-- The log of a history has a replay by commands and sweeps: after a sweep each change has room.
use Rattle.std.proofs.Common.{◌≡◌, ◌≢◌, ℕ, ◌+◌, ◌-◌, ◌<◌, ◌≤◌, Bool, true, false, cond, not, List, [], ◌∷◌, ◌++◌, length, Option, Some, None, Ok, Err, refl, sym, ap, ◌∙◌, subst, arith}
use Rattle.std.specs.Prelude.{◌==◌, if◌then◌else◌, ◌&&◌, nat_le}
use Rattle.std.specs.Option.{option_map_or}
use Rattle.std.specs.List.{AllByRecursion, concat, cons_option, list_any, sum_by}
use Rattle.std.specs.Cmp.Lexicographic.{nat_list_cmp_total}
use Rattle.std.specs.FinMap.{contains_key, empty, entries, get, get-retain_keys, len, len-entries, len-remove, remove}
use Rattle.std.proofs.lemmas.Bool.{and_parts, eqb-false, leb-false, lt-leb, lt-ltb, not-false}
use Rattle.std.proofs.lemmas.Map.Lookups.{exact_bytes}
use Rattle.blob_digest.specs.declared.range.ByteRange.{ByteRange}
use Rattle.blob_digest.specs.declared.refusal.Refusal.TheVariants.{DigestInvalid, NameUnknown, StoreFull}
use Rattle.spec_lib.specs.Outcomes.{refuse}
use Rattle.spec_lib.specs.Sets as set
use Rattle.spec_lib.specs.Texts.{Text, same_text}
use Rattle.spec_lib.proofs.Lists.{list_any_count, sum_by-ones, witness}
use Rattle.spec_lib.proofs.Maps.{get-remove_other, term}
use Rattle.spec_lib.proofs.Options.{nothing, some_none, some_same}
use Rattle.spec_lib.proofs.Outcomes.{bound_ok, not_refused, some_of_ok}
use Rattle.store_model.specs.Catalog.{Catalog, CheckedIn, HandRecord, Resident, SessionNumber, Tenant, holds, link_count, opening, tenant_of}
use Rattle.store_model.specs.Commands.{check_share, check_quota, chunk_length_check, close, finish, fits_stored, has_slot, is_digest_accepted, is_full_for, mount, session_of_hand, start, tenant, is_named}
use Rattle.store_model.specs.Durable.{Agrees, AreReturnedAsTaken, Change, DurableState, IsReturnedAsTaken, SessionSealed, TakenSessions, after_change, change_of, changes_of, chunk_change, command_change, filled_chunk, initial_durable, mount_change, session_key, taken_after_step}
use Rattle.store_model.specs.Histories.{AreSteps, CommandCall, FinishCall, MayLeadTo, PutBackCall, State, Step, SweepCall, SweepPartCall, TakeCall, initial_state}
use Rattle.store_model.specs.Invariant.{Sound}
use Rattle.store_model.specs.Recovery.{IsWellFormedStep}
use Rattle.store_model.specs.Replaying.{HasLogReplay, HasReplay, HasRoomFor, LogsHaveReplays, replay_commands}
use Rattle.store_model.specs.Runs as runs
use Rattle.store_model.specs.Runs.{Answer, Command, CommandEvent, SweepEvent, outcome}
use Rattle.store_model.specs.Sessions.{at_home, content_in, hand_content}
use Rattle.store_model.specs.declared.mount.Mount.{Mount}
use Rattle.store_model.specs.declared.mount.Mount.TheVariants as mounting
use Rattle.store_model.specs.Sweep.{is_orphan}
use Rattle.store_model.proofs.Commands.SomeSweep.{after, kept, some_sweep, swept}
use Rattle.store_model.proofs.Commands.Sweep.{Sound-sweep}
use Rattle.store_model.proofs.Commands.Hands.{checked_home}
use Rattle.store_model.proofs.Durable.Agreement.{after_record}
use Rattle.store_model.proofs.Durable.Commands.{answered_ok, durable_checked_in, left_ok}
use Rattle.store_model.proofs.Durable.Histories.{after_record_tenants, durable_hand, new_stores_agree, step_agrees, sweeps}
use Rattle.store_model.proofs.Durable.Crashes.{SameSetting, SameSlots, command_setting, step_setting, step_sound}
use Rattle.store_model.proofs.Durable.Replaying.{changes_have_replays}
use Rattle.store_model.proofs.Durable.Uses.{sum_within}

-- ---- the catalog after a sweep

module _ (taken : TakenSessions) (D : DurableState) (C : Catalog) (a : Agrees taken D C) (sound : Sound C) (R : Catalog) (b : Agrees empty D R) where
  -- a blob that a sweep keeps is linked
  still_linked : (d : Text) (x : Resident) → get (kept R) d ≡ Some x → (is_orphan R d ≡ false) × (get R.residents d ≡ Some x)
  still_linked d x found = by (is_orphan R d) refl
    where
      at : get (kept R) d ≡ cond (not (is_orphan R d)) (get R.residents d) None
      at = get-retain_keys R.residents (λ q. not (is_orphan R q)) d (λ y tie. ap (λ (q : Text). not (is_orphan R q)) (sym (exact_bytes d y tie)))

      by : (o : Bool) → is_orphan R d ≡ o → (is_orphan R d ≡ false) × (get R.residents d ≡ Some x)
      by false is = (is, sym (at ∙ ap (λ o. cond (not o) (get R.residents d) None) is) ∙ found)
      by true is = nothing (at ∙ ap (λ o. cond (not o) (get R.residents d) None) is) found

  -- it is stored in the original catalog with the same bytes
  same_blob : (d : Text) (x : Resident) → get (kept R) d ≡ Some x → (y : Resident) × (get C.residents d ≡ Some y) × (x.bytes ≡ y.bytes)
  same_blob d x found =
      let here = still_linked d x found in
      let some : list_any (λ r. holds R r d) (set.items R.repos) ≡ true = list_any_count (λ r. holds R r d) (set.items R.repos) ∙ lt-ltb 0 (link_count R d) (counted here.0) in
      let w = witness (λ r. holds R r d) (set.items R.repos) some in
      let there = b.contents (w.0, d) w.1 in
      let was = a.contents (w.0, d) (ap (λ l. set.contains l (w.0, d)) (sym a.links ∙ b.links) ∙ w.1) in
      (was.0, was.1, ap (λ (z : Resident). z.bytes) (some_same (sym here.1 ∙ there.1)) ∙ some_same (sym there.2 ∙ was.2))
    where
      counted : is_orphan R d ≡ false → 0 < link_count R d
      counted linked = let some = eqb-false (link_count R d) 0 linked in omega (arith, some)

  -- if the swept catalog lacks a blob, it has at most as many blobs as the original one without it
  fewer : (digest : Text) → get (kept R) digest ≡ None → len (kept R) ≤ len (remove C.residents digest)
  fewer digest none =
      let less = sum_within nat_list_cmp_total exact_bytes (λ (_ : Text × Resident). 1) (λ (_ : Text × Resident). 1) (kept R) (remove C.residents digest) (λ d. by d (get (kept R) d) refl) in
      let one : len (kept R) ≡ sum_by (λ _. 1) (entries (kept R)) = len-entries (kept R) ∙ sym (sum_by-ones (entries (kept R))) in
      let two : len (remove C.residents digest) ≡ sum_by (λ _. 1) (entries (remove C.residents digest)) = len-entries (remove C.residents digest) ∙ sym (sum_by-ones (entries (remove C.residents digest))) in
      omega arith
    where
      by : (d : Text) (o : Option Resident) → get (kept R) d ≡ o → term (λ (_ : Text × Resident). 1) d o ≤ term (λ (_ : Text × Resident). 1) d (get (remove C.residents digest) d)
      by d None found = omega arith
      by d (Some x) found =
          let was = same_blob d x found in
          let other : d ≢ digest = (λ e. nothing none (ap (get (kept R)) (sym e) ∙ found)) in
          let there : get (remove C.residents digest) d ≡ Some was.0 = get-remove_other nat_list_cmp_total exact_bytes C.residents digest d other ∙ was.1 in
          subst (λ o. 1 ≤ term (λ (_ : Text × Resident). 1) d o) (sym there) (omega arith)

  module _ (slots_are : R.slots ≡ C.slots) (none_retired : R.retired ≡ 0) (digest : Text) where
    -- if a blob has or finds a slot, there is a slot in addition to those of the others
    left_over : is_full_for C digest ≡ false → len (remove C.residents digest) < C.slots
    left_over free = by (contains_key C.residents digest) refl free
      where
        by : (x : Bool) → contains_key C.residents digest ≡ x → (not x && nat_le C.slots (len C.residents + C.retired)) ≡ false → len (remove C.residents digest) < C.slots
        by true is free =
            let less : len (remove C.residents digest) ≡ len C.residents - 1 = len-remove nat_list_cmp_total C.residents digest ∙ ap (λ x. cond x (len C.residents - 1) (len C.residents)) is in
            let fit = sound.slots.fit in
            let some = sound.slots.some in
            omega arith
        by false is free =
            let same : len (remove C.residents digest) ≡ len C.residents = len-remove nat_list_cmp_total C.residents digest ∙ ap (λ x. cond x (len C.residents - 1) (len C.residents)) is in
            let more = leb-false C.slots (len C.residents + C.retired) free in
            omega arith

    slot_remains : is_full_for C digest ≡ false → has_slot (after R) digest ≡ Ok tt
    slot_remains free = ap (λ x. refuse x StoreFull) (by (get (kept R) digest) refl)
      where
        by : (o : Option Resident) → get (kept R) digest ≡ o → is_full_for (after R) digest ≡ false
        by (Some x) found = rw found refl
        by None found =
            let less = fewer digest found in
            let left = left_over free in
            rw found (lt-leb R.slots (len (kept R) + (R.retired + 0)) (omega arith))

    bytes_remain : R.contents ≡ C.contents → (whole : Text) → fits_stored C.contents (get C.residents digest) whole ≡ true → fits_stored R.contents (get (kept R) digest) whole ≡ true
    bytes_remain rules whole same = by (get (kept R) digest) refl
      where
        by : (o : Option Resident) → get (kept R) digest ≡ o → fits_stored R.contents o whole ≡ true
        by None found = refl
        by (Some x) found =
            let was = same_blob digest x found in
            ap (λ r. fits_stored r (Some x) whole) rules ∙ ap (λ (y : Text). if C.contents.on_disk then length y == length whole else same_text y whole) was.2 ∙ ap (λ o. fits_stored C.contents o whole) (sym was.1) ∙ same

-- ---- each change has room after a sweep

module _ (taken : TakenSessions) (D : DurableState) (s : State) (a : Agrees taken D s.catalog) (sound : Sound s.catalog) (R : Catalog) (b : Agrees empty D R) (slots_are : R.slots ≡ s.catalog.slots) (none_retired : R.retired ≡ 0) (rules : R.contents ≡ s.catalog.contents) where
  abbrev C : Catalog
  C = s.catalog

  -- a seal of a session with these chunks has room
  sealed_room : (key : SessionNumber) (repo : Text) (chunks : List Text) (d last : Text) → get D.sessions key ≡ Some (record { repo = repo; chunks = CheckedIn chunks }) → has_slot C d ≡ Ok tt → fits_stored C.contents (get C.residents d) (concat chunks ++ last) ≡ true →
      HasRoomFor D (after R) (SessionSealed key d last)
  sealed_room key repo chunks d last found free same =
      let whole : content_in D.sessions key last ≡ concat chunks ++ last = ap (λ o. concat (option_map_or (λ x. at_home x.chunks) o []) ++ last) found in
      (slot_remains taken D C a sound R b slots_are none_retired d (not_refused _ _ _ free), bytes_remain taken D C a sound R b slots_are none_retired d rules (content_in D.sessions key last) (ap (fits_stored C.contents (get C.residents d)) whole ∙ same))

  close_room : (r : Text) (n : ℕ) (d : Text) (g : Option ByteRange) (bytes : Text) (m : ℕ) (X : Catalog) → close C r n d g bytes ≡ Ok (m, X) → HasRoomFor D (after R) (SessionSealed (session_key D.tenants r n) d bytes)
  close_room r n d g bytes m X is =
      let t = bound_ok (tenant C r) _ (m, X) is in
      let c = bound_ok (chunk_length_check C t.0 r n g (length bytes)) _ (m, X) t.2 in
      let q = bound_ok (check_quota C t.0 (length bytes)) _ (m, X) c.2 in
      let e = bound_ok (refuse (not (is_digest_accepted C d (content_in C.sessions (t.0, n) bytes))) DigestInvalid) _ (m, X) q.2 in
      let share = bound_ok (check_share C t.0 d) _ (m, X) e.2 in
      let f = bound_ok (has_slot C d) _ (m, X) share.2 in
      let known = some_of_ok (tenant_of C.tenants r) NameUnknown t.0 t.1 in
      let k = checked_home C t.0 n r g (length bytes) c.0 c.1 in
      let kept_is = durable_checked_in taken D C a t.0 n r (length bytes) k in
      let same = (and_parts (is_named C.contents d (content_in C.sessions (t.0, n) bytes)) (fits_stored C.contents (get C.residents d) (content_in C.sessions (t.0, n) bytes)) (not-false _ (not_refused _ _ _ e.1))).1 in
      let whole : content_in C.sessions (t.0, n) bytes ≡ concat k.chunks ++ bytes = ap (λ o. concat (option_map_or (λ x. at_home x.chunks) o []) ++ bytes) k.found ∙ ap (λ x. concat (at_home x) ++ bytes) k.home in
      named t.0 known (sealed_room (t.0, n) k.s.repo k.chunks d bytes kept_is.0 f.1 (ap (fits_stored C.contents (get C.residents d)) (sym whole) ∙ same))
    where
      named : (t : ℕ) → tenant_of C.tenants r ≡ Some t → HasRoomFor D (after R) (SessionSealed (t, n) d bytes) → HasRoomFor D (after R) (SessionSealed (session_key D.tenants r n) d bytes)
      named t known room = subst (λ key. HasRoomFor D (after R) (SessionSealed key d bytes)) (sym (ap (λ o. (option_map_or (λ x. x) o 0, n)) (ap (λ ts. tenant_of ts r) a.tenants ∙ known))) room

  finish_room : (h : HandRecord) → get taken h.key ≡ Some (h.repo, h.chunks) → (d : Text) (n : ℕ) (X : Catalog) → finish C h d ≡ Ok (n, X) → HasRoomFor D (after R) (SessionSealed h.key d (filled_chunk h))
  finish_room h returned d n X is =
      let c = bound_ok (session_of_hand (get C.sessions h.key) h) _ (n, X) is in
      let e = bound_ok (refuse (not (is_digest_accepted C d (hand_content h))) DigestInvalid) _ (n, X) c.2 in
      let share = bound_ok (check_share C h.key.0 d) _ (n, X) e.2 in
      let f = bound_ok (has_slot C d) _ (n, X) share.2 in
      let kept_is = durable_hand taken D C a h returned c.0 c.1 in
      let same = (and_parts (is_named C.contents d (hand_content h)) (fits_stored C.contents (get C.residents d) (hand_content h)) (not-false _ (not_refused _ _ _ e.1))).1 in
      sealed_room h.key c.0.repo h.chunks d (filled_chunk h) kept_is.1 f.1 same

  -- every other change has room
  chunk_room : (key : SessionNumber) (bytes : Text) (change : Change) → chunk_change key bytes ≡ Some change → HasRoomFor D (after R) change
  chunk_room key [] change is = some_none (sym is)
  chunk_room key (x ∷ bytes) change is = subst (λ y. HasRoomFor D (after R) y) (some_same is) tt

  mount_room : (r d : Text) (m : Mount) → HasRoomFor D (after R) (mount_change D.tenants r d m)
  mount_room r d mounting.Mounted = tt
  mount_room r d (mounting.Session n) = tt

  command_room : (command : Command) (x : Answer) (X : Catalog) → outcome false C command ≡ Ok (x, X) → (change : Change) → command_change D.tenants command x ≡ Some change → HasRoomFor D (after R) change
  command_room (runs.Start r) x X is change records =
      let h = answered_ok runs.Number (start C r) x X is in
      subst (λ y. command_change D.tenants (runs.Start r) y ≡ Some change → HasRoomFor D (after R) change) h.2 (λ e. subst (λ y. HasRoomFor D (after R) y) (some_same e) tt) records
  command_room (runs.Status r n) x X is change records = some_none (sym records)
  command_room (runs.Append r n g bytes) x X is change records = chunk_room (session_key D.tenants r n) bytes change records
  command_room (runs.Close r n d g bytes) x X is change records =
      let h = answered_ok runs.Number (close C r n d g bytes) x X is in
      subst (λ y. HasRoomFor D (after R) y) (some_same records) (close_room r n d g bytes h.0 X h.1)
  command_room (runs.Abandon r n) x X is change records = subst (λ y. HasRoomFor D (after R) y) (some_same records) tt
  command_room (runs.Mount r d from) x X is change records =
      let h = answered_ok runs.Mounting (mount C r d from) x X is in
      subst (λ y. command_change D.tenants (runs.Mount r d from) y ≡ Some change → HasRoomFor D (after R) change) h.2 (λ e. subst (λ y. HasRoomFor D (after R) y) (some_same e) (mount_room r d h.0)) records
  command_room (runs.Delete r d) x X is change records = subst (λ y. HasRoomFor D (after R) y) (some_same records) tt
  command_room (runs.PutManifest r bytes) x X is change records = subst (λ y. HasRoomFor D (after R) y) (some_same records) tt
  command_room (runs.GetManifest r m) x X is change records = some_none (sym records)
  command_room (runs.DeleteManifest r m) x X is change records = subst (λ y. HasRoomFor D (after R) y) (some_same records) tt
  command_room (runs.RemoveRepo r) x X is change records = subst (λ y. HasRoomFor D (after R) y) (some_same records) tt
  command_room (runs.Lease r d) x X is change records = some_none (sym records)

  step_room : (step : Step) (X : Catalog) → MayLeadTo s step X → IsReturnedAsTaken taken step → (change : Change) → change_of D.tenants step ≡ Some change → HasRoomFor D (after R) change
  step_room (CommandCall command (Ok x)) X leaves returned change records = command_room command x X leaves change records
  step_room (PutBackCall h (Ok n)) X leaves returned change records = chunk_room h.key (filled_chunk h) change records
  step_room (FinishCall h d (Ok n)) X leaves returned change records = subst (λ y. HasRoomFor D (after R) y) (some_same records) (finish_room h returned d n X leaves)
  step_room (CommandCall command (Err e)) X leaves returned change records = some_none (sym records)
  step_room (SweepCall counts) X leaves returned change records = some_none (sym records)
  step_room (SweepPartCall counts) X leaves returned change records = some_none (sym records)
  step_room (TakeCall r n g len reply) X leaves returned change records = some_none (sym records)
  step_room (PutBackCall h (Err e)) X leaves returned change records = some_none (sym records)
  step_room (FinishCall h d (Err e)) X leaves returned change records = some_none (sym records)

-- ---- a whole log

-- a store that replays the log of another one: it agrees with the durable state, and has the same settings and no retired slot
record IsAlike (D : DurableState) (C R : Catalog) : Type 0 where
  agrees : Agrees empty D R
  sound : Sound R
  slots : R.slots ≡ C.slots
  limit : R.contents ≡ C.contents
  retired : R.retired ≡ 0

-- the replay of a log: a sweep, the command of the first change, and the replay of the rest
first_replayed : (D : DurableState) (R : Catalog) (change : Change) (changes : List Change) → (one : HasReplay D (after R) change) → HasLogReplay (after_change D change) one.catalog changes → HasLogReplay D R (change ∷ changes)
first_replayed D R change changes one rest = record {
  events = SweepEvent (swept R) ∷ CommandEvent one.command (Ok one.answer) ∷ rest.events;
  catalog = rest.catalog;
  run = (after R, some_sweep R, (one.catalog, one.accepted, rest.run));
  asks = (λ i. one.command ∷ rest.asks i) ∙ ap (λ o. cons_option o (replay_commands (after_change D change) changes)) (sym one.names);
  accepts = (refl, rest.accepts);
  agrees = rest.agrees;
  sound = rest.sound;
}

steps_replayed : (tenants : List Tenant) (steps : List Step) (taken : TakenSessions) (D : DurableState) (s s' : State) → Agrees taken D s.catalog → D.tenants ≡ tenants → Sound s.catalog → AreSteps s steps s' → AreReturnedAsTaken taken steps → AllByRecursion IsWellFormedStep steps →
    (R : Catalog) → IsAlike D s.catalog R → HasLogReplay D R (changes_of tenants steps)
steps_replayed tenants [] taken D s s' a known sound run returned right R alike = record { events = []; catalog = R; run = refl; asks = refl; accepts = tt; agrees = alike.agrees; sound = alike.sound }
steps_replayed tenants (step ∷ steps) taken D s s' a known sound run returned right R alike =
    by (change_of tenants step) refl (steps_replayed tenants steps (taken_after_step taken step) (after_record D (change_of tenants step)) mid s' moved (after_record_tenants D (change_of tenants step) ∙ known) there run.2 returned.1 right.1)
  where
    mid : State
    mid = run.0

    moved : Agrees (taken_after_step taken step) (after_record D (change_of tenants step)) mid.catalog
    moved = subst (λ ts. Agrees (taken_after_step taken step) (after_record D (change_of ts step)) mid.catalog) (sym a.tenants ∙ known) (step_agrees taken D s step mid.catalog a run.1.leaves returned.0)

    there : Sound mid.catalog
    there = step_sound taken D s step mid.catalog a run.1.leaves returned.0 right.0 sound

    setting : SameSetting s.catalog mid.catalog
    setting = step_setting s step mid.catalog run.1.leaves

    by : (o : Option Change) → change_of tenants step ≡ o → ((R' : Catalog) → IsAlike (after_record D (change_of tenants step)) mid.catalog R' → HasLogReplay (after_record D (change_of tenants step)) R' (changes_of tenants steps)) →
        HasLogReplay D R (cons_option (change_of tenants step) (changes_of tenants steps))
    by None is rest =
        subst (λ o. HasLogReplay D R (cons_option o (changes_of tenants steps))) (sym is)
        (subst (λ o. ((R' : Catalog) → IsAlike (after_record D o) mid.catalog R' → HasLogReplay (after_record D o) R' (changes_of tenants steps))) is rest R
        (record { agrees = alike.agrees; sound = alike.sound; slots = alike.slots ∙ sym setting.0; limit = alike.limit ∙ sym setting.1; retired = alike.retired }))
    by (Some change) is rest =
        let records : change_of D.tenants step ≡ Some change = ap (λ ts. change_of ts step) known ∙ is in
        let clean : Agrees empty D (after R) = sweeps (λ _. true) empty D R (after R) (swept R) alike.agrees (some_sweep R) in
        let clean_sound : Sound (after R) = Sound-sweep (λ _. true) R (after R) (swept R) (some_sweep R) alike.sound.lawful alike.sound.quotas alike.sound.shares alike.sound.slots in
        let free = step_room taken D s a sound R alike.agrees alike.slots alike.retired alike.limit step mid.catalog run.1.leaves returned.0 change records in
        let one : HasReplay D (after R) change = changes_have_replays taken D s step mid.catalog change
        (record { agrees = a; sound = sound; leaves = run.1.leaves; returned = returned.0; well_formed = right.0; records = records }) (after R) clean clean_sound alike.limit free in
        let same = left_ok (SameSlots (after R)) (outcome false (after R) one.command) one.answer one.catalog (command_setting (after R) one.command) one.accepted in
        let none : R.retired ≡ 0 = alike.retired in
        let retired_is : one.catalog.retired ≡ R.retired + 0 = same.2 in
        subst (λ o. HasLogReplay D R (cons_option o (changes_of tenants steps))) (sym is)
        (first_replayed D R change (changes_of tenants steps) one
        (subst (λ o. ((R' : Catalog) → IsAlike (after_record D o) mid.catalog R' → HasLogReplay (after_record D o) R' (changes_of tenants steps))) is rest one.catalog
        (record { agrees = one.agrees; sound = one.sound; slots = same.0 ∙ alike.slots ∙ sym setting.0; limit = same.1 ∙ alike.limit ∙ sym setting.1; retired = omega arith })))

pub logs_have_replays : LogsHaveReplays
logs_have_replays tenants slots contents steps s sound run returned right =
    steps_replayed tenants steps empty (initial_durable tenants) (initial_state (opening tenants slots contents)) s (new_stores_agree tenants slots contents) refl sound run returned right (opening tenants slots contents)
    (record { agrees = new_stores_agree tenants slots contents; sound = sound; slots = refl; limit = refl; retired = refl })
