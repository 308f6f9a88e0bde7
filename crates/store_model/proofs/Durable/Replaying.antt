-- The change of a step has a replay in every store that agrees with the durable state and has room.
use Rattle.std.proofs.Common.{◌≡◌, ◌≢◌, ℕ, ◌+◌, ◌≤◌, Bool, true, false, not, List, [], ◌∷◌, ◌++◌, length, Option, Some, None, Ok, Err, refl, sym, ap, ◌∙◌, subst, arith}
use Rattle.std.specs.Prelude.{◌||◌, ◌^◌, nat_le, nat_lt, slice_get, IfSome, if◌then◌else◌}
use Rattle.std.specs.Option.{ok_or, option_map, option_map_or}
use Rattle.std.specs.List.{AllByRecursion, concat, sum_by}
use Rattle.std.specs.FinMap.{FinMap, empty, get, remove}
use Rattle.std.proofs.lemmas.Bool.{and_from, and_parts, le-ltb, leb-false, leb-true, not-false, or_parts}
use Rattle.blob_digest.specs.declared.range.ByteRange.{ByteRange}
use Rattle.blob_digest.specs.declared.refusal.Refusal.TheVariants.{DigestInvalid, LimitReached, ManifestInvalid, NameUnknown, RepoInUse, SizeInvalid}
use Rattle.blob_digest.specs.Digests.{sha256_text}
use Rattle.blob_digest.proofs.KeyOrders.{number_cmp_total, exact_number}
use Rattle.oci_manifest.specs.Manifests.{max_manifest, refs_of}
use Rattle.spec_lib.specs.Outcomes.{refuse}
use Rattle.spec_lib.specs.Sets as set
use Rattle.spec_lib.specs.Texts.{Text, text_cmp}
use Rattle.spec_lib.proofs.Maps.{get-insert_at}
use Rattle.spec_lib.proofs.Options.{some_none, some_same}
use Rattle.spec_lib.proofs.Outcomes.{bound_ok, not_refused, some_of_ok}
use Rattle.spec_lib.proofs.Texts.{same_itself}
use Rattle.store_model.specs.Catalog.{Catalog, CheckedIn, HandRecord, Resident, Session, SessionNumber, charged_length, next_number_of, open_sessions, quota_of, received_length, tenant_holds, tenant_of, used_bytes, limits_of, ContentRules}
use Rattle.store_model.specs.Commands
use Rattle.store_model.specs.Commands.{check_share, add_manifest, after_append_in, append, cannot_open, check_all_links, check_link, check_no_referrer, check_quota, check_repo, chunk_length_check, close, content_in, delete, finish, has_links, has_manifest, has_manifests, fits_stored, has_sessions, has_slot, has_source, is_digest_accepted, is_full_of_manifests, is_in_use, lacks_room_for, manifest, mounted_outcome, not_busy, put_back, put_back_outcome_in, referrer, session, session_in, session_of_hand, start, started_outcome, tenant, with_link, with_manifest, with_new_session, with_stored_blob, without_repo, without_session, is_named}
use Rattle.store_model.specs.Durable.{Agrees, BlobLinked, BlobUnlinked, Change, DurableState, IsReturnedAsTaken, ManifestDeleted, ManifestPut, RepoRemoved, SessionDropped, SessionOpened, SessionSealed, TakenSessions, change_of, chunk_change, command_change, filled_chunk, mount_change, session_key}
use Rattle.store_model.specs.Histories.{CommandCall, FinishCall, MayLeadTo, PutBackCall, State, Step, SweepCall, SweepPartCall, TakeCall}
use Rattle.store_model.specs.Invariant.{Sound}
use Rattle.store_model.specs.Recovery.{IsWellFormedStep}
use Rattle.store_model.specs.Replaying.{ChangesHaveReplays, HasReplay, HasRoomFor, replay_command}
use Rattle.store_model.specs.Runs as runs
use Rattle.store_model.specs.Runs.{Answer, Command, map_outcome, outcome, repo_of}
use Rattle.store_model.specs.Sessions.{at_home, chunks_of, hand_content, length_after, with_chunk, with_chunks}
use Rattle.store_model.specs.declared.mount.Mount.{Mount}
use Rattle.store_model.specs.declared.mount.Mount.TheVariants as mounting
use Rattle.store_model.proofs.Commands.Accepted.{answer_by, session_found}
use Rattle.store_model.proofs.Commands.Mount.{source_of}
use Rattle.store_model.proofs.Invariant.Links.{is_held}
use Rattle.store_model.proofs.Commands.Hands.{checked_home, received_length-with_chunk}
use Rattle.store_model.proofs.Commands.Runs.{Sound-case}
use Rattle.store_model.proofs.Durable.Agreement.{Agrees-receive as comes_home, after_record, durable_session}
use Rattle.store_model.proofs.Durable.Commands.{answered_ok, command_agrees, durable_checked_in}
use Rattle.store_model.proofs.Durable.Histories.{after_record_tenants, durable_hand, puts_back}
use Rattle.store_model.proofs.Durable.Crashes.{sound_put_back, step_setting}
use Rattle.store_model.proofs.Durable.Uses.{as_was, as_was_is, open_less, sessions_are, used_within, was_open}
use Rattle.store_model.proofs.Invariant.Chunks.{used_bytes-chunks}
use Rattle.store_model.proofs.Invariant.Unused.{no_session, no_sessions}
use Rattle.store_model.proofs.Invariant.SessionTenants.{session_owner, session_tenant}

-- ---- commands of a store that agrees with the durable state

module _ (D : DurableState) (R : Catalog) (b : Agrees empty D R) (sound : Sound R) where
  -- a command that is accepted and records the change is its replay
  done : (change : Change) (command : Command) (x : Answer) (left : Catalog) → replay_command D change ≡ Some command → outcome false R command ≡ Ok (x, left) → command_change D.tenants command x ≡ Some change →
      length (repo_of command) ≤ 255 → HasReplay D R change
  done change command x left names accepted records short = record {
    command = command;
    answer = x;
    catalog = left;
    names = names;
    accepted = accepted;
    records = records;
    agrees = subst (λ o. Agrees empty (after_record D o) left) (ap (λ ts. command_change ts command x) (sym b.tenants) ∙ records) (command_agrees empty D R b command x left accepted);
    sound = Sound-case R left command (Ok x) short accepted sound;
  }

  -- ---- sessions

  module _ (key : SessionNumber) (repo : Text) (chunks : List Text) (found : get D.sessions key ≡ Some (record { repo = repo; chunks = CheckedIn chunks })) where
    abbrev s : Session
    s = record { repo = repo; chunks = CheckedIn chunks }

    here : get R.sessions key ≡ Some s
    here = ap (λ m. get m key) (sessions_are empty D R b R b) ∙ found

    owner : tenant_of R.tenants repo ≡ Some key.0
    owner = session_owner R sound.lawful key s here

    known : tenant_of D.tenants repo ≡ Some key.0
    known = ap (λ ts. tenant_of ts repo) b.tenants ∙ owner

    key_is : session_key D.tenants repo key.1 ≡ key
    key_is = ap (λ o. (option_map_or (λ t. t) o 0, key.1)) known

    short : length repo ≤ 255
    short = sound.lawful.repositories.short_names repo (b.uploaded_to key s here)

    tenant_ok : tenant R repo ≡ Ok key.0
    tenant_ok = ap (λ o. ok_or o NameUnknown) owner

    session_ok : session_in (get R.sessions key) repo ≡ Ok s
    session_ok = rw here (rw (same_itself repo) refl)

    dropped : HasReplay D R (SessionDropped key)
    dropped = done (SessionDropped key) (runs.Abandon repo key.1) (runs.Number (received_length s)) (without_session R key.0 key.1) (ap (option_map (λ x. runs.Abandon x.repo key.1)) found)
        (ap (map_outcome runs.Number) accepted) (ap (λ k. Some (SessionDropped k)) key_is) short
      where
        accepted : Commands.abandon R repo key.1 ≡ Ok (received_length s, without_session R key.0 key.1)
        accepted = rw (tenant_ok, session_ok) refl

    chunk_names : (bytes : Text) (change : Change) → chunk_change key bytes ≡ Some change → replay_command D change ≡ Some (runs.Append repo key.1 None bytes)
    chunk_names [] change is = some_none (sym is)
    chunk_names (x ∷ bytes) change is = subst (λ c. replay_command D c ≡ Some (runs.Append repo key.1 None (x ∷ bytes))) (some_same is) (ap (option_map (λ y. runs.Append y.repo key.1 None (x ∷ bytes))) found)

    -- a chunk with which the durable state agrees with a sound catalog is within its limit on blobs, and within the quota
    room : (taken : TakenSessions) (X : Catalog) (bytes : Text) → AllByRecursion (λ c. c ≢ []) chunks → Agrees taken (after_record D (chunk_change key bytes)) X → Sound X →
        (sum_by length chunks + length bytes ≤ X.contents.max_blob) × (used_bytes R key.0 + length bytes ≤ quota_of R key.0)
    room taken X bytes pieces a sound_there =
        let small = (sound_there.lawful.sessions key was.0 was.2).small in
        let more : charged_length longer ≤ charged_length was.0 = was.5 in
        let long = received_length-with_chunk chunks bytes in
        let keeps = sound_there.quotas key.0 (session_tenant X sound_there.lawful key was.0 was.2) in
        let less : used_bytes grown key.0 ≤ used_bytes X key.0 = used_within taken E X a grown agrees key.0 in
        let change : used_bytes grown key.0 + charged_length s ≡ used_bytes R key.0 + charged_length longer = used_bytes-chunks R key s (CheckedIn (with_chunk chunks bytes)) here in
        let same : quota_of X key.0 ≡ quota_of R key.0 = ap (λ ts. option_map_or (λ x. x.quota) (slice_get ts key.0) 0) (sym a.tenants ∙ after_record_tenants D (chunk_change key bytes) ∙ b.tenants) in
        let counts : charged_length s ≡ sum_by length chunks = omega arith in
        let counts_more : charged_length longer ≡ sum_by length (with_chunk chunks bytes) = omega arith in
        (omega arith, omega arith)
      where
        longer : Session
        longer = record { repo = repo; chunks = CheckedIn (with_chunk chunks bytes) }

        E : DurableState
        E = after_record D (chunk_change key bytes)

        -- the store in which the change is made again, after it
        grown : Catalog
        grown = record R { sessions = with_chunks R.sessions key s (CheckedIn (with_chunk chunks bytes)) }

        agrees : Agrees empty E grown
        agrees = comes_home empty D R b key s chunks bytes here found pieces

        at : get E.sessions key ≡ Some longer
        at = ap (λ m. get m key) (sym (sessions_are empty E grown agrees grown agrees)) ∙ get-insert_at number_cmp_total exact_number R.sessions key longer

        was : (x : Session) × (chunks : List Text) × (get X.sessions key ≡ Some x) × (longer ≡ record { repo = x.repo; chunks = CheckedIn chunks }) × AllByRecursion (λ c. c ≢ []) chunks × (charged_length longer ≤ charged_length x)
        was = was_open taken E X a key longer at

    -- ---- commands with a chunk that has room

    module _ (bytes : Text) (fits : sum_by length chunks + length bytes ≤ R.contents.max_blob) (within : used_bytes R key.0 + length bytes ≤ quota_of R key.0) where
      length_ok : length_after R.contents.max_blob (received_length s) None (length bytes) ≡ Ok (received_length s + length bytes)
      length_ok = rw (le-ltb R.contents.max_blob (received_length s + length bytes) fits) refl

      check_ok : chunk_length_check R key.0 repo key.1 None (length bytes) ≡ Ok (received_length s + length bytes)
      check_ok = rw session_ok length_ok

      quota_ok : check_quota R key.0 (length bytes) ≡ Ok tt
      quota_ok = rw (le-ltb (quota_of R key.0) (used_bytes R key.0 + length bytes) within) refl

      append_ok : append R repo key.1 None bytes ≡ Ok (received_length s + length bytes, record R { sessions = after_append_in R.sessions key bytes })
      append_ok = rw (tenant_ok, check_ok, quota_ok) refl

      chunk_replayed : (change : Change) → chunk_change key bytes ≡ Some change → HasReplay D R change
      chunk_replayed change is = done change (runs.Append repo key.1 None bytes) (runs.Number (received_length s + length bytes)) (record R { sessions = after_append_in R.sessions key bytes }) (chunk_names bytes change is)
          (ap (map_outcome runs.Number) append_ok) (ap (λ k. chunk_change k bytes) key_is ∙ is) short

      seal_replayed : (digest : Text) → is_named R.contents digest (content_in D.sessions key bytes) ≡ true → check_share R key.0 digest ≡ Ok tt → HasRoomFor D R (SessionSealed key digest bytes) → HasReplay D R (SessionSealed key digest bytes)
      seal_replayed digest named admits room = done (SessionSealed key digest bytes) (runs.Close repo key.1 digest None bytes) (runs.Number (length whole)) (with_stored_blob R key.0 repo key.1 digest whole)
          (ap (option_map (λ x. runs.Close x.repo key.1 digest None bytes)) found) (ap (map_outcome runs.Number) accepted) (ap (λ k. Some (SessionSealed k digest bytes)) key_is) short
        where
          whole : Text
          whole = content_in R.sessions key bytes

          same : content_in D.sessions key bytes ≡ whole
          same = ap (λ m. content_in m key bytes) (sym (sessions_are empty D R b R b))

          digest_ok : is_digest_accepted R digest whole ≡ true
          digest_ok = and_from (is_named R.contents digest whole) (fits_stored R.contents (get R.residents digest) whole) (ap (is_named R.contents digest) (sym same) ∙ named) (ap (fits_stored R.contents (get R.residents digest)) (sym same) ∙ room.1)

          accepted : close R repo key.1 digest None bytes ≡ Ok (length whole, with_stored_blob R key.0 repo key.1 digest whole)
          accepted = rw (tenant_ok, check_ok, quota_ok, digest_ok, admits, room.0) refl

    -- ---- a chunk that is accepted in one store is accepted in the other

    module _ (taken : TakenSessions) (X : Catalog) (bytes : Text) (pieces : AllByRecursion (λ c. c ≢ []) chunks) (a : Agrees taken (after_record D (chunk_change key bytes)) X) (sound_there : Sound X) (limit : X.contents ≡ R.contents) where
      has_room : (sum_by length chunks + length bytes ≤ R.contents.max_blob) × (used_bytes R key.0 + length bytes ≤ quota_of R key.0)
      has_room = let r = room taken X bytes pieces a sound_there in (subst (λ (k : ContentRules). sum_by length chunks + length bytes ≤ k.max_blob) limit r.0, r.1)

      pub chunk_accepted : (change : Change) → chunk_change key bytes ≡ Some change → HasReplay D R change
      chunk_accepted change is = chunk_replayed bytes has_room.0 has_room.1 change is

      pub seal_accepted : (digest : Text) → is_named R.contents digest (concat chunks ++ bytes) ≡ true → check_share R key.0 digest ≡ Ok tt → HasRoomFor D R (SessionSealed key digest bytes) → HasReplay D R (SessionSealed key digest bytes)
      seal_accepted digest named admits free = seal_replayed bytes has_room.0 has_room.1 digest (ap (λ o. is_named R.contents digest (concat (option_map_or (λ x. at_home x.chunks) o []) ++ bytes)) found ∙ named) admits free

-- ---- repositories, links and manifests

few : (k n m : ℕ) → m ≤ n → nat_le k n ≡ false → nat_le k m ≡ false
few k n m less is = by (nat_le k m) refl
  where
    by : (b : Bool) → nat_le k m ≡ b → b ≡ false
    by false e = refl
    by true e = absurd (let more = leb-true k m e in let small = leb-false k n is in omega arith)

module _ (taken : TakenSessions) (D : DurableState) (C : Catalog) (a : Agrees taken D C) (slots : ℕ) (contents : ContentRules) (retired : ℕ) (residents : FinMap text_cmp Resident) where
  -- the store in which the change is made again
  abbrev target : Catalog
  target = record C { slots = slots; contents = contents; sessions = D.sessions; residents = residents; retired = retired }

  module _ (b : Agrees empty D target) (sound : Sound target) where
    replayed : (change : Change) (command : Command) (x : Answer) (left : Catalog) → replay_command D change ≡ Some command → outcome false target command ≡ Ok (x, left) → command_change D.tenants command x ≡ Some change →
        length (repo_of command) ≤ 255 → HasReplay D target change
    replayed = done D target b sound

    start_replayed : (r : Text) (t : ℕ) → tenant C r ≡ Ok t → lacks_room_for C t r ≡ false → cannot_open C t ≡ false → length r ≤ 255 → HasReplay D target (SessionOpened r (session_key D.tenants r (next_number_of C t)))
    start_replayed r t known room_ok opens short_name =
        replayed (SessionOpened r (session_key D.tenants r (next_number_of C t))) (runs.Start r) (runs.Number (next_number_of C t)) (with_new_session target t r) refl (ap (map_outcome runs.Number) accepted) refl short_name
      where
        tenant_is : tenant target r ≡ Ok t
        tenant_is = known

        room_is : lacks_room_for target t r ≡ false
        room_is = room_ok

        opens_is : cannot_open target t ≡ false
        opens_is =
            let both = or_parts (nat_le (limits_of C t).sessions (open_sessions C t)) (nat_le (2 ^ 32) (next_number_of C t)) opens in
            rw (few (limits_of C t).sessions (open_sessions C t) (open_sessions target t) (open_less taken D C a t) both.0, both.1) refl

        accepted : start target r ≡ Ok (next_number_of C t, with_new_session target t r)
        accepted = rw (tenant_is, room_is, opens_is) refl

    starts : (r : Text) (n : ℕ) (X : Catalog) → start C r ≡ Ok (n, X) → length r ≤ 255 → HasReplay D target (SessionOpened r (session_key D.tenants r n))
    starts r n X is short_name =
        let t = bound_ok (tenant C r) _ (n, X) is in
        let c = bound_ok (refuse (lacks_room_for C t.0 r) LimitReached) _ (n, X) t.2 in
        let d = bound_ok (refuse (cannot_open C t.0) LimitReached) _ (n, X) c.2 in
        subst (λ m. HasReplay D target (SessionOpened r (session_key D.tenants r m))) (answer_by d.2) (start_replayed r t.0 t.1 (not_refused _ _ _ c.1) (not_refused _ _ _ d.1) short_name)

    mounts : (r d : Text) (t : ℕ) → tenant C r ≡ Ok t → tenant_holds C t d ≡ true → lacks_room_for C t r ≡ false → length r ≤ 255 → HasReplay D target (BlobLinked r d)
    mounts r d t known has room_ok short_name =
        replayed (BlobLinked r d) (runs.Mount r d None) (runs.Mounting mounting.Mounted) (with_link target r d) refl (ap (map_outcome runs.Mounting) accepted) refl short_name
      where
        tenant_is : tenant target r ≡ Ok t
        tenant_is = known

        has_is : has_source target t d None ≡ true
        has_is = has

        room_is : lacks_room_for target t r ≡ false
        room_is = room_ok

        accepted : Commands.mount target r d None ≡ Ok (mounting.Mounted, with_link target r d)
        accepted = rw (tenant_is, has_is, room_is) refl

    mounted : (r d : Text) (from : Option Text) (m : Mount) (X : Catalog) → Commands.mount C r d from ≡ Ok (m, X) → length r ≤ 255 → HasReplay D target (mount_change D.tenants r d m)
    mounted r d from m X is short_name =
        let t = bound_ok (tenant C r) _ (m, X) is in
        elim (has_source C t.0 d from) as (λ x. has_source C t.0 d from ≡ x → (if x then mounted_outcome C t.0 r d else started_outcome C r) ≡ Ok (m, X) → HasReplay D target (mount_change D.tenants r d m)) [
          | true ↦ λ has h.
              let c = bound_ok (refuse (lacks_room_for C t.0 r) LimitReached) _ (m, X) h in
              let source = source_of C t.0 d from has in
              let answer : mounting.Mounted ≡ m = answer_by c.2 in
              let held = is_held C t.0 source.0 d (a.linked_in (source.0, d) source.2) source.1 source.2 in
              subst (λ (y : Mount). HasReplay D target (mount_change D.tenants r d y)) answer (mounts r d t.0 t.1 held (not_refused _ _ _ c.1) short_name)
          | false ↦ λ has h.
              let c = bound_ok (start C r) _ (m, X) h in
              let answer : mounting.Session c.0.0 ≡ m = answer_by c.2 in
              subst (λ (y : Mount). HasReplay D target (mount_change D.tenants r d y)) answer (starts r c.0.0 c.0.1 c.1 short_name)
        ] refl t.2

    deletes : (r d : Text) (X : Catalog) → delete C r d ≡ Ok (tt, X) → length r ≤ 255 → HasReplay D target (BlobUnlinked r d)
    deletes r d X is short_name =
        let t = bound_ok (tenant C r) _ (tt, X) is in
        let c = bound_ok (check_link C r d) _ (tt, X) t.2 in
        let e = bound_ok (check_no_referrer (referrer C r d)) _ (tt, X) c.2 in
        let tenant_is : tenant target r ≡ Ok t.0 = t.1 in
        let linked_is : check_link target r d ≡ Ok tt = c.1 in
        let free_is : check_no_referrer (referrer target r d) ≡ Ok tt = e.1 in
        let accepted : delete target r d ≡ Ok (tt, record target { links = set.remove C.links (r, d) }) = rw (tenant_is, linked_is, free_is) refl in
        replayed (BlobUnlinked r d) (runs.Delete r d) runs.Done (record target { links = set.remove C.links (r, d) }) refl (ap (map_outcome (λ _. runs.Done)) accepted) refl short_name

    describes : (r bytes : Text) (x : Text) (X : Catalog) → Commands.put_manifest C r bytes ≡ Ok (x, X) → length r ≤ 255 → HasReplay D target (ManifestPut r bytes)
    describes r bytes x X is short_name =
        let t = bound_ok (tenant C r) _ (x, X) is in
        let c = bound_ok (refuse (nat_lt max_manifest (length bytes)) SizeInvalid) _ (x, X) t.2 in
        let e = bound_ok (ok_or (refs_of bytes) ManifestInvalid) _ (x, X) c.2 in
        let l = bound_ok (check_all_links C r e.0) _ (x, X) e.2 in
        by t.0 e.0 t.1 c.1 e.1 l.1 (has_manifest C r (sha256_text bytes)) refl l.2
      where
        by : (t : ℕ) (refs : List Text) → tenant C r ≡ Ok t → refuse (nat_lt max_manifest (length bytes)) SizeInvalid ≡ Ok tt → ok_or (refs_of bytes) ManifestInvalid ≡ Ok refs → check_all_links C r refs ≡ Ok tt →
            (y : Bool) → has_manifest C r (sha256_text bytes) ≡ y → (if y then Ok (sha256_text bytes, C) else add_manifest C t r bytes) ≡ Ok (x, X) → HasReplay D target (ManifestPut r bytes)
        by t refs known small read all true has h = replayed (ManifestPut r bytes) (runs.PutManifest r bytes) (runs.Bytes (sha256_text bytes)) target refl (ap (map_outcome runs.Bytes) accepted) refl short_name
          where
            tenant_is : tenant target r ≡ Ok t
            tenant_is = known

            all_is : check_all_links target r refs ≡ Ok tt
            all_is = all

            has_is : has_manifest target r (sha256_text bytes) ≡ true
            has_is = has

            accepted : Commands.put_manifest target r bytes ≡ Ok (sha256_text bytes, target)
            accepted = rw (tenant_is, small, read, all_is, has_is) refl
        by t refs known small read all false has h = replayed (ManifestPut r bytes) (runs.PutManifest r bytes) (runs.Bytes (sha256_text bytes)) (with_manifest target r bytes) refl (ap (map_outcome runs.Bytes) accepted) refl short_name
          where
            tenant_is : tenant target r ≡ Ok t
            tenant_is = known

            all_is : check_all_links target r refs ≡ Ok tt
            all_is = all

            has_is : has_manifest target r (sha256_text bytes) ≡ false
            has_is = has

            added : add_manifest target t r bytes ≡ Ok (sha256_text bytes, with_manifest target r bytes)
            added =
                let c = bound_ok (refuse (lacks_room_for C t r) LimitReached) _ (x, X) h in
                let d = bound_ok (refuse (is_full_of_manifests C t r) LimitReached) _ (x, X) c.2 in
                let room_is : refuse (lacks_room_for target t r) LimitReached ≡ Ok tt = c.1 in
                let few_is : refuse (is_full_of_manifests target t r) LimitReached ≡ Ok tt = d.1 in
                rw (room_is, few_is) refl

            accepted : Commands.put_manifest target r bytes ≡ Ok (sha256_text bytes, with_manifest target r bytes)
            accepted = rw (tenant_is, small, read, all_is, has_is) added

    forgets : (r name : Text) (X : Catalog) → Commands.delete_manifest C r name ≡ Ok (tt, X) → length r ≤ 255 → HasReplay D target (ManifestDeleted r name)
    forgets r name X is short_name =
        let t = bound_ok (tenant C r) _ (tt, X) is in
        let c = bound_ok (manifest C r name) _ (tt, X) t.2 in
        let tenant_is : tenant target r ≡ Ok t.0 = t.1 in
        let there_is : manifest target r name ≡ Ok c.0 = c.1 in
        let accepted : Commands.delete_manifest target r name ≡ Ok (tt, record target { manifests = remove C.manifests (r, name) }) = rw (tenant_is, there_is) refl in
        replayed (ManifestDeleted r name) (runs.DeleteManifest r name) runs.Done (record target { manifests = remove C.manifests (r, name) }) refl (ap (map_outcome (λ _. runs.Done)) accepted) refl short_name

    removes : (r : Text) (X : Catalog) → Commands.remove_repo C r ≡ Ok (tt, X) → length r ≤ 255 → HasReplay D target (RepoRemoved r)
    removes r X is short_name =
        let t = bound_ok (tenant C r) _ (tt, X) is in
        let c = bound_ok (check_repo C r) _ (tt, X) t.2 in
        let e = bound_ok (refuse (is_in_use C r) RepoInUse) _ (tt, X) c.2 in
        let tenant_is : tenant target r ≡ Ok t.0 = t.1 in
        let there_is : check_repo target r ≡ Ok tt = c.1 in
        let unused_is : is_in_use target r ≡ false = unused r (not_refused _ _ _ e.1) in
        let accepted : Commands.remove_repo target r ≡ Ok (tt, without_repo target r) = rw (tenant_is, there_is, unused_is) refl in
        replayed (RepoRemoved r) (runs.RemoveRepo r) runs.Done (without_repo target r) refl (ap (map_outcome (λ _. runs.Done)) accepted) refl short_name
      where
        -- the durable state has the same sessions
        unused : (r : Text) → is_in_use C r ≡ false → is_in_use target r ≡ false
        unused r none =
            let both = or_parts (has_links C r || has_manifests C r) (has_sessions C r) none in
            let others = or_parts (has_links C r) (has_manifests C r) both.0 in
            let links_is : has_links target r ≡ false = others.0 in
            let manifests_is : has_manifests target r ≡ false = others.1 in
            let sessions_is : has_sessions target r ≡ false = no_sessions D.sessions r (λ k s found is.
            let was = was_open taken D C a k s found in
            no_session C.sessions r both.1 k was.0 was.2 (ap (λ (x : Session). x.repo) (sym was.3) ∙ is)) in
            rw (links_is, manifests_is, sessions_is) refl

-- ---- steps

-- the two stores have the same tenants and limits
module _ (taken : TakenSessions) (D : DurableState) (s : State) (a : Agrees taken D s.catalog) (sound : Sound s.catalog) (R : Catalog) (b : Agrees empty D R) (sound_here : Sound R) (limit : R.contents ≡ s.catalog.contents) where
  abbrev C : Catalog
  C = s.catalog

  -- the catalog of one store from that of the other
  by_parts : (change : Change) → ((b0 : Agrees empty D (as_was taken D C a R b)) → Sound (as_was taken D C a R b) → HasReplay D (as_was taken D C a R b) change) → HasReplay D R change
  by_parts change one =
      let is = as_was_is taken D C a R b in
      subst (λ X. HasReplay D X change) is (one (subst (λ X. Agrees empty D X) (sym is) b) (subst (λ X. Sound X) (sym is) sound_here))

  key_there : (r : Text) (t n : ℕ) → tenant_of C.tenants r ≡ Some t → session_key D.tenants r n ≡ (t, n)
  key_there r t n known = ap (λ o. (option_map_or (λ x. x) o 0, n)) (ap (λ ts. tenant_of ts r) a.tenants ∙ known)

  -- a share admits the same digests in both stores
  share_there : (t : ℕ) (d : Text) → check_share C t d ≡ check_share R t d
  share_there t d = λ i. check_share (record C { tenants = (sym a.tenants ∙ b.tenants) i; repos = (sym a.repos ∙ b.repos) i; links = (sym a.links ∙ b.links) i }) t d

  appended : (r : Text) (n : ℕ) (g : Option ByteRange) (bytes : Text) (m : ℕ) (X : Catalog) → append C r n g bytes ≡ Ok (m, X) → length r ≤ 255 → (change : Change) → chunk_change (session_key D.tenants r n) bytes ≡ Some change → HasReplay D R change
  appended r n g bytes m X is short_name change records =
      let t = bound_ok (tenant C r) _ (m, X) is in
      let c = bound_ok (chunk_length_check C t.0 r n g (length bytes)) _ (m, X) t.2 in
      let known = some_of_ok (tenant_of C.tenants r) NameUnknown t.0 t.1 in
      let k = checked_home C t.0 n r g (length bytes) c.0 c.1 in
      let kept = durable_checked_in taken D C a t.0 n r (length bytes) k in
      let accepted : outcome false C (runs.Append r n g bytes) ≡ Ok (runs.Number m, X) = ap (map_outcome runs.Number) is in
      let there : Agrees taken (after_record D (chunk_change (t.0, n) bytes)) X =
      subst (λ key. Agrees taken (after_record D (chunk_change key bytes)) X) (ap (λ ts. session_key ts r n) (sym a.tenants) ∙ key_there r t.0 n known) (command_agrees taken D C a (runs.Append r n g bytes) (runs.Number m) X accepted) in
      let setting = step_setting s (CommandCall (runs.Append r n g bytes) (Ok (runs.Number m))) X accepted in
      chunk_accepted D R b sound_here (t.0, n) k.s.repo k.chunks kept.0 taken X bytes kept.1 there (Sound-case C X (runs.Append r n g bytes) (Ok (runs.Number m)) short_name accepted sound) (setting.1 ∙ sym limit) change
      (ap (λ key. chunk_change key bytes) (sym (key_there r t.0 n known)) ∙ records)

  closed : (r : Text) (n : ℕ) (d : Text) (g : Option ByteRange) (bytes : Text) (m : ℕ) (X : Catalog) → close C r n d g bytes ≡ Ok (m, X) → length r ≤ 255 → HasRoomFor D R (SessionSealed (session_key D.tenants r n) d bytes) →
      HasReplay D R (SessionSealed (session_key D.tenants r n) d bytes)
  closed r n d g bytes m X is short_name free =
      let t = bound_ok (tenant C r) _ (m, X) is in
      let c = bound_ok (chunk_length_check C t.0 r n g (length bytes)) _ (m, X) t.2 in
      let q = bound_ok (check_quota C t.0 (length bytes)) _ (m, X) c.2 in
      let e = bound_ok (refuse (not (is_digest_accepted C d (content_in C.sessions (t.0, n) bytes))) DigestInvalid) _ (m, X) q.2 in
      let share = bound_ok (check_share C t.0 d) _ (m, X) e.2 in
      let known = some_of_ok (tenant_of C.tenants r) NameUnknown t.0 t.1 in
      let k = checked_home C t.0 n r g (length bytes) c.0 c.1 in
      let kept = durable_checked_in taken D C a t.0 n r (length bytes) k in
      let X2 : Catalog = record C { sessions = after_append_in C.sessions (t.0, n) bytes } in
      let accepted : outcome false C (runs.Append r n g bytes) ≡ Ok (runs.Number c.0, X2) = ap (map_outcome runs.Number) (append_is t.0 c.0 r n g bytes t.1 c.1 q.1) in
      let there : Agrees taken (after_record D (chunk_change (t.0, n) bytes)) X2 =
      subst (λ key. Agrees taken (after_record D (chunk_change key bytes)) X2) (ap (λ ts. session_key ts r n) (sym a.tenants) ∙ key_there r t.0 n known) (command_agrees taken D C a (runs.Append r n g bytes) (runs.Number c.0) X2 accepted) in
      let named = (and_parts (is_named C.contents d (content_in C.sessions (t.0, n) bytes)) (fits_stored C.contents (get C.residents d) (content_in C.sessions (t.0, n) bytes)) (not-false _ (not_refused _ _ _ e.1))).0 in
      let whole : content_in C.sessions (t.0, n) bytes ≡ concat k.chunks ++ bytes = ap (λ o. concat (option_map_or (λ x. at_home x.chunks) o []) ++ bytes) k.found ∙ ap (λ x. concat (at_home x) ++ bytes) k.home in
      subst (λ key. HasReplay D R (SessionSealed key d bytes)) (sym (key_there r t.0 n known))
      (seal_accepted D R b sound_here (t.0, n) k.s.repo k.chunks kept.0 taken X2 bytes kept.1 there (Sound-case C X2 (runs.Append r n g bytes) (Ok (runs.Number c.0)) short_name accepted sound) (sym limit) d
      (ap (λ r. is_named r d (concat k.chunks ++ bytes)) limit ∙ ap (is_named C.contents d) (sym whole) ∙ named) (sym (share_there t.0 d) ∙ share.1) (subst (λ key. HasRoomFor D R (SessionSealed key d bytes)) (key_there r t.0 n known) free))
    where
      append_is : (t after : ℕ) (r : Text) (n : ℕ) (g : Option ByteRange) (bytes : Text) → tenant C r ≡ Ok t → chunk_length_check C t r n g (length bytes) ≡ Ok after → check_quota C t (length bytes) ≡ Ok tt →
          append C r n g bytes ≡ Ok (after, record C { sessions = after_append_in C.sessions (t, n) bytes })
      append_is t after r n g bytes tenant_is check_is quota_is = rw (tenant_is, check_is, quota_is) refl

  given_up : (r : Text) (n m : ℕ) (X : Catalog) → Commands.abandon C r n ≡ Ok (m, X) → HasReplay D R (SessionDropped (session_key D.tenants r n))
  given_up r n m X is =
      let t = bound_ok (tenant C r) _ (m, X) is in
      let x = bound_ok (session C t.0 r n) _ (m, X) t.2 in
      let found = (session_found (get C.sessions (t.0, n)) r x.0 x.1).0 in
      let kept = durable_session taken D C a (t.0, n) x.0 found in
      subst (λ key. HasReplay D R (SessionDropped key)) (sym (key_there r t.0 n (some_of_ok (tenant_of C.tenants r) NameUnknown t.0 t.1))) (dropped D R b sound_here (t.0, n) x.0.repo kept.0 kept.1)

  -- ---- hands

  module _ (h : HandRecord) (returned : get taken h.key ≡ Some (h.repo, h.chunks)) (fills : IfSome h.last (λ b. length b ≡ h.reserved)) where
    put_back_replayed : (n : ℕ) (X : Catalog) → put_back C h ≡ Ok (n, X) → (change : Change) → chunk_change h.key (filled_chunk h) ≡ Some change → HasReplay D R change
    put_back_replayed n X is change records =
        let p = bound_ok (put_back_outcome_in C.sessions h) _ (n, X) is in
        let c = bound_ok (session_of_hand (get C.sessions h.key) h) _ p.0 p.1 in
        let kept = durable_hand taken D C a h returned c.0 c.1 in
        let setting = step_setting s (PutBackCall h (Ok n)) X is in
        chunk_accepted D R b sound_here h.key c.0.repo h.chunks kept.1 taken X (filled_chunk h) kept.2 (puts_back taken D C a h returned n X is) (sound_put_back taken D C a sound h returned fills n X is) (setting.1 ∙ sym limit) change records

    finished : (d : Text) (n : ℕ) (X : Catalog) → finish C h d ≡ Ok (n, X) → HasRoomFor D R (SessionSealed h.key d (filled_chunk h)) → HasReplay D R (SessionSealed h.key d (filled_chunk h))
    finished d n X is free =
        let c = bound_ok (session_of_hand (get C.sessions h.key) h) _ (n, X) is in
        let e = bound_ok (refuse (not (is_digest_accepted C d (hand_content h))) DigestInvalid) _ (n, X) c.2 in
        let share = bound_ok (check_share C h.key.0 d) _ (n, X) e.2 in
        let kept = durable_hand taken D C a h returned c.0 c.1 in
        let X2 : Catalog = record C { sessions = with_chunks C.sessions h.key c.0 (CheckedIn (chunks_of h)) } in
        let back : put_back C h ≡ Ok (sum_by length (chunks_of h), X2) = back_is c.0 c.1 in
        let named = (and_parts (is_named C.contents d (hand_content h)) (fits_stored C.contents (get C.residents d) (hand_content h)) (not-false _ (not_refused _ _ _ e.1))).0 in
        seal_accepted D R b sound_here h.key c.0.repo h.chunks kept.1 taken X2 (filled_chunk h) kept.2 (puts_back taken D C a h returned (sum_by length (chunks_of h)) X2 back)
        (sound_put_back taken D C a sound h returned fills (sum_by length (chunks_of h)) X2 back) (sym limit) d (ap (λ r. is_named r d (hand_content h)) limit ∙ named) (sym (share_there h.key.0 d) ∙ share.1) free
      where
        back_is : (x : Session) → session_of_hand (get C.sessions h.key) h ≡ Ok x → put_back C h ≡ Ok (sum_by length (chunks_of h), record C { sessions = with_chunks C.sessions h.key x (CheckedIn (chunks_of h)) })
        back_is x here = rw here refl

  -- ---- commands

  command_replayed : (command : Command) (x : Answer) (X : Catalog) → outcome false C command ≡ Ok (x, X) → length (repo_of command) ≤ 255 → (change : Change) → command_change D.tenants command x ≡ Some change → HasRoomFor D R change → HasReplay D R change
  command_replayed (runs.Start r) x X is short_name change records free =
      let h = answered_ok runs.Number (start C r) x X is in
      subst (λ y. command_change D.tenants (runs.Start r) y ≡ Some change → HasReplay D R change) h.2
      (λ e. subst (λ y. HasReplay D R y) (some_same e)
      (by_parts (SessionOpened r (session_key D.tenants r h.0)) (λ b0 sound0. starts taken D C a R.slots R.contents R.retired R.residents b0 sound0 r h.0 X h.1 short_name))) records
  command_replayed (runs.Status r n) x X is short_name change records free = some_none (sym records)
  command_replayed (runs.Append r n g bytes) x X is short_name change records free = let h = answered_ok runs.Number (append C r n g bytes) x X is in appended r n g bytes h.0 X h.1 short_name change records
  command_replayed (runs.Close r n d g bytes) x X is short_name change records free =
      let h = answered_ok runs.Number (close C r n d g bytes) x X is in
      subst (λ y. HasRoomFor D R y → HasReplay D R y) (some_same records) (closed r n d g bytes h.0 X h.1 short_name) free
  command_replayed (runs.Abandon r n) x X is short_name change records free =
      let h = answered_ok runs.Number (Commands.abandon C r n) x X is in
      subst (λ y. HasReplay D R y) (some_same records) (given_up r n h.0 X h.1)
  command_replayed (runs.Mount r d from) x X is short_name change records free =
      let h = answered_ok runs.Mounting (Commands.mount C r d from) x X is in
      subst (λ y. command_change D.tenants (runs.Mount r d from) y ≡ Some change → HasReplay D R change) h.2
      (λ e. subst (λ y. HasReplay D R y) (some_same e)
      (by_parts (mount_change D.tenants r d h.0) (λ b0 sound0. mounted taken D C a R.slots R.contents R.retired R.residents b0 sound0 r d from h.0 X h.1 short_name))) records
  command_replayed (runs.Delete r d) x X is short_name change records free =
      let h = answered_ok (λ _. runs.Done) (delete C r d) x X is in
      subst (λ y. HasReplay D R y) (some_same records) (by_parts (BlobUnlinked r d) (λ b0 sound0. deletes taken D C a R.slots R.contents R.retired R.residents b0 sound0 r d X h.1 short_name))
  command_replayed (runs.PutManifest r bytes) x X is short_name change records free =
      let h = answered_ok runs.Bytes (Commands.put_manifest C r bytes) x X is in
      subst (λ y. HasReplay D R y) (some_same records) (by_parts (ManifestPut r bytes) (λ b0 sound0. describes taken D C a R.slots R.contents R.retired R.residents b0 sound0 r bytes h.0 X h.1 short_name))
  command_replayed (runs.GetManifest r m) x X is short_name change records free = some_none (sym records)
  command_replayed (runs.DeleteManifest r m) x X is short_name change records free =
      let h = answered_ok (λ _. runs.Done) (Commands.delete_manifest C r m) x X is in
      subst (λ y. HasReplay D R y) (some_same records) (by_parts (ManifestDeleted r m) (λ b0 sound0. forgets taken D C a R.slots R.contents R.retired R.residents b0 sound0 r m X h.1 short_name))
  command_replayed (runs.RemoveRepo r) x X is short_name change records free =
      let h = answered_ok (λ _. runs.Done) (Commands.remove_repo C r) x X is in
      subst (λ y. HasReplay D R y) (some_same records) (by_parts (RepoRemoved r) (λ b0 sound0. removes taken D C a R.slots R.contents R.retired R.residents b0 sound0 r X h.1 short_name))
  command_replayed (runs.Lease r d) x X is short_name change records free = some_none (sym records)

step_replayed : (taken : TakenSessions) (D : DurableState) (s : State) (step : Step) (X : Catalog) (change : Change) (R : Catalog) → Agrees taken D s.catalog → Sound s.catalog → MayLeadTo s step X →
    IsReturnedAsTaken taken step → IsWellFormedStep step → change_of D.tenants step ≡ Some change → Agrees empty D R → Sound R → R.contents ≡ s.catalog.contents → HasRoomFor D R change → HasReplay D R change
step_replayed taken D s (CommandCall command (Ok x)) X change R a sound leaves returned right records b sound_here limit free =
    command_replayed taken D s a sound R b sound_here limit command x X leaves right change records free
step_replayed taken D s (PutBackCall h (Ok n)) X change R a sound leaves returned right records b sound_here limit free =
    put_back_replayed taken D s a sound R b sound_here limit h returned right n X leaves change records
step_replayed taken D s (FinishCall h d (Ok n)) X change R a sound leaves returned right records b sound_here limit free =
    subst (λ y. HasRoomFor D R y → HasReplay D R y) (some_same records) (finished taken D s a sound R b sound_here limit h returned right.0 d n X leaves) free
step_replayed taken D s (CommandCall command (Err e)) X change R a sound leaves returned right records b sound_here limit free = some_none (sym records)
step_replayed taken D s (SweepCall swept) X change R a sound leaves returned right records b sound_here limit free = some_none (sym records)
step_replayed taken D s (SweepPartCall swept) X change R a sound leaves returned right records b sound_here limit free = some_none (sym records)
step_replayed taken D s (TakeCall r n g len reply) X change R a sound leaves returned right records b sound_here limit free = some_none (sym records)
step_replayed taken D s (PutBackCall h (Err e)) X change R a sound leaves returned right records b sound_here limit free = some_none (sym records)
step_replayed taken D s (FinishCall h d (Err e)) X change R a sound leaves returned right records b sound_here limit free = some_none (sym records)

pub changes_have_replays : ChangesHaveReplays
changes_have_replays taken D s step X change is R b sound_here limit free =
    step_replayed taken D s step X change R is.agrees is.sound is.leaves is.returned is.well_formed is.records b sound_here limit free
