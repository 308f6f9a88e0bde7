-- A command whose reply is free of contention has the same reply after every hand was checked in.
use Rattle.std.proofs.Common.{◌≡◌, ℕ, ◌+◌, Bool, true, false, not, List, [], ◌∷◌, ◌++◌, length, Option, Some, None, Result, Ok, Err, refl, sym, ap, ◌∙◌, subst, arith}
use Rattle.std.specs.Prelude.{◌||◌, ◌^◌, nat_le, nat_lt, if◌then◌else◌}
use Rattle.std.specs.Option.{option_map_or, ok_or}
use Rattle.std.specs.FinMap.{get, insert, remove}
use Rattle.std.specs.List.{concat}
use Rattle.std.proofs.lemmas.Bool.{ltb-false, ltb-true}
use Rattle.blob_digest.specs.declared.range.ByteRange.{ByteRange}
use Rattle.blob_digest.specs.declared.refusal.Refusal.{Refusal}
use Rattle.blob_digest.specs.declared.refusal.Refusal.TheVariants.{Busy, DigestInvalid, LimitReached, ManifestBlobUnknown, ManifestInvalid, ManifestUnknown, Quota, RepoInUse, SizeInvalid, TooManyReaders, UploadUnknown}
use Rattle.blob_digest.specs.Digests.{sha256_text}
use Rattle.oci_manifest.specs.Manifests.{max_manifest, refs_of}
use Rattle.spec_lib.specs.Outcomes.{◌>>=◌, refuse}
use Rattle.spec_lib.specs.Texts.{Text, same_text}
use Rattle.spec_lib.proofs.Outcomes.{bound_ok}
use Rattle.store_model.specs.Catalog.{Catalog, CheckedIn, SessionNumber, holds, Session, next_number_of, quota_of, received_length, used_bytes, limits_of}
use Rattle.store_model.specs.Commands
use Rattle.store_model.specs.Commands.{Outcome, check_all_links, cannot_open, chunk_length_check, has_manifest, has_slot, has_source, is_digest_accepted, is_full_of_manifests, lacks_room_for, check_link, linked_blob, with_new_session, not_busy, referrer, session, session_in, with_stored_blob, tenant, check_no_referrer, content_in, with_leased, with_link, with_manifest, check_quota, check_repo, check_share, has_links, has_manifests, is_in_use}
use Rattle.store_model.specs.Invariant.{WellFormed}
use Rattle.store_model.specs.Runs as runs
use Rattle.store_model.specs.Runs.{Answer, Command, map_outcome, outcome, reading_outcome}
use Rattle.store_model.specs.Sessions as sessions
use Rattle.store_model.specs.Sessions.{Sessions, after_append_in, are_checked_in, length_after, with_chunk}
use Rattle.store_model.specs.WholeCommands.{CheckedOutSessions, IsContentionFree, CheckedOut}
use Rattle.store_model.specs.declared.mount.Mount.TheVariants as mounting
use Rattle.store_model.proofs.Commands.Accepted.{session_found}
use Rattle.store_model.proofs.Commands.Hands.{checked_home, home_chunks}
use Rattle.store_model.proofs.Invariant.Sessions.{fresh}
use Rattle.store_model.proofs.WholeCommands.AtHome.{AreOne, AtHome, found_home, found_none, insert_home, open_home, remove_home, sessions_home, used_home}

-- the same reply, unless it is an error that a checked-out hand may cause
abbrev SameContentionFree : {A : Type 0} → Result A Refusal → Result A Refusal → Type 0
SameContentionFree (Ok a) y = y ≡ Ok a
SameContentionFree (Err e) y = IsContentionFree e → y ≡ Err e

-- the same for outcomes, whose catalogs differ by the checked-out hands
abbrev pub SameAtHome : {A : Type 0} → CheckedOutSessions → Outcome A → Outcome A → Type 0
SameAtHome hands (Ok x) y = (m : Sessions) × (y ≡ Ok (x.0, record x.1 { sessions = m })) × AtHome hands x.1 m
SameAtHome hands (Err e) y = IsContentionFree e → y ≡ Err e

itself : {A : Type 0} (x : Result A Refusal) → SameContentionFree x x
itself (Ok a) = refl
itself (Err e) = λ calm. refl

alike : {A : Type 0} (x y : Result A Refusal) → x ≡ y → SameContentionFree x y
alike x y e = subst (λ y. SameContentionFree x y) e (itself x)

module _ (hands : CheckedOutSessions) where
  -- ---- lines of an outcome

  line : {A X : Type 0} (x y : Result X Refusal) → SameContentionFree x y → (f g : X → Outcome A) → ((a : X) → x ≡ Ok a → SameAtHome hands (f a) (g a)) → SameAtHome hands (x >>= f) (y >>= g)
  line (Ok a) y e f g h = subst (λ y. SameAtHome hands (f a) (y >>= g)) (sym e) (h a refl)
  line (Err r) y e f g h = λ calm. ap (λ y. y >>= g) (e calm)

  same : {A X : Type 0} (x : Result X Refusal) (f g : X → Outcome A) → ((a : X) → x ≡ Ok a → SameAtHome hands (f a) (g a)) → SameAtHome hands (x >>= f) (x >>= g)
  same x f g h = line x x (itself x) f g h

  same_if : {A : Type 0} (b : Bool) (x y x' y' : Outcome A) → (b ≡ true → SameAtHome hands x x') → (b ≡ false → SameAtHome hands y y') → SameAtHome hands (if b then x else y) (if b then x' else y')
  same_if true x y x' y' at_true at_false = at_true refl
  same_if false x y x' y' at_true at_false = at_false refl

  mapped : {A B : Type 0} (f : A → B) (x y : Outcome A) → SameAtHome hands x y → SameAtHome hands (x >>= λ a. Ok (f a.0, a.1)) (y >>= λ a. Ok (f a.0, a.1))
  mapped f (Ok x) y s = (s.0, ap (λ y. y >>= λ a. Ok (f a.0, a.1)) s.1, s.2)
  mapped f (Err e) y s = λ calm. ap (λ y. y >>= λ a. Ok (f a.0, a.1)) (s calm)

  answers : {A : Type 0} (f : A → Answer) (x y : Outcome A) → SameAtHome hands x y → SameAtHome hands (map_outcome f x) (map_outcome f y)
  answers f (Ok x) y s = (s.0, ap (map_outcome f) s.1, s.2)
  answers f (Err e) y s = λ calm. ap (map_outcome f) (s calm)

  module _ (C : Catalog) (m : Sessions) (at_home : AtHome hands C m) (lawful : WellFormed C) where
    abbrev D : Catalog
    D = record C { sessions = m }

    reads : {A : Type 0} (f : A → Answer) (x y : Result A Refusal) → x ≡ y → SameAtHome hands (reading_outcome f C x) (reading_outcome f D y)
    reads f (Ok a) y e = subst (λ y. SameAtHome hands (Ok (f a, C)) (reading_outcome f D y)) e (m, refl, at_home)
    reads f (Err r) y e = subst (λ y. SameAtHome hands (Err r) (reading_outcome f D y)) e (λ calm. refl)

    -- ---- sessions

    -- the session, if it is checked in
    abbrev home_session : Option Session → Text → Result Session Refusal
    home_session o r = session_in o r >>= λ s. not_busy s.chunks >>= λ _. Ok s

    sessions_same : (k : SessionNumber) (r : Text) → SameContentionFree (home_session (get C.sessions k) r) (home_session (get m k) r)
    sessions_same k r = at (get C.sessions k) (get hands k) (get m k) (at_home k)
      where
        not_home : (s : Session) → not_busy s.chunks ≡ Err Busy → (b : Bool) (home : Session) →
            SameContentionFree ((if b then Ok s else Err UploadUnknown) >>= λ x. not_busy x.chunks >>= λ _. Ok x) ((if b then Ok home else Err UploadUnknown) >>= λ x. not_busy x.chunks >>= λ _. Ok x)
        not_home s is true home = subst (λ (y : Result (Unit {0}) Refusal). SameContentionFree (y >>= λ _. Ok s) (not_busy home.chunks >>= λ _. Ok home)) (sym is) (λ calm. absurd (calm.0 refl))
        not_home s is false home = λ calm. refl

        at : (o : Option Session) (out : Option CheckedOut) (h : Option Session) → AreOne C.tenants C.contents.max_blob k o out h → SameContentionFree (home_session o r) (home_session h r)
        at None None h one = alike (home_session None r) (home_session h r) (ap (λ o. home_session o r) (sym one))
        at None (Some out) h one = absurd one
        at (Some s) None h one = alike (home_session (Some s) r) (home_session h r) (ap (λ o. home_session o r) (sym one.1))
        at (Some s) (Some out) h one = subst (λ h. SameContentionFree (home_session (Some s) r) (home_session h r)) (sym one.1)
            (not_home s (ap not_busy one.0.chunks) (same_text s.repo r) (record s { chunks = CheckedIn out.hand.chunks }))

    -- a check after the session was found checked in
    after_home : {B : Type 0} (x : Result Session Refusal) (f : Session → Result B Refusal) → (x >>= λ s. not_busy s.chunks >>= λ _. f s) ≡ ((x >>= λ s. not_busy s.chunks >>= λ _. Ok s) >>= f)
    after_home (Ok s) f = by (not_busy s.chunks)
      where
        by : (u : Result (Unit {0}) Refusal) → (u >>= λ _. f s) ≡ ((u >>= λ _. Ok s) >>= f)
        by (Ok tt) = refl
        by (Err e) = refl
    after_home (Err e) f = refl

    then_same : {B : Type 0} (x y : Result Session Refusal) → SameContentionFree x y → (f : Session → Result B Refusal) → SameContentionFree (x >>= f) (y >>= f)
    then_same (Ok s) y e f = alike (f s) (y >>= f) (sym (ap (λ y. y >>= f) e))
    then_same (Err r) y e f = λ calm. ap (λ y. y >>= f) (e calm)

    check_same : (t : ℕ) (r : Text) (n : ℕ) (g : Option ByteRange) (len : ℕ) → SameContentionFree (chunk_length_check C t r n g len) (chunk_length_check D t r n g len)
    check_same t r n g len =
        let f : Session → Result ℕ Refusal = λ s. length_after C.contents.max_blob (received_length s) g len in
        subst (λ x. SameContentionFree x (chunk_length_check D t r n g len)) (sym (after_home (session_in (get C.sessions (t, n)) r) f))
        (subst (λ y. SameContentionFree (home_session (get C.sessions (t, n)) r >>= f) y) (sym (after_home (session_in (get m (t, n)) r) f))
        (then_same (home_session (get C.sessions (t, n)) r) (home_session (get m (t, n)) r) (sessions_same (t, n) r) f))

    received_same : (k : SessionNumber) (r : Text) → (session_in (get C.sessions k) r >>= λ s. Ok (received_length s)) ≡ (session_in (get m k) r >>= λ s. Ok (received_length s))
    received_same k r = at (get C.sessions k) (get hands k) (get m k) (at_home k)
      where
        lengths : Option Session → Result ℕ Refusal
        lengths o = session_in o r >>= λ s. Ok (received_length s)

        both : (b : Bool) (s s' : Session) → received_length s ≡ received_length s' → ((if b then Ok s else Err UploadUnknown) >>= λ x. Ok (received_length x)) ≡ ((if b then Ok s' else Err UploadUnknown) >>= λ x. Ok (received_length x))
        both true s s' e = ap (λ n. Ok n) e
        both false s s' e = refl

        at : (o : Option Session) (out : Option CheckedOut) (h : Option Session) → AreOne C.tenants C.contents.max_blob k o out h → lengths o ≡ lengths h
        at None None h one = ap lengths (sym one)
        at None (Some out) h one = absurd one
        at (Some s) None h one = ap lengths (sym one.1)
        at (Some s) (Some out) h one = both (same_text s.repo r) s (record s { chunks = CheckedIn out.hand.chunks }) (rw one.0.chunks refl) ∙ ap lengths (sym one.1)

    quota_same : (t n : ℕ) → SameContentionFree (check_quota C t n) (check_quota D t n)
    quota_same t n = by (nat_lt (quota_of C t) (used_bytes C t + n)) (nat_lt (quota_of C t) (used_bytes D t + n)) refl refl
      where
        by : (b c : Bool) → nat_lt (quota_of C t) (used_bytes C t + n) ≡ b → nat_lt (quota_of C t) (used_bytes D t + n) ≡ c →
            SameContentionFree (refuse b (Quota (used_bytes C t) (quota_of C t))) (refuse c (Quota (used_bytes D t) (quota_of C t)))
        by true c here there = λ calm. absurd (calm.1 (used_bytes C t) (quota_of C t) refl)
        by false false here there = refl
        by false true here there = absurd (
            let less = ltb-false (quota_of C t) (used_bytes C t + n) here in
            let more = ltb-true (quota_of C t) (used_bytes D t + n) there in
            let reserves = used_home hands C m at_home t in
            omega arith)

    -- a check that succeeded also succeeds after every hand was checked in
    found_checked : (t : ℕ) (r : Text) (n : ℕ) (g : Option ByteRange) (len after : ℕ) → chunk_length_check C t r n g len ≡ Ok after →
        (s : Session) × (get C.sessions (t, n) ≡ Some s) × (get hands (t, n) ≡ None) × (get m (t, n) ≡ Some s)
    found_checked t r n g len after checked =
        let c = checked_home C t n r g len after checked in
        let here = found_home hands C m at_home (t, n) c.s c.found (ap are_checked_in c.home) in
        (c.s, c.found, here.0, here.1)

    -- ---- uploads

    new_home : (t : ℕ) (r : Text) → AtHome hands (with_new_session C t r) (insert m (t, next_number_of C t) (record { repo = r; chunks = CheckedIn [] }))
    new_home t r = insert_home hands C m at_home (t, next_number_of C t) (record { repo = r; chunks = CheckedIn [] }) (found_none hands C m at_home (t, next_number_of C t) (fresh C t r lawful)) refl

    start_same : (r : Text) → SameAtHome hands (Commands.start C r) (Commands.start D r)
    start_same r = same (tenant C r) _ _ (λ t _. same (refuse (lacks_room_for C t r) LimitReached) _ _ (λ _ _.
        line (refuse (cannot_open C t) LimitReached) (refuse (cannot_open D t) LimitReached)
        (alike _ _ (ap (λ n. refuse (nat_le (limits_of C t).sessions n || nat_le (2 ^ 32) (next_number_of C t)) LimitReached) (open_home hands C m at_home t))) _ _ (λ _ _.
        (insert m (t, next_number_of C t) (record { repo = r; chunks = CheckedIn [] }), refl, new_home t r))))

    append_same : (r : Text) (n : ℕ) (g : Option ByteRange) (b : Text) → SameAtHome hands (Commands.append C r n g b) (Commands.append D r n g b)
    append_same r n g b = same (tenant C r) _ _ (λ t _. line (chunk_length_check C t r n g (length b)) (chunk_length_check D t r n g (length b)) (check_same t r n g (length b)) _ _ (λ after checked.
        line (check_quota C t (length b)) (check_quota D t (length b)) (quota_same t (length b)) _ _ (λ _ _. (after_append_in m (t, n) b, refl, added t after checked))))
      where
        with_one : Sessions → ℕ → Option Session → Sessions
        with_one x t o = option_map_or (λ s. insert x (t, n) (record s { chunks = CheckedIn (with_chunk (sessions.at_home s.chunks) b) })) o x

        added : (t after : ℕ) → chunk_length_check C t r n g (length b) ≡ Ok after → AtHome hands (record C { sessions = after_append_in C.sessions (t, n) b }) (after_append_in m (t, n) b)
        added t after checked =
            let f = found_checked t r n g (length b) after checked in
            let longer : Session = record f.0 { chunks = CheckedIn (with_chunk (sessions.at_home f.0.chunks) b) } in
            subst (λ (x : Sessions). AtHome hands (record C { sessions = x }) (after_append_in m (t, n) b)) (sym (ap (with_one C.sessions t) f.1))
            (subst (λ (x : Sessions). AtHome hands (record C { sessions = insert C.sessions (t, n) longer }) x) (sym (ap (with_one m t) f.3))
            (insert_home hands C m at_home (t, n) longer f.2 refl))

    close_same : (r : Text) (n : ℕ) (d : Text) (g : Option ByteRange) (b : Text) → SameAtHome hands (Commands.close C r n d g b) (Commands.close D r n d g b)
    close_same r n d g b = same (tenant C r) _ _ (λ t _. line (chunk_length_check C t r n g (length b)) (chunk_length_check D t r n g (length b)) (check_same t r n g (length b)) _ _ (λ after checked.
        line (check_quota C t (length b)) (check_quota D t (length b)) (quota_same t (length b)) _ _ (λ _ _.
        let f = found_checked t r n g (length b) after checked in
        subst (λ w. SameAtHome hands (ending t (content_in C.sessions (t, n) b) C) (ending t w D)) (ap (λ o. concat (option_map_or (λ s. sessions.at_home s.chunks) o []) ++ b) (f.1 ∙ sym f.3))
        (same (refuse (not (is_digest_accepted C d (content_in C.sessions (t, n) b))) DigestInvalid) _ _ (λ _ _. same (check_share C t d) _ _ (λ _ _. same (has_slot C d) _ _ (λ _ _. (remove m (t, n), refl, remove_home hands C m at_home (t, n) f.2))))))))
      where
        ending : ℕ → Text → Catalog → Outcome ℕ
        ending t w X = refuse (not (is_digest_accepted X d w)) DigestInvalid >>= λ _. check_share X t d >>= λ _. has_slot X d >>= λ _. Ok (length w, with_stored_blob X t r n d w)

    abandon_same : (r : Text) (n : ℕ) → SameAtHome hands (Commands.abandon C r n) (Commands.abandon D r n)
    abandon_same r n = same (tenant C r) _ _ (λ t _.
        subst (λ x. SameAtHome hands x (given_up t D (get m (t, n)))) (sym (after_home (session_in (get C.sessions (t, n)) r) (λ s. Ok (received_length s, gone t C))))
        (subst (λ y. SameAtHome hands (home_session (get C.sessions (t, n)) r >>= λ s. Ok (received_length s, gone t C)) y) (sym (after_home (session_in (get m (t, n)) r) (λ s. Ok (received_length s, gone t D))))
        (line (home_session (get C.sessions (t, n)) r) (home_session (get m (t, n)) r) (sessions_same (t, n) r) _ _ (λ s found. (remove m (t, n), refl, remove_home hands C m at_home (t, n) (none_out t s found))))))
      where
        gone : ℕ → Catalog → Catalog
        gone t X = record X { sessions = remove X.sessions (t, n) }

        given_up : ℕ → Catalog → Option Session → Outcome ℕ
        given_up t X o = session_in o r >>= λ s. not_busy s.chunks >>= λ _. Ok (received_length s, gone t X)

        none_out : (t : ℕ) (s : Session) → home_session (get C.sessions (t, n)) r ≡ Ok s → get hands (t, n) ≡ None
        none_out t s found =
            let a = bound_ok (session_in (get C.sessions (t, n)) r) _ s found in
            let b = bound_ok (not_busy a.0.chunks) _ s a.2 in
            (found_home hands C m at_home (t, n) a.0 (session_found (get C.sessions (t, n)) r a.0 a.1).0 (ap are_checked_in (home_chunks a.0.chunks b.0 b.1).1)).0

    -- ---- links, manifests and leases, which do not depend on sessions

    mount_same : (r d : Text) (from : Option Text) → SameAtHome hands (Commands.mount C r d from) (Commands.mount D r d from)
    mount_same r d from = same (tenant C r) _ _ (λ t _. same_if (has_source C t d from) _ _ _ _
        (λ _. same (refuse (lacks_room_for C t r) LimitReached) _ _ (λ _ _. (m, refl, at_home)))
        (λ _. mapped mounting.Session (Commands.start C r) (Commands.start D r) (start_same r)))

    delete_same : (r d : Text) → SameAtHome hands (Commands.delete C r d) (Commands.delete D r d)
    delete_same r d = same (tenant C r) _ _ (λ _ _. same (check_link C r d) _ _ (λ _ _. same (check_no_referrer (referrer C r d)) _ _ (λ _ _. (m, refl, at_home))))

    linked_same : (r : Text) (ds : List Text) → check_all_links C r ds ≡ check_all_links D r ds
    linked_same r [] = refl
    linked_same r (d ∷ ds) = λ i. if holds C r d then linked_same r ds i else Err (ManifestBlobUnknown d)

    put_same : (r b : Text) → SameAtHome hands (Commands.put_manifest C r b) (Commands.put_manifest D r b)
    put_same r b = same (tenant C r) _ _ (λ t _. same (refuse (nat_lt max_manifest (length b)) SizeInvalid) _ _ (λ _ _. same (ok_or (refs_of b) ManifestInvalid) _ _ (λ refs _.
        line (check_all_links C r refs) (check_all_links D r refs) (alike _ _ (linked_same r refs)) _ _ (λ _ _. same_if (has_manifest C r (sha256_text b)) _ _ _ _
        (λ _. (m, refl, at_home))
        (λ _. same (refuse (lacks_room_for C t r) LimitReached) _ _ (λ _ _. same (refuse (is_full_of_manifests C t r) LimitReached) _ _ (λ _ _. (m, refl, at_home))))))))

    delete_manifest_same : (r name : Text) → SameAtHome hands (Commands.delete_manifest C r name) (Commands.delete_manifest D r name)
    delete_manifest_same r name = same (tenant C r) _ _ (λ _ _. same (ok_or (get C.manifests (r, name)) ManifestUnknown) _ _ (λ _ _. (m, refl, at_home)))

    remove_repo_same : (r : Text) → SameAtHome hands (Commands.remove_repo C r) (Commands.remove_repo D r)
    remove_repo_same r = same (tenant C r) _ _ (λ _ _. same (check_repo C r) _ _ (λ _ _.
        line (refuse (is_in_use C r) RepoInUse) (refuse (is_in_use D r) RepoInUse)
        (alike _ _ (ap (λ b. refuse (has_links C r || has_manifests C r || b) RepoInUse) (sessions_home hands C m at_home r))) _ _ (λ _ _. (m, refl, at_home))))

    lease_same : (crowded : Bool) (r d : Text) → SameAtHome hands (Commands.lease crowded C r d) (Commands.lease crowded D r d)
    lease_same crowded r d = same (tenant C r) _ _ (λ _ _. same (linked_blob C r d) _ _ (λ b _. same (refuse crowded TooManyReaders) _ _ (λ _ _. (m, refl, at_home))))

    -- ---- any of them

    pub same_outcome : (crowded : Bool) (command : Command) → SameAtHome hands (outcome crowded C command) (outcome crowded D command)
    same_outcome crowded (runs.Start r) = answers runs.Number _ _ (start_same r)
    same_outcome crowded (runs.Status r n) = reads runs.Number (Commands.status C r n) (Commands.status D r n) (λ i. tenant C r >>= λ t. received_same (t, n) r i)
    same_outcome crowded (runs.Append r n g b) = answers runs.Number _ _ (append_same r n g b)
    same_outcome crowded (runs.Close r n d g b) = answers runs.Number _ _ (close_same r n d g b)
    same_outcome crowded (runs.Abandon r n) = answers runs.Number _ _ (abandon_same r n)
    same_outcome crowded (runs.Mount r d from) = answers runs.Mounting _ _ (mount_same r d from)
    same_outcome crowded (runs.Delete r d) = answers (λ _. runs.Done) _ _ (delete_same r d)
    same_outcome crowded (runs.PutManifest r b) = answers runs.Bytes _ _ (put_same r b)
    same_outcome crowded (runs.GetManifest r name) = reads runs.Bytes (Commands.get_manifest C r name) (Commands.get_manifest D r name) refl
    same_outcome crowded (runs.DeleteManifest r name) = answers (λ _. runs.Done) _ _ (delete_manifest_same r name)
    same_outcome crowded (runs.RemoveRepo r) = answers (λ _. runs.Done) _ _ (remove_repo_same r)
    same_outcome crowded (runs.Lease r d) = answers runs.Bytes _ _ (lease_same crowded r d)
