-- Each change of a legal history fits into a record, and is the change that its description describes.
use Rattle.std.proofs.Common.{◌≡◌, ◌≤◌, ◌<◌, ◌+◌, ◌∙◌, ℕ, Bool, true, false, not, List, [], ◌∷◌, ◌++◌, Option, Some, None, Ok, Err, IfSome, ap, arith, length, length-append, refl, subst, sym, inl, inr}
use Rattle.std.proofs.lemmas.List.{take-append-drop}
use Rattle.std.specs.Prelude.{◌^◌, ◌==◌, drop, is_some, map, position, take, nat_le, nat_lt, if◌then◌else◌, sum_by}
use Rattle.std.specs.FinMap.{get}
use Rattle.std.specs.FinMap as fmap
use Rattle.std.specs.List.{AllByRecursion, before_first, cons_option, prefix_len}
use Rattle.std.specs.Option.{option_map, option_map_or}
use Rattle.std.proofs.lemmas.Bool.{and_parts, leb-false, not-false, or_parts}
use Rattle.std.proofs.Common.{codes}
use Rattle.std.proofs.lemmas.Bool.{ltb-false}
use Rattle.std.proofs.lemmas.Slice.Eq.{bytes_eq-Decides}
use Rattle.hex.specs.Hex.{encode_lower, lower_digits}
use Rattle.hex.proofs.HexLemmas.{length-encode_with}
use Rattle.sha2.specs.Sha256.{sha256}
use Rattle.sha2.specs.Sha512.{sha512}
use Rattle.sha2.proofs.Facts256.{length-sha256}
use Rattle.sha2.proofs.Facts512.{length-sha512}
use Rattle.ghost_log.specs.declared.view.Entry.{Entry}
use Rattle.content_files.specs.Notes.{is_read}
use Rattle.content_files.specs.Chunks.{chunk_notes, read_notes}
use Rattle.locked_book.proofs.NoteLengths.{notes_small}
use Rattle.noted_logs.specs.Noted.{as_kept, kept_change}
use Rattle.noted_logs.proofs.ReadBack.{notes_are_read_back}
use Rattle.blob_digest.specs.Digests.{algorithm_of, hash_text, is_digest_of, is_digest_text, sha256_text, sha512_text}
use Rattle.blob_digest.specs.Vouched.{has_digest}
use Rattle.blob_digest.proofs.Grammar.{passes_grammar}
use Rattle.blob_digest.specs.declared.algorithm.Algorithm.{Algorithm}
use Rattle.blob_digest.specs.declared.algorithm.Algorithm.TheVariants.{Sha256, Sha512}
use Rattle.blob_digest.specs.Names.{tenant_name}
use Rattle.blob_digest.specs.declared.refusal.Refusal.TheVariants.{BlobUnknown, DigestInvalid, LimitReached, ManifestUnknown, NameUnknown, SizeInvalid}
use Rattle.log_records.specs.Changes as logged
use Rattle.log_records.specs.Changes.{HaveRoom, IsChange, parts}
use Rattle.log_records.specs.declared.kind.Kind.{Kind}
use Rattle.log_records.specs.declared.kind.Kind.TheVariants as kind
use Rattle.oci_manifest.specs.Manifests.{max_manifest}
use Rattle.spec_lib.specs.Outcomes.{refuse}
use Rattle.spec_lib.specs.Texts.{Text, same_text}
use Rattle.spec_lib.proofs.Outcomes.{bound_ok, not_refused, some_of_ok}
use Rattle.store_model.specs.Catalog.{Catalog, CheckedOutWith, Chunks, HandRecord, Session, SessionNumber, Tenant, charged_length, holds, next_number_of, open_sessions, tenant_of, limits_of, ContentRules}
use Rattle.store_model.specs.Commands as commands
use Rattle.store_model.specs.Commands.{Outcome}
use Rattle.store_model.specs.Durable.{Agrees, AreReturnedAsTaken, BlobLinked, BlobStored, BlobUnlinked, Change, ChunkReceived, DurableState, ManifestDeleted, ManifestPut, NumberSet, RepoAdded, RepoRemoved, SessionDropped, SessionOpened, SessionSealed, TakenSessions, change_of, changes_of, chunk_change, command_change, filled_chunk, mount_change, session_key, taken_after_step}
use Rattle.store_model.specs.Histories.{AreSteps, CommandCall, FinishCall, MayLeadTo, PutBackCall, State, Step, SweepCall, SweepPartCall, TakeCall, initial_state}
use Rattle.store_model.specs.Invariant.{Sound, WellFormed}
use Rattle.store_model.specs.Recovery.{FillsReserve, IsWellFormedStep}
use Rattle.store_model.specs.Runs as runs
use Rattle.store_model.specs.Runs.{Answer, Command, outcome, repo_of}
use Rattle.store_model.specs.Sessions.{hand_content, session_of_hand}
use Rattle.store_model.specs.declared.mount.Mount.{Mount}
use Rattle.store_model.specs.declared.mount.Mount.TheVariants as mounting
use Rattle.store_model.proofs.Commands.Accepted.{answer_by, session_found}
use Rattle.store_model.proofs.Commands.Hands.{checked_home, taken_found}
use Rattle.store_model.proofs.Commands.Mount.{source_of}
use Rattle.store_model.proofs.Durable.Agreement.{after_record}
use Rattle.store_model.proofs.Durable.Commands.{answered_ok}
use Rattle.store_model.proofs.Durable.Crashes.{step_sound}
use Rattle.store_model.proofs.Durable.Histories.{after_record_tenants, step_agrees}
use Rattle.store_model.proofs.Invariant.SessionTenants.{session_owner}
use Rattle.locked_book.specs.CutLogs.{changes_in}
use Rattle.locked_book.specs.Described.{IsLogged, described, logged_change, name_at, place}
use Rattle.locked_book.specs.Logging.{is_beyond, is_noted, length_after}
use Rattle.locked_book.specs.History.{steps_of}
use Rattle.locked_book.specs.Names.{StoreNames}
use Rattle.locked_book.specs.Restoring.{IsRestorable, logged_changes, opening_state}
use Rattle.locked_book.proofs.TenantNames.{known_name}

-- ---- lengths

room : (k : Kind) (name digest : List ℕ) (number : ℕ) (body : List ℕ) → length name ≤ 255 → length digest ≤ 135 → number < 2 ^ 32 → length body ≤ 2 ^ 40 → HaveRoom (parts k name digest number body)
room k name digest number body short text small fits = record {
  name = omega (arith, short);
  digest = omega (arith, text);
  number = omega (arith, small);
  body = omega (arith, fits);
}

before_first_short : (p : ℕ → Bool) (xs : List ℕ) → length (before_first p xs) ≤ length xs
before_first_short p xs =
    let n = prefix_len (λ x. not (p x)) xs in
    let less : length (take n xs) ≤ length xs = omega (arith, ap length (take-append-drop n xs), length-append (take n xs) (drop n xs)) in
    less

seven : length (codes "sha256:") ≡ 7
seven = refl

seven_too : length (codes "sha512:") ≡ 7
seven_too = refl

sha256_short : (bytes : List ℕ) → length (sha256_text bytes) ≤ 135
unfolding sha256_text
sha256_short bytes = omega (arith, seven, length-append (codes "sha256:") (encode_lower (sha256 bytes)), length-encode_with lower_digits (sha256 bytes), length-sha256 bytes)

sha512_short : (bytes : List ℕ) → length (sha512_text bytes) ≤ 135
unfolding sha512_text
sha512_short bytes = omega (arith, seven_too, length-append (codes "sha512:") (encode_lower (sha512 bytes)), length-encode_with lower_digits (sha512 bytes), length-sha512 bytes)

hash_short : (a : Algorithm) (bytes : List ℕ) → length (hash_text a bytes) ≤ 135
hash_short Sha256 bytes = sha256_short bytes
hash_short Sha512 bytes = sha512_short bytes

hashed_short : (digest bytes : List ℕ) → is_digest_of digest bytes ≡ true → length digest ≤ 135
hashed_short digest bytes is =
    let same : digest ≡ hash_text (algorithm_of digest) bytes = (bytes_eq-Decides digest (hash_text (algorithm_of digest) bytes)).0 is in
    omega (arith, ap length same, hash_short (algorithm_of digest) bytes)

text_short : (digest : List ℕ) → is_digest_text digest ≡ true → length digest ≤ 135
text_short digest is = elim (passes_grammar digest is) [
  | inl h ↦ omega (arith, seven, ap length h.1, length-append (codes "sha256:") h.0, h.2)
  | inr h ↦ omega (arith, seven_too, ap length h.1, length-append (codes "sha512:") h.0, h.2)
]

vouched_short : (digest content : List ℕ) → has_digest digest content ≡ true → length digest ≤ 135
vouched_short digest content = by (is_read content)
  where
    by : (b : Bool) → (if b then is_digest_of digest content else is_digest_text digest) ≡ true → length digest ≤ 135
    by true is = hashed_short digest content is
    by false is = text_short digest is

digest_short : (rules : ContentRules) (digest content : List ℕ) → commands.is_named rules digest content ≡ true → length digest ≤ 135
digest_short rules digest content = by rules.on_disk
  where
    by : (b : Bool) → (if b then has_digest digest content else is_digest_of digest content) ≡ true → length digest ≤ 135
    by true is = vouched_short digest content is
    by false is = hashed_short digest content is

-- ---- descriptions

-- the key is of the tenant of some repository
abbrev pub IsOwned : List Tenant → SessionNumber → Type 0
IsOwned tenants key = (repo : Text) × (tenant_of tenants repo ≡ Some key.0)

-- the key of the change is the one that its description names, and its chunk is short
abbrev pub IsKeyed : List Tenant → Change → Type 0
IsKeyed tenants (SessionOpened repo key) = key ≡ session_key tenants repo key.1
IsKeyed tenants (ChunkReceived key bytes) = IsOwned tenants key × (length bytes ≤ 2 ^ 40)
IsKeyed tenants (SessionSealed key digest last) = IsOwned tenants key × (length last ≤ 2 ^ 40)
IsKeyed tenants (SessionDropped key) = IsOwned tenants key
IsKeyed tenants (NumberSet t n) = IsOwned tenants (t, n)
IsKeyed tenants change = Unit {0}

-- the description of the change fits into a record, with bytes and with notes, and names its key
abbrev pub Describes : List Tenant → Change → Type 0
Describes tenants c = IsChange (logged_change tenants false c) × IsChange (logged_change tenants true c) × IsKeyed tenants c

-- the same of a change without a chunk, whose description has no notes
plain : {A K : Type 0} → A → K → A × A × K
plain fits keyed = (fits, fits, keyed)

pub place_owned : (tenants : List Tenant) (key : SessionNumber) → IsOwned tenants key → place tenants (name_at tenants key.0) ≡ key.0
place_owned tenants key owned = ap (place tenants) (known_name tenants owned.0 key.0 owned.1) ∙ ap (λ o. option_map_or (λ t. t) o 0) owned.1

-- the notes of a chunk are read as the chunk is kept, if contents may lie in files
read_kept : (files : Bool) (bytes : Text) → files ≡ true → read_notes (chunk_notes bytes) ≡ as_kept files bytes
read_kept files bytes so = notes_are_read_back bytes ∙ ap (λ f. as_kept f bytes) (sym so)

pub described_is : (tenants : List Tenant) (files noted : Bool) (c : Change) → IsKeyed tenants c → (noted ≡ true → files ≡ true) → described tenants files (logged_change tenants noted c) ≡ kept_change files c
described_is tenants files noted (SessionOpened repo key) keyed so = ap (SessionOpened repo) (sym keyed)
described_is tenants files false (ChunkReceived key bytes) keyed so = ap (λ t. ChunkReceived (t, key.1) (as_kept files bytes)) (place_owned tenants key keyed.0)
described_is tenants files true (ChunkReceived key bytes) keyed so = λ i. ChunkReceived (place_owned tenants key keyed.0 i, key.1) (read_kept files bytes (so refl) i)
described_is tenants files false (SessionSealed key digest last) keyed so = ap (λ t. SessionSealed (t, key.1) digest (as_kept files last)) (place_owned tenants key keyed.0)
described_is tenants files true (SessionSealed key digest last) keyed so = λ i. SessionSealed (place_owned tenants key keyed.0 i, key.1) digest (read_kept files last (so refl) i)
described_is tenants files noted (SessionDropped key) keyed so = ap (λ t. SessionDropped (t, key.1)) (place_owned tenants key keyed)
described_is tenants files noted (BlobLinked repo digest) keyed so = refl
described_is tenants files noted (BlobUnlinked repo digest) keyed so = refl
described_is tenants files noted (ManifestPut repo bytes) keyed so = refl
described_is tenants files noted (ManifestDeleted repo digest) keyed so = refl
described_is tenants files noted (RepoAdded repo) keyed so = refl
described_is tenants files noted (RepoRemoved repo) keyed so = refl
described_is tenants files noted (NumberSet t n) keyed so = ap (λ m. NumberSet m n) (place_owned tenants (t, n) keyed)
described_is tenants files noted (BlobStored digest bytes) keyed so = refl

-- only a store whose contents may lie in files notes chunks
noted_in_files : (longest : Option ℕ) (n : ℕ) → is_beyond longest n ≡ true → is_some longest ≡ true
noted_in_files None n noted = absurd cc
noted_in_files (Some l) n noted = refl

-- the descriptions of steps describe their changes as they are kept
pub all_described : (longest : Option ℕ) (tenants : List Tenant) (steps : List Step) → AllByRecursion (IsLogged longest tenants) steps → AllByRecursion (Describes tenants) (changes_of tenants steps) →
    map (described tenants (is_some longest)) (logged_changes longest steps) ≡ map (kept_change (is_some longest)) (changes_of tenants steps)
all_described longest tenants [] each all = refl
all_described longest tenants (step ∷ steps) each all =
    ap (λ l. map (described tenants (is_some longest)) (cons_option l (logged_changes longest steps))) each.0
    ∙ by (all_described longest tenants steps each.1) (change_of tenants step) all
  where
    by : (AllByRecursion (Describes tenants) (changes_of tenants steps) →
        map (described tenants (is_some longest)) (logged_changes longest steps) ≡ map (kept_change (is_some longest)) (changes_of tenants steps)) →
        (o : Option Change) → AllByRecursion (Describes tenants) (cons_option o (changes_of tenants steps)) →
        map (described tenants (is_some longest)) (cons_option (option_map (logged_change tenants (is_noted longest step)) o) (logged_changes longest steps)) ≡ map (kept_change (is_some longest)) (cons_option o (changes_of tenants steps))
    by again None all = again all
    by again (Some c) all = λ i. described_is tenants (is_some longest) (is_noted longest step) c all.0.2 (noted_in_files longest (length_after step)) i ∷ again all.1 i

-- a description fits into a record, whatever it has of a chunk
fits : (tenants : List Tenant) (noted : Bool) (c : Change) → Describes tenants c → IsChange (logged_change tenants noted c)
fits tenants false c d = d.0
fits tenants true c d = d.1

pub all_fit : (longest : Option ℕ) (tenants : List Tenant) (steps : List Step) → AllByRecursion (IsLogged longest tenants) steps → AllByRecursion (Describes tenants) (changes_of tenants steps) → AllByRecursion IsChange (logged_changes longest steps)
all_fit longest tenants [] each all = tt
all_fit longest tenants (step ∷ steps) each all =
    subst (λ l. AllByRecursion IsChange (cons_option l (logged_changes longest steps))) (sym each.0)
    (by (all_fit longest tenants steps each.1) (change_of tenants step) all)
  where
    by : (AllByRecursion (Describes tenants) (changes_of tenants steps) → AllByRecursion IsChange (logged_changes longest steps)) →
        (o : Option Change) → AllByRecursion (Describes tenants) (cons_option o (changes_of tenants steps)) →
        AllByRecursion IsChange (cons_option (option_map (logged_change tenants (is_noted longest step)) o) (logged_changes longest steps))
    by again None all = again all
    by again (Some c) all = (fits tenants (is_noted longest step) c all.0, again all.1)

-- ---- what a catalog has

module _ (C : Catalog) (lawful : WellFormed C) where
  abbrev Fits : Change → Type 0
  Fits c = Describes C.tenants c

  session_fits : (key : SessionNumber) (s : Session) → get C.sessions key ≡ Some s → (length (name_at C.tenants key.0) ≤ 255) × (key.1 < 2 ^ 32) × IsOwned C.tenants key
  session_fits key s found =
      let law = lawful.sessions key s found in
      let owner = session_owner C lawful key s found in
      let name = known_name C.tenants s.repo key.0 owner in
      let less : length (tenant_name s.repo) ≤ length s.repo = before_first_short (λ b. b == 47) s.repo in
      let short = lawful.repositories.short_names s.repo law.repo in
      let few = lawful.numbering.few key.0 in
      (omega (arith, ap length name, less, short), omega (arith, law.number, few), (s.repo, owner))

  link_short : (repo digest : Text) → holds C repo digest ≡ true → length digest ≤ 135
  link_short repo digest has =
      let kept = (lawful.links (repo, digest) has).kept in
      digest_short C.contents digest kept.0.bytes (lawful.content digest kept.0 kept.1)

  manifest_short : (repo name bytes : Text) → get C.manifests (repo, name) ≡ Some bytes → length name ≤ 135
  manifest_short repo name bytes found = omega (arith, ap length (lawful.manifests (repo, name) bytes found).name, sha256_short bytes)

  keyed : (r : Text) (t n : ℕ) → tenant_of C.tenants r ≡ Some t → session_key C.tenants r n ≡ (t, n)
  keyed r t n known = ap (λ o. (option_map_or (λ t. t) o 0, n)) known

  -- ---- changes of sessions

  chunk_fits : (key : SessionNumber) (s : Session) → get C.sessions key ≡ Some s → (bytes : Text) → length bytes ≤ 2 ^ 40 → IfSome (chunk_change key bytes) Fits
  chunk_fits key s found [] small = tt
  chunk_fits key s found (x ∷ bytes) small =
      let f = session_fits key s found in (
        room kind.ChunkReceived (name_at C.tenants key.0) [] key.1 (x ∷ bytes) f.0 (omega arith) f.1 small,
        room kind.ChunkNoted (name_at C.tenants key.0) [] key.1 (chunk_notes (x ∷ bytes)) f.0 (omega arith) f.1 (notes_small (x ∷ bytes) small),
        (f.2, small),
      )

  seal_fits : (key : SessionNumber) (s : Session) → get C.sessions key ≡ Some s → (digest whole last : Text) → commands.is_digest_accepted C digest whole ≡ true → length last ≤ 2 ^ 40 → Fits (SessionSealed key digest last)
  seal_fits key s found digest whole last accepted small =
      let f = session_fits key s found in
      let is = and_parts (commands.is_named C.contents digest whole) (commands.fits_stored C.contents (get C.residents digest) whole) accepted in (
        room kind.SessionSealed (name_at C.tenants key.0) digest key.1 last f.0 (digest_short C.contents digest whole is.0) f.1 small,
        room kind.SealNoted (name_at C.tenants key.0) digest key.1 (chunk_notes last) f.0 (digest_short C.contents digest whole is.0) f.1 (notes_small last small),
        (f.2, small),
      )

  drop_fits : (key : SessionNumber) (s : Session) → get C.sessions key ≡ Some s → Fits (SessionDropped key)
  drop_fits key s found = let f = session_fits key s found in (plain (room kind.SessionDropped (name_at C.tenants key.0) [] key.1 [] f.0 (omega arith) f.1 (omega arith)) f.2)

  open_fits : (r : Text) (n : ℕ) (X : Catalog) → commands.start C r ≡ Ok (n, X) → length r ≤ 255 → Fits (SessionOpened r (session_key C.tenants r n))
  open_fits r n X is short =
      let b = bound_ok (commands.tenant C r) _ (n, X) is in
      let c = bound_ok (refuse (commands.lacks_room_for C b.0 r) LimitReached) _ (n, X) b.2 in
      let d = bound_ok (refuse (commands.cannot_open C b.0) LimitReached) _ (n, X) c.2 in
      let number : next_number_of C b.0 ≡ n = answer_by d.2 in
      let room_left = or_parts (nat_le (limits_of C b.0).sessions (open_sessions C b.0)) (nat_le (2 ^ 32) (next_number_of C b.0)) (not_refused (commands.cannot_open C b.0) LimitReached d.0 d.1) in
      let small = leb-false (2 ^ 32) (next_number_of C b.0) room_left.1 in
      (plain (room kind.SessionOpened r [] n [] short (omega arith) (omega (arith, number, small)) (omega arith)) refl)

  mount_fits : (r d : Text) (from : Option Text) (m : Mount) (X : Catalog) → commands.mount C r d from ≡ Ok (m, X) → length r ≤ 255 → Fits (mount_change C.tenants r d m)
  mount_fits r d from m X is short =
      let b = bound_ok (commands.tenant C r) _ (m, X) is in
      elim (commands.has_source C b.0 d from) as (λ x. commands.has_source C b.0 d from ≡ x → (if x then commands.mounted_outcome C b.0 r d else commands.started_outcome C r) ≡ Ok (m, X) → Fits (mount_change C.tenants r d m)) [
        | true ↦ λ has h.
            let c = bound_ok (refuse (commands.lacks_room_for C b.0 r) LimitReached) _ (m, X) h in
            let source = source_of C b.0 d from has in
            let answer : mounting.Mounted ≡ m = answer_by c.2 in
            subst (λ (y : Mount). Fits (mount_change C.tenants r d y)) answer (plain (room kind.BlobLinked r d 0 [] short (link_short source.0 d source.2) (omega arith) (omega arith)) tt)
        | false ↦ λ has h.
            let c = bound_ok (commands.start C r) _ (m, X) h in
            let answer : mounting.Session c.0.0 ≡ m = answer_by c.2 in
            subst (λ (y : Mount). Fits (mount_change C.tenants r d y)) answer (open_fits r c.0.0 c.0.1 c.1 short)
      ] refl b.2

  -- ---- commands

  command_fits : (command : Command) (x : Answer) (X : Catalog) → outcome false C command ≡ Ok (x, X) → length (repo_of command) ≤ 255 → IfSome (command_change C.tenants command x) Fits
  command_fits (runs.Start r) x X is short =
      let h = answered_ok runs.Number (commands.start C r) x X is in
      subst (λ y. IfSome (command_change C.tenants (runs.Start r) y) Fits) h.2 (open_fits r h.0 X h.1 short)
  command_fits (runs.Status r n) x X is short = tt
  command_fits (runs.Append r n g b) x X is short =
      let h = answered_ok runs.Number (commands.append C r n g b) x X is in
      let t = bound_ok (commands.tenant C r) _ (h.0, X) h.1 in
      let checked = bound_ok (commands.chunk_length_check C t.0 r n g (length b)) _ (h.0, X) t.2 in
      let c = checked_home C t.0 n r g (length b) checked.0 checked.1 in
      subst (λ (k : SessionNumber). IfSome (chunk_change k b) Fits) (sym (keyed r t.0 n (some_of_ok (tenant_of C.tenants r) NameUnknown t.0 t.1)))
      (chunk_fits (t.0, n) c.s c.found b (omega (arith, c.fits, lawful.limits.max_blob)))
  command_fits (runs.Close r n d g b) x X is short =
      let h = answered_ok runs.Number (commands.close C r n d g b) x X is in
      let t = bound_ok (commands.tenant C r) _ (h.0, X) h.1 in
      let checked = bound_ok (commands.chunk_length_check C t.0 r n g (length b)) _ (h.0, X) t.2 in
      let paid = bound_ok (commands.check_quota C t.0 (length b)) _ (h.0, X) checked.2 in
      let whole = commands.content_in C.sessions (t.0, n) b in
      let named = bound_ok (refuse (not (commands.is_digest_accepted C d whole)) DigestInvalid) _ (h.0, X) paid.2 in
      let accepted = not-false (commands.is_digest_accepted C d whole) (not_refused (not (commands.is_digest_accepted C d whole)) DigestInvalid named.0 named.1) in
      let c = checked_home C t.0 n r g (length b) checked.0 checked.1 in
      subst (λ (k : SessionNumber). Fits (SessionSealed k d b)) (sym (keyed r t.0 n (some_of_ok (tenant_of C.tenants r) NameUnknown t.0 t.1)))
      (seal_fits (t.0, n) c.s c.found d whole b accepted (omega (arith, c.fits, lawful.limits.max_blob)))
  command_fits (runs.Abandon r n) x X is short =
      let h = answered_ok runs.Number (commands.abandon C r n) x X is in
      let t = bound_ok (commands.tenant C r) _ (h.0, X) h.1 in
      let s = bound_ok (commands.session C t.0 r n) _ (h.0, X) t.2 in
      subst (λ (k : SessionNumber). Fits (SessionDropped k)) (sym (keyed r t.0 n (some_of_ok (tenant_of C.tenants r) NameUnknown t.0 t.1)))
      (drop_fits (t.0, n) s.0 (session_found (get C.sessions (t.0, n)) r s.0 s.1).0)
  command_fits (runs.Mount r d from) x X is short =
      let h = answered_ok runs.Mounting (commands.mount C r d from) x X is in
      subst (λ y. IfSome (command_change C.tenants (runs.Mount r d from) y) Fits) h.2 (mount_fits r d from h.0 X h.1 short)
  command_fits (runs.Delete r d) x X is short =
      let h = answered_ok (λ _. runs.Done) (commands.delete C r d) x X is in
      let t = bound_ok (commands.tenant C r) _ (h.0, X) h.1 in
      let l = bound_ok (commands.check_link C r d) _ (h.0, X) t.2 in
      (plain (room kind.BlobUnlinked r d 0 [] short (link_short r d (not-false (holds C r d) (not_refused (not (holds C r d)) BlobUnknown l.0 l.1))) (omega arith) (omega arith)) tt)
  command_fits (runs.PutManifest r b) x X is short =
      let h = answered_ok runs.Bytes (commands.put_manifest C r b) x X is in
      let t = bound_ok (commands.tenant C r) _ (h.0, X) h.1 in
      let size = bound_ok (refuse (nat_lt max_manifest (length b)) SizeInvalid) _ (h.0, X) t.2 in
      let small = ltb-false max_manifest (length b) (not_refused (nat_lt max_manifest (length b)) SizeInvalid size.0 size.1) in
      (plain (room kind.ManifestPut r [] 0 b short (omega arith) (omega arith) (omega (arith, small))) tt)
  command_fits (runs.GetManifest r m) x X is short = tt
  command_fits (runs.DeleteManifest r m) x X is short =
      let h = answered_ok (λ _. runs.Done) (commands.delete_manifest C r m) x X is in
      let t = bound_ok (commands.tenant C r) _ (h.0, X) h.1 in
      let there = bound_ok (commands.manifest C r m) _ (h.0, X) t.2 in
      (plain (room kind.ManifestDeleted r m 0 [] short (manifest_short r m there.0 (some_of_ok (get C.manifests (r, m)) ManifestUnknown there.0 there.1)) (omega arith) (omega arith)) tt)
  command_fits (runs.RemoveRepo r) x X is short = (plain (room kind.RepoRemoved r [] 0 [] short (omega arith) (omega arith) (omega arith)) tt)
  command_fits (runs.Lease r d) x X is short = tt

  -- ---- checked-out sessions

  hand_small : (h : HandRecord) (s : Session) → get C.sessions h.key ≡ Some s → s.chunks ≡ CheckedOutWith (sum_by length h.chunks) h.reserved → FillsReserve h → length (filled_chunk h) ≤ 2 ^ 40
  hand_small h s found out fills = by h.last fills
    where
      reserved : h.reserved ≤ 2 ^ 40
      reserved =
          let charged : charged_length s ≡ sum_by length h.chunks + h.reserved = ap (λ (c : Chunks). charged_length (record { repo = s.repo; chunks = c })) out in
          let small = (lawful.sessions h.key s found).small in
          omega (arith, charged, small, lawful.limits.max_blob)

      by : (last : Option Text) → IfSome last (λ b. length b ≡ h.reserved) → length (option_map_or (λ b. b) last []) ≤ 2 ^ 40
      by None f = omega arith
      by (Some b) f = omega (arith, f, reserved)

  put_back_fits : (h : HandRecord) (n : ℕ) (X : Catalog) → commands.put_back C h ≡ Ok (n, X) → FillsReserve h → IfSome (chunk_change h.key (filled_chunk h)) Fits
  put_back_fits h n X is fills =
      let b = bound_ok (commands.put_back_outcome_in C.sessions h) _ (n, X) is in
      let c = bound_ok (session_of_hand (get C.sessions h.key) h) _ b.0 b.1 in
      let f = taken_found (get C.sessions h.key) h c.0 c.1 in
      chunk_fits h.key c.0 f.0 (filled_chunk h) (hand_small h c.0 f.0 f.1 fills)

  finish_fits : (h : HandRecord) (d : Text) (n : ℕ) (X : Catalog) → commands.finish C h d ≡ Ok (n, X) → FillsReserve h → Fits (SessionSealed h.key d (filled_chunk h))
  finish_fits h d n X is fills =
      let b = bound_ok (session_of_hand (get C.sessions h.key) h) _ (n, X) is in
      let c = bound_ok (refuse (not (commands.is_digest_accepted C d (hand_content h))) DigestInvalid) _ (n, X) b.2 in
      let accepted = not-false (commands.is_digest_accepted C d (hand_content h)) (not_refused (not (commands.is_digest_accepted C d (hand_content h))) DigestInvalid c.0 c.1) in
      let f = taken_found (get C.sessions h.key) h b.0 b.1 in
      seal_fits h.key b.0 f.0 d (hand_content h) (filled_chunk h) accepted (hand_small h b.0 f.0 f.1 fills)

-- ---- histories

-- the change of a step, if it has one, is described
abbrev StepFits : List Tenant → Step → Type 0
StepFits tenants step = IfSome (change_of tenants step) (Describes tenants)

pub step_fits : (s : State) (step : Step) (X : Catalog) → MayLeadTo s step X → IsWellFormedStep step → WellFormed s.catalog → StepFits s.catalog.tenants step
step_fits s (CommandCall command (Ok x)) X leaves right lawful = command_fits s.catalog lawful command x X leaves right
step_fits s (CommandCall command (Err e)) X leaves right lawful = tt
step_fits s (SweepCall swept) X leaves right lawful = tt
step_fits s (SweepPartCall swept) X leaves right lawful = tt
step_fits s (TakeCall r n g len reply) X leaves right lawful = tt
step_fits s (PutBackCall h (Ok n)) X leaves right lawful = put_back_fits s.catalog lawful h n X leaves right
step_fits s (PutBackCall h (Err e)) X leaves right lawful = tt
step_fits s (FinishCall h d (Ok n)) X leaves right lawful = finish_fits s.catalog lawful h d n X leaves right.0
step_fits s (FinishCall h d (Err e)) X leaves right lawful = tt

cons_fits : (tenants : List Tenant) (o : Option Change) (cs : List Change) → IfSome o (Describes tenants) → AllByRecursion (Describes tenants) cs → AllByRecursion (Describes tenants) (cons_option o cs)
cons_fits tenants None cs one rest = rest
cons_fits tenants (Some c) cs one rest = (one, rest)

steps_fit : (tenants : List Tenant) (steps : List Step) (taken : TakenSessions) (D : DurableState) (s s' : State) → Agrees taken D s.catalog → D.tenants ≡ tenants → Sound s.catalog → AreSteps s steps s' → AreReturnedAsTaken taken steps →
    AllByRecursion IsWellFormedStep steps → AllByRecursion (Describes tenants) (changes_of tenants steps)
steps_fit tenants [] taken D s s' a same sound run returned right = tt
steps_fit tenants (step ∷ steps) taken D s s' a same sound run returned right =
    let mid : State = run.0 in
    let leaves = run.1.leaves in
    let change = change_of s.catalog.tenants step in
    cons_fits tenants (change_of tenants step) (changes_of tenants steps)
    (subst (λ ts. StepFits ts step) (sym a.tenants ∙ same) (step_fits s step mid.catalog leaves right.0 sound.lawful))
    (steps_fit tenants steps (taken_after_step taken step) (after_record D change) mid s' (step_agrees taken D s step mid.catalog a leaves returned.0) (after_record_tenants D change ∙ same)
    (step_sound taken D s step mid.catalog a leaves returned.0 right.0 sound) run.2 returned.1 right.1)

-- every change of a history that its log restores is described
pub history_described : (names : StoreNames) (history : List (Entry Step)) (s : State) → IsRestorable names history s → AllByRecursion (Describes names.setting.tenants) (changes_in names history)
history_described names history s r =
    steps_fit names.setting.tenants (steps_of history) fmap.empty (opening_state names) (initial_state names.opening) s r.opening refl r.opens.sound r.leads r.returned r.formed
