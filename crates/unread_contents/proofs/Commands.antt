-- Each command has the same outcome when the contents on disk were read, but for the content that a lease returns.
use Rattle.std.proofs.Common.{◌≡◌, ◌∙◌, ℕ, ◌+◌, Bool, true, false, cond, not, length, Option, Some, None, Result, Ok, Err, refl, sym, ap, subst}
use Rattle.std.specs.Prelude.{◌==◌, ◌&&◌, nat_le, nat_lt, if◌then◌else◌}
use Rattle.std.specs.Option.{ok_or}
use Rattle.std.specs.FinMap.{entries, get, len}
use Rattle.blob_digest.specs.declared.range.ByteRange.{ByteRange}
use Rattle.blob_digest.specs.declared.refusal.Refusal.{Refusal}
use Rattle.blob_digest.specs.declared.refusal.Refusal.TheVariants.{BlobUnknown, DigestInvalid, LimitReached, ManifestInvalid, Quota, RepoInUse, SizeInvalid, StoreFull, TooManyReaders}
use Rattle.blob_digest.specs.Digests.{sha256_text}
use Rattle.oci_manifest.specs.Manifests.{max_manifest, refs_of}
use Rattle.spec_lib.specs.Outcomes.{◌>>=◌, refuse}
use Rattle.spec_lib.specs.Texts.{Text, same_text}
use Rattle.store_model.specs.Catalog.{Catalog, ContentRules, HandRecord, Resident, blob_share, quota_of, session_charges_of, tenant_holds, used_bytes}
use Rattle.store_model.specs.Commands
use Rattle.store_model.specs.Commands.{Outcome}
use Rattle.store_model.specs.Sessions.{content_in, hand_content, not_busy, put_back_outcome_in, session_of_hand}
use Rattle.store_model.specs.Noninterference.{always_has_slot, isolated_outcome}
use Rattle.store_model.specs.declared.mount.Mount.TheVariants as mounting
use Rattle.store_model.specs.Runs as runs
use Rattle.store_model.specs.Runs.{Answer, Command, map_outcome, outcome, reading_outcome}
use Rattle.unread_contents.specs.Unread.{AreReadBlobs, IsReadAs, IsReadBlob, IsReadCatalog}
use Rattle.unread_contents.proofs.Blobs.{AreRead, Blobs, both_some, entries_read, len_read, read_insert, sum_read}
use Rattle.unread_contents.proofs.Contents.{read_itself, read_length}

-- a catalog with other blobs
abbrev pub with : Catalog → Blobs → Catalog
with C r = record C { residents = r }

-- The second catalog is the first one, on disk, with its contents read.
pub record AreBoth (C F : Catalog) : Type 0 where
  pub read : IsReadCatalog C F
  pub on_disk : C.contents.on_disk ≡ true

-- two outcomes are the same but for contents: related results with catalogs of which one is the other with its contents read, or equal errors
abbrev pub AreOutcomes : {A : Type 0} → (A → A → Type 0) → Outcome A → Outcome A → Type 0
AreOutcomes related (Ok x) (Ok y) = related x.0 y.0 × AreBoth x.1 y.1
AreOutcomes related (Ok x) (Err f) = ⊥
AreOutcomes related (Err e) (Ok y) = ⊥
AreOutcomes related (Err e) (Err f) = e ≡ f

-- equal results
abbrev pub Equal : {A : Type 0} → A → A → Type 0
Equal x y = x ≡ y

-- ---- lines of an outcome

-- a check that is the same for both
line : {A X : Type 0} (related : A → A → Type 0) (x : Result X Refusal) (f g : X → Outcome A) → ((a : X) → AreOutcomes related (f a) (g a)) → AreOutcomes related (x >>= f) (x >>= g)
line related (Ok a) f g h = h a
line related (Err e) f g h = refl

-- a check that reads the stored blobs, with the same result
same_line : {A X : Type 0} (related : A → A → Type 0) (x y : Result X Refusal) → x ≡ y → (f g : X → Outcome A) → ((a : X) → AreOutcomes related (f a) (g a)) → AreOutcomes related (x >>= f) (y >>= g)
same_line related x y e f g h = subst (λ z. AreOutcomes related (x >>= f) (z >>= g)) e (line related x f g h)

-- a choice that is the same for both
either : {A : Type 0} (related : A → A → Type 0) (b : Bool) (x y x' y' : Outcome A) → AreOutcomes related x x' → AreOutcomes related y y' → AreOutcomes related (if b then x else y) (if b then x' else y')
either related true x y x' y' p q = p
either related false x y x' y' p q = q

-- the answers of one command
abbrev pub AreAnswers : Command → Answer → Answer → Type 0
AreAnswers (runs.Lease r d) a b = (one : Text) × (other : Text) × (a ≡ runs.Bytes one) × (b ≡ runs.Bytes other) × IsReadAs one other
AreAnswers command a b = a ≡ b

-- results as answers
answers : {A : Type 0} (f : A → Answer) (x y : Outcome A) → AreOutcomes Equal x y → AreOutcomes Equal (map_outcome f x) (map_outcome f y)
answers f (Ok x) (Ok y) h = (ap f h.0, h.1)
answers f (Ok x) (Err e) h = h
answers f (Err e) (Ok y) h = h
answers f (Err e) (Err d) h = h

-- the content of a lease as an answer
leased : (r d : Text) (x y : Outcome Text) → AreOutcomes IsReadAs x y → AreOutcomes (AreAnswers (runs.Lease r d)) (map_outcome runs.Bytes x) (map_outcome runs.Bytes y)
leased r d (Ok x) (Ok y) h = ((x.0, y.0, refl, refl, h.0), h.1)
leased r d (Ok x) (Err e) h = h
leased r d (Err e) (Ok y) h = h
leased r d (Err e) (Err c) h = h

module _ (C : Catalog) (r : Blobs) (read : AreRead C.residents r) (on_disk : C.contents.on_disk ≡ true) where
  abbrev F : Catalog
  F = with C r

  -- a change that does not touch the stored blobs
  kept : (X : Catalog) → X.residents ≡ C.residents → X.contents ≡ C.contents → AreBoth X (with X r)
  kept X same rules = record { read = record { residents = subst (λ m. AreRead m r) (sym same) read; rest = refl }; on_disk = ap (λ (x : ContentRules). x.on_disk) rules ∙ on_disk }

  -- a command that reads alone
  readings : {A : Type 0} (f : A → Answer) (x : Result A Refusal) → AreOutcomes Equal (reading_outcome f C x) (reading_outcome f F x)
  readings f (Ok a) = (refl, kept C refl refl)
  readings f (Err e) = refl

  -- ---- facts that do not depend on contents

  share_read : (t : ℕ) (d : Text) (b c : Resident) → IsReadBlob b c → blob_share C t (d, b) ≡ blob_share F t (d, c)
  share_read t d b c is = ap (λ n. cond (tenant_holds C t d) n 0) (read_length b.bytes c.bytes is.content)

  pub used_read : (t : ℕ) → used_bytes C t ≡ used_bytes F t
  used_read t = ap (λ n. n + session_charges_of C t) (sum_read (blob_share C t) (blob_share F t) (share_read t) (entries C.residents) (entries r) (entries_read C.residents r read))

  quota_read : (t n : ℕ) → Commands.check_quota C t n ≡ Commands.check_quota F t n
  quota_read t n = ap (λ u. refuse (nat_lt (quota_of C t) (u + n)) (Quota u (quota_of C t))) (used_read t)

  fits_read : (content : Text) (o p : Option Resident) → AreReadBlobs o p → Commands.fits_stored C.contents o content ≡ Commands.fits_stored C.contents p content
  fits_read content None None h = refl
  fits_read content None (Some c) h = absurd h
  fits_read content (Some b) None h = absurd h
  fits_read content (Some b) (Some c) h = ap (λ x. if x then length b.bytes == length content else same_text b.bytes content) on_disk
      ∙ ap (λ n. n == length content) (read_length b.bytes c.bytes h.content)
      ∙ sym (ap (λ x. if x then length c.bytes == length content else same_text c.bytes content) on_disk)

  accepted_read : (d content : Text) → Commands.is_digest_accepted C d content ≡ Commands.is_digest_accepted F d content
  accepted_read d content = ap (λ x. Commands.is_named C.contents d content && x) (fits_read content (get C.residents d) (get r d) (read d))

  full_read : (d : Text) → Commands.is_full_for C d ≡ Commands.is_full_for F d
  full_read d = λ i. not (both_some (get C.residents d) (get r d) (read d) i) && nat_le C.slots (len_read C.residents r read i + C.retired)

  slot_read : (d : Text) → Commands.has_slot C d ≡ Commands.has_slot F d
  slot_read d = ap (λ b. refuse b StoreFull) (full_read d)

  lent_read : (o p : Option Resident) → AreReadBlobs o p → Commands.was_leased o ≡ Commands.was_leased p
  lent_read None None h = refl
  lent_read None (Some c) h = absurd h
  lent_read (Some b) None h = absurd h
  lent_read (Some b) (Some c) h = ap (λ (x : Resident). x.lent) (sym h.rest)

  -- ---- a blob that is stored, or leased

  stored_read : (t : ℕ) (repo : Text) (n : ℕ) (d bytes : Text) → AreBoth (Commands.with_stored_blob C t repo n d bytes) (Commands.with_stored_blob F t repo n d bytes)
  stored_read t repo n d bytes = record {
    read = record {
      residents = read_insert C.residents r read d (blob (Commands.was_leased (get C.residents d))) (blob (Commands.was_leased (get r d))) (record {
        content = read_itself bytes;
        rest = ap blob (sym (lent_read (get C.residents d) (get r d) (read d)));
      });
      rest = refl;
    };
    on_disk = on_disk;
  }
    where
      blob : Bool → Resident
      blob b = record { bytes = bytes; condemned = false; lent = b }

  lease_read : (d : Text) (b c : Resident) → IsReadBlob b c → AreBoth (Commands.with_leased C d b) (Commands.with_leased F d c)
  lease_read d b c is = record {
    read = record {
      residents = read_insert C.residents r read d (record b { lent = true }) (record c { lent = true }) (record { content = is.content; rest = ap (λ (x : Resident). record x { lent = true }) is.rest });
      rest = refl;
    };
    on_disk = on_disk;
  }

  -- ---- the commands

  pub start_read : (repo : Text) → AreOutcomes Equal (Commands.start C repo) (Commands.start F repo)
  start_read repo = line Equal (Commands.tenant C repo) _ _ (λ t.
      line Equal (refuse (Commands.lacks_room_for C t repo) LimitReached) _ _ (λ _.
      line Equal (refuse (Commands.cannot_open C t) LimitReached) _ _ (λ _.
      (refl, kept (Commands.with_new_session C t repo) refl refl))))

  pub append_read : (repo : Text) (n : ℕ) (g : Option ByteRange) (bytes : Text) → AreOutcomes Equal (Commands.append C repo n g bytes) (Commands.append F repo n g bytes)
  append_read repo n g bytes = line Equal (Commands.tenant C repo) _ _ (λ t.
      line Equal (Commands.chunk_length_check C t repo n g (length bytes)) _ _ (λ after.
      same_line Equal (Commands.check_quota C t (length bytes)) (Commands.check_quota F t (length bytes)) (quota_read t (length bytes)) _ _ (λ _.
      (refl, kept (record C { sessions = _ }) refl refl))))

  pub close_read : (room : Catalog → Text → Result (Unit {0}) Refusal) → ((d : Text) → room C d ≡ room F d) → (repo : Text) (n : ℕ) (d : Text) (g : Option ByteRange) (last : Text) →
      AreOutcomes Equal (Commands.close_by room C repo n d g last) (Commands.close_by room F repo n d g last)
  close_read room same repo n d g last = line Equal (Commands.tenant C repo) _ _ (λ t.
      line Equal (Commands.chunk_length_check C t repo n g (length last)) _ _ (λ _.
      same_line Equal (Commands.check_quota C t (length last)) (Commands.check_quota F t (length last)) (quota_read t (length last)) _ _ (λ _.
      same_line Equal (refuse (not (Commands.is_digest_accepted C d (content_in C.sessions (t, n) last))) DigestInvalid) (refuse (not (Commands.is_digest_accepted F d (content_in C.sessions (t, n) last))) DigestInvalid)
      (ap (λ b. refuse (not b) DigestInvalid) (accepted_read d (content_in C.sessions (t, n) last))) _ _ (λ _.
      line Equal (Commands.check_share C t d) _ _ (λ _.
      same_line Equal (room C d) (room F d) (same d) _ _ (λ _.
      (refl, stored_read t repo n d (content_in C.sessions (t, n) last))))))))

  pub abandon_read : (repo : Text) (n : ℕ) → AreOutcomes Equal (Commands.abandon C repo n) (Commands.abandon F repo n)
  abandon_read repo n = line Equal (Commands.tenant C repo) _ _ (λ t.
      line Equal (Commands.session C t repo n) _ _ (λ s.
      line Equal (not_busy s.chunks) _ _ (λ _.
      (refl, kept (Commands.without_session C t n) refl refl))))

  started_read : (x y : Outcome ℕ) → AreOutcomes Equal x y → AreOutcomes Equal (x >>= λ s. Ok (mounting.Session s.0, s.1)) (y >>= λ s. Ok (mounting.Session s.0, s.1))
  started_read (Ok x) (Ok y) h = (ap mounting.Session h.0, h.1)
  started_read (Ok x) (Err e) h = h
  started_read (Err e) (Ok y) h = h
  started_read (Err e) (Err d) h = h

  pub mount_read : (repo d : Text) (from : Option Text) → AreOutcomes Equal (Commands.mount C repo d from) (Commands.mount F repo d from)
  mount_read repo d from = line Equal (Commands.tenant C repo) _ _ (λ t.
      either Equal (Commands.has_source C t d from) _ _ _ _
      (line Equal (refuse (Commands.lacks_room_for C t repo) LimitReached) _ _ (λ _. (refl, kept (Commands.with_link C repo d) refl refl)))
      (started_read _ _ (start_read repo)))

  pub delete_read : (repo d : Text) → AreOutcomes Equal (Commands.delete C repo d) (Commands.delete F repo d)
  delete_read repo d = line Equal (Commands.tenant C repo) _ _ (λ t.
      line Equal (Commands.check_link C repo d) _ _ (λ _.
      line Equal (Commands.check_no_referrer (Commands.referrer C repo d)) _ _ (λ _.
      (refl, kept (record C { links = _ }) refl refl))))

  add_read : (t : ℕ) (repo bytes : Text) → AreOutcomes Equal (Commands.add_manifest C t repo bytes) (Commands.add_manifest F t repo bytes)
  add_read t repo bytes = line Equal (refuse (Commands.lacks_room_for C t repo) LimitReached) _ _ (λ _.
      line Equal (refuse (Commands.is_full_of_manifests C t repo) LimitReached) _ _ (λ _.
      (refl, kept (Commands.with_manifest C repo bytes) refl refl)))

  pub put_read : (repo bytes : Text) → AreOutcomes Equal (Commands.put_manifest C repo bytes) (Commands.put_manifest F repo bytes)
  put_read repo bytes = line Equal (Commands.tenant C repo) _ _ (λ t.
      line Equal (refuse (nat_lt max_manifest (length bytes)) SizeInvalid) _ _ (λ _.
      line Equal (ok_or (refs_of bytes) ManifestInvalid) _ _ (λ refs.
      line Equal (Commands.check_all_links C repo refs) _ _ (λ _.
      either Equal (Commands.has_manifest C repo (sha256_text bytes)) (Ok (sha256_text bytes, C)) (Commands.add_manifest C t repo bytes) (Ok (sha256_text bytes, F)) (Commands.add_manifest F t repo bytes)
      (refl, kept C refl refl) (add_read t repo bytes)))))

  pub delete_manifest_read : (repo m : Text) → AreOutcomes Equal (Commands.delete_manifest C repo m) (Commands.delete_manifest F repo m)
  delete_manifest_read repo m = line Equal (Commands.tenant C repo) _ _ (λ t.
      line Equal (Commands.manifest C repo m) _ _ (λ _.
      (refl, kept (record C { manifests = _ }) refl refl)))

  pub remove_repo_read : (repo : Text) → AreOutcomes Equal (Commands.remove_repo C repo) (Commands.remove_repo F repo)
  remove_repo_read repo = line Equal (Commands.tenant C repo) _ _ (λ t.
      line Equal (Commands.check_repo C repo) _ _ (λ _.
      line Equal (refuse (Commands.is_in_use C repo) RepoInUse) _ _ (λ _.
      (refl, kept (Commands.without_repo C repo) refl refl))))

  lease_of : (crowded : Bool) (d : Text) (o p : Option Resident) → AreReadBlobs o p →
      AreOutcomes IsReadAs (ok_or o BlobUnknown >>= λ b. refuse crowded TooManyReaders >>= λ _. Ok (b.bytes, Commands.with_leased C d b)) (ok_or p BlobUnknown >>= λ b. refuse crowded TooManyReaders >>= λ _. Ok (b.bytes, Commands.with_leased F d b))
  lease_of crowded d None None h = refl
  lease_of crowded d None (Some c) h = absurd h
  lease_of crowded d (Some b) None h = absurd h
  lease_of true d (Some b) (Some c) h = refl
  lease_of false d (Some b) (Some c) h = (h.content, lease_read d b c h)

  linked_lease : (crowded : Bool) (d : Text) (x : Result (Unit {0}) Refusal) →
      AreOutcomes IsReadAs ((x >>= λ _. ok_or (get C.residents d) BlobUnknown) >>= λ b. refuse crowded TooManyReaders >>= λ _. Ok (b.bytes, Commands.with_leased C d b)) ((x >>= λ _. ok_or (get r d) BlobUnknown) >>= λ b. refuse crowded TooManyReaders >>= λ _. Ok (b.bytes, Commands.with_leased F d b))
  linked_lease crowded d (Ok u) = lease_of crowded d (get C.residents d) (get r d) (read d)
  linked_lease crowded d (Err e) = refl

  pub leases_read : (crowded : Bool) (repo d : Text) → AreOutcomes IsReadAs (Commands.lease crowded C repo d) (Commands.lease crowded F repo d)
  leases_read crowded repo d = line IsReadAs (Commands.tenant C repo) _ _ (λ t. linked_lease crowded d (Commands.check_link C repo d))

  -- any of them
  pub command_read : (crowded : Bool) (command : Command) → AreOutcomes (AreAnswers command) (outcome crowded C command) (outcome crowded F command)
  command_read crowded (runs.Start repo) = answers runs.Number _ _ (start_read repo)
  command_read crowded (runs.Status repo n) = readings runs.Number (Commands.status C repo n)
  command_read crowded (runs.Append repo n g b) = answers runs.Number _ _ (append_read repo n g b)
  command_read crowded (runs.Close repo n d g b) = answers runs.Number _ _ (close_read Commands.has_slot slot_read repo n d g b)
  command_read crowded (runs.Abandon repo n) = answers runs.Number _ _ (abandon_read repo n)
  command_read crowded (runs.Mount repo d from) = answers runs.Mounting _ _ (mount_read repo d from)
  command_read crowded (runs.Delete repo d) = answers (λ _. runs.Done) _ _ (delete_read repo d)
  command_read crowded (runs.PutManifest repo b) = answers runs.Bytes _ _ (put_read repo b)
  command_read crowded (runs.GetManifest repo m) = readings runs.Bytes (Commands.get_manifest C repo m)
  command_read crowded (runs.DeleteManifest repo m) = answers (λ _. runs.Done) _ _ (delete_manifest_read repo m)
  command_read crowded (runs.RemoveRepo repo) = answers (λ _. runs.Done) _ _ (remove_repo_read repo)
  command_read crowded (runs.Lease repo d) = leased repo d _ _ (leases_read crowded repo d)

  -- the same without the errors that others may cause
  pub isolated_read : (command : Command) → AreOutcomes (AreAnswers command) (isolated_outcome C command) (isolated_outcome F command)
  isolated_read (runs.Close repo n d g b) = answers runs.Number _ _ (close_read always_has_slot (λ _. refl) repo n d g b)
  isolated_read command = command_read false command

  -- ---- checked-out sessions

  pub take_read : (repo : Text) (n : ℕ) (g : Option ByteRange) (len : ℕ) → AreOutcomes Equal (Commands.take C repo n g len) (Commands.take F repo n g len)
  take_read repo n g len = line Equal (Commands.tenant C repo) _ _ (λ t.
      line Equal (Commands.chunk_length_check C t repo n g len) _ _ (λ _.
      same_line Equal (Commands.check_quota C t len) (Commands.check_quota F t len) (quota_read t len) _ _ (λ _.
      (refl, kept (record C { sessions = _ }) refl refl))))

  pub put_back_read : (h : HandRecord) → AreOutcomes Equal (Commands.put_back C h) (Commands.put_back F h)
  put_back_read h = line Equal (put_back_outcome_in C.sessions h) _ _ (λ back. (refl, kept (record C { sessions = _ }) refl refl))

  pub cancel_read : (h : HandRecord) → AreBoth (Commands.after_cancel C h) (Commands.after_cancel F h)
  cancel_read h = kept (Commands.after_cancel C h) refl refl

  pub finish_read : (h : HandRecord) (d : Text) → AreOutcomes Equal (Commands.finish C h d) (Commands.finish F h d)
  finish_read h d = line Equal (session_of_hand (get C.sessions h.key) h) _ _ (λ s.
      same_line Equal (refuse (not (Commands.is_digest_accepted C d (hand_content h))) DigestInvalid) (refuse (not (Commands.is_digest_accepted F d (hand_content h))) DigestInvalid)
      (ap (λ b. refuse (not b) DigestInvalid) (accepted_read d (hand_content h))) _ _ (λ _.
      line Equal (Commands.check_share C h.key.0 d) _ _ (λ _.
      same_line Equal (Commands.has_slot C d) (Commands.has_slot F d) (slot_read d) _ _ (λ _.
      (refl, stored_read h.key.0 s.repo h.key.1 d (hand_content h))))))
