-- The state of a table of upload sessions, and the changes that its calls make.
use Rattle.content_files.specs.Notes.{is_read}
use Rattle.std.specs.Prelude.{◌≡◌, ◌≢◌, ℕ, ◌+◌, ◌^◌, ◌≤◌, nat_le, ◌||◌, not, is_ok, true, Bool, Option, Some, IfSome, Result, Ok, Err, IfOk, IfErr, List, [], ◌∷◌, length, map, sum, sum_by, take, drop, replicate, slice_index, slice_set, if◌then◌else◌}
use Rattle.std.specs.Option.{option_map_or}
use Rattle.std.specs.List.{list_any}
use Rattle.std.proofs.Common.{refl}
use Rattle.std.specs.FinMap as fmap
use Rattle.std.specs.Coded.{Coded, code_by, coded×, coded_ℕ, coded_list, coded_option}
use Rattle.blob_digest.specs.declared.range.ByteRange.{ByteRange}
use Rattle.blob_digest.specs.declared.refusal.Refusal.{Refusal}
use Rattle.blob_digest.specs.declared.refusal.Refusal.TheVariants.{LimitReached, DigestInvalid, UploadUnknown}
use Rattle.blob_digest.specs.declared.upload_hashes.UploadHashes.{UploadHashes}
use Rattle.blob_digest.specs.contracts.upload_hashes.UploadHashes as upload_hashes
use Rattle.blob_digest.specs.Hashing.{HashesUpload}
use Rattle.spec_lib.specs.Texts.{Text}
use Rattle.blob_digest.specs.Keys.{SessionNumber}
use Rattle.blob_digest.specs.Digests.{is_digest_of}
use Rattle.blob_digest.specs.Vouched.{has_digest}
use Rattle.blob_digest.specs.Outcomes.{Does, OutcomeIn}
use Rattle.upload_table.specs.declared.sealing.Sealing.{Sealing}
use Rattle.upload_table.specs.declared.sealing.Sealing.TheVariants.{ByHash, ByNote}
use Rattle.spec_lib.specs.Outcomes.{◌>>=◌, refuse}
use Rattle.store_model.specs.Sessions.{CheckedIn, CheckedOutWith, Session, Sessions, HandRecord, after_cancel_in, chunk_length_check_in, coded_session, number_and_length, open_count_in, is_of_repo, put_back_outcome_in, session_in, sessions_of, after_take_in, session_of_hand, hand_content, with_chunks}

-- bytes as chunks of given lengths, one after another
abbrev pub cut_chunks : List ℕ → List ℕ → List (List ℕ)
cut_chunks [] bytes = []
cut_chunks (n ∷ lens) bytes = take n bytes ∷ cut_chunks lens (drop n bytes)

-- the number of bytes of some chunks
abbrev pub total_length : List Text → ℕ
total_length chunks = sum_by length chunks

-- each tenant's next number, and the open sessions
pub record Uploaded : Type 0 where
  pub next : List ℕ
  pub sessions : Sessions

-- the hashes, if there are any, are those of these bytes
abbrev pub HashesIfAny : Option UploadHashes → List ℕ → Type 0
HashesIfAny hashes bytes = IfSome hashes (λ h. HashesUpload h bytes)

-- the remainder of a hand whose bytes moved into a blob: its key, the lengths of its chunks, and the hashes of their bytes
pub record HandRemainder : Type 0 where
  pub key : SessionNumber
  pub lens : List ℕ
  pub hashes : Option UploadHashes

-- ---- codes, which a model's value needs

-- the code of a session's key
abbrev pub coded_number : Coded SessionNumber
coded_number = coded× coded_ℕ coded_ℕ

-- the code of the remainder of a hand
abbrev pub coded_hand_remainder : Coded HandRemainder
coded_hand_remainder = code_by (SessionNumber × (List ℕ × Option UploadHashes)) (coded× coded_number (coded× (coded_list coded_ℕ) (coded_option upload_hashes.the_row.coded))) (λ c. (c.key, (c.lens, c.hashes))) (λ p. record { key = p.0; lens = p.1.0; hashes = p.1.1 }) (λ _. refl)

-- the code of a table
abbrev pub coded_uploaded : Coded Uploaded
coded_uploaded = code_by (List ℕ × Sessions) (coded× (coded_list coded_ℕ) (fmap.code coded_number coded_session)) (λ u. (u.next, u.sessions)) (λ p. record { next = p.0; sessions = p.1 }) (λ _. refl)

-- ---- results with a place

-- an accepted result, read by `view`, is the outcome's
abbrev pub OkIs : {A B : Type 0} → (A → B) → Result A Refusal → Result B Refusal → Type 0
OkIs view result outcome = IfOk result (λ r. outcome ≡ Ok (view r))

-- the first part of an accepted result is the outcome's
abbrev pub FirstIs : {A B : Type 0} → Result (A × B) Refusal → Result A Refusal → Type 0
FirstIs result outcome = IfOk result (λ r. outcome ≡ Ok r.0)

-- an error is the outcome's
abbrev pub ErrIs : {A B : Type 0} → Result A Refusal → Result B Refusal → Type 0
ErrIs result outcome = IfErr result (λ e. outcome ≡ Err e)

-- ---- reading the sessions

-- the tenant's session of a number, if there is one
abbrev pub open_session : Uploaded → ℕ → ℕ → Option Session
open_session u t number = fmap.get u.sessions (t, number)

-- the tenant's session of a number if it is for this repository, and `UploadUnknown` otherwise
abbrev pub repo_session : Uploaded → ℕ → ℕ → Text → Result Session Refusal
repo_session u t number repo = session_in (open_session u t number) repo

-- the length of a repository's session after a chunk of n bytes
abbrev pub check : Uploaded → ℕ → ℕ → Text → Option ByteRange → ℕ → ℕ → Result ℕ Refusal
check u t number repo range n max_blob = chunk_length_check_in u.sessions max_blob (t, number) repo range n

-- a session is checked out under the hand's key with the hand's lengths
abbrev pub is_checked_out : Uploaded → HandRecord → Bool
is_checked_out u h = is_ok (session_of_hand (fmap.get u.sessions h.key) h)

-- number and received length of each of a repository's sessions, in the order of their numbers
abbrev pub listed_sessions : Uploaded → ℕ → Text → List (ℕ × ℕ)
listed_sessions u t repo = map number_and_length (sessions_of u.sessions t repo)

-- whether a repository has an open session
abbrev pub has_sessions : Uploaded → ℕ → Text → Bool
has_sessions u t repo = list_any (is_of_repo t repo) (fmap.entries u.sessions)

-- ---- changes

-- no sessions, and for each tenant the same first number
abbrev pub initial_uploads : ℕ → ℕ → Uploaded
initial_uploads tenants first = record { next = replicate tenants first; sessions = fmap.empty }

-- the tenant has n sessions, its limit, or all numbers below 2^32 were used
abbrev pub cannot_start : ℕ → Uploaded → ℕ → Bool
cannot_start n u t = nat_le n (open_count_in u.sessions t) || nat_le (2 ^ 32) (slice_index u.next t)

-- the table with one more session, under the tenant's next number
abbrev pub with_new_session : Uploaded → ℕ → Text → Uploaded
with_new_session u t repo = record u {
  next = slice_set u.next t (slice_index u.next t + 1);
  sessions = fmap.insert u.sessions (t, slice_index u.next t) (record { repo = repo; chunks = CheckedIn [] });
}

-- the number of the new session and the table with it, or `LimitReached` if the tenant has n, its limit
abbrev pub start_upload : ℕ → Uploaded → ℕ → Text → OutcomeIn Uploaded ℕ
start_upload n u t repo = if cannot_start n u t then Err LimitReached else Ok (slice_index u.next t, with_new_session u t repo)

-- the table with these sessions
abbrev pub with_sessions : Uploaded → Sessions → Uploaded
with_sessions u sessions = record u { sessions = sessions }

-- the table without the session under a key
abbrev pub without_upload : Uploaded → SessionNumber → Uploaded
without_upload u key = with_sessions u (fmap.remove u.sessions key)

-- the table with the session under a key checked out, and n bytes reserved
abbrev pub take_upload : Uploaded → SessionNumber → ℕ → Uploaded
take_upload u key n = with_sessions u (after_take_in u.sessions key n)

-- the table with the hand's session, if it is checked out, checked in with its earlier chunks
abbrev pub cancel_upload : Uploaded → HandRecord → Uploaded
cancel_upload u h = with_sessions u (after_cancel_in u.sessions h)

-- the table with the hand's session checked in with all of its chunks, or `UploadUnknown`
abbrev pub put_back_upload : Uploaded → HandRecord → OutcomeIn Uploaded ℕ
put_back_upload u h = do
  back ← put_back_outcome_in u.sessions h
  Ok (back.0, with_sessions u back.1)

-- whether a content is sealed under a digest: it has the digest; by its note, as far as it was read since the start
abbrev pub is_sealed : Sealing → Text → Text → Bool
is_sealed ByHash digest content = is_digest_of digest content
is_sealed ByNote digest content = has_digest digest content

-- the blob of the hand's bytes, if they are sealed under this digest; the session stays checked out
abbrev pub finish_upload : Sealing → Uploaded → HandRecord → Text → OutcomeIn Uploaded (Text × Text)
finish_upload sealing u h digest = do
  _ ← session_of_hand (fmap.get u.sessions h.key) h
  _ ← refuse (not (is_sealed sealing digest (hand_content h))) DigestInvalid
  Ok ((digest, hand_content h), u)

-- the call has the outcome of `finish_upload`, and an error leaves the hand's session checked in without the last chunk
abbrev pub Finishes : Sealing → Result ((Text × Text) × HandRemainder) Refusal → Uploaded → Uploaded → HandRecord → Text → Type 0
Finishes sealing result old new h digest = Does (λ r. r.0) result (cancel_upload old h) new (finish_upload sealing old h digest)

-- if a hand's content is sealed by its hash, it was read since the start, unless the call failed for another reason than its digest
abbrev pub WasRead : {A : Type 0} → Sealing → Result A Refusal → HandRecord → Type 0
WasRead sealing (Ok x) h = sealing ≡ ByHash → is_read (hand_content h) ≡ true
WasRead sealing (Err e) h = e ≡ DigestInvalid → is_read (hand_content h) ≡ true

-- an error other than `UploadUnknown` comes only for a hand whose session is checked out
abbrev pub WasCheckedOut : Refusal → Uploaded → HandRecord → Type 0
WasCheckedOut e u h = e ≢ UploadUnknown → is_checked_out u h ≡ true

-- ---- checking a session in again from its blob

-- the bytes begin with those that the hashes and the lengths of the rest are of
pub record BeginsWith (r : HandRemainder) (bytes : Text) : Type 0 where
  pub within : sum r.lens ≤ length bytes
  pub hash : HashesIfAny r.hashes (take (sum r.lens) bytes)

-- the session of the rest is checked out, and the bytes begin with its bytes
pub record CanReopen (u : Uploaded) (r : HandRemainder) (bytes : Text) : Type 0 where
  pub there : (repo : Text) × (reserved : ℕ) × (fmap.get u.sessions r.key ≡ Some (record { repo = repo; chunks = CheckedOutWith (sum r.lens) reserved }))
  pub begins : BeginsWith r bytes

-- the table with the session under a key checked in with these chunks
abbrev pub checked_in_with : Uploaded → SessionNumber → List Text → Uploaded
checked_in_with u key chunks = with_sessions u (option_map_or (λ s. with_chunks u.sessions key s (CheckedIn chunks)) (fmap.get u.sessions key) u.sessions)

-- the table with the session of the rest checked in, its chunks cut from the bytes
abbrev pub reopened_table : Uploaded → HandRemainder → Text → Uploaded
reopened_table u r bytes = checked_in_with u r.key (cut_chunks r.lens bytes)

-- the blob and the rest can be reopened, which leaves the table `old`
abbrev pub ReopensTo : Uploaded → (Text × Text) × HandRemainder → Uploaded → Type 0
ReopensTo u r old = CanReopen u r.1 r.0.1 × (reopened_table u r.1 r.0.1 ≡ old)

-- the rest has the key of the hand, and the bytes begin with the hand's chunks
abbrev pub IsRemainderOf : HandRecord → HandRemainder → Text → Type 0
IsRemainderOf h r bytes = BeginsWith r bytes × (r.key ≡ h.key) × (cut_chunks r.lens bytes ≡ h.chunks)

-- the repository of the session under a key
abbrev pub repo_at : Uploaded → SessionNumber → Text
repo_at u key = option_map_or (λ s. s.repo) (fmap.get u.sessions key) []
