-- Open upload sessions by tenant and number, with their counts, checks and changes.
use Rattle.std.specs.Prelude.{◌≡◌, ℕ, ◌+◌, ◌-◌, ◌==◌, ◌&&◌, ◌||◌, ◌⊎◌, not, nat_lt, Bool, true, false, Option, Some, None, Result, Ok, Err, List, [], ◌∷◌, ◌++◌, length, sum_by, count_by, filter, if◌then◌else◌}
use Rattle.std.specs.Option.{option_map_or}
use Rattle.std.specs.List.{concat}
use Rattle.std.proofs.Common.{refl, inl, inr}
use Rattle.std.specs.FinMap as fmap
use Rattle.std.specs.Coded.{Coded, code_by, coded×, coded⊎, coded_ℕ, coded_list, coded_option}
use Rattle.blob_digest.specs.declared.range.ByteRange.{ByteRange}
use Rattle.blob_digest.specs.declared.refusal.Refusal.{Refusal}
use Rattle.blob_digest.specs.declared.refusal.Refusal.TheVariants.{UploadUnknown, SizeInvalid, RangeInvalid, Busy}
use Rattle.spec_lib.specs.Texts.{Text, same_text, coded_text}
use Rattle.blob_digest.specs.Keys.{SessionNumber, session_number_cmp}
use Rattle.blob_digest.specs.Outcomes.{OutcomeIn}
use Rattle.spec_lib.specs.Outcomes.{◌>>=◌, refuse}

-- the chunks of a session: its bytes in order if it is checked in, or the numbers of bytes received and reserved if it is checked out
pub data Chunks : Type 0 where
  CheckedIn : List Text → Chunks
  CheckedOutWith : ℕ → ℕ → Chunks

-- an open upload: its repository and its chunks
pub record Session : Type 0 where
  pub repo : Text
  pub chunks : Chunks

-- chunks as one of two kinds of plain data
abbrev pub split_chunks : Chunks → List Text ⊎ (ℕ × ℕ)
split_chunks (CheckedIn chunks) = inl chunks
split_chunks (CheckedOutWith received reserved) = inr (received, reserved)

-- chunks from one of two kinds of plain data
abbrev pub join_chunks : List Text ⊎ (ℕ × ℕ) → Chunks
join_chunks (inl chunks) = CheckedIn chunks
join_chunks (inr lengths) = CheckedOutWith lengths.0 lengths.1

-- joining split chunks returns them
pub join-split : (c : Chunks) → join_chunks (split_chunks c) ≡ c
join-split (CheckedIn chunks) = refl
join-split (CheckedOutWith received reserved) = refl

-- the encoding of chunks
abbrev pub coded_chunks : Coded Chunks
coded_chunks = code_by (List Text ⊎ (ℕ × ℕ)) (coded⊎ (coded_list coded_text) (coded× coded_ℕ coded_ℕ)) split_chunks join_chunks join-split

-- the encoding of sessions
abbrev pub coded_session : Coded Session
coded_session = code_by (Text × Chunks) (coded× coded_text coded_chunks) (λ s. (s.repo, s.chunks)) (λ p. record { repo = p.0; chunks = p.1 }) (λ _. refl)

-- sessions by tenant and number
abbrev pub Sessions : Type 0
Sessions = fmap.FinMap session_number_cmp Session

-- ---- counts and sums

-- the chunks of a checked-in session, or none
abbrev pub at_home : Chunks → List Text
at_home (CheckedIn chunks) = chunks
at_home (CheckedOutWith received reserved) = []

-- the number of bytes received
abbrev pub received_of : Chunks → ℕ
received_of (CheckedIn chunks) = sum_by length chunks
received_of (CheckedOutWith received reserved) = received

-- the number of bytes reserved for a chunk that is being copied
abbrev pub reserved_of : Chunks → ℕ
reserved_of (CheckedIn chunks) = 0
reserved_of (CheckedOutWith received reserved) = reserved

-- the number of bytes that a session has received
abbrev pub received_length : Session → ℕ
received_length s = received_of s.chunks

-- the number of bytes that a session has received and reserved
abbrev pub charged_length : Session → ℕ
charged_length s = received_of s.chunks + reserved_of s.chunks

-- the number of bytes that one session adds to a tenant's use
abbrev pub session_charge : ℕ → SessionNumber × Session → ℕ
session_charge t e = if e.0.0 == t then charged_length e.1 else 0

-- the number of bytes that a tenant's sessions add to its use
abbrev pub session_charges : Sessions → ℕ → ℕ
session_charges sessions t = sum_by (session_charge t) (fmap.entries sessions)

-- the number of a tenant's open sessions
abbrev pub open_count_in : Sessions → ℕ → ℕ
open_count_in sessions t = count_by (λ e. e.0.0 == t) (fmap.entries sessions)

-- whether a session belongs to a tenant and a repository
abbrev pub is_of_repo : ℕ → Text → SessionNumber × Session → Bool
is_of_repo t repo e = e.0.0 == t && same_text e.1.repo repo

-- a tenant's sessions in a repository, in the order of their numbers
abbrev pub sessions_of : Sessions → ℕ → Text → List (SessionNumber × Session)
sessions_of sessions t repo = filter (is_of_repo t repo) (fmap.entries sessions)

-- a session's number and its number of bytes received
abbrev pub number_and_length : SessionNumber × Session → ℕ × ℕ
number_and_length e = (e.0.1, received_length e.1)

-- ---- checks

-- the session if it exists and is of this repository, else `UploadUnknown`
abbrev pub session_in : Option Session → Text → Result Session Refusal
session_in None repo = Err UploadUnknown
session_in (Some s) repo = if same_text s.repo repo then Ok s else Err UploadUnknown

-- the number of bytes that a repository's session has received, or `UploadUnknown`
abbrev pub received_in : Sessions → SessionNumber → Text → Result ℕ Refusal
received_in sessions key repo = do
  s ← session_in (fmap.get sessions key) repo
  Ok (received_length s)

-- the session is checked in, or the error is `Busy`
abbrev pub not_busy : Chunks → Result (Unit {0}) Refusal
not_busy (CheckedIn chunks) = Ok tt
not_busy (CheckedOutWith received reserved) = Err Busy

-- the number of bytes that a repository's checked-in session has received, or the error
abbrev pub checked_in_length : Sessions → SessionNumber → Text → Result ℕ Refusal
checked_in_length sessions key repo = do
  s ← session_in (fmap.get sessions key) repo
  _ ← not_busy s.chunks
  Ok (received_length s)

-- whether a chunk of n bytes does not have the length of its range
abbrev pub has_other_length : Option ByteRange → ℕ → Bool
has_other_length None n = false
has_other_length (Some range) n = not (range.end - range.start + 1 == n)

-- whether a range does not begin at byte n
abbrev pub starts_elsewhere : Option ByteRange → ℕ → Bool
starts_elsewhere None n = false
starts_elsewhere (Some range) n = not (range.start == n)

-- the length of a session after a chunk of n bytes, or the error (OCI Distribution Specification 1.1, "Pushing a blob in chunks")
abbrev pub length_after : ℕ → ℕ → Option ByteRange → ℕ → Result ℕ Refusal
length_after max_blob before range n = do
  _ ← refuse (has_other_length range n || nat_lt max_blob (before + n)) SizeInvalid
  _ ← refuse (starts_elsewhere range before) (RangeInvalid before)
  Ok (before + n)

-- the length of a repository's checked-in session after a chunk of n bytes, or the error
abbrev pub chunk_length_check_in : Sessions → ℕ → SessionNumber → Text → Option ByteRange → ℕ → Result ℕ Refusal
chunk_length_check_in sessions max_blob key repo range n = do
  s ← session_in (fmap.get sessions key) repo
  _ ← not_busy s.chunks
  length_after max_blob (received_length s) range n

-- ---- changes

-- the chunks with one more at the end, unless it is empty
abbrev pub with_chunk : List Text → Text → List Text
with_chunk chunks [] = chunks
with_chunk chunks (b ∷ bytes) = chunks ++ (b ∷ bytes) ∷ []

-- the sessions after the session under a key got these chunks
abbrev pub with_chunks : Sessions → SessionNumber → Session → Chunks → Sessions
with_chunks sessions key s chunks = fmap.insert sessions key (record s { chunks = chunks })

-- the chunks of the checked-in session under a key, or none
abbrev pub chunks_in : Sessions → SessionNumber → List Text
chunks_in sessions key = option_map_or (λ s. at_home s.chunks) (fmap.get sessions key) []

-- the sessions after a chunk was added to one of them
abbrev pub after_append_in : Sessions → SessionNumber → Text → Sessions
after_append_in sessions key bytes = option_map_or (λ s. with_chunks sessions key s (CheckedIn (with_chunk (at_home s.chunks) bytes))) (fmap.get sessions key) sessions

-- all bytes of the session under a key, followed by the last ones
abbrev pub content_in : Sessions → SessionNumber → Text → Text
content_in sessions key last = concat (chunks_in sessions key) ++ last

-- ---- checked-out sessions

-- a hand: the repository, the key and the chunks of a checked-out session, the length reserved for one more chunk, and that chunk once it is filled in
pub record HandRecord : Type 0 where
  pub repo : Text
  pub key : SessionNumber
  pub chunks : List Text
  pub reserved : ℕ
  pub last : Option Text

-- the encoding of hands
abbrev pub coded_taken : Coded HandRecord
coded_taken = code_by ((Text × (SessionNumber × List Text)) × (ℕ × Option Text)) (coded× (coded× coded_text (coded× (coded× coded_ℕ coded_ℕ) (coded_list coded_text))) (coded× coded_ℕ (coded_option coded_text))) (λ h. ((h.repo, (h.key, h.chunks)), (h.reserved, h.last))) (λ p. record { repo = p.0.0; key = p.0.1.0; chunks = p.0.1.1; reserved = p.1.0; last = p.1.1 }) (λ _. refl)

-- whether the chunks are those of a checked-in session
abbrev pub are_checked_in : Chunks → Bool
are_checked_in (CheckedIn chunks) = true
are_checked_in (CheckedOutWith received reserved) = false

-- whether there is a session and it is checked in
abbrev pub is_checked_in : Option Session → Bool
is_checked_in None = false
is_checked_in (Some s) = are_checked_in s.chunks

-- the repository of the session under a key, or no name
abbrev pub repo_in : Sessions → SessionNumber → Text
repo_in sessions key = option_map_or (λ s. s.repo) (fmap.get sessions key) []

-- the hand of the session under a key, with n bytes reserved
abbrev pub hand_in : Sessions → SessionNumber → ℕ → HandRecord
hand_in sessions key n = record { repo = repo_in sessions key; key = key; chunks = chunks_in sessions key; reserved = n; last = None }

-- the sessions after the session under a key was checked out, with n bytes reserved
abbrev pub after_take_in : Sessions → SessionNumber → ℕ → Sessions
after_take_in sessions key n = option_map_or (λ s. with_chunks sessions key s (CheckedOutWith (received_length s) n)) (fmap.get sessions key) sessions

-- the chunks of a hand, followed by the one that was filled in
abbrev pub chunks_of : HandRecord → List Text
chunks_of h = option_map_or (with_chunk h.chunks) h.last h.chunks

-- all bytes of a hand, with the chunk that was filled in
abbrev pub hand_content : HandRecord → Text
hand_content h = concat h.chunks ++ option_map_or (λ b. b) h.last []

-- whether the chunks are checked out with a hand's lengths
abbrev pub are_of_hand : HandRecord → Chunks → Bool
are_of_hand h (CheckedIn chunks) = false
are_of_hand h (CheckedOutWith received reserved) = received == sum_by length h.chunks && reserved == h.reserved

-- the session if it exists and is checked out with a hand's lengths, else `UploadUnknown`
abbrev pub session_of_hand : Option Session → HandRecord → Result Session Refusal
session_of_hand None h = Err UploadUnknown
session_of_hand (Some s) h = if are_of_hand h s.chunks then Ok s else Err UploadUnknown

-- the received length and the sessions after a hand was checked in with all of its chunks
abbrev pub put_back_outcome_in : Sessions → HandRecord → OutcomeIn Sessions ℕ
put_back_outcome_in sessions h = do
  s ← session_of_hand (fmap.get sessions h.key) h
  Ok (sum_by length (chunks_of h), with_chunks sessions h.key s (CheckedIn (chunks_of h)))

-- the sessions after a hand's session, if it was found, was checked in with the chunks that it had before
abbrev pub with_old_chunks : Sessions → HandRecord → Result Session Refusal → Sessions
with_old_chunks sessions h (Ok s) = with_chunks sessions h.key s (CheckedIn h.chunks)
with_old_chunks sessions h (Err e) = sessions

-- the sessions after a hand was cancelled
abbrev pub after_cancel_in : Sessions → HandRecord → Sessions
after_cancel_in sessions h = with_old_chunks sessions h (session_of_hand (fmap.get sessions h.key) h)

-- a chunk was filled in, or no bytes are reserved for one
abbrev pub HasNoOpenReserve : HandRecord → Type 0
HasNoOpenReserve h = h.last ≡ None → h.reserved ≡ 0
