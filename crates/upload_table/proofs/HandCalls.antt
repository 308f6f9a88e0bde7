-- The session of a hand in the table, and the changes of that session.
use Rattle.std.proofs.Common.{◌≡◌, ℕ, ◌+◌, ◌≤◌, Bool, true, false, List, [], length, Option, Some, None, Ok, Err, refl, sym, ap, ◌∙◌, arith}
use Rattle.std.specs.Prelude.{◌==◌, ◌&&◌, if◌then◌else◌, is_ok, sum}
use Rattle.std.specs.Option.{option_map_or}
use Rattle.std.specs.List.{sum_by}
use Rattle.std.specs.FinMap.{get}
use Rattle.std.proofs.lemmas.Bool.{and_parts, eqb-true, false≢true}
use Rattle.blob_digest.specs.Keys.{SessionNumber}
use Rattle.spec_lib.specs.Texts.{Text}
use Rattle.blob_digest.specs.Digests.{is_digest_of, is_digest_text}
use Rattle.content_files.specs.Notes.{is_read}
use Rattle.upload_table.specs.declared.sealing.Sealing.{Sealing}
use Rattle.upload_table.specs.declared.sealing.Sealing.TheVariants.{ByHash, ByNote}
use Rattle.blob_digest.specs.declared.refusal.Refusal.TheVariants.{DigestInvalid}
use Rattle.spec_lib.proofs.Options.{some_same}
use Rattle.store_model.specs.Sessions.{Chunks, CheckedIn, CheckedOutWith, Session, HandRecord, at_home, with_old_chunks, charged_length, chunks_of, after_cancel_in, hand_in, received_of, reserved_of, after_take_in, session_of_hand, hand_content, with_chunks}
use Rattle.upload_table.specs.Uploaded.{HandRemainder, Uploaded, BeginsWith, CanReopen, checked_in_with, cut_chunks, finish_upload, is_sealed, put_back_upload, reopened_table, with_sessions}
use Rattle.upload_table.specs.Rows.{empty_hand, home_session, IsConsistentBuffer}
use Rattle.upload_table.specs.declared.upload.ChunkBuffer.{ChunkBuffer}
use Rattle.upload_table.proofs.Cuts.{sum_by-cut_chunks}

-- chunks that satisfy `IsConsistentBuffer` are as long as their bytes
pub whole_length : (p : ChunkBuffer) → IsConsistentBuffer p → sum_by length (cut_chunks p.lens.items p.bytes) ≡ length p.bytes
whole_length p whole = sum_by-cut_chunks p.lens.items p.bytes (omega (arith, whole.lengths)) ∙ whole.lengths

-- ---- the session of a hand

pub record IsTaken (o : Option Session) (h : HandRecord) (x : Session) : Type 0 where
  pub found : o ≡ Some x
  pub known : session_of_hand o h ≡ Ok x
  pub chunks : x.chunks ≡ CheckedOutWith (sum_by length h.chunks) h.reserved

pub taken_value : (o : Option Session) (h : HandRecord) → is_ok (session_of_hand o h) ≡ true → (x : Session) × IsTaken o h x
taken_value None h is = absurd (false≢true is)
taken_value (Some x) h is = by x.chunks refl
  where
    by : (c : Chunks) → x.chunks ≡ c → (y : Session) × IsTaken (Some x) h y
    by (CheckedIn cs) e = absurd (let other = rw e at is in false≢true other)
    by (CheckedOutWith a b) e = test (a == sum_by length h.chunks && b == h.reserved) refl
      where
        test : (q : Bool) → (a == sum_by length h.chunks && b == h.reserved) ≡ q → (y : Session) × IsTaken (Some x) h y
        test false fails = absurd (let other = rw (e, fails) at is in false≢true other)
        test true holds =
            let both = and_parts (a == sum_by length h.chunks) (b == h.reserved) holds in (
              x,
              record {
                found = refl;
                known = rw (e, holds) refl;
                chunks = e ∙ (λ i. CheckedOutWith (eqb-true a (sum_by length h.chunks) both.0 i) (eqb-true b h.reserved both.1 i));
              },
            )

module _ (v : Uploaded) (h : HandRecord) (x : Session) (taken : IsTaken (get v.sessions h.key) h x) where
  -- chunks no longer than the hand's fit the charge of the session
  pub put_fits : (p : ChunkBuffer) → IsConsistentBuffer p → sum_by length (cut_chunks p.lens.items p.bytes) ≤ sum_by length h.chunks + h.reserved → (y : Session) → y ≡ x → length p.bytes ≤ charged_length y
  put_fits p whole le y same =
      let charge : charged_length x ≡ sum_by length h.chunks + h.reserved = ap (λ (c : Chunks). received_of c + reserved_of c) taken.chunks in
      omega (arith, charge, ap charged_length same, whole_length p whole, le)

  -- the session under the hand's key, checked in with other chunks
  pub found_as : (key : SessionNumber) → key ≡ h.key → get v.sessions key ≡ Some x
  found_as key same = ap (get v.sessions) same ∙ taken.found

  pub brought : (key : SessionNumber) (chunks : List Text) → key ≡ h.key → checked_in_with v key chunks ≡ with_sessions v (with_chunks v.sessions h.key x (CheckedIn chunks))
  brought key chunks same = (λ j. checked_in_with v (same j) chunks) ∙ ap (λ o. with_sessions v (option_map_or (λ (s : Session). with_chunks v.sessions h.key s (CheckedIn chunks)) o v.sessions)) taken.found

  pub given : after_cancel_in v.sessions h ≡ with_chunks v.sessions h.key x (CheckedIn h.chunks)
  given = ap (with_old_chunks v.sessions h) taken.known

  -- the chunks can be checked in from bytes that begin with them
  pub can-reopen : (r : HandRemainder) (bytes : List ℕ) → r.key ≡ h.key → cut_chunks r.lens bytes ≡ h.chunks → BeginsWith r bytes → CanReopen v r bytes
  can-reopen r bytes same cuts begins =
      let len : sum_by length h.chunks ≡ sum r.lens = ap (sum_by length) (sym cuts) ∙ sum_by-cut_chunks r.lens bytes begins.within in
      record { there = (x.repo, h.reserved, ap (get v.sessions) same ∙ taken.found ∙ ap (λ (c : Chunks). Some (record { repo = x.repo; chunks = c })) (taken.chunks ∙ ap (λ k. CheckedOutWith k h.reserved) len)); begins = begins }

  pub reopens : (r : HandRemainder) (bytes : List ℕ) → r.key ≡ h.key → cut_chunks r.lens bytes ≡ h.chunks → reopened_table v r bytes ≡ with_sessions v (after_cancel_in v.sessions h)
  reopens r bytes same cuts =
      ap (with_sessions v) ((λ j. option_map_or (λ (s : Session). with_chunks v.sessions (same j) s (CheckedIn (cuts j))) (get v.sessions (same j)) v.sessions)
      ∙ ap (λ o. option_map_or (λ (s : Session). with_chunks v.sessions h.key s (CheckedIn h.chunks)) o v.sessions) taken.found ∙ sym given)

  pub put_back_known : (k : ℕ) → k ≡ sum_by length (chunks_of h) → put_back_upload v h ≡ Ok (k, with_sessions v (with_chunks v.sessions h.key x (CheckedIn (chunks_of h))))
  put_back_known k is = rw taken.known (λ i. Ok (sym is i, with_sessions v (with_chunks v.sessions h.key x (CheckedIn (chunks_of h)))))

  pub finish_other : (sealing : Sealing) (digest : Text) → is_sealed sealing digest (hand_content h) ≡ false → finish_upload sealing v h digest ≡ Err DigestInvalid
  finish_other sealing digest other = rw (taken.known, other) refl

-- a content that was read is sealed under its digest alone
pub sealed_if_read : (sealing : Sealing) (digest content : Text) → is_read content ≡ true → is_sealed sealing digest content ≡ is_digest_of digest content
sealed_if_read ByHash digest content read = refl
sealed_if_read ByNote digest content read = ap (λ b. if b then is_digest_of digest content else is_digest_text digest) read

-- ---- checking a session out

module _ (v : Uploaded) (key : SessionNumber) (n : ℕ) (x : Session) (found : get v.sessions key ≡ Some x) (repo : Text) (p : ChunkBuffer) (whole : IsConsistentBuffer p) (home : Some x ≡ Some (home_session repo p)) where
  pub hand_is : empty_hand repo key n p ≡ hand_in v.sessions key n
  hand_is = ap (λ (o : Option Session). record { repo = option_map_or (λ (s : Session). s.repo) o []; key = key; chunks = option_map_or (λ (s : Session). at_home s.chunks) o []; reserved = n; last = None }) (sym (found ∙ home))

  pub take_is : with_sessions v (with_chunks v.sessions key x (CheckedOutWith (length p.bytes) n)) ≡ with_sessions v (after_take_in v.sessions key n)
  take_is =
      let received : received_of x.chunks ≡ length p.bytes = ap (λ (s : Session). received_of s.chunks) (some_same home) ∙ whole_length p whole in
      ap (λ k. with_sessions v (with_chunks v.sessions key x (CheckedOutWith k n))) (sym received)
      ∙ ap (with_sessions v) (sym (ap (λ o. option_map_or (λ (s : Session). with_chunks v.sessions key s (CheckedOutWith (received_of s.chunks) n)) o v.sessions) found))
