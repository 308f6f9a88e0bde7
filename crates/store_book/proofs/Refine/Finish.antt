-- `Book::finish`, by the clauses of its calls of the layers.
use Rattle.std.proofs.Common.{◌≡◌, ℕ, ◌+◌, ◌-◌, ◌^◌, ◌<◌, ◌≤◌, Bool, true, false, not, List, length, Option, Some, None, Result, is_some, Ok, Err, refl, sym, ap, ◌∙◌, subst, arith}
use Rattle.std.specs.Prelude.{nat_le, ◌&&◌, slice_index, slice_set, if◌then◌else◌}
use Rattle.std.specs.FinMap.{get, remove, len}
use Rattle.std.proofs.Math.ListN.{length-set}
use Rattle.std.proofs.lemmas.Bool.{le-leb, not-false}
use Rattle.blob_digest.specs.declared.refusal.Refusal.{Refusal}
use Rattle.blob_digest.specs.declared.refusal.Refusal.TheVariants.{DigestInvalid, LimitReached, StoreFull, UploadUnknown}
use Rattle.blob_digest.specs.Digests.{is_digest_of}
use Rattle.content_files.specs.Notes.{is_read}
use Rattle.spec_lib.specs.Sets as set
use Rattle.slot_table.specs.Slots.{Slot, StoredBlob, slot_of}
use Rattle.link_table.specs.Linked.{Linked, known_tenant, discharge, passes_share as links_pass_share}
use Rattle.store_model.specs.Sessions.{CheckedIn, Session, HandRecord, are_of_hand, with_old_chunks, charged_length, after_cancel_in, session_of_hand, hand_content, with_chunks, HasNoOpenReserve}
use Rattle.blob_digest.specs.Vouched.{has_digest}
use Rattle.upload_table.specs.Uploaded.{Uploaded, finish_upload, is_sealed, with_sessions}
use Rattle.upload_table.specs.declared.sealing.Sealing.{Sealing}
use Rattle.upload_table.specs.declared.sealing.Sealing.TheVariants.{ByHash, ByNote}
use Rattle.spec_lib.specs.Texts.{Text}
use Rattle.store_book.proofs.Layers.LinkedSlots.{share_is}
use Rattle.store_model.specs.Catalog.{Catalog, ContentRules, session_charges_of}
use Rattle.spec_lib.specs.Outcomes.{◌>>=◌, refuse}
use Rattle.store_model.specs.Commands.{finish, after_cancel, fits_stored, is_full_for, passes_share, fits_content, is_named}
use Rattle.store_book.specs.Layers.{Layers, lent_marks, book_catalog, IsBook}
use Rattle.store_book.specs.Internal.Storing.{CanStore, IsStored, CannotStore, HasNoOtherContent, differs, full, past_share}
use Rattle.store_book.proofs.Layers.Keep.{Keeps, IsStored-Keeps}
use Rattle.store_book.proofs.Slots.LeaseMarks.{length-marks}
use Rattle.store_book.proofs.Layers.CanKeep.{CanStore-book}
use Rattle.store_model.proofs.Commands.Fits.{named_if_read}
use Rattle.store_model.proofs.Commands.Finish.{Sound-after_finish}
use Rattle.store_model.proofs.Commands.Hands.{whole_long, IsProper}
use Rattle.spec_lib.proofs.Options.{some_same}
use Rattle.spec_lib.proofs.Outcomes.{bound_ok, not_refused}
use Rattle.store_book.proofs.Refine.PutBack.{here_charged, here_small, here_tenant, session_here, IsBook-home}
use Rattle.store_book.proofs.Layers.SessionCharges.{sums-gone}
use Rattle.store_model.proofs.Invariant.SessionTenants.{session_owner}
use Rattle.slot_table.proofs.Finding.{held_of}
use Rattle.store_book.proofs.Layers.Ties.{slot_is_resident, not_resident, rooms}

module _ (L : Layers) (h : HandRecord) (digest : Text) where
  abbrev C : Catalog
  C = book_catalog L

  abbrev whole : Text
  whole = hand_content h

  module _ (book : IsBook L) (proper : IsProper h) (full_h : HasNoOpenReserve h) (s : Session) (here : session_of_hand (get L.uploads.sessions h.key) h ≡ Ok s) where
    pub finish_other_digest : is_named C.contents digest whole ≡ false → finish C h digest ≡ Err DigestInvalid
    finish_other_digest other = rw (here, other) refl

    pub found : get L.uploads.sessions h.key ≡ Some s
    found = (session_here L h book proper s here).0

    repo_there : set.contains L.links.repos s.repo ≡ true
    repo_there = (book.sound.lawful.sessions h.key s found).repo

    pub known : known_tenant L.links s.repo ≡ Ok h.key.0
    known = rw (session_owner C book.sound.lawful h.key s found) refl

    long : length whole ≡ charged_length s
    long = whole_long h proper full_h ∙ sym (here_charged L h book proper s here)

    whole_small : length whole ≤ 2 ^ 50
    whole_small =
        let small = (book.sound.lawful.sessions h.key s found).small in
        let most = book.sound.lawful.limits.max_blob in
        omega (arith, long, small, most)

    -- the sealed blob can be linked
    pub CanStore-finished : (blob : Text × Text) → blob ≡ (digest, whole) → CanStore L.links L.slots h.key.0 s.repo blob
    CanStore-finished blob is = CanStore-book L h.key.0 s.repo blob book known repo_there (rw is whole_small)

    -- the reserve and the content were charged
    pub reserve_charged : h.reserved ≤ slice_index L.links.charges h.key.0
    reserve_charged = let small = here_small L h book proper s here in omega arith

    module _ (named : is_named C.contents digest whole ≡ true) where
      finish_other_bytes : fits_stored C.contents (get C.residents digest) whole ≡ false → finish C h digest ≡ Err DigestInvalid
      finish_other_bytes other = rw (here, named, other) refl

      finish_past_share : fits_stored C.contents (get C.residents digest) whole ≡ true → passes_share C h.key.0 digest ≡ true → finish C h digest ≡ Err LimitReached
      finish_past_share same past = rw (here, named, same, past) refl

      finish_full : fits_stored C.contents (get C.residents digest) whole ≡ true → passes_share C h.key.0 digest ≡ false → is_full_for C digest ≡ true → finish C h digest ≡ Err StoreFull
      finish_full same admits is_full = rw (here, named, same, admits, is_full) refl

      -- the content fits the stored blob of the digest, if it fits the slot's
      same_bytes : HasNoOtherContent L.contents.on_disk L.slots (digest, whole) → fits_stored C.contents (get C.residents digest) whole ≡ true
      same_bytes none_other = by (slot_of L.slots digest) refl
        where
          by : (o : Option ℕ) → slot_of L.slots digest ≡ o → fits_stored C.contents (get C.residents digest) whole ≡ true
          by None none = ap (λ o. fits_stored C.contents o whole) (not_resident L.slots (lent_marks L.slots) digest none)
          by (Some k) place =
              let held = held_of L.slots digest k place in
              let b = slot_is_resident L.slots (lent_marks L.slots) (length-marks L.slots) book.tied.distinct k held.0 held.1 in
              let kept : get C.residents digest ≡ Some b.0 = ap (get C.residents) (sym held.2) ∙ b.1 in
              ap (λ o. fits_stored C.contents o whole) kept ∙ ap (λ (x : Text). fits_content L.contents.on_disk x whole) b.2 ∙ none_other k held.0 place held.1

      -- a blob that cannot be linked
      pub finish_unkept : (e : Refusal) → CannotStore L.contents.on_disk L.links L.slots h.key.0 (digest, whole) e → finish C h digest ≡ Err e
      finish_unkept e (differs k x place at other is) =
          let held = held_of L.slots digest k place in
          let same : held.0 ≡ x = some_same (sym held.1 ∙ at) in
          let named : x.digest ≡ digest = ap (λ (y : StoredBlob). y.digest) (sym same) ∙ held.2 in
          let b = slot_is_resident L.slots (lent_marks L.slots) (length-marks L.slots) book.tied.distinct k x at in
          let kept : get C.residents digest ≡ Some b.0 = ap (get C.residents) (sym named) ∙ b.1 in
          let no_match : fits_stored C.contents (get C.residents digest) whole ≡ false =
          ap (λ o. fits_stored C.contents o whole) kept ∙ ap (λ (y : Text). fits_content L.contents.on_disk y whole) b.2 ∙ other in
          finish_other_bytes no_match ∙ ap Err (sym is)
      finish_unkept e (past_share none_other past is) = finish_past_share (same_bytes none_other) (sym (share_is L book h.key.0 digest) ∙ past) ∙ ap Err (sym is)
      finish_unkept e (full admits none no_slot is) =
          let absent = not_resident L.slots (lent_marks L.slots) digest none in
          let sum = rooms L (lent_marks L.slots) (length-marks L.slots) book.tied.distinct in
          let crowded : nat_le C.slots (len C.residents + C.retired) ≡ true = le-leb C.slots (len C.residents + C.retired) (omega arith) in
          let no_room : is_full_for C digest ≡ true = (λ i. not (is_some (absent i)) && crowded i) in
          finish_full (ap (λ o. fits_stored C.contents o whole) absent) (sym (share_is L book h.key.0 digest) ∙ admits) no_room ∙ ap Err (sym is)

      module _ (l' : Linked) (slots' : List Slot) (kept : IsStored L.contents.on_disk L.links L.slots s.repo (digest, whole) l' slots') (admits : links_pass_share L.links h.key.0 digest ≡ false) where
        keeps : Keeps L s.repo (digest, whole) l' slots'
        keeps = IsStored-Keeps L s.repo (digest, whole) book.tied book.sound.lawful repo_there l' slots' kept

        abbrev l1 : Linked
        l1 = discharge l' h.key.0 (length whole)

        abbrev u1 : Uploaded
        u1 = with_sessions L.uploads (remove L.uploads.sessions h.key)

        abbrev C1 : Catalog
        C1 = book_catalog (record L { links = l1; uploads = u1; slots = slots' })

        admits_here : passes_share C h.key.0 digest ≡ false
        admits_here = sym (share_is L book h.key.0 digest) ∙ admits

        finished_as : finish C h digest ≡ Ok (length whole, C1)
        finished_as = rw (here, named, keeps.same, admits_here, keeps.housed) (λ i. Ok (length whole, record (sym keeps.catalog i) { sessions = remove L.uploads.sessions h.key }))

        same_charges : l'.charges ≡ L.links.charges
        same_charges = ap (λ (x : Linked). x.charges) keeps.links

        pub same_tenants : length l'.tenants ≡ length L.links.tenants
        same_tenants = ap (λ (x : Linked). length x.tenants) keeps.links

        pub finish_charged : length whole ≤ slice_index l'.charges h.key.0
        finish_charged =
            let small = here_small L h book proper s here in
            let counts = whole_long h proper full_h in
            rw same_charges (omega arith)

        sums_after : (v : ℕ) → v < length L.links.tenants → slice_index (slice_set L.links.charges h.key.0 (slice_index L.links.charges h.key.0 - length whole)) v ≡ session_charges_of C1 v
        sums_after v lt = ap (λ n. slice_index (slice_set L.links.charges h.key.0 (slice_index L.links.charges h.key.0 - n)) v) long ∙ sums-gone L h.key.0 h.key.1 book (here_tenant L h book proper s here) s found v lt

        -- after a session was finished, the layers make a book
        finished_book : IsBook (record L { links = l1; uploads = u1; slots = slots' })
        finished_book = record {
          sound = Sound-after_finish C C1 h digest (length whole) proper full_h finished_as book.sound;
          tied = record { marks = keeps.tied.marks; distinct = keeps.tied.distinct; sizes = keeps.tied.sizes; counts = keeps.tied.counts };
          charges = record {
            one_each = length-set l'.charges h.key.0 (slice_index l'.charges h.key.0 - length whole) ∙ ap length same_charges ∙ book.charges.one_each ∙ sym same_tenants;
            sums = λ v lt. (λ i. slice_index (slice_set (same_charges i) h.key.0 (slice_index (same_charges i) h.key.0 - length whole)) v) ∙ sums_after v (let same = same_tenants in omega arith);
          };
        }

        module _ (l'' : Linked) (u'' : Uploaded) (links : l'' ≡ l1) (uploads : u'' ≡ u1) where
          pub finish_ok : finish C h digest ≡ Ok (length whole, book_catalog (record L { links = l''; uploads = u''; slots = slots' }))
          finish_ok = finished_as ∙ (λ i. Ok (length whole, book_catalog (record L { links = sym links i; uploads = sym uploads i; slots = slots' })))

          pub IsBook-finish : IsBook (record L { links = l''; uploads = u''; slots = slots' })
          IsBook-finish = subst (λ (x : Layers). IsBook x) (λ i. record L { links = sym links i; uploads = sym uploads i; slots = slots' }) finished_book

    -- ---- a failed finish

    abbrev back : Uploaded
    back = with_sessions L.uploads (after_cancel_in L.uploads.sessions h)

    given : with_sessions L.uploads (with_chunks L.uploads.sessions h.key s (CheckedIn h.chunks)) ≡ back
    given = ap (λ o. with_sessions L.uploads (with_old_chunks L.uploads.sessions h o)) (sym here)

    -- the session is checked in, and its reserve is discharged
    pub IsBook-after_cancel : (l' : Linked) (u' : Uploaded) → l' ≡ discharge L.links h.key.0 h.reserved → u' ≡ back → IsBook (record L { links = l'; uploads = u' })
    IsBook-after_cancel l' u' links uploads =
        let now = IsBook-home L h book proper s here h.chunks h.reserved proper.pieces refl in
        let home = given ∙ sym uploads in
        subst (λ (x : Layers). IsBook x) (λ i. record L { links = sym links i; uploads = home i }) now

  -- the new catalog is the old one with the hand's session checked in
  pub after_cancel_is : (l' : Linked) (u' : Uploaded) (k : ℕ) → l' ≡ discharge L.links h.key.0 k → u' ≡ with_sessions L.uploads (after_cancel_in L.uploads.sessions h) → book_catalog (record L { links = l'; uploads = u' }) ≡ after_cancel C h
  after_cancel_is l' u' k links uploads = λ i. book_catalog (record L { links = links i; uploads = uploads i })

-- a content that is sealed under a digest has it
pub sealed_named : (sealing : Sealing) (rules : ContentRules) (digest content : Text) → (sealing ≡ ByNote → rules.on_disk ≡ true) → (sealing ≡ ByHash → is_read content ≡ true) → is_named rules digest content ≡ is_sealed sealing digest content
sealed_named ByHash rules digest content files read = named_if_read rules digest content (read refl)
sealed_named ByNote rules digest content files read = ap (λ b. if b then has_digest digest content else is_digest_of digest content) (files refl)

-- the error of the layer
pub layer_refused : (sealing : Sealing) (u : Uploaded) (h : HandRecord) (digest : Text) (e : Refusal) → finish_upload sealing u h digest ≡ Err e → (e ≡ UploadUnknown → ⊥) → (s : Session) × (session_of_hand (get u.sessions h.key) h ≡ Ok s) × (is_sealed sealing digest (hand_content h) ≡ false) × (e ≡ DigestInvalid)
layer_refused sealing u h digest e refused other = by (session_of_hand (get u.sessions h.key) h) refl
  where
    unknown : (o : Option Session) (d : Refusal) → session_of_hand o h ≡ Err d → d ≡ UploadUnknown
    unknown None d is = cc
    unknown (Some s) d is = test (are_of_hand h s.chunks) is
      where
        test : (b : Bool) → (if b then Ok s else Err UploadUnknown) ≡ Err d → d ≡ UploadUnknown
        test true is = absurd cc
        test false is = cc

    by : (x : Result Session Refusal) → session_of_hand (get u.sessions h.key) h ≡ x → (s : Session) × (session_of_hand (get u.sessions h.key) h ≡ Ok s) × (is_sealed sealing digest (hand_content h) ≡ false) × (e ≡ DigestInvalid)
    by (Ok s) here = digests (is_sealed sealing digest (hand_content h)) refl (rw here at refused)
      where
        digests : (b : Bool) → is_sealed sealing digest (hand_content h) ≡ b → ◌>>=◌ {B = (Text × Text) × Uploaded} (refuse (not (is_sealed sealing digest (hand_content h))) DigestInvalid) (λ _. Ok ((digest, hand_content h), u)) ≡ Err e → (s : Session) × (session_of_hand (get u.sessions h.key) h ≡ Ok s) × (is_sealed sealing digest (hand_content h) ≡ false) × (e ≡ DigestInvalid)
        digests true agrees h = absurd (let k = rw agrees at h in cc)
        digests false agrees h = (s, here, agrees, let k = rw agrees at h in cc)
    by (Err d) here = absurd (other (let k : ◌≡◌ {A = Result ((Text × Text) × Uploaded) Refusal} (Err d) (Err e) = rw here at refused in let same : d ≡ e = cc in sym same ∙ unknown (get u.sessions h.key) d here))

-- if the layer has no such hand, nothing changes
pub layer_unknown : (sealing : Sealing) (u : Uploaded) (h : HandRecord) (digest : Text) (e : Refusal) → finish_upload sealing u h digest ≡ Err e → e ≡ UploadUnknown → with_sessions u (after_cancel_in u.sessions h) ≡ u
layer_unknown sealing u h digest e refused unknown = by (session_of_hand (get u.sessions h.key) h) refl
  where
    by : (x : Result Session Refusal) → session_of_hand (get u.sessions h.key) h ≡ x → with_sessions u (after_cancel_in u.sessions h) ≡ u
    by (Ok s) here = digests (is_sealed sealing digest (hand_content h)) refl (rw here at refused)
      where
        digests : (b : Bool) → is_sealed sealing digest (hand_content h) ≡ b → ◌>>=◌ {B = (Text × Text) × Uploaded} (refuse (not (is_sealed sealing digest (hand_content h))) DigestInvalid) (λ _. Ok ((digest, hand_content h), u)) ≡ Err e → with_sessions u (after_cancel_in u.sessions h) ≡ u
        digests true agrees h = absurd (let k = rw agrees at h in cc)
        digests false agrees h = absurd (let k = rw (agrees, unknown) at h in cc)
    by (Err d) here = ap (λ (o : Result Session Refusal). with_sessions u (with_old_chunks u.sessions h o)) here

-- a hand that the layer finishes is this book's
pub layer_finished : (sealing : Sealing) (u : Uploaded) (h : HandRecord) (digest : Text) (blob : Text × Text) (u' : Uploaded) → finish_upload sealing u h digest ≡ Ok (blob, u') → (s : Session) × (session_of_hand (get u.sessions h.key) h ≡ Ok s) × (is_sealed sealing digest (hand_content h) ≡ true) × (blob ≡ (digest, hand_content h)) × (u' ≡ u)
layer_finished sealing u h digest blob u' done =
    let a = bound_ok (session_of_hand (get u.sessions h.key) h) _ (blob, u') done in
    let b = bound_ok (refuse (not (is_sealed sealing digest (hand_content h))) DigestInvalid) _ (blob, u') a.2 in
    let p : ◌≡◌ {A = (Text × Text) × Uploaded} ((digest, hand_content h), u) (blob, u') = cc b.2 in
    (a.0, a.1, not-false _ (not_refused _ _ _ b.1), sym (λ i. (p i).0), sym (λ i. (p i).1))
