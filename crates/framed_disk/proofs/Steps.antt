-- A framed disk after each of its calls.
use Rattle.std.proofs.Common.{◌≡◌, ◌⊎◌, ◌≤◌, ◌+◌, ℕ, Bool, true, false, List, [], ◌∷◌, ◌++◌, ◌∙◌, ap, refl, sym, subst, arith, inl, inr, length, append_assoc, append-nil, Option, Some, None}
use Rattle.std.proofs.lemmas.List.{length-append}
use mathlib.Core.List.{IsPrefix}
use Rattle.ghost_log.specs.declared.view.Entry.{Entry}
use Rattle.ghost_log.specs.Entries.{entry}
use Rattle.log_disk.specs.Torn.{IsTorn}
use Rattle.log_frames.specs.Frames.{AreFrames, Frame, IsFrame, cursor_after, end_of, frame_bytes, frame_of, frames_bytes}
use Rattle.log_frames.specs.Headers.{header_bytes, log_bytes, start_of}
use Rattle.log_frames.specs.declared.cursor.Cursor.{Cursor}
use Rattle.framed_disk.specs.Deeds.{after_deed, after_deeds}
use Rattle.framed_disk.specs.Invariants.{IsFramed}
use Rattle.framed_disk.specs.Views.{AddsFrame, FramedView, IsMarked, LastStates, framed, synced_offset}
use Rattle.framed_disk.proofs.Framing.{are-snoc, end_of-snoc, header_bytes-length, log_bytes-length, log_bytes-snoc, stated-end, stated-more, stated-snoc}

pub after_deeds-snoc : (at : List Frame × List Frame) (es : List (Entry (Option (List Frame)))) (n : ℕ) (deed : Option (List Frame)) → after_deeds at (es ++ entry n deed ∷ []) ≡ after_deed (after_deeds at es) deed
after_deeds-snoc at [] n deed = refl
after_deeds-snoc at (e ∷ es) n deed = after_deeds-snoc (after_deed at e.event) es n deed

prefix_more : {A : Type 0} (xs ys zs : List A) → IsPrefix xs ys → IsPrefix xs (ys ++ zs)
prefix_more xs ys zs p = (p.0 ++ zs, sym (append_assoc xs p.0 zs) ∙ ap (λ t. t ++ zs) p.1)

-- a frame was written
pub adds : (id : ℕ) (at : List Frame × List Frame) (w s more : List ℕ) (b : Bool) (cursor after : Cursor) (offset stated : ℕ) (payload : List ℕ)
    → IsFramed (framed id at w s b) cursor offset stated → b ≡ false → IsFrame cursor (frame_of offset payload)
    → more ≡ w ++ frame_bytes id cursor (frame_of offset payload) → after ≡ cursor_after id cursor (frame_of offset payload)
    → IsFramed (framed id (at.0 ++ frame_of offset payload ∷ [], at.1) more s b) after offset offset
adds id at w s more b cursor after offset stated payload is sound fits wrote next =
    let f : Frame = frame_of offset payload in
    let here = is.at_end sound in
    let whole : more ≡ log_bytes id (at.0 ++ f ∷ []) =
    wrote ∙ ap (λ t. t ++ frame_bytes id cursor f) (is.exact sound) ∙ ap (λ c. log_bytes id at.0 ++ frame_bytes id c f) here ∙ sym (log_bytes-snoc id at.0 f) in
    record {
      are = are-snoc id (start_of id) at.0 f is.are (subst (λ (c : Cursor). IsFrame c f) here fits);
      in_order = ([], append-nil more ∙ whole);
      exact = λ _. whole;
      at_end = λ _. next ∙ ap (λ c. cursor_after id c f) here ∙ sym (end_of-snoc id (start_of id) at.0 f);
      synced_of = prefix_more at.1 at.0 (f ∷ []) is.synced_of;
      safe = is.safe;
      down = subst (λ (t : List ℕ). IsPrefix s t) (sym wrote) (prefix_more s w (frame_bytes id cursor f) is.down);
      known = is.known;
      last = λ _. inr (record { before = at.0; last = f; whole = refl; states = refl });
      all = stated-snoc (length (log_bytes id at.1)) at.0 f is.all (omega (arith, is.known));
    }

-- a prefix of a frame was written
pub adds_part : (id : ℕ) (at : List Frame × List Frame) (w s more : List ℕ) (b : Bool) (cursor : Cursor) (offset stated : ℕ) (payload : List ℕ)
    → IsFramed (framed id at w s b) cursor offset stated → b ≡ false → IsFrame cursor (frame_of offset payload)
    → IsTorn w (frame_bytes id cursor (frame_of offset payload)) more
    → IsFramed (framed id (at.0 ++ frame_of offset payload ∷ [], at.1) more s true) cursor offset stated
adds_part id at w s more b cursor offset stated payload is sound fits torn =
    let f : Frame = frame_of offset payload in
    let here = is.at_end sound in
    let whole : more ++ torn.of.0 ≡ log_bytes id (at.0 ++ f ∷ []) =
    ap (λ t. t ++ torn.of.0) torn.ends ∙ append_assoc w torn.part torn.of.0 ∙ ap (λ t. w ++ t) torn.of.1 ∙ ap (λ t. t ++ frame_bytes id cursor f) (is.exact sound)
    ∙ ap (λ c. log_bytes id at.0 ++ frame_bytes id c f) here ∙ sym (log_bytes-snoc id at.0 f) in
    record {
      are = are-snoc id (start_of id) at.0 f is.are (subst (λ (c : Cursor). IsFrame c f) here fits);
      in_order = (torn.of.0, whole);
      exact = λ e. cc;
      at_end = λ e. cc;
      synced_of = prefix_more at.1 at.0 (f ∷ []) is.synced_of;
      safe = is.safe;
      down = subst (λ (t : List ℕ). IsPrefix s t) (sym torn.ends) (prefix_more s w torn.part is.down);
      known = is.known;
      last = λ e. cc;
      all = stated-snoc (length (log_bytes id at.1)) at.0 f is.all (omega (arith, is.known));
    }

-- a log whose frames are all synced
pub opens : (id : ℕ) (frames : List Frame) (w s : List ℕ) (b : Bool) (cursor : Cursor) (stated : ℕ)
    → (b ≡ false → (stated ≡ 0) ⊎ LastStates stated frames) → AreFrames id (start_of id) frames → cursor ≡ end_of id (start_of id) frames → w ≡ log_bytes id frames → s ≡ w
    → IsFramed (framed id (frames, frames) w s b) cursor cursor.place stated
opens id frames w s b cursor stated last are ends wrote synced =
    let whole : s ≡ log_bytes id frames = synced ∙ wrote in
    record {
      are = are;
      in_order = ([], append-nil w ∙ wrote);
      exact = λ _. wrote;
      at_end = λ _. ends;
      synced_of = ([], append-nil frames);
      safe = whole;
      down = ([], append-nil s ∙ synced);
      known = ap (λ (c : Cursor). c.place) ends ∙ sym (log_bytes-length id frames);
      last = last;
      all = stated-more (end_of id (start_of id) frames).place (length (log_bytes id frames)) frames (omega (arith, log_bytes-length id frames)) (stated-end id (start_of id) frames are);
    }

-- all frames were synced
pub syncs : (id : ℕ) (at : List Frame × List Frame) (w s now synced : List ℕ) (b : Bool) (cursor : Cursor) (offset stated : ℕ)
    → IsFramed (framed id at w s b) cursor offset stated → b ≡ false → now ≡ w → synced ≡ w
    → IsFramed (framed id (at.0, at.0) now synced b) cursor cursor.place stated
syncs id at w s now synced b cursor offset stated is sound same all =
    opens id at.0 now synced b cursor stated is.last is.are (is.at_end sound) (same ∙ is.exact sound) (all ∙ sym same)

-- ---- the same of equal values

pub adds_now : (id : ℕ) (at now : List Frame × List Frame) (w s more t : List ℕ) (b : Bool) (cursor after : Cursor) (offset stated : ℕ) (payload : List ℕ)
    → now ≡ after_deed at (Some (frame_of offset payload ∷ [])) → t ≡ s
    → IsFramed (framed id at w s b) cursor offset stated → b ≡ false → IsFrame cursor (frame_of offset payload)
    → more ≡ w ++ frame_bytes id cursor (frame_of offset payload) → after ≡ cursor_after id cursor (frame_of offset payload)
    → IsFramed (framed id now more t b) after offset offset
adds_now id at now w s more t b cursor after offset stated payload added same is sound fits wrote next =
    subst (λ (p : List Frame × List Frame). IsFramed (framed id p more t b) after offset offset) (sym added)
    (subst (λ (u : List ℕ). IsFramed (framed id (at.0 ++ frame_of offset payload ∷ [], at.1) more u b) after offset offset) (sym same)
    (adds id at w s more b cursor after offset stated payload is sound fits wrote next))

pub adds_part_now : (id : ℕ) (at now : List Frame × List Frame) (w s more t : List ℕ) (b : Bool) (cursor : Cursor) (offset stated : ℕ) (payload : List ℕ)
    → now ≡ after_deed at (Some (frame_of offset payload ∷ [])) → t ≡ s
    → IsFramed (framed id at w s b) cursor offset stated → b ≡ false → IsFrame cursor (frame_of offset payload)
    → IsTorn w (frame_bytes id cursor (frame_of offset payload)) more
    → IsFramed (framed id now more t true) cursor offset stated
adds_part_now id at now w s more t b cursor offset stated payload added same is sound fits torn =
    subst (λ (p : List Frame × List Frame). IsFramed (framed id p more t true) cursor offset stated) (sym added)
    (subst (λ (u : List ℕ). IsFramed (framed id (at.0 ++ frame_of offset payload ∷ [], at.1) more u true) cursor offset stated) (sym same)
    (adds_part id at w s more b cursor offset stated payload is sound fits torn))

pub syncs_now : (id : ℕ) (at after : List Frame × List Frame) (w s now synced : List ℕ) (b : Bool) (cursor : Cursor) (offset stated : ℕ)
    → after ≡ after_deed at None
    → IsFramed (framed id at w s b) cursor offset stated → b ≡ false → now ≡ w → synced ≡ w
    → IsFramed (framed id after now synced b) cursor cursor.place stated
syncs_now id at after w s now synced b cursor offset stated added is sound same all =
    subst (λ (p : List Frame × List Frame). IsFramed (framed id p now synced b) cursor cursor.place stated) (sym added) (syncs id at w s now synced b cursor offset stated is sound same all)

pub opens_now : (id : ℕ) (at : List Frame × List Frame) (frames : List Frame) (w s : List ℕ) (cursor : Cursor)
    → at ≡ (frames, frames) → AreFrames id (start_of id) frames → cursor ≡ end_of id (start_of id) frames → w ≡ log_bytes id frames → s ≡ w
    → IsFramed (framed id at w s false) cursor cursor.place 0
opens_now id at frames w s cursor is are ends wrote synced =
    subst (λ (p : List Frame × List Frame). IsFramed (framed id p w s false) cursor cursor.place 0) (sym is) (opens id frames w s false cursor 0 (λ _. inl refl) are ends wrote synced)

-- the last frame states the synced offset, if that is the offset that it states
pub marked : (v : FramedView) (cursor : Cursor) (offset stated : ℕ) → IsFramed v cursor offset stated → v.failed ≡ false → stated ≡ offset → IsMarked v
marked v cursor offset stated is sound same =
    elim (is.last sound) [
      | inl none ↦ absurd (omega (arith, none, same, is.known, header_bytes-length v.id, length-append (header_bytes v.id) (frames_bytes v.id (start_of v.id) v.synced_frames)))
      | inr last ↦ subst (λ (n : ℕ). LastStates n v.frames) (same ∙ is.known) last
    ]

-- ---- views

pub adds_frame : (v : FramedView) (id : ℕ) (at now : List Frame × List Frame) (w s w' s' : List ℕ) (b b' : Bool) (offset : ℕ) (payload : List ℕ)
    → framed id at w s b ≡ v → offset ≡ synced_offset (framed id at w s b) → now ≡ after_deed at (Some (frame_of offset payload ∷ [])) → s' ≡ s
    → AddsFrame v payload (framed id now w' s' b')
adds_frame v id at now w s w' s' b b' offset payload is known more same = record {
  frames =
      ap (λ (p : List Frame × List Frame). p.0) more ∙ ap (λ n. at.0 ++ frame_of n payload ∷ []) known
      ∙ ap (λ (u : FramedView). u.frames ++ frame_of (synced_offset u) payload ∷ []) is;
  id = ap (λ (u : FramedView). u.id) is;
  synced_frames = ap (λ (p : List Frame × List Frame). p.1) more ∙ ap (λ (u : FramedView). u.synced_frames) is;
  synced = same ∙ ap (λ (u : FramedView). u.synced) is;
}
