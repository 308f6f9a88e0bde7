-- A log that ends in order, and the content that a crash leaves of it.
use Rattle.std.proofs.Common.{◌≡◌, ◌⊎◌, ℕ, List, [], ◌∷◌, ◌++◌, ◌∙◌, ap, inl, inr, refl, sym, subst, length, append_assoc, append-nil}
use Rattle.std.proofs.lemmas.Grind.{flat_map-append}
use mathlib.Core.List.{IsPrefix}
use Rattle.log_disk.specs.Kept.{HasContent, IsPreserved, PreservesContents}
use Rattle.log_frames.specs.Frames.{Frame, frame_of, payloads}
use Rattle.log_frames.specs.Headers.{log_bytes}
use Rattle.framed_disk.specs.Invariants.{IsInOrder}
use Rattle.framed_disk.specs.Survivors.{IsReadAs, IsReadable, Preserves}
use Rattle.framed_disk.specs.Views.{AddsFrame, EndsInOrder, FramedView, KeepsDurable, KeepsFrames, attempted, durable, synced_offset}
use Rattle.framed_disk.proofs.Framing.{payloads-snoc}

prefix_same : {A : Type 0} (xs ys : List A) → ys ≡ xs → IsPrefix xs ys
prefix_same xs ys e = ([], append-nil xs ∙ sym e)

prefix_trans : {A : Type 0} (xs ys zs : List A) → IsPrefix xs ys → IsPrefix ys zs → IsPrefix xs zs
prefix_trans xs ys zs p q = (p.0 ++ q.0, sym (append_assoc xs p.0 q.0) ∙ ap (λ w. w ++ q.0) p.1 ∙ q.1)

-- what is durable of a log was written
pub durable_written : (v : FramedView) → IsInOrder v → IsPrefix (durable v) (attempted v)
durable_written v is = let p = is.synced_of in (payloads p.0, sym (flat_map-append (λ (f : Frame). f.payload) v.synced_frames p.0) ∙ ap payloads p.1)

-- ---- one call

-- a sync that fails
pub keeps_unsynced : (old new : FramedView) → KeepsFrames old new → durable new ≡ durable old → KeepsDurable old new
keeps_unsynced old new kept same = record { id = kept.id; all = ap payloads kept.frames; durable = prefix_same (durable old) (durable new) same }

-- a sync
pub keeps_synced : (old new : FramedView) → IsPrefix (durable old) (attempted old) → KeepsFrames old new → durable new ≡ attempted old → KeepsDurable old new
keeps_synced old new written kept all =
    record { id = kept.id; all = ap payloads kept.frames; durable = subst (λ (t : List ℕ). IsPrefix (durable old) t) (sym all) written }

-- a mark, or nothing if its write fails
pub keeps_marked : (old new : FramedView) → AddsFrame old [] new ⊎ (new ≡ old) → KeepsDurable old new
keeps_marked old new added = elim added [
  | inl adds ↦ record {
    id = adds.id;
    all = ap payloads adds.frames ∙ payloads-snoc old.frames (frame_of (synced_offset old) []) ∙ append-nil (attempted old);
    durable = prefix_same (durable old) (durable new) (ap payloads adds.synced_frames);
  }
  | inr same ↦ record {
    id = ap (λ (v : FramedView). v.id) same;
    all = ap attempted same;
    durable = prefix_same (durable old) (durable new) (ap durable same);
  }
]

pub keeps_trans : (a b c : FramedView) → KeepsDurable a b → KeepsDurable b c → KeepsDurable a c
keeps_trans a b c p q = record { id = q.id ∙ p.id; all = q.all ∙ p.all; durable = prefix_trans (durable a) (durable b) (durable c) p.durable q.durable }

-- ---- the end

-- a mark that was written after a sync, and was synced
pub ends_in_order : (synced marked ended : FramedView) → synced.synced_frames ≡ synced.frames → AddsFrame synced [] marked → KeepsFrames marked ended → ended.synced_frames ≡ ended.frames → EndsInOrder ended
ends_in_order synced marked ended whole adds kept all = record {
  before = synced.frames;
  marked =
      kept.frames ∙ adds.frames
      ∙ ap (λ (fs : List Frame). synced.frames ++ frame_of (length (log_bytes synced.id fs)) [] ∷ []) whole
      ∙ ap (λ n. synced.frames ++ frame_of (length (log_bytes n synced.frames)) [] ∷ []) (sym (kept.id ∙ adds.id));
  synced = all;
}

-- ---- the content

pub has_content : (id : ℕ) (bytes : List ℕ) → IsReadable id bytes → HasContent (IsReadAs id bytes)
has_content id bytes (frames, rest, read) = (payloads frames, record { frames = frames; rest = rest; read = read; payloads_are = refl })

pub preserves_contents : (v : FramedView) (bytes : List ℕ) → Preserves v bytes → PreservesContents (IsReadAs v.id bytes) (attempted v) (durable v)
preserves_contents v bytes preserved content is =
    let p = preserved is.frames is.rest is.read in
    subst (λ (t : List ℕ). IsPreserved (attempted v) (durable v) t) (sym is.payloads_are) (record { kept = p.kept_payloads; made = p.made_payloads })
