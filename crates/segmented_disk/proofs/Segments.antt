-- The payloads of segments.
use Rattle.std.proofs.Common.{◌≡◌, ℕ, Bool, List, [], ◌++◌, ◌∙◌, ap, refl, sym, subst, append_assoc, append-nil}
use Rattle.std.proofs.lemmas.Grind.{flat_map-append}
use mathlib.Core.List.{IsPrefix}
use Rattle.framed_disk.specs.Survivors.{IsReadable, Preserves}
use Rattle.framed_disk.specs.Views.{EndsInOrder, FramedView, KeepsDurable, KeepsFrames, attempted, durable}
use Rattle.log_disk.specs.Kept.{HasContent, IsPreserved, PreservesContents}
use Rattle.log_disk.specs.Torn.{IsTorn}
use Rattle.log_frames.specs.Frames.{Frame, payloads}
use Rattle.segmented_disk.specs.Invariants.{IsPublished, KeepsSynced}
use Rattle.segmented_disk.specs.Survivors.{IsReadAs, PreservesAll}
use Rattle.segmented_disk.specs.Views.{FolderView, IsDurable, IsNewLog, SegmentedView, after_confirm, after_publish, all_attempted, all_durable, closed, segmented}

module _ {A : Type 0} where
  pub prefix_same : (xs ys : List A) → ys ≡ xs → IsPrefix xs ys
  prefix_same xs ys e = ([], append-nil xs ∙ sym e)

  pub prefix_trans : (xs ys zs : List A) → IsPrefix xs ys → IsPrefix ys zs → IsPrefix xs zs
  prefix_trans xs ys zs p q = (p.0 ++ q.0, sym (append_assoc xs p.0 q.0) ∙ ap (λ w. w ++ q.0) p.1 ∙ q.1)

  -- behind the same front
  pub prefix_behind : (front xs ys : List A) → IsPrefix xs ys → IsPrefix (front ++ xs) (front ++ ys)
  prefix_behind front xs ys p = (p.0, append_assoc front xs p.0 ∙ ap (λ w. front ++ w) p.1)

-- the synced payloads are durable if those that were durable are
pub still_durable : (closed synced old new : List ℕ) → IsPrefix synced (closed ++ old) → IsPrefix old new → IsPrefix synced (closed ++ new)
still_durable closed synced old new is kept = prefix_trans synced (closed ++ old) (closed ++ new) is (prefix_behind closed old new kept)

-- the last segment has the same payloads, and those that were durable are
pub still_published : (before : List ℕ) (f g : FolderView) (old new : FramedView) (b c : Bool)
    → IsPublished (segmented before f old b) → g ≡ f → KeepsDurable old new → IsPublished (segmented before g new c)
still_published before f g old new b c is same kept =
    subst (λ (h : FolderView). IsPublished (segmented before h new c)) (sym same)
    (record { keeps = still_durable (before ++ f.ended) (before ++ f.confirmed) (durable old) (durable new) is.keeps kept.durable; last = kept.id ∙ is.last })

-- the next segment was published after the last one had ended
pub next_published : (before : List ℕ) (f g : FolderView) (old ended next : FramedView) (b c : Bool)
    → IsPublished (segmented before f old b) → KeepsDurable old ended → EndsInOrder ended → g ≡ after_publish f (attempted ended) next.id
    → IsPublished (segmented before g next c)
next_published before f g old ended next b c is kept ends published =
    let synced : List ℕ = before ++ f.confirmed in
    let whole : IsPrefix synced ((before ++ f.ended) ++ durable ended) = still_durable (before ++ f.ended) synced (durable old) (durable ended) is.keeps kept.durable in
    let closed : IsPrefix synced (before ++ (f.ended ++ attempted ended)) =
    subst (λ t. IsPrefix synced t) (ap (λ t. (before ++ f.ended) ++ t) (ap payloads ends.synced) ∙ append_assoc before f.ended (attempted ended)) whole in
    subst (λ (h : FolderView). IsPublished (segmented before h next c)) (sym published)
    (record {
      keeps = prefix_trans synced (before ++ (f.ended ++ attempted ended)) ((before ++ (f.ended ++ attempted ended)) ++ durable next) closed (durable next, refl);
      last = refl;
    })

payloads_prefix : (xs ys : List Frame) → IsPrefix xs ys → IsPrefix (payloads xs) (payloads ys)
payloads_prefix xs ys p = (payloads p.0, sym (flat_map-append (λ (f : Frame). f.payload) xs p.0) ∙ ap payloads p.1)

-- the last segment was synced, and the folder has confirmed nothing more
pub synced_published : (before : List ℕ) (f g : FolderView) (old new : FramedView) (b c : Bool)
    → IsPublished (segmented before f old b) → IsPrefix old.synced_frames old.frames → g ≡ f → KeepsFrames old new → durable new ≡ attempted old
    → IsPublished (segmented before g new c)
synced_published before f g old new b c is whole same kept all =
    still_published before f g old new b c is same
    (record {
      id = kept.id;
      all = ap payloads kept.frames;
      durable = subst (λ (t : List ℕ). IsPrefix (durable old) t) (sym all) (payloads_prefix old.synced_frames old.frames whole);
    })

-- the folder has confirmed the payloads of the last segment, which is durable
pub confirmed_published : (before : List ℕ) (f g : FolderView) (v : FramedView) (c : Bool)
    → v.id ≡ f.last_id → IsDurable v → g ≡ after_confirm f (attempted v) → IsPublished (segmented before g v c)
confirmed_published before f g v c last is confirmed =
    subst (λ (h : FolderView). IsPublished (segmented before h v c)) (sym confirmed)
    (record {
      keeps = prefix_same (before ++ (f.ended ++ attempted v)) ((before ++ f.ended) ++ durable v) (ap (λ t. (before ++ f.ended) ++ t) is ∙ append_assoc before f.ended (attempted v));
      last = last;
    })

-- all payloads are confirmed
pub all_confirmed : (before : List ℕ) (f g : FolderView) (v : FramedView) → g ≡ after_confirm f (attempted v) → before ++ g.confirmed ≡ (before ++ f.ended) ++ attempted v
all_confirmed before f g v confirmed = ap (λ (h : FolderView). before ++ h.confirmed) confirmed ∙ sym (append_assoc before f.ended (attempted v))

-- a new log after the last segment has no payload
pub next_payloads : (before : List ℕ) (f g : FolderView) (old ended next : FramedView)
    → KeepsDurable old ended → IsNewLog next → g ≡ after_publish f (attempted ended) next.id → (before ++ g.ended) ++ attempted next ≡ (before ++ f.ended) ++ attempted old
next_payloads before f g old ended next kept new published =
    ap (λ (v : FramedView). (before ++ g.ended) ++ attempted v) new ∙ append-nil (before ++ g.ended) ∙ ap (λ (h : FolderView). before ++ h.ended) published
    ∙ ap (λ t. before ++ (f.ended ++ t)) kept.all ∙ sym (append_assoc before f.ended (attempted old))

-- a write that fails before it writes
pub nothing_written : (old bytes new : List ℕ) → new ≡ old → IsTorn old bytes new
nothing_written old bytes new same = record { part = []; of = (bytes, refl); ends = same ∙ sym (append-nil old) }

-- however the last segment is read, the payloads of all segments are preserved
pub preserves_all : (v : SegmentedView) (bytes : List ℕ) → KeepsSynced v → Preserves v.segment bytes → PreservesAll v bytes
preserves_all v bytes is preserved frames rest read =
    let p = preserved frames rest read in
    record {
      kept = prefix_trans v.synced (all_durable v) (closed v ++ payloads frames) is (prefix_behind (closed v) (durable v.segment) (payloads frames) p.kept_payloads);
      made = prefix_behind (closed v) (payloads frames) (attempted v.segment) p.made_payloads;
    }

-- ---- the content

pub has_content : (v : SegmentedView) (bytes : List ℕ) → IsReadable v.segment.id bytes → HasContent (IsReadAs v bytes)
has_content v bytes (frames, rest, read) = (closed v ++ payloads frames, record { frames = frames; rest = rest; read = read; payloads_are = refl })

pub preserves_contents : (v : SegmentedView) (bytes : List ℕ) → PreservesAll v bytes → PreservesContents (IsReadAs v bytes) (all_attempted v) v.synced
preserves_contents v bytes preserved content is =
    let p = preserved is.frames is.rest is.read in
    subst (λ (t : List ℕ). IsPreserved (all_attempted v) v.synced t) (sym is.payloads_are) (record { kept = p.kept; made = p.made })
