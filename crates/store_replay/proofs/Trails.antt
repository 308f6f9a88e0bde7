-- A trail with one frame more.
use Rattle.std.proofs.Common.{◌≡◌, ℕ, List, [], ◌∷◌, ◌++◌, ap, refl}
use Rattle.ghost_log.specs.declared.view.Entry.{Entry}
use Rattle.ghost_log.specs.Entries.{entry}
use Rattle.log_frames.specs.Frames.{Frame}
use Rattle.store_replay.specs.Trails.{events_of}

pub events_of-snoc : (es : List (Entry Frame)) (n : ℕ) (f : Frame) → events_of (es ++ entry n f ∷ []) ≡ events_of es ++ f ∷ []
events_of-snoc [] n f = refl
events_of-snoc (e ∷ es) n f = ap (λ fs. e.event ∷ fs) (events_of-snoc es n f)
