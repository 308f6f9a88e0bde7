-- Bytes that are a head.
use Rattle.std.specs.Prelude.{◌≡◌, ℕ, List}
use Rattle.log_frames.specs.Frames.{IsHead, head_bytes}
use Rattle.log_frames.specs.declared.head.FrameHead.{FrameHead}

-- the bytes are this head
pub record IsHeadOf (id : ℕ) (bytes : List ℕ) (h : FrameHead) : Type 0 where
  pub head : IsHead h
  pub whole : bytes ≡ head_bytes id h

-- the bytes are no head
abbrev pub HasNoHead : ℕ → List ℕ → Type 0
HasNoHead id bytes = (h : FrameHead) → IsHead h → bytes ≡ head_bytes id h → ⊥
