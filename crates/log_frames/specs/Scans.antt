-- Heads of later frames.
use Rattle.std.specs.Prelude.{◌≡◌, ◌<◌, ◌+◌, ℕ, List, ◌++◌, Option, Some, None, IfSome, length}
use Rattle.log_frames.specs.Frames.{IsHead, head_bytes}
use Rattle.log_frames.specs.declared.head.FrameHead.{FrameHead}

-- A head stands in bytes that begin at a place of the log. It states its own place, and that the log was synced beyond `limit`.
pub record IsLaterHead (id : ℕ) (limit : ℕ) (place : ℕ) (bytes : List ℕ) (h : FrameHead) : Type 0 where
  pub front : List ℕ
  pub rest : List ℕ
  pub head : IsHead h
  pub whole : bytes ≡ front ++ (head_bytes id h ++ rest)
  pub here : h.place ≡ place + length front
  pub later : limit < h.synced

-- no such head stands in the bytes
abbrev pub HasNoLaterHead : ℕ → ℕ → ℕ → List ℕ → Type 0
HasNoLaterHead id limit place bytes = (h : FrameHead) → IsLaterHead id limit place bytes h → ⊥

-- such a head, or none if there is none
abbrev pub Finds : ℕ → ℕ → ℕ → List ℕ → Option FrameHead → Type 0
Finds id limit place bytes (Some h) = IsLaterHead id limit place bytes h
Finds id limit place bytes None = HasNoLaterHead id limit place bytes

-- the same for the rest of a log at `place`: `start`, which was read, and the bytes of the input
abbrev pub FindsIn : ℕ → ℕ → List ℕ → Option (List ℕ) → Option FrameHead → Type 0
FindsIn id place start input found = IfSome input (λ bytes. Finds id place place (start ++ bytes) found)

-- a later head at the front of the bytes
pub record IsFrontHead (id : ℕ) (limit : ℕ) (place : ℕ) (bytes : List ℕ) (h : FrameHead) : Type 0 where
  pub rest : List ℕ
  pub head : IsHead h
  pub whole : bytes ≡ head_bytes id h ++ rest
  pub here : h.place ≡ place
  pub later : limit < h.synced

-- such a head, or none if there is none
abbrev pub FindsAtFront : ℕ → ℕ → ℕ → List ℕ → Option FrameHead → Type 0
FindsAtFront id limit place bytes (Some h) = IsFrontHead id limit place bytes h
FindsAtFront id limit place bytes None = (h : FrameHead) → IsFrontHead id limit place bytes h → ⊥
