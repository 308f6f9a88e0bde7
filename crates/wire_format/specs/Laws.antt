-- Bytes begin with at most one frame.
use Rattle.std.specs.Prelude.{◌≡◌, ℕ, List, ◌++◌, ◌<◌, ◌^◌, length}
use Rattle.wire_format.specs.declared.request.Head.{Head}
use Rattle.wire_format.specs.Frames.{payload_len, request_bytes}
use Rattle.wire_format.specs.Connections.{IsHead, IsPartial}
use Rattle.wire_format.specs.Replies.{Reply, reply_bytes}

-- the head and the bytes that follow it are a request
pub record IsRequest (h : Head) (payload : List ℕ) : Type 0 where
  pub head : IsHead h
  pub whole : length payload ≡ payload_len h

-- the numbers and lengths of a reply fit in its fields
pub record IsReply (r : Reply) : Type 0 where
  pub status : r.status < 2 ^ 32
  pub first : r.first < 2 ^ 64
  pub second : r.second < 2 ^ 64
  pub digest : length r.digest < 2 ^ 32
  pub body : length r.body < 2 ^ 64

-- if the same bytes begin with two requests, these are the same, and so are the bytes that follow
abbrev pub RequestsAreApart : Type 0
RequestsAreApart = (a b : Head) (p q x y : List ℕ) → IsRequest a p → IsRequest b q → request_bytes a p ++ x ≡ request_bytes b q ++ y → (a ≡ b) × (p ≡ q) × (x ≡ y)

-- if the same bytes begin with two replies, these are the same, and so are the bytes that follow
abbrev pub RepliesAreApart : Type 0
RepliesAreApart = (a b : Reply) (x y : List ℕ) → IsReply a → IsReply b → reply_bytes a ++ x ≡ reply_bytes b ++ y → (a ≡ b) × (x ≡ y)

-- a part of a request begins with no request
abbrev pub PartsAreNoFrames : Type 0
PartsAreNoFrames = (bytes : List ℕ) (h : Head) (p x : List ℕ) → IsPartial bytes → IsRequest h p → bytes ≡ request_bytes h p ++ x → ⊥
