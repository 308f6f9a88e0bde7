-- The bytes that a connection still has, if they are known.
use Rattle.std.specs.Prelude.{◌≡◌, ◌⊎◌, ℕ, List, ◌<◌, ◌≤◌, ◌^◌, ◌++◌, length, take, Bool, true, false, IfSome, Result, Err, Vec, vec_len}
use Rattle.std.specs.Global.{Global}
use Rattle.std.specs.Io.KnownBytes.{Consumes, IsAtEnd}
use Rattle.std.specs.declared.option.Option.{Option}
use Rattle.wire_format.specs.declared.fault.FrameFault.{FrameFault}
use Rattle.wire_format.specs.declared.fault.FrameFault.TheVariants.{Failed}
use Rattle.wire_format.specs.declared.request.Head.{Head}
use Rattle.wire_format.specs.declared.request.Incoming.{Incoming}
use Rattle.wire_format.specs.declared.request.Incoming.TheVariants as incoming
use Rattle.wire_format.specs.Frames.{greeting, head_bytes, max_body, payload_len, request_bytes}
use Rattle.watched_reader.specs.Watching.{HasNotFailed, has_failed, inner_of}
use Rattle.watched_reader.specs.declared.watched.Watched.{Watched}

-- the connection has some bytes, but fewer than `n`
abbrev pub IsCutOff : Option (List ℕ) → ℕ → Type 0
IsCutOff line n = IfSome line (λ bytes. (0 < length bytes) × (length bytes < n))

-- the connection has fewer than `n` bytes
abbrev pub IsShort : Option (List ℕ) → ℕ → Type 0
IsShort line n = IfSome line (λ bytes. length bytes < n)

-- the numbers of a head fit in its fields
pub record IsHead (h : Head) : Type 0 where
  pub command : h.command < 256
  pub flags : h.flags < 256
  pub repo_len : h.repo_len < 2 ^ 16
  pub digest_len : h.digest_len < 2 ^ 16
  pub source_len : h.source_len < 2 ^ 16
  pub number : h.number < 2 ^ 32
  pub body_len : h.body_len < 2 ^ 32
  pub start : h.start < 2 ^ 64
  pub end : h.end < 2 ^ 64

-- the bytes are a non-empty part of a request: part of a head, or a head and part of the bytes that follow it
abbrev pub IsPartial : List ℕ → Type 0
IsPartial bytes = ((0 < length bytes) × (length bytes < 32)) ⊎ ((h : Head) × (rest : List ℕ) × IsHead h × (bytes ≡ head_bytes h ++ rest) × (length rest < payload_len h))

-- the call returns `Failed` if and only if one of its reads failed
abbrev pub FailsByRead : {A R : Type 0} → Result A FrameFault → Watched R → Watched R → Type 0
FailsByRead (Err Failed) old new = has_failed new ≡ true
FailsByRead result old new = HasNotFailed old new

-- ---- the bytes that a call takes off a connection; `remaining` gives the bytes that a reader still has, if they are known

-- the connection has no more bytes
abbrev pub HasEnded : {R : Type 0} → (R → Option (List ℕ)) → Watched R → Type 0
HasEnded remaining input = IsAtEnd (remaining (inner_of input))

-- the connection ends after some bytes, but before `n`
abbrev pub EndsWithin : {R : Type 0} → (R → Option (List ℕ)) → Watched R → ℕ → Type 0
EndsWithin remaining input n = IsCutOff (remaining (inner_of input)) n

-- the call takes these bytes off the connection
abbrev pub Takes : {R : Type 0} → (R → Option (List ℕ)) → Watched R → Watched R → List ℕ → Type 0
Takes remaining old new bytes = Consumes (remaining (inner_of old)) (remaining (inner_of new)) bytes

-- if the flag is true, the call takes these bytes off the connection
abbrev pub TakesIf : {R : Type 0} → Bool → (R → Option (List ℕ)) → Watched R → Watched R → List ℕ → Type 0
TakesIf flag remaining old new bytes = flag ≡ true → Takes remaining old new bytes

-- if the flag is false, the connection has no byte for a buffer that has room
abbrev pub EndsUnless : {R : Type 0} → Bool → (R → Option (List ℕ)) → Watched R → List ℕ → Type 0
EndsUnless flag remaining input buffer = flag ≡ false → HasEnded remaining input × (0 < length buffer)

-- the call takes `count` bytes off the connection
abbrev pub Skips : {R : Type 0} → (R → Option (List ℕ)) → Watched R → Watched R → ℕ → Type 0
Skips remaining old new count = (bytes : List ℕ) × (length bytes ≡ count) × Takes remaining old new bytes

-- the call takes eight bytes off the connection that are not the greeting
abbrev pub TakesNoGreeting : {R : Type 0} → (R → Option (List ℕ)) → Watched R → Watched R → Type 0
TakesNoGreeting remaining old new = (bytes : List ℕ) × (length bytes ≡ 8) × (bytes ≡ greeting → ⊥) × Takes remaining old new bytes

-- the call takes this head off the connection, whose body is within the limit
abbrev pub TakesHead : {R : Type 0} → (R → Option (List ℕ)) → Watched R → Watched R → Head → Type 0
TakesHead remaining old new h = Takes remaining old new (head_bytes h) × (h.body_len ≤ max_body)

-- the call takes a head off the connection whose body is over the limit
abbrev pub TakesLongHead : {R : Type 0} → (R → Option (List ℕ)) → Watched R → Watched R → Type 0
TakesLongHead remaining old new = (h : Head) × Takes remaining old new (head_bytes h) × (max_body < h.body_len)

-- the call takes a request off the connection whose payload is at the front of the buffer
abbrev pub TakesRequest : {R : Type 0} → (R → Option (List ℕ)) → Watched R → Watched R → Vec ℕ Global → Head → Type 0
TakesRequest remaining old new buffer h = (payload_len h ≤ vec_len buffer) × (h.body_len ≤ max_body) × Takes remaining old new (request_bytes h (take (payload_len h) buffer.items))

-- a request that the call returns was taken off the connection into the buffer
abbrev pub IsReadInto : {R : Type 0} → (R → Option (List ℕ)) → Watched R → Watched R → Vec ℕ Global → Incoming → Type 0
IsReadInto remaining old new buffer i = (h : Head) → i ≡ incoming.Request h → TakesRequest remaining old new buffer h

-- the call takes a request with a payload off the connection whole
abbrev pub DropsRequest : {R : Type 0} → (R → Option (List ℕ)) → Watched R → Watched R → Type 0
DropsRequest remaining old new = (h : Head) × (payload : List ℕ) × (length payload ≡ payload_len h) × (0 < payload_len h) × Takes remaining old new (request_bytes h payload)

-- a request that the call reports as `OutOfMemory` was taken off the connection whole
abbrev pub IsDroppedFrom : {R : Type 0} → (R → Option (List ℕ)) → Watched R → Watched R → Incoming → Type 0
IsDroppedFrom remaining old new i = i ≡ incoming.OutOfMemory → DropsRequest remaining old new
