-- The frames of a connection, byte by byte.
use Rattle.std.specs.Prelude.{ℕ, List, [], codes, ◌∷◌, ◌++◌, ◌+◌, take, drop}
use Rattle.std.specs.Int.{w16, w32, w64, to_le_bytes}
use Rattle.wire_format.specs.declared.request.Head.{Head}

-- the greeting: `blobd`, a zero, and the version in two bytes
abbrev pub greeting : List ℕ
greeting = codes "blobd" ++ (0 ∷ 1 ∷ 0 ∷ [])

-- the maximum length of the body of a request
abbrev pub max_body : ℕ
max_body = 4194305

-- the 32 bytes of a request's head
unfoldable pub head_bytes : Head → List ℕ
head_bytes h = h.command ∷ h.flags ∷ to_le_bytes w16 h.repo_len ++ to_le_bytes w16 h.digest_len ++ to_le_bytes w16 h.source_len ++ to_le_bytes w32 h.number ++ to_le_bytes w32 h.body_len ++ to_le_bytes w64 h.start ++ to_le_bytes w64 h.end

-- the number of bytes that follow a head: three texts and a body
abbrev pub payload_len : Head → ℕ
payload_len h = h.repo_len + h.digest_len + h.source_len + h.body_len

-- the repository's name in the bytes that follow a head
abbrev pub repo_of : Head → List ℕ → List ℕ
repo_of h payload = take h.repo_len payload

-- the text of the digest in the bytes that follow a head
abbrev pub digest_of : Head → List ℕ → List ℕ
digest_of h payload = take h.digest_len (drop h.repo_len payload)

-- the name of the repository to mount from in the bytes that follow a head
abbrev pub source_of : Head → List ℕ → List ℕ
source_of h payload = take h.source_len (drop (h.repo_len + h.digest_len) payload)

-- the body in the bytes that follow a head
abbrev pub body_of : Head → List ℕ → List ℕ
body_of h payload = take h.body_len (drop (h.repo_len + h.digest_len + h.source_len) payload)

-- the frame of a request: its head, and the bytes that follow it
abbrev pub request_bytes : Head → List ℕ → List ℕ
request_bytes h payload = head_bytes h ++ payload
