-- What a log goes on with, by what was read of it.
use Rattle.std.proofs.Common.{◌≡◌, ◌<◌, ◌≤◌, ◌+◌, ℕ, List, ◌++◌, ◌∙◌, ap, refl, sym, subst, arith, length, length-take-le, take, drop, drop_at, take-append-drop, append_assoc, Option, Some, None, IfSome}
use Rattle.std.proofs.lemmas.List.{length-append, length-drop, take-take}
use Rattle.std.specs.Int.{w64, to_le_bytes}
use Rattle.std.specs.Io.KnownBytes.{Consumes, IsAtEnd}
use Rattle.std.proofs.KnownBytes.{Consumes-trans}
use lib.Seq.{take-add}
use Rattle.log_frames.specs.declared.cursor.Cursor.{Cursor}
use Rattle.log_frames.specs.declared.head.FrameHead.{FrameHead}
use Rattle.log_frames.specs.declared.next.NextFrame.{NextFrame}
use Rattle.log_frames.specs.declared.next.NextFrame.TheVariants as next
use Rattle.log_frames.specs.Frames.{Frame, IsHead, frame_bytes, frame_sum, head_at, head_bytes}
use Rattle.log_frames.specs.Heads.{HasNoHead, IsHeadOf}
use Rattle.log_frames.specs.Reads.{Completes, GoesOn, HasMore, HasNoFrame, HasNoRest, HasRead, HasReadFrame, HasRest, HasRoomFor, frame_in, payload_in, rest_bytes, rest_sum}
use Rattle.log_frames.specs.Sums.{sum_words, tagged}
use Rattle.log_frames.proofs.Apart.{apart, frame_len, frame_split, head_len, heads_apart, not_tagged, tagged_len}
use Rattle.log_frames.proofs.Puts.{tagged_after}

-- ---- what follows a head

-- fewer bytes than a payload and its sum
pub cut_rest : (h : FrameHead) (sum : ℕ) (head : List ℕ) (a b : Option (List ℕ)) (bytes : List ℕ) → Consumes a b bytes → IsAtEnd b → length bytes < h.length + 8 → IfSome a (HasNoRest h sum head)
cut_rest h sum head None b bytes gave end short = tt
cut_rest h sum head (Some xs) None bytes gave end short = absurd gave
cut_rest h sum head (Some xs) (Some ys) bytes gave end short = λ payload rest len e.
    omega (arith, short, ap length gave, ap length end, length-append bytes ys, len, ap length e, length-append (rest_bytes sum head payload) rest, tagged_len (rest_sum sum head payload) payload)

-- a buffer's payload and what follows it
pub parts : (len count : ℕ) (buffer : List ℕ) → count ≡ len + 40 → count ≤ length buffer → drop 32 (take count buffer) ≡ take len (drop 32 buffer) ++ drop (32 + len) (take count buffer)
parts len count buffer is held =
    let n = 32 + len in
    let behind : List ℕ = drop n (take count buffer) in
    let payload : List ℕ = take len (drop 32 buffer) in
    let front : take n (take count buffer) ≡ take 32 buffer ++ payload = take-take n count buffer (omega (arith, is)) ∙ take-add 32 len buffer in
    let whole : take count buffer ≡ take 32 buffer ++ (payload ++ behind) = sym (take-append-drop n (take count buffer)) ∙ ap (λ t. t ++ behind) front ∙ append_assoc (take 32 buffer) payload behind in
    ap (drop 32) whole ∙ drop_at (take 32 buffer) (payload ++ behind) 32 (length-take-le 32 buffer (omega (arith, is, held)))

-- the bytes that were summed
pub summed : (len count : ℕ) (buffer head : List ℕ) → count ≡ len + 40 → take 32 buffer ≡ head → take (32 + len) (take count buffer) ≡ head ++ take len (drop 32 buffer)
summed len count buffer head is same = take-take (32 + len) count buffer (omega (arith, is)) ∙ take-add 32 len buffer ∙ ap (λ t. t ++ take len (drop 32 buffer)) same

pub behind_len : (len count : ℕ) (buffer : List ℕ) → count ≡ len + 40 → count ≤ length buffer → length (drop (32 + len) (take count buffer)) ≡ 8
behind_len len count buffer is held = omega (arith, is, length-drop (32 + len) (take count buffer), length-take-le count buffer held)

pub payload_len : (len : ℕ) (buffer : List ℕ) → len + 40 ≤ length buffer → length (take len (drop 32 buffer)) ≡ len
payload_len len buffer held = length-take-le len (drop 32 buffer) (omega (arith, held, length-drop 32 buffer))

-- another sum
pub other_rest : (h : FrameHead) (sum : ℕ) (head : List ℕ) (a b : Option (List ℕ)) (payload back : List ℕ) → Consumes a b (payload ++ back) → length payload ≡ h.length → length back ≡ 8 → (back ≡ to_le_bytes w64 (rest_sum sum head payload) → ⊥) → IfSome a (HasNoRest h sum head)
other_rest h sum head None b payload back gave len eight other = tt
other_rest h sum head (Some xs) None payload back gave len eight other = absurd gave
other_rest h sum head (Some xs) (Some ys) payload back gave len eight other = λ ps rest is e. not_tagged (rest_sum sum head) payload back ys ps rest (len ∙ sym is) eight other (sym gave ∙ e)

-- the right sum
pub whole_rest : (sum : ℕ) (head : List ℕ) (a b : Option (List ℕ)) (payload back : List ℕ) → Consumes a b (payload ++ back) → back ≡ to_le_bytes w64 (rest_sum sum head payload) → Consumes a b (rest_bytes sum head payload)
unfolding tagged
whole_rest sum head a b payload back gave is = subst (λ (t : List ℕ). Consumes a b (payload ++ t)) is gave

-- ---- a head, and what follows it

-- bytes that are no head
pub other_head : (id : ℕ) (c : Cursor) (a b : Option (List ℕ)) (bytes : List ℕ) → Consumes a b bytes → length bytes ≡ 32 → HasNoHead id bytes → HasNoFrame id c a
other_head id c None b bytes gave len none = tt
other_head id c (Some xs) None bytes gave len none = absurd gave
other_head id c (Some xs) (Some ys) bytes gave len none = λ f rest is e.
    none (head_at c f) is (apart bytes (head_bytes id (head_at c f)) ys _ (len ∙ sym (head_len id (head_at c f))) (sym gave ∙ e ∙ frame_split id c f rest)).0

-- a head of another place
pub other_place : (id : ℕ) (c : Cursor) (h : FrameHead) (a b : Option (List ℕ)) (bytes : List ℕ) → Consumes a b bytes → IsHeadOf id bytes h → (h.place ≡ c.place → ⊥) → HasNoFrame id c a
other_place id c h None b bytes gave head other = tt
other_place id c h (Some xs) None bytes gave head other = absurd gave
other_place id c h (Some xs) (Some ys) bytes gave head other = λ f rest is e.
    other (ap (λ (k : FrameHead). k.place) (heads_apart id h (head_at c f) ys _ head.head is (ap (λ t. t ++ ys) (sym head.whole) ∙ sym gave ∙ e ∙ frame_split id c f rest)).0)

-- fewer bytes than a head
pub cut_head : (id : ℕ) (c : Cursor) (a b : Option (List ℕ)) (bytes : List ℕ) → Consumes a b bytes → IsAtEnd b → length bytes < 32 → HasNoFrame id c a
cut_head id c None b bytes gave end short = tt
cut_head id c (Some xs) None bytes gave end short = absurd gave
cut_head id c (Some xs) (Some ys) bytes gave end short = λ f rest is e.
    omega (arith, short, ap length gave, ap length end, length-append bytes ys, ap length e, length-append (frame_bytes id c f) rest, frame_len id c f)

-- a frame's bytes behind its head
rest_is : (id : ℕ) (c : Cursor) (f : Frame) (h : FrameHead) → h ≡ head_at c f → tagged (frame_sum id c f) f.payload ≡ rest_bytes c.sum (head_bytes id h) f.payload
rest_is id c f h same = ap (λ (k : FrameHead). tagged (sum_words c.sum (head_bytes id k ++ f.payload)) f.payload) (sym same)

no_frame : (id : ℕ) (c : Cursor) (h : FrameHead) (a b : Option (List ℕ)) (bytes : List ℕ) → Consumes a b bytes → IsHeadOf id bytes h → IfSome b (HasNoRest h c.sum bytes) → HasNoFrame id c a
no_frame id c h None b bytes gave head none = tt
no_frame id c h (Some xs) None bytes gave head none = absurd gave
no_frame id c h (Some xs) (Some ys) bytes gave head none = λ f rest is e.
    let both = heads_apart id h (head_at c f) ys _ head.head is (ap (λ t. t ++ ys) (sym head.whole) ∙ sym gave ∙ e ∙ frame_split id c f rest) in
    let len : length f.payload ≡ h.length = ap (λ (k : FrameHead). k.length) (sym both.0) in
    none f.payload rest len (both.1 ∙ ap (λ t. t ++ rest) (rest_is id c f h both.0 ∙ ap (λ t. rest_bytes c.sum t f.payload) (sym head.whole)))

read_more : (a b d : Option (List ℕ)) (bytes buffer : List ℕ) (count : ℕ) → Consumes a b bytes → HasMore bytes b d buffer count → HasRead a d buffer count
read_more a b d bytes buffer count gave more =
    let first : take 32 (take count buffer) ≡ bytes = take-take 32 count buffer more.least ∙ more.same in
    let all : bytes ++ drop 32 (take count buffer) ≡ take count buffer = ap (λ t. t ++ drop 32 (take count buffer)) (sym first) ∙ take-append-drop 32 (take count buffer) in
    record { some = omega (arith, more.least); held = more.held; read = subst (λ (t : List ℕ). Consumes a d t) all (Consumes-trans a b d bytes (drop 32 (take count buffer)) gave more.read) }

same_head : (c : Cursor) (h : FrameHead) (buffer : List ℕ) → h.place ≡ c.place → h.length + 40 ≤ length buffer → h ≡ head_at c (frame_in h buffer)
same_head c h buffer place held =
    let len : length (payload_in h buffer) ≡ h.length = payload_len h.length buffer held in
    rw (← place, len) refl

read_frame : (id : ℕ) (c : Cursor) (h : FrameHead) (a b d : Option (List ℕ)) (bytes buffer : List ℕ) (next : Cursor) → Consumes a b bytes → IsHeadOf id bytes h → h.place ≡ c.place → HasRest h c.sum bytes b d buffer next → HasReadFrame id c a d buffer h next
read_frame id c h a b d bytes buffer next gave head place rest =
    let f : Frame = frame_in h buffer in
    let same : h ≡ head_at c f = same_head c h buffer place rest.held in
    let front : bytes ≡ head_bytes id (head_at c f) = head.whole ∙ ap (head_bytes id) same in
    let behind : rest_bytes c.sum bytes f.payload ≡ tagged (frame_sum id c f) f.payload = ap (λ t. rest_bytes c.sum t f.payload) front in
    let all : bytes ++ rest_bytes c.sum bytes f.payload ≡ frame_bytes id c f = ap (λ t. t ++ rest_bytes c.sum bytes f.payload) front ∙ ap (λ t. head_bytes id (head_at c f) ++ t) behind ∙ tagged_after (frame_sum id c f) (head_bytes id (head_at c f)) f.payload in
    let sum : rest_sum c.sum bytes f.payload ≡ frame_sum id c f = ap (λ t. rest_sum c.sum t f.payload) front in
    let len : length f.payload ≡ h.length = payload_len h.length buffer rest.held in
    record {
      held = rest.held;
      head = same;
      fits = subst IsHead same head.head;
      read = subst (λ (t : List ℕ). Consumes a d t) all (Consumes-trans a b d bytes _ gave rest.read);
      after = rest.after ∙ rw (place, sum, len) refl;
    }

pub goes_on : (id : ℕ) (c : Cursor) (h : FrameHead) (a b d : Option (List ℕ)) (bytes buffer : List ℕ) (n : NextFrame) → Consumes a b bytes → IsHeadOf id bytes h → h.place ≡ c.place → Completes h c.sum bytes b d buffer n → GoesOn id c a d buffer n
goes_on id c h a b d bytes buffer (next.Frame k after) gave head place rest = subst (λ (k : FrameHead). HasReadFrame id c a d buffer k after) (sym rest.0) (read_frame id c h a b d bytes buffer after gave head place rest.1)
goes_on id c h a b d bytes buffer next.End gave head place rest = absurd rest
goes_on id c h a b d bytes buffer (next.NoFrame count) gave head place rest = (read_more a b d bytes buffer count gave rest.0, no_frame id c h a b bytes gave head rest.1)

-- ---- memory

pub room_then : (n : ℕ) (a b : Option (List ℕ)) (bytes : List ℕ) (old mid new : ℕ) → Consumes a b bytes → length bytes ≡ n → HasRoomFor 0 a old mid → HasRoomFor n b mid new → HasRoomFor 0 a old new
room_then n None b bytes old mid new gave len first second = tt
room_then n (Some xs) None bytes old mid new gave len first second = absurd gave
room_then n (Some xs) (Some ys) bytes old mid new gave len first second = omega (arith, len, ap length gave, length-append bytes ys, first, second)

pub room_later : (a b : Option (List ℕ)) (bytes : List ℕ) (old mid new : ℕ) → Consumes a b bytes → HasRoomFor 0 a old mid → HasRoomFor 0 b mid new → HasRoomFor 0 a old new
room_later None b bytes old mid new gave first second = tt
room_later (Some xs) None bytes old mid new gave first second = absurd gave
room_later (Some xs) (Some ys) bytes old mid new gave first second = omega (arith, ap length gave, length-append bytes ys, first, second)
