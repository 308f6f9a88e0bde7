-- The chunks of a hand: their lengths, and its bytes cut at the last one.
use Rattle.std.proofs.Common.{◌≡◌, ◌≢◌, ℕ, ◌+◌, ◌≤◌, ◌<◌, Bool, true, false, List, [], ◌∷◌, ◌++◌, length, take, drop, Option, Some, None, refl, sym, ap, ◌∙◌, arith, length-drop}
use Rattle.std.specs.Prelude.{sum, IfSome, if◌then◌else◌, is_some, nat_lt}
use Rattle.std.specs.Option.{option_map, option_map_or}
use Rattle.std.specs.List.{AllByRecursion, concat, sum_by}
use Rattle.std.proofs.lemmas.Bool.Decides.{nat_tests}
use Rattle.std.proofs.lemmas.List.{length-take-le, take-append-drop, append-nil}
use Rattle.std.proofs.lemmas.List.Sums.{sum_by-cons, sum_by_push}
use Rattle.std.proofs.Math.Seq.{drop-append_seam}
use Rattle.spec_lib.specs.Texts.{Text}
use Rattle.store_model.specs.Sessions.{HandRecord, chunks_of, hand_content, with_chunk}
use Rattle.upload_table.specs.Uploaded.{cut_chunks}
use Rattle.upload_table.specs.Rows.{hand_shown, with_length, IsFilled, IsHand}
use Rattle.upload_table.specs.declared.hashed.ContentHash.{ContentHash}
use Rattle.upload_table.specs.declared.upload.ChunkBuffer.{ChunkBuffer}
use Rattle.upload_table.proofs.Cuts.{concat-cut_chunks, cut_chunks-more, cut_chunks-push, cut_chunks-take, sum_by-cut_chunks}

-- a test of a false fact is false
pub is_false : (b : Bool) → (b ≡ true → ⊥) → b ≡ false
is_false true h = absurd (h refl)
is_false false h = refl

some_bytes : (n : ℕ) (b : List ℕ) → 0 < n → n ≤ length b → take n b ≢ []
some_bytes n b some within e = omega (arith, length-take-le n b within, ap length e)

-- chunks of positive lengths are not empty
pub cut_chunks-nonempty : (lens bytes : List ℕ) → sum lens ≤ length bytes → AllByRecursion (λ n. 0 < n) lens → AllByRecursion (λ c. c ≢ []) (cut_chunks lens bytes)
cut_chunks-nonempty [] bytes within all = tt
cut_chunks-nonempty (n ∷ lens) bytes within all =
    let total : sum (n ∷ lens) ≡ n + sum lens = sum_by-cons (λ x. x) n lens in
    let rest : sum lens ≤ length (drop n bytes) = omega (arith, length-drop n bytes) in
    let first : n ≤ length bytes = omega arith in
    (some_bytes n bytes all.0 first, cut_chunks-nonempty lens (drop n bytes) rest all.1)

-- the chunks joined are the front of the bytes
pub concat-cut_chunks-front : (lens bytes : List ℕ) → sum lens ≤ length bytes → concat (cut_chunks lens bytes) ≡ take (sum lens) bytes
concat-cut_chunks-front lens bytes within =
    let whole : sum lens ≡ length (take (sum lens) bytes) = sym (length-take-le (sum lens) bytes within) in
    ap concat (sym (cut_chunks-take lens bytes within)) ∙ concat-cut_chunks lens (take (sum lens) bytes) whole

-- the bytes are the chunks, followed by the last chunk
pub cut_chunks-last : (lens bytes : List ℕ) (n : ℕ) → length bytes ≡ sum lens + n → cut_chunks (with_length lens n) bytes ≡ with_chunk (cut_chunks lens bytes) (drop (sum lens) bytes)
cut_chunks-last lens bytes n len = at (drop (sum lens) bytes) refl
  where
    at : (last : List ℕ) → drop (sum lens) bytes ≡ last → cut_chunks (with_length lens n) bytes ≡ with_chunk (cut_chunks lens bytes) last
    at [] is =
        let none : n ≡ 0 = omega (arith, len, length-drop (sum lens) bytes, ap length is) in
        rw none refl
    at (b ∷ bs) is =
        let more : length (b ∷ bs) ≡ n = omega (arith, len, length-drop (sum lens) bytes, ap length is) in
        let some : nat_lt 0 n ≡ true = grind (arith, nat_tests, more) in
        let within : sum lens ≤ length bytes = omega arith in
        let front : sum lens ≡ length (take (sum lens) bytes) = sym (length-take-le (sum lens) bytes within) in
        let parts : bytes ≡ take (sum lens) bytes ++ (b ∷ bs) = sym (take-append-drop (sum lens) bytes) ∙ ap (λ d. take (sum lens) bytes ++ d) is in
        rw some (ap (λ k. cut_chunks (lens ++ k ∷ []) bytes) (sym more)
        ∙ ap (cut_chunks (lens ++ length (b ∷ bs) ∷ [])) parts
        ∙ cut_chunks-push lens (take (sum lens) bytes) (b ∷ bs) front
        ∙ ap (λ cs. cs ++ (b ∷ bs) ∷ []) (cut_chunks-take lens bytes within))

module _ (received reserved : ℕ) (p : ChunkBuffer) (room : ℕ) (whole : Option ContentHash) (hand : IsHand received reserved p room whole) where
  -- the chunks are among the bytes
  pub chunks_within : sum p.lens.items ≤ length p.bytes
  chunks_within = at whole hand.filled
    where
      at : (w : Option ContentHash) → IsFilled received reserved p room w → sum p.lens.items ≤ length p.bytes
      at None filled = omega (arith, filled, hand.lengths)
      at (Some w) filled = omega (arith, filled.0, hand.lengths)

  pub hand_received : received ≡ sum_by length (cut_chunks p.lens.items p.bytes)
  hand_received = sym hand.lengths ∙ sym (sum_by-cut_chunks p.lens.items p.bytes chunks_within)

  -- the bytes of a hand that is not filled are those of its chunks
  pub unfilled_long : (repo : Text) (t n : ℕ) → (hand_shown repo t n received reserved p whole).last ≡ None → length p.bytes ≡ sum_by length (cut_chunks p.lens.items p.bytes)
  unfilled_long repo t n empty = at whole empty hand.filled
    where
      at : (v : Option ContentHash) → (hand_shown repo t n received reserved p v).last ≡ None → IsFilled received reserved p room v → length p.bytes ≡ sum_by length (cut_chunks p.lens.items p.bytes)
      at None none filled = filled ∙ hand_received
      at (Some v) none filled = absurd cc

  pub hand_nonempty : AllByRecursion (λ c. c ≢ []) (cut_chunks p.lens.items p.bytes)
  hand_nonempty = cut_chunks-nonempty p.lens.items p.bytes chunks_within hand.positive

  -- its bytes are those of all its chunks
  pub hand_whole : (repo : Text) (t n : ℕ) → hand_content (hand_shown repo t n received reserved p whole) ≡ p.bytes
  hand_whole repo t n = at whole hand.filled
    where
      at : (w : Option ContentHash) → IsFilled received reserved p room w → concat (cut_chunks p.lens.items p.bytes) ++ option_map_or (λ b. b) (option_map (λ (r : ContentHash). drop received p.bytes) w) [] ≡ p.bytes
      at None filled = append-nil (concat (cut_chunks p.lens.items p.bytes)) ∙ concat-cut_chunks p.lens.items p.bytes (hand.lengths ∙ sym filled)
      at (Some w) filled = ap (λ front. front ++ drop received p.bytes) (concat-cut_chunks-front p.lens.items p.bytes chunks_within)
          ∙ ap (λ k. take k p.bytes ++ drop received p.bytes) hand.lengths ∙ take-append-drop received p.bytes

  -- with the length of the last chunk, if there is one, the bytes are cut into all chunks
  pub hand_chunks : (repo : Text) (t n : ℕ) → cut_chunks (if is_some whole then with_length p.lens.items reserved else p.lens.items) p.bytes ≡ chunks_of (hand_shown repo t n received reserved p whole)
  hand_chunks repo t n = at whole hand.filled
    where
      at : (v : Option ContentHash) → IsFilled received reserved p room v → cut_chunks (if is_some v then with_length p.lens.items reserved else p.lens.items) p.bytes ≡ chunks_of (hand_shown repo t n received reserved p v)
      at None filled = refl
      at (Some v) filled =
          let len : length p.bytes ≡ sum p.lens.items + reserved = omega (arith, filled.0, hand.lengths) in
          cut_chunks-last p.lens.items p.bytes reserved len ∙ ap (λ k. with_chunk (cut_chunks p.lens.items p.bytes) (drop k p.bytes)) hand.lengths

  -- a chunk is filled in
  pub hand_fill : (repo : Text) (t n : ℕ) (new : ChunkBuffer) (w : ContentHash) (chunk : List ℕ) → (hand_shown repo t n received reserved p whole).last ≡ None → new.lens.items ≡ p.lens.items → new.bytes ≡ p.bytes ++ chunk →
      hand_shown repo t n received reserved new (Some w) ≡ record (hand_shown repo t n received reserved p whole) { last = Some chunk }
  hand_fill repo t n new w chunk empty lens bytes = at whole empty hand.filled
    where
      at : (v : Option ContentHash) → (hand_shown repo t n received reserved p v).last ≡ None → IsFilled received reserved p room v → hand_shown repo t n received reserved new (Some w) ≡ record (hand_shown repo t n received reserved p v) { last = Some chunk }
      at None none filled =
          let chunks : cut_chunks new.lens.items new.bytes ≡ cut_chunks p.lens.items p.bytes = rw (lens, bytes) (cut_chunks-more p.lens.items p.bytes chunk chunks_within) in
          let last : drop received new.bytes ≡ chunk = rw bytes (ap (λ k. drop k (p.bytes ++ chunk)) (sym filled) ∙ drop-append_seam p.bytes chunk) in
          λ i. record { repo = repo; key = (t, n); chunks = chunks i; reserved = reserved; last = Some (last i) }
      at (Some v) none filled = absurd cc

-- all chunks of a hand together are no longer than the received and reserved bytes
pub chunks_of-length : (h : HandRecord) → IfSome h.last (λ b. length b ≡ h.reserved) → sum_by length (chunks_of h) ≤ sum_by length h.chunks + h.reserved
chunks_of-length h = at h.last
  where
    at : (last : Option (List ℕ)) → IfSome last (λ b. length b ≡ h.reserved) → sum_by length (option_map_or (with_chunk h.chunks) last h.chunks) ≤ sum_by length h.chunks + h.reserved
    at None fits = omega arith
    at (Some []) fits = omega arith
    at (Some (b ∷ bs)) fits = omega (arith, sum_by_push (λ (c : List ℕ). length c) h.chunks (b ∷ bs), fits)

-- with the filled chunk, the chunks fit into the received and reserved bytes
pub hand_fits : (repo : Text) (t n received reserved : ℕ) (p : ChunkBuffer) (room : ℕ) (whole : Option ContentHash) → IsHand received reserved p room whole →
    sum_by length (chunks_of (hand_shown repo t n received reserved p whole)) ≤ sum_by length (hand_shown repo t n received reserved p whole).chunks + reserved
hand_fits repo t n received reserved p room whole hand = chunks_of-length (hand_shown repo t n received reserved p whole) (last whole hand.filled)
  where
    last : (w : Option ContentHash) → IsFilled received reserved p room w → IfSome (hand_shown repo t n received reserved p w).last (λ b. length b ≡ reserved)
    last None filled = tt
    last (Some w) filled = omega (arith, filled.0, length-drop received p.bytes)
