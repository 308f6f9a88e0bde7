-- Chunks as records have them, and the notes of contents.
use Rattle.std.proofs.Common.{◌≡◌, ◌∙◌, ℕ, Bool, true, false, List, [], ◌∷◌, ◌++◌, Some, ap, arith, refl, sym, append_assoc, append-nil, length, length-append}
use Rattle.std.specs.Prelude.{map, nat_lt, cond, drop, take}
use Rattle.std.specs.FinMap as fmap
use Rattle.std.specs.List.{concat, flat_map}
use Rattle.std.specs.Option.{option_map}
use Rattle.std.specs.Cmp.{IsTotalOrder}
use Rattle.std.specs.Ordering.{is_eq}
use Rattle.std.specs.declared.cmp.Ordering.{Ordering}
use Rattle.std.proofs.lemmas.Bool.{lt-ltb}
use Rattle.std.proofs.lemmas.List.Folds.{concat-append}
use Rattle.content_files.specs.Chunks.{chunk_notes, cut_in, note_bytes, noted, read_notes}
use Rattle.log_state.specs.Sessions.{notes_after, with_logged}
use Rattle.log_state.specs.declared.chunk.Chunk.{Chunk}
use Rattle.log_state.specs.declared.chunk.Chunk.TheVariants.{Bytes, Notes}
use Rattle.noted_logs.proofs.ReadBack.{notes_are_read_back}
use Rattle.spec_lib.specs.Texts.{Text}
use Rattle.store_model.specs.Sessions.{with_chunk}

-- the record has the chunk, or the notes of its pieces
abbrev pub IsLoggedChunk : Chunk → Text → Type 0
IsLoggedChunk (Bytes b) c = b ≡ c
IsLoggedChunk (Notes n) c = n ≡ chunk_notes c

-- the records have the chunks, one by one
abbrev pub AreLoggedChunks : List Chunk → List Text → Type 0
AreLoggedChunks [] [] = Unit {0}
AreLoggedChunks [] (c ∷ cs) = ⊥
AreLoggedChunks (r ∷ rs) [] = ⊥
AreLoggedChunks (r ∷ rs) (c ∷ cs) = IsLoggedChunk r c × AreLoggedChunks rs cs

one_more : (rs : List Chunk) (cs : List Text) (r : Chunk) (c : Text) → AreLoggedChunks rs cs → IsLoggedChunk r c → AreLoggedChunks (rs ++ r ∷ []) (cs ++ c ∷ [])
one_more [] [] r c are is = (is, tt)
one_more [] (d ∷ cs) r c are is = absurd are
one_more (q ∷ rs) [] r c are is = absurd are
one_more (q ∷ rs) (d ∷ cs) r c are is = (are.0, one_more rs cs r c are.1 is)

-- a chunk with bytes has notes
some_notes : (b : ℕ) (bytes : List ℕ) → nat_lt 0 (length (chunk_notes (b ∷ bytes))) ≡ true
some_notes b bytes =
    let first = note_bytes (take 1048576 (b ∷ bytes)) in
    let rest = flat_map note_bytes (cut_in (length bytes) (drop 1048576 (b ∷ bytes))) in
    let size : length first ≡ 16 = refl in
    lt-ltb 0 (length (chunk_notes (b ∷ bytes))) (omega (arith, size, length-append first rest))

some_bytes : (b : ℕ) (bytes : List ℕ) → nat_lt 0 (length (b ∷ bytes)) ≡ true
some_bytes b bytes = lt-ltb 0 (length (b ∷ bytes)) (omega arith)

-- a chunk is added to the records as it is added to the session
pub chunk_added : (rs : List Chunk) (cs : List Text) (r : Chunk) (c : Text) → AreLoggedChunks rs cs → IsLoggedChunk r c → AreLoggedChunks (with_logged rs r) (with_chunk cs c)
chunk_added rs cs (Bytes b) [] are is = rw is are
chunk_added rs cs (Notes n) [] are is = rw is are
chunk_added rs cs (Bytes b) (x ∷ c) are is = rw is (rw (some_bytes x c) (one_more rs cs (Bytes (x ∷ c)) (x ∷ c) are refl))
chunk_added rs cs (Notes n) (x ∷ c) are is = rw is (rw (some_notes x c) (one_more rs cs (Notes (chunk_notes (x ∷ c))) (x ∷ c) are refl))

-- ---- contents

-- the content consists of chunks that have these notes
pub record HasNotes (notes : List ℕ) (content : Text) : Type 0 where
  pub chunks : List Text
  pub whole : concat chunks ≡ content
  pub notes_are : flat_map chunk_notes chunks ≡ notes

pub merged : (pending : Text) (rs : List Chunk) (cs : List Text) → AreLoggedChunks rs cs → HasNotes (notes_after pending rs) (pending ++ concat cs)
merged pending [] [] are = record { chunks = pending ∷ []; whole = refl; notes_are = append-nil (chunk_notes pending) }
merged pending [] (c ∷ cs) are = absurd are
merged pending (r ∷ rs) [] are = absurd are
merged pending (Bytes b ∷ rs) (c ∷ cs) are =
    let m = merged (pending ++ b) rs cs are.1 in
    record { chunks = m.chunks; whole = m.whole ∙ append_assoc pending b (concat cs) ∙ ap (λ x. pending ++ (x ++ concat cs)) are.0; notes_are = m.notes_are }
merged pending (Notes n ∷ rs) (c ∷ cs) are =
    let m = merged [] rs cs are.1 in
    record {
      chunks = pending ∷ c ∷ m.chunks;
      whole = ap (λ x. pending ++ (c ++ x)) m.whole;
      notes_are = (λ i. chunk_notes pending ++ (sym are.0 i ++ m.notes_are i)) ∙ sym (append_assoc (chunk_notes pending) n (notes_after [] rs));
    }

-- the last chunk after those of a session
pub sealed : (rs : List Chunk) (cs : List Text) (r : Chunk) (c : Text) → AreLoggedChunks rs cs → IsLoggedChunk r c → HasNotes (notes_after [] (rs ++ r ∷ [])) (concat cs ++ c)
sealed rs cs r c are is =
    let m = merged [] (rs ++ r ∷ []) (cs ++ c ∷ []) (one_more rs cs r c are is) in
    record { chunks = m.chunks; whole = m.whole ∙ concat-append cs (c ∷ []) ∙ ap (λ l. concat cs ++ l) (append-nil c); notes_are = m.notes_are }

-- chunks that records have alike are noted alike
noted_alike : (r : Chunk) (c d : Text) → IsLoggedChunk r c → IsLoggedChunk r d → noted c ≡ noted d
noted_alike (Bytes b) c d is too = ap noted (sym is ∙ too)
noted_alike (Notes n) c d is too = sym (notes_are_read_back c) ∙ ap read_notes (sym is ∙ too) ∙ notes_are_read_back d

pub all_noted_alike : (rs : List Chunk) (cs ds : List Text) → AreLoggedChunks rs cs → AreLoggedChunks rs ds → map noted cs ≡ map noted ds
all_noted_alike [] [] [] are too = refl
all_noted_alike [] [] (d ∷ ds) are too = absurd too
all_noted_alike [] (c ∷ cs) ds are too = absurd are
all_noted_alike (r ∷ rs) [] ds are too = absurd are
all_noted_alike (r ∷ rs) (c ∷ cs) [] are too = absurd too
all_noted_alike (r ∷ rs) (c ∷ cs) (d ∷ ds) are too = λ i. noted_alike r c d are.0 too.0 i ∷ all_noted_alike rs cs ds are.1 too.1 i

-- ---- maps

-- a map with f of each value
abbrev pub mapped : {K X Y : Type 0} {R : K → K → Ordering} → (X → Y) → fmap.FinMap R X → fmap.FinMap R Y
mapped f m = fmap.from_entries (map (λ e. (e.0, f e.1)) (fmap.entries m))

module _ {K X Y : Type 0} {R : K → K → Ordering} (total : IsTotalOrder R) (f : X → Y) where
  found : (q : K) (es : List (K × X)) → fmap.find R q (map (λ e. (e.0, f e.1)) es) ≡ option_map f (fmap.find R q es)
  found q [] = refl
  found q (e ∷ es) = by (is_eq (R q e.0)) (found q es)
    where
      by : (b : Bool) → fmap.find R q (map (λ x. (x.0, f x.1)) es) ≡ option_map f (fmap.find R q es) →
          cond b (Some (f e.1)) (fmap.find R q (map (λ x. (x.0, f x.1)) es)) ≡ option_map f (cond b (Some e.1) (fmap.find R q es))
      by true again = refl
      by false again = again

  pub get_mapped : (m : fmap.FinMap R X) (q : K) → fmap.get (mapped f m) q ≡ option_map f (fmap.get m q)
  get_mapped m q = fmap.get-from_entries total (map (λ e. (e.0, f e.1)) (fmap.entries m)) q ∙ found q (fmap.entries m) ∙ ap (option_map f) (sym (fmap.get-entries m q))
