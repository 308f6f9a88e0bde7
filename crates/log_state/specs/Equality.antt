-- Whether two chunks or two sessions are the same.
use Rattle.std.specs.Prelude.{◌≡◌, ◌&&◌, Bool, true, false, bytes_eq, refl}
use mathlib.Core.Path.{sym}
use mathlib.Core.Bool.{true≢false}
use Rattle.std.specs.Cmp.{IsPartialEquivalence, and_per, on_per, partial_equiv_from_equiv}
use Rattle.std.specs.Cmp.Lexicographic.{lists_per, nat_list_eq_equiv, pointwise}
use Rattle.log_state.specs.Sessions.{OpenSession}
use Rattle.log_state.specs.declared.chunk.Chunk.{Chunk}
use Rattle.log_state.specs.declared.chunk.Chunk.TheVariants.{Bytes, Notes}

-- whether two chunks are of the same kind and have the same bytes
abbrev pub same_chunk : Chunk → Chunk → Bool
same_chunk (Bytes a) (Bytes b) = bytes_eq a b
same_chunk (Bytes a) (Notes b) = false
same_chunk (Notes a) (Bytes b) = false
same_chunk (Notes a) (Notes b) = bytes_eq a b

-- whether two sessions are of the same repository and have the same chunks
abbrev pub same_session : OpenSession → OpenSession → Bool
same_session s t = bytes_eq s.repo t.repo && pointwise same_chunk s.chunks t.chunks

same_chunk_symm : (x y : Chunk) → same_chunk x y ≡ same_chunk y x
same_chunk_symm (Bytes a) (Bytes b) = nat_list_eq_equiv.symm a b
same_chunk_symm (Bytes a) (Notes b) = refl
same_chunk_symm (Notes a) (Bytes b) = refl
same_chunk_symm (Notes a) (Notes b) = nat_list_eq_equiv.symm a b

same_chunk_trans : (x y z : Chunk) → same_chunk x y ≡ true → same_chunk y z ≡ true → same_chunk x z ≡ true
same_chunk_trans (Bytes a) (Bytes b) (Bytes c) p q = (partial_equiv_from_equiv nat_list_eq_equiv).trans a b c p q
same_chunk_trans (Bytes a) (Bytes b) (Notes c) p q = q
same_chunk_trans (Bytes a) (Notes b) (Bytes c) p q = absurd (true≢false (sym p))
same_chunk_trans (Bytes a) (Notes b) (Notes c) p q = p
same_chunk_trans (Notes a) (Bytes b) (Bytes c) p q = p
same_chunk_trans (Notes a) (Bytes b) (Notes c) p q = absurd (true≢false (sym p))
same_chunk_trans (Notes a) (Notes b) (Bytes c) p q = q
same_chunk_trans (Notes a) (Notes b) (Notes c) p q = (partial_equiv_from_equiv nat_list_eq_equiv).trans a b c p q

-- chunks are compared by an equivalence
pub same_chunk_laws : IsPartialEquivalence same_chunk
same_chunk_laws = record { symm = same_chunk_symm; trans = same_chunk_trans }

-- and so are sessions
pub same_session_laws : IsPartialEquivalence same_session
same_session_laws =
    and_per (on_per (λ (s : OpenSession). s.repo) (partial_equiv_from_equiv nat_list_eq_equiv))
    (on_per (λ (s : OpenSession). s.chunks) (lists_per same_chunk_laws))
