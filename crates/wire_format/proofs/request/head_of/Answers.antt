use Rattle.std.proofs.Common.{◌≡◌, ◌++◌, ◌∷◌, ℕ, List, slice_index_or, take, drop, ap, refl, ◌∙◌, arith}
use Rattle.std.proofs.lemmas.List.{length-drop}
use Rattle.std.specs.Int.{w16, w32, w64, to_le_bytes}
use Rattle.wire_format.specs.Frames.{head_bytes}
use Rattle.wire_format.proofs.Heads.{two_first, seven_fields}
use Rattle.wire_format.proofs.request.head_of.Goals as goal

pub returns : goal.returns
unfolding head_bytes
returns c =
    let bytes = c.args.bytes.now in
    let first : drop 2 bytes ≡ to_le_bytes w16 c.u16_at-repo_len.result.0 ++ c.u16_at-repo_len.result.1.now = rw (← c.split_at.ensures.back) c.u16_at-repo_len.ensures in
    let rest = seven_fields (drop 2 bytes) (to_le_bytes w16 c.u16_at-repo_len.result.0) (to_le_bytes w16 c.u16_at-digest_len.result.0) (to_le_bytes w16 c.u16_at-source_len.result.0) (to_le_bytes w32 c.u32_at-number.result.0) (to_le_bytes w32 c.u32_at-body_len.result.0) (to_le_bytes w64 c.u64_at-start.result.0) (to_le_bytes w64 c.u64_at-end.result.0) _ _ _ _ _ _ _ (omega (arith, c.fits-bytes, length-drop 2 bytes)) refl refl refl refl refl refl refl first c.u16_at-digest_len.ensures c.u16_at-source_len.ensures c.u32_at-number.ensures c.u32_at-body_len.ensures c.u64_at-start.ensures c.u64_at-end.ensures in
    rw (c.split_at.ensures.front) (two_first bytes (omega (arith, c.fits-bytes)) ∙ ap (λ (t : List ℕ). slice_index_or (take 2 bytes) 0 0 ∷ slice_index_or (take 2 bytes) 1 0 ∷ t) rest)
