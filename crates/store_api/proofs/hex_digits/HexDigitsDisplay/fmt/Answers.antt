use Rattle.std.proofs.Common.{ℕ, List, [], ◌++◌, sym, ap, ◌∙◌, rules, append_assoc}
use Rattle.std.proofs.lemmas.List.{append-nil, nil_from_length}
use Rattle.std.proofs.Output.{has_written_append, has_written_of_eq}
use Rattle.std.specs.Slice.Iter.{chunks_rest}
use Rattle.hex.specs.Hex.{encode_lower}
use Rattle.store_api.proofs.Digits.{digits_none}
use Rattle.blob_digest.proofs.HexText.{encoded-append}
use Rattle.store_api.proofs.hex_digits.HexDigitsDisplay.fmt.Goals as goal

pub loop-block-init : goal.loop-block-init
loop-block-init g c = (search rules, tt, search rules, λ plain. ([], search rules, search rules))

pub loop-block-preserved : goal.loop-block-preserved
loop-block-preserved g c =
    let block = c.in-Some.block.now in
    let steps = c.in-Some.ensures.steps in (
      search rules,
      tt,
      steps.0 ∙ c.loop-block.invariant.2,
      λ plain.
          let so_far = c.loop-block.invariant.3 plain in (
            so_far.0 ++ c.spelled.result.now,
            has_written_append _ _ _ _ _ _ so_far.1 (search rules),
            append_assoc so_far.0 _ _
                ∙ ap (λ (t : List ℕ). so_far.0 ++ t)
                (rw c.spelled.ensures (sym (encoded-append block (chunks_rest c.next.new.self)) ∙ ap encode_lower (sym steps.1.0)))
                ∙ so_far.2,
          ),
    )

pub returns-clause-writes : goal.returns-clause-writes
returns-clause-writes g c = λ plain _.
    let so_far = c.loop-block.invariant.3 plain in
    let none = nil_from_length _ c.in-None.ensures.steps.1.0 in
    has_written_of_eq _ _ _ _ _ (rw (none, digits_none, append-nil) at so_far.2) so_far.1
