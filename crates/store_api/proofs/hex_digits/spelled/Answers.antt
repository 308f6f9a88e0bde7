use Rattle.std.proofs.Common.{◌≡◌, rules}
use Rattle.hex.specs.Hex.{encode_lower}
use Rattle.store_api.proofs.Digits.{digits_text}
use Rattle.store_api.proofs.hex_digits.spelled.Goals as goal

pub unreachable-requires-in-Err-from_utf8 : goal.unreachable-requires-in-Err-from_utf8
unreachable-requires-in-Err-from_utf8 c =
    let written : c.encode_to_slice.new.output ≡ encode_lower c.args.block.now = search rules in
    c.in-Err-from_utf8.ensures.cases.0 (rw written (digits_text c.args.block.now))
