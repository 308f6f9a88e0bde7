use Rattle.std.proofs.Common.{arith}
use Rattle.std.proofs.lemmas.List.Sums.{AllPass-from_list_all}
use Rattle.blob_digest.specs.Digests.{is_lower_hex}
use Rattle.blob_digest.proofs.HexText.{decoded_more, decoded_none}
use Rattle.blob_digest.proofs.digest.decode.Goals as goal

pub bytes-init : goal.bytes-init
bytes-init c = decoded_none c.args.encoded.now

pub bytes-preserved : goal.bytes-preserved
bytes-preserved c =
    let digits = AllPass-from_list_all is_lower_hex c.args.encoded.now c.requires.digits in
    decoded_more c.args.encoded.now c.bytes.value c.bytes.i _ (omega arith) (omega arith) digits (cc (c.digit_value-high.ensures, c.digit_value-low.ensures)) c.bytes.invariant
