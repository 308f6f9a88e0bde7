use Rattle.std.proofs.Common.{◌≡◌, ◌*◌, ◌++◌, take, drop}
use Rattle.hex.specs.Hex.{encode_lower}
use Rattle.blob_digest.proofs.digest.decode.Given as goal

abbrev pub invariant-bytes : goal.invariant-bytes
invariant-bytes l = encode_lower (take l.i l.value) ++ drop (2 * l.i) l.encoded ≡ l.encoded
