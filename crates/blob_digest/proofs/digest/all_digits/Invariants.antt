use Rattle.std.proofs.Common.{◌≡◌, ◌&&◌, drop}
use Rattle.std.specs.List.{list_all}
use Rattle.blob_digest.specs.Digests.{is_lower_hex}
use Rattle.blob_digest.proofs.digest.all_digits.Given as goal

abbrev pub invariant-loop-c : goal.invariant-loop-c
invariant-loop-c l = (l.all && list_all is_lower_hex (drop l.c-index l.text)) ≡ list_all is_lower_hex l.text
