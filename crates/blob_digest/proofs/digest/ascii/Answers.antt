use Rattle.std.proofs.lemmas.Str.{IsUtf8-from_ascii}
use Rattle.blob_digest.proofs.Ascii.{IsAscii-digest_text}
use Rattle.blob_digest.proofs.digest.ascii.Goals as goal

pub unreachable-requires : goal.unreachable-requires
unreachable-requires c = c.in-Err.ensures.cases.0 (IsUtf8-from_ascii c.args.text.now (IsAscii-digest_text c.args.text.now c.requires))
