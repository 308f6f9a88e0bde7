use Rattle.std.proofs.lemmas.Str.{IsUtf8-from_ascii}
use Rattle.blob_digest.proofs.NameTexts.{IsAscii-path}
use Rattle.blob_digest.proofs.repo_name.ascii.Goals as goal

pub unreachable-requires : goal.unreachable-requires
unreachable-requires c = c.in-Err.ensures.cases.0 (IsUtf8-from_ascii c.args.text.now (IsAscii-path c.args.text.now c.requires.0))
