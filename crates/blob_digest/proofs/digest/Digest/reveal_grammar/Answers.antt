use Rattle.blob_digest.proofs.Grammar.{grammar_passes}
use Rattle.blob_digest.proofs.digest.Digest.reveal_grammar.Goals as goal

pub returns : goal.returns
returns c = grammar_passes c.args.self.now c.checksum.ensures.whole
