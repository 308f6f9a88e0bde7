use Rattle.blob_digest.proofs.Grammar.{text_of-grammar, value-fits}
use Rattle.blob_digest.proofs.digest.Digest.checksum.Goals as goal

pub returns-clause-whole : goal.returns-clause-whole
returns-clause-whole c = rw (← c.self.view_is) (text_of-grammar c.self.inside.checksum c.self.invariant)

pub returns-clause-size : goal.returns-clause-size
returns-clause-size c = value-fits c.self.inside.checksum c.self.invariant
