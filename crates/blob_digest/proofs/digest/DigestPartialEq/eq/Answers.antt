use Rattle.std.proofs.Common.{◌∙◌, sym}
use Rattle.blob_digest.proofs.DigestOrder.{text_eq}
use Rattle.blob_digest.proofs.digest.DigestPartialEq.eq.Goals as goal

pub returns : goal.returns
returns c = rw (← c.self.view_is, ← c.other.view_is) (c.eq.ensures ∙ sym (text_eq c.self.inside.checksum c.other.inside.checksum c.self.invariant c.other.invariant))
