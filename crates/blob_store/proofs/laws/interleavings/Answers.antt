use Rattle.blob_store.proofs.OneText.Texts.{one_text}
use Rattle.blob_store.proofs.laws.interleavings.Goals as goal

pub returns : goal.returns
returns c = record { same = one_text }
