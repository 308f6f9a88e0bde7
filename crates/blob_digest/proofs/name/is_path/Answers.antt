use Rattle.std.proofs.Common.{◌∙◌, sym}
use Rattle.blob_digest.proofs.NameGrammar.{accepted_path, path_accepted}
use Rattle.blob_digest.proofs.name.is_path.Goals as goal

pub returns : goal.returns
returns c = (λ h. accepted_path c.args.text.now (sym c.reads_path.ensures ∙ h), λ h. c.reads_path.ensures ∙ path_accepted c.args.text.now h)
