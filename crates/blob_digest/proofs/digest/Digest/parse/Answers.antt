use Rattle.std.proofs.Common.{rules, ◌≡◌, ◌∙◌, sym, false}
use Rattle.blob_digest.specs.Digests.{is_digest_text}
use Rattle.blob_digest.proofs.Grammar.{grammar_passes, passes_grammar}
use Rattle.blob_digest.proofs.digest.Digest.parse.Goals as goal

pub returns-clause-accepts : goal.returns-clause-accepts
returns-clause-accepts c =
    let fails : is_digest_text c.args.text.now ≡ false = search rules in
    (λ ok. passes_grammar c.args.text.now (fails ∙ ok), λ h. sym fails ∙ grammar_passes c.args.text.now h)
