use Rattle.std.proofs.Common.{◌==◌, rules}
use Rattle.blob_digest.proofs.NameTexts.{length-before_first, length-before_none}
use Rattle.blob_digest.proofs.repo_name.tenant_len.Goals as goal

pub returns-in-Some : goal.returns-in-Some
returns-in-Some c = length-before_first (λ b. b == 47) c.args.text.now c.in-Some.slash (search rules)

pub returns-in-None : goal.returns-in-None
returns-in-None c = length-before_none (λ b. b == 47) c.args.text.now (search rules)
