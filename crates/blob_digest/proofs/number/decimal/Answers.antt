use Rattle.std.proofs.Common.{rules, ◌≡◌, None}
use Rattle.blob_digest.specs.Ranges.{number_of}
use Rattle.blob_digest.proofs.RangeTexts.{number_is}
use Rattle.blob_digest.proofs.number.decimal.Goals as goal

pub returns-then-not-is_number-clause-number : goal.returns-then-not-is_number-clause-number
returns-then-not-is_number-clause-number c =
    let none : number_of c.args.text.now ≡ None = search rules in
    λ n h. cc (none, number_is c.args.text.now n h)
