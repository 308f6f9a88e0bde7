use Rattle.std.proofs.Common.{rules, ◌≡◌, Some, None}
use Rattle.blob_digest.specs.Ranges.{range_of}
use Rattle.blob_digest.proofs.RangeTexts.{range_found, range_is}
use Rattle.blob_digest.proofs.range.ByteRange.parse.Goals as goal

pub returns-in-Some-clause-accepts : goal.returns-in-Some-clause-accepts
returns-in-Some-clause-accepts c =
    let found : range_of c.args.text.now ≡ Some (c.in-Some.start, c.in-Some.end) = search rules in
    (λ ok. (c.in-Some.start, c.in-Some.end, range_found c.args.text.now c.in-Some.start c.in-Some.end found), λ h. search rules)

pub returns-in-Some-clause-value : goal.returns-in-Some-clause-value
returns-in-Some-clause-value c =
    let found : range_of c.args.text.now ≡ Some (c.in-Some.start, c.in-Some.end) = search rules in
    range_found c.args.text.now c.in-Some.start c.in-Some.end found

pub returns-in-None-clause-accepts : goal.returns-in-None-clause-accepts
returns-in-None-clause-accepts c =
    let none : range_of c.args.text.now ≡ None = search rules in
    (λ ok. cc, λ h. cc (none, range_is c.args.text.now h.0 h.1 h.2))
