use Rattle.std.proofs.Common.{◌≡◌, ◌≤◌, ◌+◌, ◌++◌, ◌∷◌, [], arith, inr, length, length-append, refl, rules, true}
use Rattle.std.proofs.lemmas.Result.{err_from_is_err_and}
use Rattle.csv.specs.Records.{fields_of}
use Rattle.blobctl.proofs.Records.{begins, explained, one_good}
use Rattle.blobctl.proofs.script.read_rows.Goals as goal

pub returns-in_err-add_row-clause-fault : goal.returns-in_err-add_row-clause-fault
returns-in_err-add_row-clause-fault c =
    let inv = c.loop-place.invariant in
    let found : c.in_ok-take_record.field-0 ≡ true = search rules in
    let after = c.in_ok-take_record.ensures.more c.args.script inv.0 inv.1 found in
    let fields = fields_of c.take_record.new.fields in
    let p = err_from_is_err_and c.from_residual-in_err-add_row.result c.from_residual-in_err-add_row.ensures.1 in
    let place : c.loop-place.place + 1 ≡ length inv.0 + 1 = omega (arith, inv.3) in
    let few : length inv.0 ≤ 65536 = omega (arith, inv.3, c.loop-place-test.true) in
    rw (p.1, p.2) (explained c.args.script inv.0 c.loop-place.rows fields (c.loop-place.place + 1) c.in_err-add_row.field-0.0
    (begins c.take_record.new.reader c.args.script (inv.0 ++ fields ∷ []) after) inv.2 place few c.in_err-add_row.ensures.refused)

pub loop-place-preserved : goal.loop-place-preserved
loop-place-preserved c =
    let inv = c.loop-place.invariant in
    let found : c.in_ok-take_record.field-0 ≡ true = search rules in
    let after = c.in_ok-take_record.ensures.more c.args.script inv.0 inv.1 found in
    let fields = fields_of c.take_record.new.fields in
    let added = c.in_ok-add_row.ensures.added in
    let good = one_good inv.0 c.loop-place.rows fields added.0 inv.2 added.1 in
    (inv.0 ++ fields ∷ [], after, rw added.2 good, omega (arith, inv.3, length-append inv.0 (fields ∷ [])))

pub returns-then-branch-clause-fault : goal.returns-then-branch-clause-fault
returns-then-branch-clause-fault c =
    let inv = c.loop-place.invariant in
    let fields = fields_of c.take_record-2.new.fields in
    let after = c.in_ok-take_record-2.ensures.more c.args.script inv.0 inv.1 c.if-branch.true in
    record {
      before = inv.0;
      rows = c.loop-place.rows;
      bad = fields;
      begins = begins _ c.args.script (inv.0 ++ fields ∷ []) after;
      good = inv.2;
      place = omega (arith, inv.3, c.loop-place-test.false, c.loop-place.auto.place-end);
      few = omega (arith, inv.3, c.loop-place.auto.place-end);
      why = inr refl;
    }
