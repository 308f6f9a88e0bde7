use Rattle.std.proofs.Common.{◌++◌, ◌∙◌, ap, arith}
use Rattle.std.specs.Int.{w64, to_le_bytes}
use Rattle.log_frames.specs.Headers.{magic}
use Rattle.log_frames.specs.declared.cursor.Cursor.{Cursor}
use Rattle.log_frames.proofs.Headers.{no_magic, other_sum, with_front, with_sum, with_version}
use Rattle.log_frames.proofs.header.opening_of.Goals as goal

pub returns-then-magic-ne-MAGIC : goal.returns-then-magic-ne-MAGIC
returns-then-magic-ne-MAGIC c =
    let inv = c.u64_at-magic.type_inv in
    no_magic c.u64_at-magic.result.0 c.args.bytes.now _ (omega arith) c.if-magic-ne-MAGIC.true c.u64_at-magic.ensures

pub returns-then-version-ne-VERSION : goal.returns-then-version-ne-VERSION
returns-then-version-ne-VERSION c = (c.if-version-ne-VERSION.true, (c.u64_at-version.result.1.now, with_version _ c.u64_at-version.result.0 c.args.bytes.now _ _ c.if-magic-ne-MAGIC.false c.u64_at-magic.ensures c.u64_at-version.ensures))

pub returns-then-is_sum : goal.returns-then-is_sum
returns-then-is_sum c =
    let inv = c.u64_at-id.type_inv in
    let version = with_version _ c.u64_at-version.result.0 c.args.bytes.now _ _ c.if-magic-ne-MAGIC.false c.u64_at-magic.ensures c.u64_at-version.ensures in
    let front = with_front _ c.u64_at-id.result.0 c.args.bytes.now _ _ c.if-version-ne-VERSION.false version c.u64_at-id.ensures in
    (omega arith, c.start_of-start.ensures, with_sum c.u64_at-id.result.0 c.start_of-start.result.sum c.args.bytes.now _ front (c.is_sum.ensures.yes c.if-is_sum.true) (ap (λ (k : Cursor). k.sum) c.start_of-start.ensures))

pub returns-else-is_sum : goal.returns-else-is_sum
returns-else-is_sum c =
    let version = with_version _ c.u64_at-version.result.0 c.args.bytes.now _ _ c.if-magic-ne-MAGIC.false c.u64_at-magic.ensures c.u64_at-version.ensures in
    let front = with_front _ c.u64_at-id.result.0 c.args.bytes.now _ _ c.if-version-ne-VERSION.false version c.u64_at-id.ensures in (
      (c.u64_at-version.result.1.now, version ∙ ap (λ n. magic ++ to_le_bytes w64 n ++ c.u64_at-version.result.1.now) c.if-version-ne-VERSION.false),
      other_sum c.u64_at-id.result.0 c.start_of-start.result.sum c.args.bytes.now _ c.requires front (c.is_sum.ensures.no c.if-is_sum.false) (ap (λ (k : Cursor). k.sum) c.start_of-start.ensures),
    )
