use Rattle.std.proofs.Common.{◌≡◌, ◌+◌, ◌-◌, ◌∙◌, None, Some, ap, sym, arith}
use Rattle.std.specs.Prelude.{unwrap_or}
use Rattle.std.specs.BTreeMap.Entry.{entry_value, map_with_value, map_without_entry}
use Rattle.std.proofs.lemmas.Bool.Decides.{nat_tests}
use Rattle.spec_lib.specs.Trees.{map_of}
use Rattle.spec_lib.proofs.Trees.{get_is}
use Rattle.link_table.specs.Holders.{count_in}
use Rattle.link_table.proofs.HolderCounts.{changed_at, counts_less, left_at, no_zero, none_not_zero, not_zero, uncounted}
use Rattle.link_table.proofs.holders.decrement.Goals as goal

pub unreachable-requires : goal.unreachable-requires
unreachable-requires c = omega (arith, uncounted c.holders.inside.counts c.args.digest.now (rw c.in-Ok-Vacant.field-0-is at c.in-Ok-Vacant.ensures.found), rw (← c.holders.view_is) at c.requires)

pub unreachable-requires-in-Err : goal.unreachable-requires-in-Err
unreachable-requires-in-Err c = omega (arith, uncounted c.holders.inside.counts c.args.digest.now c.in-Err.ensures.absent, rw (← c.holders.view_is) at c.requires)

pub overflow_sub-others : goal.overflow_sub-others
overflow_sub-others c =
    let had : c.get.result.now ≡ count_in (map_of c.holders.inside.counts) c.args.digest.now =
    ap (λ o. unwrap_or o 0) (sym c.get.ensures ∙ ap entry_value (sym c.in-Ok-Occupied.field-0-is) ∙ c.in-Ok-Occupied.ensures.value ∙ get_is c.holders.inside.counts c.args.digest.now) in
    omega (arith, had, rw (← c.holders.view_is) at c.requires)

pub invariant_of-holders : goal.invariant_of-holders
invariant_of-holders c =
    let old = c.holders.inside.counts in
    let new = map_without_entry c.in-Ok-Occupied.field-0 in
    let held = no_zero (map_of old) (map_of new) c.args.digest.now None (changed_at old new c.args.digest.now None c.in-Ok-Occupied.ensures.removal.0.0) none_not_zero c.holders.invariant in
    λ d zero_at. held d (grind (arith, zero_at))

pub returns-then-others-eq0-clause-held : goal.returns-then-others-eq0-clause-held
returns-then-others-eq0-clause-held c =
    let old = c.holders.inside.counts in
    let new = map_without_entry c.in-Ok-Occupied.field-0 in
    let left = left_at (map_of old) (map_of new) c.args.digest.now None (changed_at old new c.args.digest.now None c.in-Ok-Occupied.ensures.removal.0.0) in
    grind (arith, nat_tests, left)

pub returns-then-others-eq0-clause-count : goal.returns-then-others-eq0-clause-count
returns-then-others-eq0-clause-count c =
    let old = c.holders.inside.counts in
    let new = map_without_entry c.in-Ok-Occupied.field-0 in
    let had : c.get.result.now ≡ count_in (map_of c.holders.inside.counts) c.args.digest.now =
    ap (λ o. unwrap_or o 0) (sym c.get.ensures ∙ ap entry_value (sym c.in-Ok-Occupied.field-0-is) ∙ c.in-Ok-Occupied.ensures.value ∙ get_is c.holders.inside.counts c.args.digest.now) in
    let one : 0 + 1 ≡ count_in (map_of old) c.args.digest.now = omega (arith, had, c.if-others-eq0.true, rw (← c.holders.view_is) at c.requires) in
    let counted = counts_less (map_of old) (map_of new) c.args.digest.now None (changed_at old new c.args.digest.now None c.in-Ok-Occupied.ensures.removal.0.0) one in
    rw (← c.holders.view_is) (λ d. grind (arith, counted d))

pub invariant_of-holders-2 : goal.invariant_of-holders-2
invariant_of-holders-2 c =
    let old = c.holders.inside.counts in
    let less = c.get.result.now - 1 in
    let new = map_with_value c.in-Ok-Occupied.field-0 less in
    let held = no_zero (map_of old) (map_of new) c.args.digest.now (Some less) (changed_at old new c.args.digest.now (Some less) (c.in-Ok-Occupied.ensures.update.0 less).0)
    (not_zero less (omega (arith, c.if-others-eq0.false))) c.holders.invariant in
    λ d zero_at. held d (grind (arith, zero_at))

pub returns-clause-held : goal.returns-clause-held
returns-clause-held c =
    let old = c.holders.inside.counts in
    let less = c.get.result.now - 1 in
    let new = map_with_value c.in-Ok-Occupied.field-0 less in
    let left = left_at (map_of old) (map_of new) c.args.digest.now (Some less) (changed_at old new c.args.digest.now (Some less) (c.in-Ok-Occupied.ensures.update.0 less).0) in
    grind (arith, nat_tests, left)

pub returns-clause-count : goal.returns-clause-count
returns-clause-count c =
    let old = c.holders.inside.counts in
    let less = c.get.result.now - 1 in
    let new = map_with_value c.in-Ok-Occupied.field-0 less in
    let had : c.get.result.now ≡ count_in (map_of c.holders.inside.counts) c.args.digest.now =
    ap (λ o. unwrap_or o 0) (sym c.get.ensures ∙ ap entry_value (sym c.in-Ok-Occupied.field-0-is) ∙ c.in-Ok-Occupied.ensures.value ∙ get_is c.holders.inside.counts c.args.digest.now) in
    let some : less + 1 ≡ count_in (map_of old) c.args.digest.now = omega (arith, had, rw (← c.holders.view_is) at c.requires) in
    let counted = counts_less (map_of old) (map_of new) c.args.digest.now (Some less) (changed_at old new c.args.digest.now (Some less) (c.in-Ok-Occupied.ensures.update.0 less).0) some in
    rw (← c.holders.view_is) (λ d. grind (arith, counted d))
