use Rattle.std.proofs.Common.{◌≡◌, ◌+◌, ◌∙◌, Some, ap, arith}
use Rattle.std.specs.Prelude.{unwrap_or}
use Rattle.std.specs.BTreeMap.Entry.{map_with_value}
use Rattle.spec_lib.specs.Trees.{map_of}
use Rattle.spec_lib.proofs.Trees.{get_is}
use Rattle.link_table.specs.Holders.{count_in}
use Rattle.link_table.proofs.HolderCounts.{changed_at, no_zero, not_zero, counts_more}
use Rattle.link_table.proofs.holders.increment.Goals as goal

pub overflow_add-count : goal.overflow_add-count
overflow_add-count c =
    let had : c.or_insert-count.result.now ≡ count_in (map_of c.holders.inside.counts) c.args.digest.now =
    c.or_insert-count.ensures.value ∙ ap (λ o. unwrap_or o 0) (c.in_ok-holders-inside.ensures.value ∙ get_is c.holders.inside.counts c.args.digest.now) in
    omega (arith, had, rw (← c.holders.view_is) at c.requires)

pub invariant_of-holders-2 : goal.invariant_of-holders-2
invariant_of-holders-2 c =
    let old = c.holders.inside.counts in
    let more = c.or_insert-count.result.now + 1 in
    let new = map_with_value c.in_ok-holders-inside.field-0 more in
    let held = no_zero (map_of old) (map_of new) c.args.digest.now (Some more) (changed_at old new c.args.digest.now (Some more) (c.in_ok-holders-inside.ensures.update.0 more).0)
    (not_zero more (omega arith)) c.holders.invariant in
    λ d zero_at. held d (grind (arith, zero_at))

pub returns-clause-count : goal.returns-clause-count
returns-clause-count c =
    let had : c.or_insert-count.result.now ≡ count_in (map_of c.holders.inside.counts) c.args.digest.now =
    c.or_insert-count.ensures.value ∙ ap (λ o. unwrap_or o 0) (c.in_ok-holders-inside.ensures.value ∙ get_is c.holders.inside.counts c.args.digest.now) in
    rw (← c.holders.view_is) (ap (λ n. n + 1) had)

pub returns-clause-ok : goal.returns-clause-ok
returns-clause-ok c =
    let old = c.holders.inside.counts in
    let more = c.or_insert-count.result.now + 1 in
    let new = map_with_value c.in_ok-holders-inside.field-0 more in
    let had : c.or_insert-count.result.now ≡ count_in (map_of old) c.args.digest.now =
    c.or_insert-count.ensures.value ∙ ap (λ o. unwrap_or o 0) (c.in_ok-holders-inside.ensures.value ∙ get_is old c.args.digest.now) in
    let counted = counts_more (map_of old) (map_of new) c.args.digest.now (Some more) (changed_at old new c.args.digest.now (Some more) (c.in_ok-holders-inside.ensures.update.0 more).0)
    (ap (λ n. n + 1) had) in
    rw (← c.holders.view_is) (λ d. grind (arith, counted d))
