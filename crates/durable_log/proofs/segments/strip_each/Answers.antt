use Rattle.std.proofs.Common.{◌≡◌, ◌+◌, ◌++◌, ◌∙◌, ap, arith, flat_map, suc, subst, take}
use Rattle.std.specs.Prelude.{MatchOption}
use Rattle.std.proofs.lemmas.Bool.Decides.{Decides-eqb}
use Rattle.std.proofs.lemmas.Slice.Eq.{strip_prefix_is}
use Rattle.durable_log.specs.Views.{BeginsNot}
use Rattle.durable_log.proofs.SegmentBytes.{begins_not, front_longer}
use Rattle.durable_log.proofs.segments.strip_each.Goals as goal

pub returns-in_default : goal.returns-in_default
returns-in_default c =
    let rest = c.loop-segment.rest.now in
    let next = c.as_slice.result.now in
    let is = c.as_slice.ensures.value ∙ ap (λ v. v.items) c.segment-item.is in
    let found = strip_prefix_is Decides-eqb rest next c.strip_prefix.result c.strip_prefix.ensures.cases in
    let not = subst (λ r. MatchOption r (BeginsNot rest next) (λ x. rest ≡ next ++ x.now)) c.in_default.is found in
    begins_not (λ v. v.items) c.args.segments.now c.loop-segment.segment-index c.segment-item.result c.args.bytes.now rest c.loop-segment-test.true c.loop-segment.invariant (subst (BeginsNot rest) is not)

pub loop-segment-preserved : goal.loop-segment-preserved
loop-segment-preserved c =
    let rest = c.loop-segment.rest.now in
    let next = c.as_slice.result.now in
    let after = c.in-Some.after.now in
    let is = c.as_slice.ensures.value ∙ ap (λ v. v.items) c.segment-item.is in
    let found = strip_prefix_is Decides-eqb rest next c.strip_prefix.result c.strip_prefix.ensures.cases in
    let more = subst (λ r. MatchOption r (BeginsNot rest next) (λ x. rest ≡ next ++ x.now)) c.in-Some.is found in
    let i = c.loop-segment.segment-index in
    let one_more : suc i ≡ i + 1 = omega arith in
    front_longer (λ v. v.items) c.args.segments.now i c.segment-item.result c.args.bytes.now rest after c.loop-segment-test.true c.loop-segment.invariant (more ∙ ap (λ w. w ++ after) is)
    ∙ ap (λ k. flat_map (λ v. v.items) (take k c.args.segments.now) ++ after) one_more
