use Rattle.std.proofs.Common.{◌≡◌, ◌∙◌, ◌++◌, ap, flat_map, subst, sym}
use Rattle.std.specs.Prelude.{Decides}
use Rattle.std.proofs.lemmas.Bool.Decides.{Decides-eqb}
use Rattle.std.proofs.lemmas.Slice.Eq.{slice_eq-Decides}
use Rattle.durable_log.proofs.SegmentBytes.{last_decides}
use Rattle.durable_log.proofs.segments.Segments.has_bytes.Goals as goal

pub returns-in-Some : goal.returns-in-Some
returns-in-Some c =
    let d = slice_eq-Decides Decides-eqb c.in-Some.rest.now c.as_slice-in-Some.result.now c.eq.result c.eq.ensures in
    let front = flat_map (λ v. v.items) c.self.inside.earlier.items in
    let last = c.self.inside.last.items in
    let begins = c.in-Some.ensures ∙ ap (λ segments. flat_map (λ v. v.items) segments ++ c.in-Some.rest.now) c.as_slice.ensures.value in
    last_decides front c.in-Some.rest.now last c.args.bytes.now c.args.self.now.bytes c.eq.result (ap (λ v. v.bytes) (sym c.self.view_is)) begins (subst (λ w. Decides c.eq.result (c.in-Some.rest.now ≡ w)) c.as_slice-in-Some.ensures.value d)
