use Rattle.std.proofs.Common.{◌≡◌, ◌∙◌, ◌-◌, ◌++◌, ℕ, List, ap, arith, subst, sym, take, true}
use Rattle.std.proofs.lemmas.Result.{IfOk-weaker}
use Rattle.content_files.proofs.Held.{between_front, held_after}
use Rattle.content_files.proofs.Parts.{if_ok_both, part_across, part_after, part_in_memory, part_of_read, part_on_disk}
use Rattle.content_files.specs.Notes.{joined}
use Rattle.content_files.specs.Parts.{IsPart, between}
use Rattle.content_files.proofs.disk_content.DiskContent.read_between.Goals as goal

pub returns-then-end-base : goal.returns-then-end-base
returns-then-end-base g c =
    let front = c.self.inside.front.items in
    let same : between front c.args.start c.args.end ≡ between c.args.self.now c.args.start c.args.end =
    sym (between_front front c.self.inside.len c.self.inside.pieces c.args.start c.args.end (omega (arith, c.requires)) (omega (arith, c.if-end-self.false)) (omega (arith, c.if-end-base.true)))
    ∙ ap (λ l. between l c.args.start c.args.end) c.self.view_is in
    IfOk-weaker c.part_of.result _ _ (λ v is. part_in_memory g.F.ContentStore.on_disk c.args.self.now c.args.start c.args.end v.items
    (is ∙ ap (λ l. between l c.args.start c.args.end) c.as_slice.ensures.value ∙ same)) c.part_of.ensures

pub returns-then-base-start : goal.returns-then-base-start
returns-then-base-start g c =
    let front = c.self.inside.front.items in
    let base : ℕ = c.len-base.result in
    let rest : ℕ = c.self.inside.len - base in
    let whole : front ++ take rest (joined c.self.inside.pieces.each) ≡ c.args.self.now = sym (held_after front c.self.inside.len rest c.self.inside.pieces (omega (arith, c.if-end-self.false, c.if-end-base.false))) ∙ c.self.view_is in
    if_ok_both c.read_between.result c.read_between.ensures.read c.read_between.ensures.there (λ v read there.
    part_on_disk g.F.ContentStore.on_disk c.args.self.now c.args.start c.args.end v.items there
    (subst (λ (l : List ℕ). IsPart true l c.args.start c.args.end v.items) whole
    (part_after front (take rest (joined c.self.inside.pieces.each)) base c.args.start c.args.end v.items (omega arith) (omega (arith, c.if-base-start.true)) (omega (arith, c.if-end-base.false))
    (part_of_read c.self.inside.pieces.each rest (c.args.start - base) (c.args.end - base) v.items (omega (arith, c.requires)) read))))

pub returns : goal.returns
returns g c =
    let front = c.self.inside.front.items in
    let base : ℕ = c.len-base.result in
    let rest : ℕ = c.self.inside.len - base in
    let whole : front ++ take rest (joined c.self.inside.pieces.each) ≡ c.args.self.now = sym (held_after front c.self.inside.len rest c.self.inside.pieces (omega (arith, c.if-end-self.false, c.if-end-base.false))) ∙ c.self.view_is in
    let first : c.in_ok-bytes.bytes.items ≡ between front c.args.start base = c.in_ok-bytes.ensures ∙ ap (λ l. between l c.args.start base) c.as_slice-2.ensures.value in
    let both : c.in_ok-bytes.bytes.items ++ c.in_ok-others.others.items ≡ c.extend_from_slice.new.self.items =
    sym (c.in_ok-extend_from_slice.ensures.items ∙ ap (λ l. c.in_ok-bytes.bytes.items ++ l) c.as_slice-3.ensures.value) in
    part_on_disk g.F.ContentStore.on_disk c.args.self.now c.args.start c.args.end c.extend_from_slice.new.self.items c.in_ok-others.ensures.there
    (subst (λ (v : List ℕ). IsPart true c.args.self.now c.args.start c.args.end v) both
    (subst (λ (l : List ℕ). IsPart true l c.args.start c.args.end (c.in_ok-bytes.bytes.items ++ c.in_ok-others.others.items)) whole
    (part_across front (take rest (joined c.self.inside.pieces.each)) base c.args.start c.args.end c.in_ok-bytes.bytes.items c.in_ok-others.others.items (omega arith) (omega (arith, c.if-base-start.false)) (omega (arith, c.if-end-base.false)) first
    (part_of_read c.self.inside.pieces.each rest 0 (c.args.end - base) c.in_ok-others.others.items (omega arith) c.in_ok-others.ensures.read))))
