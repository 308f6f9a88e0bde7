use Rattle.std.proofs.Common.{[], ◌∷◌, ◌++◌, Some, ap, sym, ◌∙◌}
use mathlib.Core.Option.{none}
use Rattle.atomic_table.specs.Table.{step}
use Rattle.ghost_log.specs.declared.view.View.TheVariants.{OfWriter}
use Rattle.ghost_log.specs.Rule.{contents}
use Rattle.ghost_log.specs.Steps.{transit_view}
use Rattle.ghost_log.specs.Calls.{contents_of, known_in}
use Rattle.ghost_log.proofs.Allowed.{take_allowed, append_allowed, transit_allowed}
use Rattle.ghost_log.proofs.Lists.{events_own}
use Rattle.ghost_log.proofs.Told.{one_view, taken, appends_at, sits}
use Rattle.ghost_log.proofs.log.SharedLog.write.Goals as goal

pub join_seat-requires : goal.join_seat-requires
join_seat-requires g c =
    let i = c.self.invariant in
    let o = contents_of c.self.inside.place.me.0 in
    let k = known_in c.writer.inside.token.views in
    let x = c.into_seat.ensures in
    let held = one_view _ _ (OfWriter k) (ap (λ t. t.views) (sym c.replace-token.ensures.value) ∙ x.2) c.writer.invariant.0 in
    let name = x.0 ∙ ap (λ t. t.table_id) c.replace-token.ensures.value ∙ ap (λ p. p.name) c.writer.view_is ∙ c.requires ∙ sym (ap (λ l. l.name) c.self.view_is) in
    (i.1, name, x.3, i.3, take_allowed _ _ o.entries o.writers _ _ k i.0 (ap (λ m. m.0) i.2) held)

pub load-requires : goal.load-requires
load-requires g c =
    let i = c.self.invariant in
    let o = contents_of c.self.inside.place.me.0 in
    let k = known_in c.writer.inside.token.views in
    let x = c.into_seat.ensures in
    let j = c.join_seat.ensures in
    let held = one_view _ _ (OfWriter k) (ap (λ t. t.views) (sym c.replace-token.ensures.value) ∙ x.2) c.writer.invariant.0 in
    let has = taken o.entries o.writers k _ _ _ i.2 held j.2 in
    (j.0 ∙ i.1, i.3, append_allowed _ _ _ o.entries o.writers k g.D.Events.events (j.1 ∙ i.0) has)

pub split_seat-seat-requires : goal.split_seat-seat-requires
split_seat-seat-requires g c =
    let i = c.self.invariant in
    let o = contents_of c.self.inside.place.me.0 in
    let k = known_in c.writer.inside.token.views in
    let x = c.into_seat.ensures in
    let j = c.join_seat.ensures in
    let l = c.load.ensures in
    let held = one_view _ _ (OfWriter k) (ap (λ t. t.views) (sym c.replace-token.ensures.value) ∙ x.2) c.writer.invariant.0 in
    let has = taken o.entries o.writers k _ _ _ i.2 held j.2 in
    let told = appends_at g.D.Events.events (step c.self.inside.words.shared.table_id.slots 0 0 0 none) (contents o.entries o.writers (Some k)) _ _ _ has l.2 in
    (l.0 ∙ j.0 ∙ i.1, i.3, transit_allowed _ _ _ _ _ (l.1 ∙ j.1 ∙ i.0) (ap (λ m. m.0) told.1))

pub invariant_of-writer : goal.invariant_of-writer
invariant_of-writer g c =
    let i = c.self.invariant in
    let o = contents_of c.self.inside.place.me.0 in
    let k = known_in c.writer.inside.token.views in
    let x = c.into_seat.ensures in
    let events = g.D.Events.events in
    let held = one_view _ _ (OfWriter k) (ap (λ t. t.views) (sym c.replace-token.ensures.value) ∙ x.2) c.writer.invariant.0 in
    let has = taken o.entries o.writers k _ _ _ i.2 held c.join_seat.ensures.2 in
    let told = appends_at events (step c.self.inside.words.shared.table_id.slots 0 0 0 none) (contents o.entries o.writers (Some k)) _ _ _ has c.load.ensures.2 in
    let view = ap (λ m. m.0) c.split_seat-seat.ensures.4 ∙ ap transit_view (ap (λ m. m.0) told.1) in
    sits _ _ (c.into_badge.ensures.2 ∙ ap (λ v. v ∷ []) view) (events_own k.number o.entries events ∙ ap (λ xs. xs ++ events) told.0.transit.own)
