use Rattle.std.proofs.Common.{[], None, ap, ◌∙◌}
use mathlib.Core.Option.{none}
use Rattle.atomic_table.specs.Table.{step}
use Rattle.ghost_log.specs.Rule.{contents}
use Rattle.ghost_log.specs.Calls.{contents_of}
use Rattle.ghost_log.proofs.Allowed.{cut_allowed, look_allowed}
use Rattle.ghost_log.proofs.Told.{appends_at}
use Rattle.ghost_log.proofs.log.SharedLog.writer.Goals as goal

pub load-requires : goal.load-requires
load-requires g c =
    let i = c.self.invariant in
    let o = contents_of c.self.inside.place.me.0 in
    (i.1, i.3, look_allowed _ _ _ o.entries o.writers [] i.0 i.2)

pub split_seat-seat-requires : goal.split_seat-seat-requires
split_seat-seat-requires g c =
    let i = c.self.invariant in
    let o = contents_of c.self.inside.place.me.0 in
    let l = c.load.ensures in
    let told = appends_at [] (step c.self.inside.words.shared.table_id.slots 0 0 0 none) (contents o.entries o.writers None) _ _ _ i.2 l.2 in
    (l.0 ∙ i.1, i.3, cut_allowed _ _ o.entries o.writers (l.1 ∙ i.0) (ap (λ m. m.0) told.1))
