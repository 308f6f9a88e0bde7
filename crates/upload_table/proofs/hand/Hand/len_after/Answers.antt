use Rattle.std.proofs.Common.{length, ap, ◌+◌, ◌∙◌}
use Rattle.std.specs.Vec.{vec_capacity}
use Rattle.std.specs.List.{sum_by}
use Rattle.store_model.specs.Sessions.{HandRecord}
use Rattle.upload_table.proofs.HandChunks.{hand_received}
use Rattle.upload_table.proofs.hand.Hand.len_after.Goals as goal

pub returns : goal.returns
returns c =
    ap (λ n. n + c.self.inside.reserved)
    (hand_received c.self.inside.received c.self.inside.reserved c.self.inside.pieces.value (vec_capacity c.self.inside.pieces.value.lens) c.self.inside.pieces.value.whole c.self.invariant)
    ∙ ap (λ (h : HandRecord). sum_by length h.chunks + h.reserved) c.self.view_is
