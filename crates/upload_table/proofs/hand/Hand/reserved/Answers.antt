use Rattle.std.proofs.Common.{subst, ◌≢◌, []}
use Rattle.std.specs.Vec.{vec_capacity}
use Rattle.std.specs.List.{AllByRecursion}
use Rattle.store_model.specs.Sessions.{HandRecord}
use Rattle.upload_table.proofs.HandChunks.{hand_nonempty}
use Rattle.upload_table.proofs.hand.Hand.reserved.Goals as goal

pub returns-clause-pieces : goal.returns-clause-pieces
returns-clause-pieces c =
    subst (λ (h : HandRecord). AllByRecursion (λ b. b ≢ []) h.chunks) c.self.view_is
    (hand_nonempty c.self.inside.received c.self.inside.reserved c.self.inside.pieces.value (vec_capacity c.self.inside.pieces.value.lens) c.self.inside.pieces.value.whole c.self.invariant)
