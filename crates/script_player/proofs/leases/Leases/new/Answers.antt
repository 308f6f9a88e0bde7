use Rattle.std.proofs.Common.{refl}
use Rattle.script_player.proofs.leases.Leases.new.Goals as goal

pub returns : goal.returns
returns g c = rw c.new.ensures.empty refl
