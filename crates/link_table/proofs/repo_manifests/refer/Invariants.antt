use Rattle.std.proofs.Common.{◌≡◌, take}
use Rattle.std.specs.Prelude.{◌||◌, Option}
use Rattle.std.specs.BTreeSet.{contains}
use Rattle.spec_lib.specs.Texts.{Text}
use Rattle.link_table.specs.Manifests.{refer_cmp, is_pair}
use Rattle.link_table.proofs.repo_manifests.refer.Given as goal

abbrev pub invariant-loop-i : goal.invariant-loop-i
invariant-loop-i l = (d : Text) (o : Option Text) → contains refer_cmp l.referrers (d, o) ≡ (contains refer_cmp l.fn.referrers (d, o) || is_pair (take l.i l.refs) l.manifest d o)
