use Rattle.std.proofs.Common.{◌≡◌, take, not}
use Rattle.std.specs.Prelude.{◌&&◌, Option}
use Rattle.std.specs.BTreeSet.{contains}
use Rattle.spec_lib.specs.Texts.{Text}
use Rattle.link_table.specs.Manifests.{refer_cmp, is_pair}
use Rattle.link_table.proofs.repo_manifests.forget.Given as goal

abbrev pub invariant-loop-digest : goal.invariant-loop-digest
invariant-loop-digest l = (d : Text) (o : Option Text) → contains refer_cmp l.referrers (d, o) ≡ (contains refer_cmp l.fn.referrers (d, o) && not (is_pair (take l.digest-index l.refs) l.manifest d o))
