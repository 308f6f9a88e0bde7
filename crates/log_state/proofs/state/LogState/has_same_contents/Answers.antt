use Rattle.std.proofs.Common.{◌≡◌, rules, subst}
use Rattle.std.specs.Prelude.{map}
use Rattle.std.specs.List.{AllByRecursion}
use Rattle.std.specs.BTreeMap as tree
use Rattle.std.specs.Map.Iter.{deref}
use Rattle.std.proofs.lemmas.Map.Iter.{iter_end}
use Rattle.blob_digest.specs.Keys.{Link}
use Rattle.blob_digest.proofs.KeyOrders.{exact_link, link_cmp_total}
use Rattle.log_state.specs.LoggedStates.{HaveSameContent, state_in}
use Rattle.log_state.proofs.Comparisons.{of_each_key}
use Rattle.log_state.proofs.state.LogState.has_same_contents.Goals as goal

pub returns : goal.returns
returns c = λ same l there.
    let P = λ (k : Link). HaveSameContent (state_in c.args.self.now) (state_in c.args.other.now) k.1 in
    let all : map deref c.loop-key.yielded ≡ tree.keys c.args.self.now.links = search (rules, iter_end) in
    of_each_key link_cmp_total exact_link P c.args.self.now.links (subst (AllByRecursion P) all c.loop-key.invariant) l there
