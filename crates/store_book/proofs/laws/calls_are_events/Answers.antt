use Rattle.store_book.proofs.Refine.Events.{changes, changes_exactly, reads, reads_exactly, leases}
use Rattle.store_book.proofs.laws.calls_are_events.Goals as goal

pub returns-clause-numbers : goal.returns-clause-numbers
returns-clause-numbers c = changes _ _

pub returns-clause-mounts : goal.returns-clause-mounts
returns-clause-mounts c = changes _ _

pub returns-clause-digests : goal.returns-clause-digests
returns-clause-digests c = changes _ _

pub returns-clause-exact_numbers : goal.returns-clause-exact_numbers
returns-clause-exact_numbers c = changes_exactly _ _

pub returns-clause-removals : goal.returns-clause-removals
returns-clause-removals c = changes_exactly _ _

pub returns-clause-manifests : goal.returns-clause-manifests
returns-clause-manifests c = reads _ _

pub returns-clause-lengths : goal.returns-clause-lengths
returns-clause-lengths c = reads_exactly _ _

pub returns-clause-leases : goal.returns-clause-leases
returns-clause-leases c = leases
