use Rattle.std.proofs.lemmas.Bool.{false≢true}
use Rattle.link_table.proofs.TenantLists.{no_component, comes_twice, have_names, limited, beyond, ordered, rises, shown_moved}
use Rattle.link_table.proofs.tenants.in_order.Goals as goal

pub returns-then-not-are_components-clause-refused : goal.returns-then-not-are_components-clause-refused
returns-then-not-are_components-clause-refused c =
    no_component c.args.tenants.items c.sort_unstable.new.self.items c.sort_unstable.ensures.permutation (λ all. false≢true (c.if-not-are_components.ensures.1 (rw c.as_slice.ensures.value all)))

pub returns-then-not-names_rise-clause-refused : goal.returns-then-not-names_rise-clause-refused
returns-then-not-names_rise-clause-refused c =
    comes_twice c.args.tenants.items c.sort_unstable.new.self.items c.sort_unstable.ensures.permutation c.sort_unstable.ensures.sorted (rw c.as_slice-2.ensures.value at c.if-not-names_rise.ensures)

pub returns-then-not-are_within_limits-clause-refused : goal.returns-then-not-are_within_limits-clause-refused
returns-then-not-are_within_limits-clause-refused c =
    let components = rw c.as_slice.ensures.value at (c.are_components.ensures.0 c.if-not-are_components.false) in
    let next = rw c.as_slice-2.ensures.value at c.if-not-names_rise.ensures in (
      have_names c.args.tenants.items c.sort_unstable.new.self.items c.sort_unstable.ensures.permutation next components,
      beyond c.args.tenants.items c.sort_unstable.new.self.items c.sort_unstable.ensures.permutation next components (λ limits. false≢true (c.if-not-are_within_limits.ensures.1 (rw c.as_slice-3.ensures.value limits))),
    )

pub returns-clause-names : goal.returns-clause-names
returns-clause-names c = have_names c.args.tenants.items c.sort_unstable.new.self.items c.sort_unstable.ensures.permutation (rw c.as_slice-2.ensures.value at c.if-not-names_rise.ensures) (rw c.as_slice.ensures.value at (c.are_components.ensures.0 c.if-not-are_components.false))

pub returns-clause-limits : goal.returns-clause-limits
returns-clause-limits c = limited c.args.tenants.items c.sort_unstable.new.self.items c.sort_unstable.ensures.permutation (rw c.as_slice-2.ensures.value at c.if-not-names_rise.ensures) (rw c.as_slice.ensures.value at (c.are_components.ensures.0 c.if-not-are_components.false))
    (rw c.as_slice-3.ensures.value at (c.are_within_limits.ensures.0 c.if-not-are_within_limits.false))

pub returns-clause-same : goal.returns-clause-same
returns-clause-same c = shown_moved c.args.tenants.items c.sort_unstable.new.self.items c.sort_unstable.ensures.permutation

pub returns-clause-kept : goal.returns-clause-kept
returns-clause-kept c = ordered c.args.tenants.items c.sort_unstable.new.self.items c.sort_unstable.ensures.permutation (rw c.as_slice-2.ensures.value at c.if-not-names_rise.ensures) (rw c.as_slice.ensures.value at (c.are_components.ensures.0 c.if-not-are_components.false))
    (rw c.as_slice-3.ensures.value at (c.are_within_limits.ensures.0 c.if-not-are_within_limits.false))

pub returns-clause-rising : goal.returns-clause-rising
returns-clause-rising c = rises c.args.tenants.items c.sort_unstable.new.self.items c.sort_unstable.ensures.permutation (rw c.as_slice-2.ensures.value at c.if-not-names_rise.ensures) (rw c.as_slice.ensures.value at (c.are_components.ensures.0 c.if-not-are_components.false))
