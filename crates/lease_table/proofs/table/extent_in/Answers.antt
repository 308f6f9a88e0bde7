use Rattle.std.proofs.Common.{◌≡◌, ◌≢◌, ◌∙◌, Some, ap, refl, rules, sym, true}
use Rattle.std.specs.BTreeMap as tree
use Rattle.std.specs.Ordering.{nat_cmp}
use Rattle.blob_digest.specs.Vouched.{has_digest}
use Rattle.store_api.specs.LeaseViews.{Extent, extent, stored_bytes}
use Rattle.store_book.specs.Leased.{LeaseValue}
use Rattle.lease_table.proofs.Tables.{get-tree}
use Rattle.lease_table.proofs.table.extent_in.Goals as goal

pub returns-in_default-clause-does : goal.returns-in_default-clause-does
returns-in_default-clause-does g c =
    let none : (lease : LeaseValue) → tree.get nat_cmp c.args.leases.now c.args.number ≡ Some lease → lease.hold.digest ≢ c.args.digest.now = search rules in (
      (λ lease found. none lease (get-tree c.args.leases.now c.args.number ∙ found)),
      refl,
    )

pub returns-then-ne-clause-does : goal.returns-then-ne-clause-does
returns-then-ne-clause-does g c =
    let none : (lease : LeaseValue) → tree.get nat_cmp c.args.leases.now c.args.number ≡ Some lease → lease.hold.digest ≢ c.args.digest.now = search rules in (
      (λ lease found. none lease (get-tree c.args.leases.now c.args.number ∙ found)),
      refl,
    )

pub returns-clause-does : goal.returns-clause-does
returns-clause-does g c =
    let out : tree.get nat_cmp c.args.leases.now c.args.number ≡ Some c.in-Some.lease.now = search rules in
    let named : c.in-Some.lease.now.hold.digest ≡ c.args.digest.now = search rules in
    let is : c.new.result ≡ extent c.in-Some.lease.now.bytes c.args.start c.args.end = search rules in (
      record {
        lease = c.in-Some.lease.now;
        out = sym (get-tree c.args.leases.now c.args.number) ∙ out;
        named = named;
        part = ap stored_bytes is;
      },
      refl,
    )

pub returns-clause-content : goal.returns-clause-content
returns-clause-content g c =
    let named : c.in-Some.lease.now.hold.digest ≡ c.args.digest.now = search rules in
    let is : c.new.result ≡ extent c.in-Some.lease.now.bytes c.args.start c.args.end = search rules in
    let agrees : has_digest c.in-Some.lease.now.hold.digest c.in-Some.lease.now.bytes ≡ true = search rules in
    let content : c.new.result.content ≡ c.in-Some.lease.now.bytes = ap (λ (x : Extent). x.content) is in record {
      content = ap (λ d. has_digest d c.new.result.content) (sym named) ∙ ap (has_digest c.in-Some.lease.now.hold.digest) content ∙ agrees;
      from = ap (λ (x : Extent). x.start) is;
      to = ap (λ (x : Extent). x.end) is;
    }
