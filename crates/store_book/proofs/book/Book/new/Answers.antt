use Rattle.std.proofs.Common.{◌≤◌, ◌^◌, arith}
use Rattle.store_book.specs.Openings.{rules_of}
use Rattle.link_table.specs.Tenancy.{tenants_shown}
use Rattle.store_book.proofs.Refine.New.{opened_book, opens_book}
use Rattle.store_book.proofs.book.Book.new.Goals as goal

pub invariant_of-book : goal.invariant_of-book
invariant_of-book c =
    let small : c.args.config.now.max_blob ≤ 2 ^ 40 = omega arith in
    opened_book (tenants_shown c.args.config.now.tenants.items) c.in_ok-links.links c.in_ok-uploads.uploads c.in_ok-slots.slots c.in_ok-slots.pins c.args.config.now.slots c.args.config.now.first_generation (rules_of c.args.config.now) c.tenants.result
    (rw (c.in_ok-tenants.ensures, c.deref.ensures.value) at c.in_ok-links.ensures.opened) small c.in_ok-slots.ensures.made.0 c.in_ok-slots.ensures.made.1 c.in_ok-uploads.ensures.value c.tenants.ensures.count

pub returns-clause-opened : goal.returns-clause-opened
returns-clause-opened c =
    let small : c.args.config.now.max_blob ≤ 2 ^ 40 = omega arith in
    opens_book (tenants_shown c.args.config.now.tenants.items) c.in_ok-links.links c.in_ok-uploads.uploads c.in_ok-slots.slots c.in_ok-slots.pins c.args.config.now.slots c.args.config.now.first_generation (rules_of c.args.config.now) c.tenants.result
    (rw (c.in_ok-tenants.ensures, c.deref.ensures.value) at c.in_ok-links.ensures.opened) small c.in_ok-slots.ensures.made.0 c.in_ok-slots.ensures.made.1 c.in_ok-uploads.ensures.value c.tenants.ensures.count
