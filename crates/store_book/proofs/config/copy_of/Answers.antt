use Rattle.std.proofs.Common.{◌≡◌, rules, string_bytes}
use Rattle.link_table.specs.Tenancy.{limits_shown}
use Rattle.store_book.proofs.config.copy_of.Goals as goal

pub returns : goal.returns
returns c =
    let tenant = c.args.tenant.now in
    let name : string_bytes c.in_ok-name.name ≡ string_bytes tenant.name = search rules in
    λ i. record { name = name i; quota = tenant.quota; share = tenant.share; limits = limits_shown tenant.limits }
