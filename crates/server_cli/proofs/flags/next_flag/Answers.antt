use Rattle.std.proofs.Common.{rules, ◌≡◌, ◌∙◌, Some, ap, string_bytes, sym}
use Rattle.server_cli.specs.Flags.{flags_shown, next_flag}
use Rattle.server_cli.proofs.Flagging.{next_flag-loss, next_flag-sha512, next_flag-sync}
use Rattle.server_cli.proofs.Partings.{after_one, first_two}
use Rattle.server_cli.proofs.flags.next_flag.Goals as goal

pub returns-then-eq : goal.returns-then-eq
returns-then-eq c =
    let words = first_two c.args.words.now c.name-item.result c.value-item.result c.in-len2-up.len_at_least c.name-item.is c.value-item.is in
    let after = after_one c.args.words.now c.value-item.result c.in-len2-up.len_at_least c.value-item.is in
    ap (next_flag (flags_shown c.args.flags)) words
    ∙ next_flag-sha512 (flags_shown c.args.flags) (string_bytes c.name-item.result) (string_bytes c.value-item.result) _ (flags_shown c.in_ok-with_sha512.field-0)
    (search rules) c.in_ok-with_sha512.ensures
    ∙ ap (λ ws. Some (flags_shown c.in_ok-with_sha512.field-0, ws)) (sym after)

pub returns-then-eq-3 : goal.returns-then-eq-3
returns-then-eq-3 c =
    let words = first_two c.args.words.now c.name-item.result c.value-item.result c.in-len2-up.len_at_least c.name-item.is c.value-item.is in
    ap (next_flag (flags_shown c.args.flags)) words
    ∙ next_flag-sync (flags_shown c.args.flags) (string_bytes c.name-item.result) (string_bytes c.value-item.result) _ (flags_shown c.in_ok-with_sync.field-0)
    (search rules) (search rules) (search rules) (rw c.as_str-value.ensures.value at c.in_ok-with_sync.ensures)

pub returns-then-eq-4 : goal.returns-then-eq-4
returns-then-eq-4 c =
    let words = first_two c.args.words.now c.name-item.result c.value-item.result c.in-len2-up.len_at_least c.name-item.is c.value-item.is in
    ap (next_flag (flags_shown c.args.flags)) words
    ∙ next_flag-loss (flags_shown c.args.flags) (string_bytes c.name-item.result) (string_bytes c.value-item.result) _ (flags_shown c.in_ok-with_loss.field-0)
    (search rules) (search rules) (search rules) (search rules) (rw c.as_str-value.ensures.value at c.in_ok-with_loss.ensures)
