use Rattle.std.proofs.Common.{◌≡◌, ◌≤◌, true, ◌<◌, ◌-◌, ℕ, length, arith, get_or}
use Rattle.std.proofs.lemmas.Int.Digits.{digits_value_more}
use Rattle.std.proofs.lemmas.Bool.Decides.{nat_tests}
use Rattle.std.proofs.lemmas.List.Sums.{AllPass-from_list_all}
use Rattle.std.specs.Char.{is_ascii_digit, digit_value}
use Rattle.blob_digest.proofs.number.capped.Goals as goal

tens : (c : ℕ) → is_ascii_digit c ≡ true → (digit_value c ≡ c - 48) × (c - 48 ≤ 9)
tens c h = (grind (arith, nat_tests), grind (arith, nat_tests))

pub loop-c-preserved : goal.loop-c-preserved
loop-c-preserved c =
    let within : c.loop-c.c-index < length c.args.text.now = omega arith in
    let more = digits_value_more 10 c.args.text.now c.loop-c.c-index within in
    let mul = c.saturating_mul.ensures in
    let add = c.saturating_add.ensures in
    let low = c.saturating_sub.ensures in
    let least = c.min-value.ensures in
    let from = c.from-digit.ensures in
    let digit = tens (get_or c.args.text.now c.loop-c.c-index 0) (AllPass-from_list_all is_ascii_digit c.args.text.now c.requires c.loop-c.c-index 0 within) in
    omega (arith, digit.0, digit.1)
